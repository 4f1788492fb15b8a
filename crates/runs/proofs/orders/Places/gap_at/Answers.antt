-- `runs::orders::Places::gap_at` meets its contract.
use mathlib.Core.Path.{◌≡◌, sym, subst, ◌∙◌}
use Prim.Native.Nat.{ℕ, ◌+◌, ◌-◌, ◌%◌, ◌≤◌}
use Rattle.runs.proofs.Laws.Falls.{alike_is, gap_is, gap_le}
use Rattle.runs.proofs.orders.Places.gap_at.Goals as goal

pub returns : goal.returns
returns g c =
    let ws = g.R.Runs.list c.args.self.now.runs in
    let s = c.args.self.now.step in
    let a = g.row.ALIKE in
    let p = c.args.p in
    let behind : (c.run_at-next.result % 16777216 + (16777216 - s) - c.run_at-run.result % 16777216) % 16777216 ≡ _ = rw (c.run_at-run.ensures, c.run_at-next.ensures) in
    let alike : c.from.result ≡ _ = c.from.ensures ∙ rw (c.run_at-run.ensures, c.run_at-next.ensures) (alike_is ws p) in
    let whole = gap_is s a ws p _ _ behind alike in
    (whole, subst (λ (x : ℕ). x ≤ 16777216) (sym whole) (gap_le s a ws p c.requires.1))
