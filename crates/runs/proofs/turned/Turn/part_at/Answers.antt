-- `runs::turned::Turn::part_at` meets its contract.
use Prim.Native.Nat.{ℕ, ◌+◌, ◌-◌, min}
use mathlib.Core.Path.{◌≡◌, sym, ap, ◌∙◌}
use native.Mathlib.Omega.{arith}
use lib.ListN.{length, get_or}
use Rattle.runs.specs.Words.{offset, coordinate}
use Rattle.runs.specs.Colours.{end_at}
use Rattle.runs.specs.Inside.Oriented.{list_of}
use Rattle.runs.proofs.Laws.Reverse.{oriented_long, oriented_steady}
use Rattle.runs.proofs.Laws.Cursor.{part_first, part_second}
use Rattle.runs.proofs.turned.Turn.part_at.Goals as goal

pub returns-then-j-m : goal.returns-then-j-m
returns-then-j-m c =
    let list = c.args.self.now.list in
    let n = list.n in
    let p = c.args.self.now.pivot in
    let ws = list.runs.now in
    let os = list_of list in
    let s = oriented_steady list.reversed n ws list.taken.small list.taken.list in
    let long : length os ≡ length ws = oriented_long list.reversed n ws in
    let w = c.run_at-w.ensures in
    part_first n p os s c.args.self.now.within c.args.j _ _ _ (omega arith)
    (c.saturating_sub.ensures ∙ ap (λ (x : ℕ). x - p) (c.offset.ensures ∙ ap offset w))
    (c.saturating_sub-then-j-m.ensures ∙ ap (λ (x : ℕ). x - p) c.end_at-e.ensures)
    (c.coordinate.ensures.0 ∙ ap coordinate w) c.coordinate.ensures.1

pub returns-else-j-m : goal.returns-else-j-m
returns-else-j-m c =
    let list = c.args.self.now.list in
    let n = list.n in
    let p = c.args.self.now.pivot in
    let ws = list.runs.now in
    let os = list_of list in
    let s = oriented_steady list.reversed n ws list.taken.small list.taken.list in
    let long : length os ≡ length ws = oriented_long list.reversed n ws in
    let i : c.args.j - length ws ≡ c.args.j - length os = ap (λ (x : ℕ). c.args.j - x) (sym long) in
    let w = c.run_at-w-else-j-m.ensures ∙ ap (λ (x : ℕ). get_or os x 0) i in
    part_second n p os s c.args.self.now.within c.args.j _ _ _ (omega arith) (omega arith)
    (ap (λ (x : ℕ). n - p + x) (c.min.ensures ∙ ap (λ (x : ℕ). min x p) (c.offset-else-j-m.ensures ∙ ap offset w)))
    (ap (λ (x : ℕ). n - p + x) (c.min-else-j-m.ensures ∙ ap (λ (x : ℕ). min x p) (c.end_at-e-else-j-m.ensures ∙ ap (end_at n os) i)))
    (c.coordinate-else-j-m.ensures.0 ∙ ap coordinate w) c.coordinate-else-j-m.ensures.1
