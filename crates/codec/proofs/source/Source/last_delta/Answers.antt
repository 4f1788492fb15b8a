-- `source::Source::last_delta` meets its contract.
use Prim.Native.Nat.{ℕ, ◌-◌, ◌*◌, ◌/◌, ◌^◌}
use mathlib.Core.Path.{subst}
use native.Mathlib.Omega.{arith}
use lib.ListN.{length}
use Rattle.codec.specs.Inside.Windows.{CodedIn}
use Rattle.std.specs.Prelude.{Some}
use Rattle.codec.proofs.Laws.Shown.{window_found}
use Rattle.codec.proofs.source.Source.last_delta.Goals as goal

-- what the last bytes show, the bit place counted from theirs
code : (c : goal.In-Some) → CodedIn (c.args.self.last / 2 ^ (c.args.at - 8 * (length c.args.self.bytes.now - 8))) (Some c.in-Some.field-0)
code c =
    let a = c.args in
    let shown = Some c.in-Some.field-0 in
    subst (λ (k : ℕ). CodedIn (a.self.last / 2 ^ (a.at - 8 * k)) shown) c.saturating_sub.ensures c.in-Some.ensures

pub overflow_add-at : goal.overflow_add-at
overflow_add-at c = omega (arith, (code c).1)

pub returns : goal.returns
returns c =
    let code : CodedIn (c.args.self.last / 2 ^ (c.args.at - 8 * (length c.args.self.bytes.now - 8))) (Some c.in-Some.field-0) = let a = c.args in
    let shown = Some c.in-Some.field-0 in
    subst (λ (k : ℕ). CodedIn (a.self.last / 2 ^ (a.at - 8 * k)) shown) c.saturating_sub.ensures c.in-Some.ensures in
    window_found c.args.self.bytes.now (length c.args.self.bytes.now - 8) c.args.at c.args.self.last c.args.self.shown _ _ code (omega arith) (omega arith) (omega arith)
