-- `codec::next_delta` meets its contract.
use Prim.Native.Nat.{ℕ, ◌-◌, ◌*◌, ◌/◌, ◌%◌, ◌^◌}
use mathlib.Core.Path.{◌≡◌, subst}
use native.Mathlib.Omega.{arith}
use Rattle.codec.specs.Inside.Windows.{CodedIn}
use Rattle.std.specs.Prelude.{Some}
use Rattle.codec.proofs.Laws.Windows.{word_window}
use Rattle.codec.proofs.Laws.Shown.{window_found}
use Rattle.codec.proofs.source.Source.next_delta.Goals as goal

-- what the window shows, its bit place counted from the window's
code : (c : goal.In-Some) → CodedIn (c.word_at.result / 2 ^ (c.args.at - 8 * (c.args.at / 8))) (Some c.in-Some.field-0)
code c =
    let at : ℕ = c.args.at in
    let p : at % 8 ≡ at - 8 * (at / 8) = omega arith in
    subst (λ (i : ℕ). CodedIn (c.word_at.result / 2 ^ i) (Some c.in-Some.field-0)) p c.in-Some.ensures

pub overflow_add-result : goal.overflow_add-result
overflow_add-result c = omega (arith, (code c).1)

pub returns : goal.returns
returns c =
    window_found c.args.self.bytes.now (c.args.at / 8) c.args.at c.word_at.result (word_window _ c.word_at.result _ c.word_at.ensures) _ _ (code c) (omega arith) (omega (arith, (code c).1)) (omega (arith, (code c).1))
