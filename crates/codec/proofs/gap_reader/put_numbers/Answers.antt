-- `gap_reader::put_numbers` meets its contract.
use Prim.Native.Nat.{ℕ, ◌+◌, ◌-◌}
use mathlib.Core.Path.{◌≡◌, refl, sym, ap, ◌∙◌}
use mathlib.Core.List.{List, ◌++◌, append-nil}
use native.Mathlib.Omega.{arith}
use lib.ListN.{length, take}
use Rattle.std.specs.Prelude.{min}
use lib.Seq.{take_all}
use Rattle.base.specs.Parts.{over}
use Rattle.codec.specs.Inside.Gaps.{numbers}
use Rattle.codec.proofs.Laws.Filled.{over_all}
use Rattle.codec.proofs.Laws.GapReader.{numbers_take}
use Rattle.codec.proofs.gap_reader.put_numbers.Goals as goal

pub returns-then-space-gt0 : goal.returns-then-space-gt0
returns-then-space-gt0 c =
    let a = c.args in
    let room = a.room.now in
    let n : a.from + c.min-fits.result - a.from ≡ c.min-fits.result = omega arith in
    let m : c.min-fits.result ≡ min a.k (length room - a.i) = c.min-fits.ensures ∙ ap (min a.k) c.saturating_sub-space.ensures in
    c.fill_numbers.ensures.1 ∙ ap (λ (k : ℕ). over (take a.i room ++ numbers a.from k) room) (n ∙ m)
    ∙ ap (λ (l : List ℕ). over (take a.i room ++ l) room) (sym (numbers_take (length room - a.i) a.k a.from))

-- nothing is put past the end
pub returns-else-space-gt0 : goal.returns-else-space-gt0
returns-else-space-gt0 c =
    let a = c.args in
    let room = a.room.now in
    let z : length room - a.i ≡ 0 = omega (arith, c.saturating_sub-space.ensures) in
    sym (ap (λ (k : ℕ). over (take a.i room ++ take k (numbers a.from a.k)) room) z ∙ ap (λ (l : List ℕ). over l room) (append-nil (take a.i room) ∙ take_all a.i room (omega (arith, c.saturating_sub-space.ensures))) ∙ over_all room room refl)
