-- `absent::list_numbers` meets its contract.
use Prim.Native.Nat.{ℕ, ◌+◌, ◌-◌, ◌≤◌}
use mathlib.Core.Path.{◌≡◌, ap, ◌∙◌}
use mathlib.Core.List.{List, [], ◌∷◌, ◌++◌}
use native.Mathlib.Nat.{le_refl}
use native.Mathlib.Omega.{arith}
use borrow.Rule.Slice.PartMut.{put_mid}
use lib.ListN.{length, take}
use Rattle.std.proofs.lemmas.Slice.{take-put_mid_below}
use Rattle.base.specs.Parts.{over}
use Rattle.codec.specs.Inside.Gaps.{numbers}
use Rattle.codec.proofs.Laws.Absent.{four_numbers, numbers_at}
use Rattle.codec.proofs.Laws.Filled.{over_mid}
use Rattle.codec.proofs.absent.list_numbers.Goals as goal

-- four of them are put
four_put : (old now : List ℕ) (k from n : ℕ) → k + 4 ≤ length old → n ≡ 4 → now ≡ from ∷ (from + 1) ∷ (from + 2) ∷ (from + 3) ∷ [] → put_mid k n old now ≡ over (take k old ++ numbers from 4) old
four_put old now k from n h e put = over_mid old k (omega arith) n now (ap length put ∙ omega arith) ∙ ap (λ (l : List ℕ). over (take k old ++ l) old) (put ∙ four_numbers from)

pub returns-then-to-from-gt4 : goal.returns-then-to-from-gt4
returns-then-to-from-gt4 c =
    let a = c.args in
    let old = a.room.now in
    let part = c.copy_from_slice.new.self in
    let m : ℕ = a.to - a.from in
    let mid : List ℕ = put_mid a.k (a.k + 4 - a.k) old part in
    numbers_at mid c.list_many.new.room a.k m m a.from (omega arith) (le_refl m) c.list_many.ensures
    ∙ ap (λ (l : List ℕ). l ++ numbers a.from m) (take-put_mid_below a.k (a.k + 4 - a.k) old part a.k (le_refl a.k) (omega arith))

pub returns-else-to-from-gt4 : goal.returns-else-to-from-gt4
returns-else-to-from-gt4 c =
    let a = c.args in
    let n : a.k + 4 - a.k ≡ 4 = omega arith in
    let put = four_put a.room.now c.copy_from_slice.new.self a.k a.from (a.k + 4 - a.k) c.requires.places.0 n c.copy_from_slice.ensures.after in
    numbers_at a.room.now _ a.k (a.to - a.from) 4 a.from (omega arith) c.if-to-from-gt4.false put
