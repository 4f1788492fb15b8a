-- `gaps::fill_gap` meets its contract.
use Prim.Native.Nat.{ℕ, ◌+◌, ◌-◌, ◌≤◌}
use mathlib.Core.Path.{◌≡◌, refl, sym, ap, ◌∙◌, subst}
use mathlib.Core.List.{List, ◌++◌, append_assoc}
use native.Mathlib.Omega.{arith}
use lib.ListN.{length, take, length-append}
use lib.Seq.{length-take-le}
use Rattle.base.specs.Parts.{over}
use Rattle.codec.specs.Inside.Bitmaps.{Front}
use Rattle.codec.specs.Inside.Gaps.{numbers}
use Rattle.codec.proofs.Laws.Fronts.{front_over, front_part}
use Rattle.codec.proofs.Laws.Gaps.{length_numbers}
use Rattle.codec.proofs.Laws.GapReader.{numbers_add}
use Rattle.codec.proofs.gaps.fill_gap.Goals as goal

-- m numbers are put, of which n are told
put : (out new : List ℕ) (from k n m count : ℕ) → n ≤ m → k + m ≤ count → count ≤ length out → new ≡ over (take k out ++ numbers from m) out → Front (take k out ++ numbers from n) count out new
put out new from k n m count less fits inside is =
    let xs : List ℕ = take k out ++ numbers from m in
    let long : length xs ≤ count = omega (arith, length-append (take k out) (numbers from m), length-take-le k out (omega arith), length_numbers m from) in
    let e : m ≡ n + (m - n) = omega arith in
    let parts : xs ≡ (take k out ++ numbers from n) ++ numbers (from + n) (m - n) =
    ap (λ (j : ℕ). take k out ++ numbers from j) e ∙ ap (λ (l : List ℕ). take k out ++ l) (numbers_add n (m - n) from) ∙ sym (append_assoc (take k out) (numbers from n) (numbers (from + n) (m - n)))
    in
    let told : Front xs count out new = subst (Front xs count out) (sym is) (front_over xs out count long inside) in
    front_part (take k out ++ numbers from n) count out new (numbers (from + n) (m - n)) (subst (λ (l : List ℕ). Front l count out new) parts told)

pub returns-then-count-k : goal.returns-then-count-k
returns-then-count-k c =
    let a = c.args in
    let n : ℕ = a.to - a.from in
    (c.fill_numbers.ensures.0, put a.out.now c.fill_numbers.new.out a.from a.k n n a.count (omega arith) c.requires.places.0 c.requires.places.1 c.fill_numbers.ensures.1)

pub returns : goal.returns
returns c =
    let a = c.args in
    let eight : a.from + 8 - a.from ≡ 8 = omega arith in
    let is : c.fill_numbers-2.new.out ≡ over (take a.k a.out.now ++ numbers a.from 8) a.out.now = c.fill_numbers-2.ensures.1 ∙ ap (λ (m : ℕ). over (take a.k a.out.now ++ numbers a.from m) a.out.now) eight in
    (refl, put a.out.now c.fill_numbers-2.new.out a.from a.k (a.to - a.from) 8 a.count (omega arith) (omega arith) c.requires.places.1 is)
