-- Laws of the ids absent from a set, listed before they are coded.
use Prim.Native.Nat.{ℕ, zero, suc, ◌+◌, ◌-◌, ◌≤◌, ◌<◌}
use mathlib.Core.Path.{◌≡◌, refl, sym, ap, ap₂, ◌∙◌}
use mathlib.Core.Bool.{true, false}
use mathlib.Core.List.{List, [], ◌∷◌, ◌++◌, append_assoc}
use native.Mathlib.Numerals.{add-one}
use native.Mathlib.Omega.{arith}
use lib.ListN.{length, take, drop, get_or, length-drop, drop_of_length-le}
use lib.Seq.{drop-cons, take-append-add, take-append-le, length-take-le}
use Rattle.base.specs.Parts.{over}
use Rattle.codec.specs.Sets.{Within, absent}
use Rattle.codec.specs.Inside.Gaps.{coded_ids, absent_from, numbers, Listed}
use Rattle.codec.proofs.Laws.Coded.{head_within, skipped_none, skipped_eight}
use Rattle.codec.proofs.Laws.Gaps.{within_room, length_numbers, absent_run, absent_end, absent_all}

-- the absent ids are coded as ids of their own
pub coded_list : (N M : ℕ) (ids list : List ℕ) → list ≡ absent N ids → coded_ids false M list ≡ coded_ids true N ids
unfolding coded_ids
coded_list N M ids list e = e

-- ---- numbers from place k on, more than are asked for

pub four_numbers : (from : ℕ) → from ∷ (from + 1) ∷ (from + 2) ∷ (from + 3) ∷ [] ≡ numbers from 4
unfolding numbers
four_numbers from =
    let two : from + 2 ≡ from + 1 + 1 = omega arith in
    let three : from + 3 ≡ from + 1 + 1 + 1 = omega arith in
    ap₂ (λ (a b : ℕ). from ∷ (from + 1) ∷ a ∷ b ∷ []) two three

numbers_front : (m n from : ℕ) → m ≤ n → take m (numbers from n) ≡ numbers from m
unfolding numbers
numbers_front zero n from h = refl
numbers_front (suc m) zero from h = absurd (omega arith)
numbers_front (suc m) (suc n) from h = ap (λ (l : List ℕ). from ∷ l) (numbers_front m n (from + 1) (omega arith))

pub numbers_at : (old new : List ℕ) (k m n from : ℕ) → k ≤ length old → m ≤ n → new ≡ over (take k old ++ numbers from n) old → take (k + m) new ≡ take k old ++ numbers from m
unfolding over
numbers_at old new k m n from fits h e =
    let front : List ℕ = take k old in
    let rest : List ℕ = drop (length (front ++ numbers from n)) old in
    let long : k + m ≡ length front + m = ap (λ (j : ℕ). j + m) (sym (length-take-le k old fits)) in
    ap (take (k + m)) (e ∙ append_assoc front (numbers from n) rest) ∙ ap (λ (j : ℕ). take j (front ++ (numbers from n ++ rest))) long ∙ take-append-add front (numbers from n ++ rest) m
    ∙ ap (λ (l : List ℕ). front ++ l) (take-append-le m (numbers from n) rest (omega (arith, length_numbers n from)) ∙ numbers_front m n from h)

-- ---- the absent ids listed

pub listed_none : (N : ℕ) (ids room : List ℕ) → Within 0 N ids → Listed N ids (record { i = 0; from = 0 }) room
listed_none N ids room w = record {
  ahead = record { inside = omega arith; below = omega arith; left = w };
  passed = omega arith;
  list = absent_all N ids;
}

module _ (N : ℕ) (ids room : List ℕ) (i from : ℕ) (so : Listed N ids (record { i = i; from = from }) room) where
  -- eight ids that go up by one
  pub listed_eight : i + 8 ≤ length ids → get_or ids (i + 7) 0 ≡ from + 7 → Listed N ids (record { i = i + 8; from = from + 8 }) room
  listed_eight h up =
      let a : i + 0 + 7 ≡ i + 7 = omega arith in
      let s = skipped_eight N ids i from 0 (skipped_none N ids i from so.ahead) (omega arith) (ap (λ (n : ℕ). get_or ids n 0) a ∙ up ∙ omega arith) in
      let k : from - i ≡ from + 8 - (i + 8) = omega arith in
      record {
        ahead = record { inside = h; below = s.below; left = s.left };
        passed = omega (arith, so.passed);
        list = so.list ∙ ap₂ (λ (n : ℕ) (l : List ℕ). take n room ++ l) k s.same;
      }

  -- all ids are passed
  pub listed_all : length ids ≤ i → absent N ids ≡ take (from - i) room ++ numbers from (N - from)
  listed_all h =
      let e : drop i ids ≡ [] = drop_of_length-le ids {i = i} h in
      so.list ∙ ap (λ (l : List ℕ). take (from - i) room ++ absent_from from (N - from) l) e ∙ ap (λ (l : List ℕ). take (from - i) room ++ l) (absent_end (N - from) from)

  module _ (space : N + 4 ≤ length ids + length room) where
    pub listed_space : from - i + 4 ≤ length room
    listed_space = omega (arith, so.passed, so.ahead.inside, length-drop i ids, within_room (drop i ids) from N so.ahead.below so.ahead.left)

  module _ (more : i < length ids) where
    next : (from ≤ get_or ids i 0) × (get_or ids i 0 < N) × Within (get_or ids i 0 + 1) N (drop (i + 1) ids)
    next = head_within ids N i from more so.ahead.left

    pub listed_low : from ≤ get_or ids i 0
    listed_low = next.0

    pub listed_room : N ≤ length ids + length room → from - i + (get_or ids i 0 - from) ≤ length room
    listed_room space =
        omega (arith, so.passed, next.0, length-drop (i + 1) ids, within_room (drop (i + 1) ids) (get_or ids i 0 + 1) N (omega (arith, next.1)) next.2)

    -- up to the next id
    pub listed_next : (new : List ℕ) → take (from - i + (get_or ids i 0 - from)) new ≡ take (from - i) room ++ numbers from (get_or ids i 0 - from) → Listed N ids (record { i = i + 1; from = get_or ids i 0 + 1 }) new
    listed_next new put =
        let id : ℕ = get_or ids i 0 in
        let e : drop i ids ≡ id ∷ drop (i + 1) ids = drop-cons ids i 0 more ∙ ap (λ (m : ℕ). id ∷ drop m ids) (sym (add-one i)) in
        let k : from - i + (id - from) ≡ id + 1 - (i + 1) = omega (arith, so.passed, next.0) in
        let rest : List ℕ = absent_from (id + 1) (N - (id + 1)) (drop (i + 1) ids) in
        record {
          ahead = record { inside = omega arith; below = omega (arith, next.1); left = next.2 };
          passed = omega (arith, so.passed, next.0);
          list = so.list ∙ ap (λ (l : List ℕ). take (from - i) room ++ absent_from from (N - from) l) e ∙ ap (λ (l : List ℕ). take (from - i) room ++ l) (absent_run from N id (drop (i + 1) ids) next.0 next.1)
              ∙ sym (append_assoc (take (from - i) room) (numbers from (id - from)) rest) ∙ ap (λ (l : List ℕ). l ++ rest) (sym put) ∙ ap (λ (n : ℕ). take n new ++ rest) k;
        }
