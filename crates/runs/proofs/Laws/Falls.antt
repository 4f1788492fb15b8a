-- What is counted at the places of a list: where it falls, which the tests for steady and sharp lists count, and where neighbours are alike.
use Prim.Native.Nat.{ℕ, zero, suc, ◌+◌, ◌-◌, ◌*◌, ◌%◌, ◌≤◌, ◌<◌}
use mathlib.Core.Path.{◌≡◌, refl, sym, ap, ap₂, ◌∙◌, subst}
use mathlib.Core.Bool.{Bool, true, false}
use mathlib.Core.List.{List, map}
use native.Mathlib.Omega.{arith}
use native.Mathlib.Decide.{dec_lt}
use native.Mathlib.Nat.{add-zero, add-suc, mul-add, mul-le-mul_left, mul-one, mul-suc, mul-zero, suc-mul, zero-mul}
use native.Mathlib.Numerals.{add-one}
use borrow.Author.Tests.{leb-true, eqb-true, eq-eqb, ne_eqb, le-leb, lt-ltb, le-ltb}
use Rattle.std.specs.Int.{from_bool}
use Rattle.std.specs.List.{range_with_len, sum}
use Rattle.std.proofs.lemmas.List.FromFn.{sum_by-map-range_with_len_more}
use lib.ListN.{length, get_or, drop_of_length-le}
use lib.Dec.{leb, eqb}
use Rattle.base.specs.Tests.{◌when◌else◌}
use Rattle.base.proofs.Tests.{when_yes, when_no}
use Rattle.base.proofs.Bools.{and_true, and_both}
use Rattle.runs.specs.Words.{offset, coordinate}
use Rattle.runs.specs.Colours.{next, end_at}
use Rattle.runs.specs.Orders.{steady, sharp}
use Rattle.runs.specs.Inside.Falls.{alike, fall, framed, gap, mark, never_falls, of_eight, spaced, total}
use Rattle.runs.proofs.Laws.Orders.{UpBy, run_begins, steady_yes, yes_steady, sharp_yes, yes_sharp}

-- ---- one place

-- from offset a to offset b
behind_yes : (a b step : ℕ) → a < 16777216 → b < 16777216 → step ≤ 1 → b < a + step → a + step + (b + (16777216 - step) - a) % 16777216 ≡ b + 16777216
behind_yes a b step h g s l = omega arith

behind_no : (a b step : ℕ) → a < 16777216 → b < 16777216 → step ≤ 1 → a + step ≤ b → a + step + (b + (16777216 - step) - a) % 16777216 ≡ b
behind_no a b step h g s l = omega arith

module _ (step : ℕ) (ws : List ℕ) where
  module _ (p : ℕ) where
    fall_yes : offset (get_or ws (p + 1) 0) < offset (get_or ws p 0) + step → fall step ws p ≡ 1
    unfolding fall
    fall_yes h = when_yes _ _ _ (lt-ltb _ _ h)

    fall_no : offset (get_or ws p 0) + step ≤ offset (get_or ws (p + 1) 0) → fall step ws p ≡ 0
    unfolding fall
    fall_no h = when_no _ _ _ (le-ltb _ _ h)

    -- a gap leads from one offset to the next, with what is counted there
    behind_is : step ≤ 1 → offset (get_or ws p 0) + step + (offset (get_or ws (p + 1) 0) + (16777216 - step) - offset (get_or ws p 0)) % 16777216 ≡ offset (get_or ws (p + 1) 0) + 16777216 * fall step ws p
    behind_is s = go (dec_lt (offset (get_or ws (p + 1) 0)) (offset (get_or ws p 0) + step))
      where
        go : Dec (offset (get_or ws (p + 1) 0) < offset (get_or ws p 0) + step)
            → offset (get_or ws p 0) + step + (offset (get_or ws (p + 1) 0) + (16777216 - step) - offset (get_or ws p 0)) % 16777216 ≡ offset (get_or ws (p + 1) 0) + 16777216 * fall step ws p
        go (yes h) = omega (arith, behind_yes (offset (get_or ws p 0)) (offset (get_or ws (p + 1) 0)) step (omega arith) (omega arith) s h, fall_yes h)
        go (no h) = omega (arith, behind_no (offset (get_or ws p 0)) (offset (get_or ws (p + 1) 0)) step (omega arith) (omega arith) s (omega arith), fall_no (omega arith))

    gap_leads : (a : ℕ) → step ≤ 1 → offset (get_or ws p 0) + step + gap step a ws p ≡ offset (get_or ws (p + 1) 0) + mark step a ws p
    unfolding gap
    gap_leads a s = omega (arith, behind_is s)

    fall_none : fall step ws p ≡ 0 → offset (get_or ws p 0) + step ≤ offset (get_or ws (p + 1) 0)
    fall_none e = go (dec_lt (offset (get_or ws (p + 1) 0)) (offset (get_or ws p 0) + step))
      where
        go : Dec (offset (get_or ws (p + 1) 0) < offset (get_or ws p 0) + step) → offset (get_or ws p 0) + step ≤ offset (get_or ws (p + 1) 0)
        go (yes h) = absurd (omega (arith, fall_yes h))
        go (no h) = omega arith

-- ---- neighbours that are alike

pub alike_is : (ws : List ℕ) (p : ℕ) → from_bool (eqb (coordinate (get_or ws p 0)) (coordinate (get_or ws (p + 1) 0))) ≡ alike ws p
unfolding alike ◌when◌else◌
alike_is ws p = go (eqb (coordinate (get_or ws p 0)) (coordinate (get_or ws (p + 1) 0)))
  where
    go : (t : Bool) → from_bool t ≡ ◌when◌else◌ {A = ℕ} 1 t 0
    go true = refl
    go false = refl

pub alike_le : (ws : List ℕ) (p : ℕ) → alike ws p ≤ 1
unfolding alike ◌when◌else◌
alike_le ws p = go (eqb (coordinate (get_or ws p 0)) (coordinate (get_or ws (p + 1) 0)))
  where
    go : (t : Bool) → (◌when◌else◌ {A = ℕ} 1 t 0) ≤ 1
    go true = omega arith
    go false = omega arith

-- how a gap is computed: what is summed is at most 2^24
pub gap_is : (step a : ℕ) (ws : List ℕ) (p behind alike' : ℕ) → behind ≡ (offset (get_or ws (p + 1) 0) + (16777216 - step) - offset (get_or ws p 0)) % 16777216 → alike' ≡ alike ws p → behind + a * alike' ≡ gap step a ws p
unfolding gap
gap_is step a ws p behind alike' e f = ap₂ (λ (x y : ℕ). x + a * y) e f

pub gap_le : (step a : ℕ) (ws : List ℕ) (p : ℕ) → a ≤ 1 → gap step a ws p ≤ 16777216
unfolding gap
gap_le step a ws p h = omega (arith, mul-le-mul_left a (alike_le ws p), mul-one a)

-- ---- what is counted at many places

pub total_same : (f g : ℕ → ℕ) → ((p : ℕ) → f p ≡ g p) → (p k : ℕ) → total f p k ≡ total g p k
unfolding total
total_same f g h p zero = refl
total_same f g h p (suc k) = ap₂ (λ (x y : ℕ). x + y) (total_same f g h p k) (h (p + k))

module _ (f : ℕ → ℕ) where
  pub total_more : (p i k : ℕ) → p + i ≡ k → total f p (i + 1) ≡ total f p i + f k
  unfolding total
  total_more p i k e = ap (total f p) (add-one i) ∙ ap (λ (x : ℕ). total f p i + f x) e

  pub total_join : (p a b q : ℕ) → p + a ≡ q → total f p a + total f q b ≡ total f p (a + b)
  unfolding total
  total_join p a zero q e = add-zero (total f p a) ∙ ap (total f p) (sym (add-zero a))
  total_join p a (suc b) q e =
      let r : total f p a + total f q b ≡ total f p (a + b) = total_join p a b q e in
      let g : f (q + b) ≡ f (p + (a + b)) = ap f (omega arith) in
      let s : total f p a + (total f q b + f (q + b)) ≡ total f p (a + b) + f (p + (a + b)) = omega arith in
      s ∙ ap (total f p) (sym (add-suc a b))

  -- no more than so much at each
  pub total_le : (most : ℕ) → ((p : ℕ) → f p ≤ most) → (p k : ℕ) → total f p k ≤ k * most
  unfolding total
  total_le most h p zero = omega arith
  total_le most h p (suc k) = omega (arith, total_le most h p k, h (p + k), suc-mul k most)

  -- as a sum over the places
  pub total_sum : (p k : ℕ) → sum (map f (range_with_len p k)) ≡ total f p k
  unfolding total
  total_sum p zero = refl
  total_sum p (suc k) =
      ap (λ (n : ℕ). sum (map f (range_with_len p n))) (sym (add-one k))
      ∙ sum_by-map-range_with_len_more (λ (x : ℕ). x) f p k (p + k) refl
      ∙ ap (λ (x : ℕ). x + f (p + k)) (total_sum p k)

  -- of i places in each of eight parts of q places, from p on
  abbrev in_eighths : ℕ → ℕ → ℕ → ℕ
  in_eighths q p i = total f p i + total f (q + p) i + (total f (2 * q + p) i + total f (3 * q + p) i) + (total f (4 * q + p) i + total f (5 * q + p) i + (total f (6 * q + p) i + total f (7 * q + p) i))

  eighths_more : (q p i : ℕ) → in_eighths q p i + of_eight f q (p + i) ≡ in_eighths q p (i + 1)
  eighths_more q p i =
      let a0 : total f p (i + 1) ≡ total f p i + f (p + i) = total_more p i (p + i) refl in
      let a1 : total f (q + p) (i + 1) ≡ total f (q + p) i + f (q + (p + i)) = total_more (q + p) i (q + (p + i)) (omega arith) in
      let a2 : total f (2 * q + p) (i + 1) ≡ total f (2 * q + p) i + f (2 * q + (p + i)) = total_more (2 * q + p) i (2 * q + (p + i)) (omega arith) in
      let a3 : total f (3 * q + p) (i + 1) ≡ total f (3 * q + p) i + f (3 * q + (p + i)) = total_more (3 * q + p) i (3 * q + (p + i)) (omega arith) in
      let a4 : total f (4 * q + p) (i + 1) ≡ total f (4 * q + p) i + f (4 * q + (p + i)) = total_more (4 * q + p) i (4 * q + (p + i)) (omega arith) in
      let a5 : total f (5 * q + p) (i + 1) ≡ total f (5 * q + p) i + f (5 * q + (p + i)) = total_more (5 * q + p) i (5 * q + (p + i)) (omega arith) in
      let a6 : total f (6 * q + p) (i + 1) ≡ total f (6 * q + p) i + f (6 * q + (p + i)) = total_more (6 * q + p) i (6 * q + (p + i)) (omega arith) in
      let a7 : total f (7 * q + p) (i + 1) ≡ total f (7 * q + p) i + f (7 * q + (p + i)) = total_more (7 * q + p) i (7 * q + (p + i)) (omega arith) in
      omega arith

  in_eighths_sum : (q p k : ℕ) → sum (map (of_eight f q) (range_with_len p k)) ≡ in_eighths q p k
  unfolding total
  in_eighths_sum q p zero = refl
  in_eighths_sum q p (suc k) =
      ap (λ (n : ℕ). sum (map (of_eight f q) (range_with_len p n))) (sym (add-one k))
      ∙ sum_by-map-range_with_len_more (λ (x : ℕ). x) (of_eight f q) p k (p + k) refl
      ∙ ap (λ (x : ℕ). x + of_eight f q (p + k)) (in_eighths_sum q p k)
      ∙ eighths_more q p k
      ∙ ap (in_eighths q p) (add-one k)

  -- all of them
  pub eighths_sum : (q p : ℕ) → sum (map (of_eight f q) (range_with_len p q)) ≡ total f p (8 * q)
  eighths_sum q p =
      let a : total f p q + total f (q + p) q ≡ total f p (q + q) = total_join p q q (q + p) (omega arith) in
      let b : total f (2 * q + p) q + total f (3 * q + p) q ≡ total f (2 * q + p) (q + q) = total_join (2 * q + p) q q (3 * q + p) (omega arith) in
      let c : total f (4 * q + p) q + total f (5 * q + p) q ≡ total f (4 * q + p) (q + q) = total_join (4 * q + p) q q (5 * q + p) (omega arith) in
      let d : total f (6 * q + p) q + total f (7 * q + p) q ≡ total f (6 * q + p) (q + q) = total_join (6 * q + p) q q (7 * q + p) (omega arith) in
      let e : total f p (q + q) + total f (2 * q + p) (q + q) ≡ total f p (q + q + (q + q)) = total_join p (q + q) (q + q) (2 * q + p) (omega arith) in
      let g : total f (4 * q + p) (q + q) + total f (6 * q + p) (q + q) ≡ total f (4 * q + p) (q + q + (q + q)) = total_join (4 * q + p) (q + q) (q + q) (6 * q + p) (omega arith) in
      let h : total f p (q + q + (q + q)) + total f (4 * q + p) (q + q + (q + q)) ≡ total f p (q + q + (q + q) + (q + q + (q + q))) = total_join p (q + q + (q + q)) (q + q + (q + q)) (4 * q + p) (omega arith) in
      let j : total f p (q + q + (q + q) + (q + q + (q + q))) ≡ total f p (8 * q) = ap (total f p) (omega arith) in
      let i : in_eighths q p q ≡ total f p (8 * q) = omega arith in
      in_eighths_sum q p q ∙ i

  -- the first place, and those behind it
  pub total_front : (k : ℕ) → total f 0 (suc k) ≡ f 0 + total (λ (p : ℕ). f (suc p)) 0 k
  unfolding total
  total_front zero = omega arith
  total_front (suc k) = let e : f (0 + suc k) ≡ f (suc (0 + k)) = ap f (omega arith) in omega (arith, total_front k, e)

  -- none at any
  none_in : (k i : ℕ) → i < k → total f 0 k ≡ 0 → f i ≡ 0
  unfolding total
  none_in zero i h e = absurd (omega arith)
  none_in (suc k) i h e = go (λ g. none_in k i g (omega arith)) (dec_lt i k)
    where
      go : (i < k → f i ≡ 0) → Dec (i < k) → f i ≡ 0
      go r (yes g) = r g
      go r (no g) = let q : i ≡ 0 + k = omega arith in ap f q ∙ omega arith

  in_none : (k : ℕ) → ((i : ℕ) → i < k → f i ≡ 0) → total f 0 k ≡ 0
  unfolding total
  in_none zero h = refl
  in_none (suc k) h =
      let a : total f 0 k ≡ 0 = in_none k (λ i l. h i (omega arith)) in
      let q : 0 + k ≡ k = omega arith in
      let b : f (0 + k) ≡ 0 = ap f q ∙ h k (omega arith) in
      omega arith

-- ---- steady and sharp lists: each run begins `step` before it ends

module _ (step n : ℕ) (ws : List ℕ) (some : 0 < length ws) where
  ends_next : (i : ℕ) → i + 1 < length ws → end_at n ws i ≡ offset (get_or ws (i + 1) 0)
  ends_next i h = run_begins n ws (suc i) (omega arith) ∙ ap (λ (k : ℕ). offset (get_or ws k 0)) (sym (add-one i))

  ends_last : (i : ℕ) → length ws ≤ i + 1 → end_at n ws i ≡ n
  ends_last i h = ap (next n) (drop_of_length-le ws {i = suc i} (omega arith))

  pub none_up : total (fall step ws) 0 (length ws - 1) ≡ 0 → offset (get_or ws (length ws - 1) 0) + step ≤ n → UpBy step n ws
  none_up e l i h = go (dec_lt (i + 1) (length ws))
    where
      go : Dec (i + 1 < length ws) → offset (get_or ws i 0) + step ≤ end_at n ws i
      go (yes g) = subst (λ (x : ℕ). offset (get_or ws i 0) + step ≤ x) (sym (ends_next i g)) (fall_none step ws i (none_in (fall step ws) (length ws - 1) i (omega arith) e))
      go (no g) =
          let q : i ≡ length ws - 1 = omega arith in
          let a : offset (get_or ws i 0) ≡ offset (get_or ws (length ws - 1) 0) = ap (λ (k : ℕ). offset (get_or ws k 0)) q in
          let b : end_at n ws i ≡ n = ends_last i (omega arith) in
          omega arith

  pub up_none : UpBy step n ws → total (fall step ws) 0 (length ws - 1) ≡ 0
  up_none u = in_none (fall step ws) (length ws - 1) (λ i h. fall_no step ws i (subst (λ (x : ℕ). offset (get_or ws i 0) + step ≤ x) (ends_next i (omega arith)) (u i (omega arith))))

  pub up_last : UpBy step n ws → offset (get_or ws (length ws - 1) 0) + step ≤ n
  up_last u = subst (λ (x : ℕ). offset (get_or ws (length ws - 1) 0) + step ≤ x) (ends_last (length ws - 1) (omega arith)) (u (length ws - 1) (omega arith))

-- what `spaced` says
module _ (step n : ℕ) (ws : List ℕ) (some : 0 < length ws) where
  spaced_yes : spaced step n ws ≡ true → (offset (get_or ws 0 0) ≡ 0) × UpBy step n ws
  unfolding spaced framed never_falls
  spaced_yes e =
      let a = and_true _ _ e in
      let b = and_true _ _ a.0 in
      (eqb-true _ _ b.0, none_up step n ws some (eqb-true _ _ a.1) (leb-true _ _ b.1))

  yes_spaced : offset (get_or ws 0 0) ≡ 0 → UpBy step n ws → spaced step n ws ≡ true
  unfolding spaced framed never_falls
  yes_spaced f u = and_both _ _ (and_both _ _ (eq-eqb _ _ f) (le-leb _ _ (up_last step n ws some u))) (eq-eqb _ _ (up_none step n ws some u))

-- two tests that follow from one another
same_tests : (a b : Bool) → (a ≡ true → b ≡ true) → (b ≡ true → a ≡ true) → a ≡ b
same_tests true b h g = sym (h refl)
same_tests false true h g = g refl
same_tests false false h g = refl

module _ (n : ℕ) (ws : List ℕ) (some : 0 < length ws) where
  pub steady_spaced : steady n ws ≡ spaced 0 n ws
  steady_spaced = same_tests (steady n ws) (spaced 0 n ws) there back
    where
      there : steady n ws ≡ true → spaced 0 n ws ≡ true
      there e = let s = steady_yes n ws e in yes_spaced 0 n ws some s.first (λ i h. omega (arith, s.up i h))

      back : spaced 0 n ws ≡ true → steady n ws ≡ true
      back e = let s = spaced_yes 0 n ws some e in yes_steady n ws (record { first = s.0; up = λ i h. omega (arith, s.1 i h) })

  pub sharp_spaced : sharp n ws ≡ spaced 1 n ws
  sharp_spaced = same_tests (sharp n ws) (spaced 1 n ws) there back
    where
      there : sharp n ws ≡ true → spaced 1 n ws ≡ true
      there e = let s = sharp_yes n ws e in yes_spaced 1 n ws some s.first (λ i h. omega (arith, s.up i h))

      back : spaced 1 n ws ≡ true → sharp n ws ≡ true
      back e = let s = spaced_yes 1 n ws some e in yes_sharp n ws (record { some = some; first = s.0; up = λ i h. omega (arith, s.1 i h) })

-- ---- both told of one number

module _ (step a : ℕ) (ws : List ℕ) where
  pub marks_apart : (p k : ℕ) → total (mark step a ws) p k ≡ 16777216 * total (fall step ws) p k + a * total (alike ws) p k
  unfolding total
  marks_apart p zero = omega (arith, mul-zero a)
  marks_apart p (suc k) = omega (arith, marks_apart p k, mul-add a (total (alike ws) p k) (alike ws (p + k)))

  -- the gaps lead from the first offset to the last, with what is counted on the way
  pub gaps_lead : step ≤ 1 → (p k : ℕ) → offset (get_or ws p 0) + step * k + total (gap step a ws) p k ≡ offset (get_or ws (p + k) 0) + total (mark step a ws) p k
  unfolding total
  gaps_lead s p zero =
      let e : offset (get_or ws p 0) ≡ offset (get_or ws (p + 0) 0) = ap (λ (i : ℕ). offset (get_or ws i 0)) (sym (add-zero p)) in
      omega (arith, mul-zero step)
  gaps_lead s p (suc k) =
      let e : offset (get_or ws (p + k + 1) 0) ≡ offset (get_or ws (p + suc k) 0) = ap (λ (i : ℕ). offset (get_or ws i 0)) (omega arith) in
      omega (arith, gaps_lead s p k, gap_leads step ws (p + k) a s, mul-suc step k)

  -- of not too many places they are a number of 64 bits
  pub gaps_fit : a ≤ 1 → (p k : ℕ) → k ≤ 16777216 → total (gap step a ws) p k ≤ 281474976710656
  gaps_fit h p k few = omega (arith, total_le (gap step a ws) 16777216 (λ q. gap_le step a ws q h) p k)

-- places in two parts
pub two_parts : (f : ℕ → ℕ) (p a k until : ℕ) → a ≤ k → p + k ≡ until → total f p a + total f (p + a) (until - (p + a)) ≡ total f p k
two_parts f p a k until h e =
    let j : total f p a + total f (p + a) (until - (p + a)) ≡ total f p (a + (until - (p + a))) = total_join f p a (until - (p + a)) (p + a) refl in
    let q : total f p (a + (until - (p + a))) ≡ total f p k = ap (total f p) (omega arith) in
    omega arith

-- one fall weighs more than all the places that are alike
module _ (step : ℕ) (ws : List ℕ) (k : ℕ) (few : k < 16777216) where
  pub alike_few : total (alike ws) 0 k ≤ k
  alike_few = omega (arith, total_le (alike ws) 1 (alike_le ws) 0 k, mul-one k)

  pub marks_many : 16777216 ≤ total (mark step 1 ws) 0 k → total (fall step ws) 0 k ≡ 0 → ⊥
  marks_many h e = omega (arith, marks_apart step 1 ws 0 k, alike_few)

  pub marks_few : total (mark step 1 ws) 0 k < 16777216 → (total (fall step ws) 0 k ≡ 0) × (total (mark step 1 ws) 0 k ≡ total (alike ws) 0 k)
  marks_few h =
      let none : total (fall step ws) 0 k ≡ 0 = omega (arith, marks_apart step 1 ws 0 k) in
      (none, omega (arith, marks_apart step 1 ws 0 k, none))

-- ---- all places, part by part

module _ (step : ℕ) (ws : List ℕ) (k from part : ℕ) (inside : from + part ≤ k) (marks : ℕ) (are : marks ≡ total (mark step 0 ws) from part) (none : total (fall step ws) 0 from ≡ 0) where
  part_none : total (mark step 0 ws) from part ≡ 16777216 * total (fall step ws) from part
  part_none = omega (arith, marks_apart step 0 ws from part, zero-mul (total (alike ws) from part))

  parts_join : total (fall step ws) 0 from + total (fall step ws) from part ≡ total (fall step ws) 0 (from + part)
  parts_join = total_join (fall step ws) 0 from part from (omega arith)

  pub more_none : marks ≡ 0 → total (fall step ws) 0 (from + part) ≡ 0
  more_none e = omega (arith, part_none, parts_join)

  pub some_fall : (marks ≡ 0 → ⊥) → length ws - 1 ≡ k → false ≡ never_falls step ws
  unfolding never_falls
  some_fall e l =
      let r : total (fall step ws) 0 (from + part) + total (fall step ws) (from + part) (k - (from + part)) ≡ total (fall step ws) 0 (from + part + (k - (from + part))) = total_join (fall step ws) 0 (from + part) (k - (from + part)) (from + part) (omega arith) in
      let q : total (fall step ws) 0 (from + part + (k - (from + part))) ≡ total (fall step ws) 0 (length ws - 1) = ap (total (fall step ws) 0) (omega arith) in
      sym (ne_eqb _ _ (λ z. e (omega (arith, part_none, parts_join))))

  pub none_falls : from + part ≡ k → length ws - 1 ≡ k → eqb marks 0 ≡ never_falls step ws
  unfolding never_falls
  none_falls d l =
      let q : total (fall step ws) 0 (from + part) ≡ total (fall step ws) 0 (length ws - 1) = ap (total (fall step ws) 0) (omega arith) in
      same_tests (eqb marks 0) (eqb (total (fall step ws) 0 (length ws - 1)) 0)
      (λ e. eq-eqb _ _ (omega (arith, eqb-true marks 0 e, part_none, parts_join)))
      (λ e. eq-eqb _ _ (omega (arith, eqb-true (total (fall step ws) 0 (length ws - 1)) 0 e, part_none, parts_join)))

-- ---- the parts of the test

module _ (step n : ℕ) (ws : List ℕ) where
  pub framed_yes : offset (get_or ws 0 0) ≡ 0 → leb (offset (get_or ws (length ws - 1) 0) + step) n ≡ framed step n ws
  unfolding framed
  framed_yes e = rw (eq-eqb _ _ e) refl

  pub framed_no : (offset (get_or ws 0 0) ≡ 0 → ⊥) → eqb (offset (get_or ws 0 0)) 0 ≡ framed step n ws
  unfolding framed
  framed_no e = rw (ne_eqb _ _ e) refl

  pub spaced_framed : framed step n ws ≡ true → never_falls step ws ≡ spaced step n ws
  unfolding spaced
  spaced_framed e = rw e refl

  pub spaced_unframed : framed step n ws ≡ false → false ≡ spaced step n ws
  unfolding spaced
  spaced_unframed e = rw e refl
