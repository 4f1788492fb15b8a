-- Buffers that are filled from the front: what is written stands over what the buffer held.
use Prim.Native.Nat.{ℕ, suc, ◌+◌, ◌-◌, ◌≤◌, ◌<◌}
use mathlib.Core.Path.{◌≡◌, refl, sym, ap, ◌∙◌}
use mathlib.Core.List.{List, [], ◌∷◌, ◌++◌, append_assoc, append-nil}
use native.Mathlib.Numerals.{add-one}
use native.Mathlib.Decide.{dec_lt}
use native.Mathlib.Omega.{arith}
use borrow.Rule.Slice.PartMut.{put_mid}
use lib.ListN.{length, take, drop, get_or, set, length-append, take-append-drop, drop_of_length-le}
use lib.Seq.{drop-cons, set_at, set_out, append_snoc, take_at, take_all, take-nil, take-append-le, drop-append-add, drop-drop, length-take-le}
use Rattle.base.specs.Parts.{over}
use Rattle.base.proofs.Parts.{length_over}

pub over_none : (old : List ℕ) → over [] old ≡ old
unfolding over
over_none old = refl

-- one element more
pub over_set : (xs old : List ℕ) (i x : ℕ) → length xs ≡ i → i < length old → set (over xs old) i x ≡ over (xs ++ (x ∷ [])) old
unfolding over
over_set xs old i x e h =
    let n : length (xs ++ (x ∷ [])) ≡ i + 1 = length-append xs (x ∷ []) ∙ ap (λ (k : ℕ). k + 1) e in
    rw (n, add-one i, e, drop-cons old i 0 h) (set_at xs (get_or old i 0) (drop (suc i) old) x i e ∙ sym (append_snoc xs x (drop (suc i) old)))

pub over_take : (xs old : List ℕ) (k : ℕ) → length xs ≡ k → take k (over xs old) ≡ xs
unfolding over
over_take xs old k e = take_at xs (drop (length xs) old) k e

-- ---- as many as fit

pub put_none : (old : List ℕ) → old ≡ over (take (length old) []) old
put_none old = sym (ap (λ (l : List ℕ). over l old) (take-nil (length old)) ∙ over_none old)

pub put_all : (xs old : List ℕ) → length xs ≤ length old → over (take (length old) xs) old ≡ over xs old
put_all xs old h = ap (λ (l : List ℕ). over l old) (take_all (length old) xs h)

-- one element more, where it fits
pub put_set_lem : (xs old : List ℕ) (i x : ℕ) → length xs ≡ i → set (over (take (length old) xs) old) i x ≡ over (take (length old) (xs ++ (x ∷ []))) old
put_set_lem xs old i x e = go (dec_lt i (length old))
  where
    go : Dec (i < length old) → set (over (take (length old) xs) old) i x ≡ over (take (length old) (xs ++ (x ∷ []))) old
    go (yes h) =
        ap (λ (l : List ℕ). set l i x) (put_all xs old (omega arith)) ∙ over_set xs old i x e h
        ∙ sym (put_all (xs ++ (x ∷ [])) old (omega (arith, length-append xs (x ∷ []))))
    go (no h) =
        let n : length (take (length old) xs) ≡ length old = length-take-le (length old) xs (omega arith) in
        set_out (over (take (length old) xs) old) i x (omega (arith, length_over (take (length old) xs) old (omega (arith, n))))
        ∙ ap (λ (l : List ℕ). over l old) (sym (take-append-le (length old) xs (x ∷ []) (omega arith)))

-- all that fit stand in front
pub put_front : (xs old : List ℕ) (n : ℕ) → length xs ≡ n → n ≤ length (over (take (length old) xs) old) → take n (over (take (length old) xs) old) ≡ xs
put_front xs old n e h = go (dec_lt (length old) n)
  where
    go : Dec (length old < n) → take n (over (take (length old) xs) old) ≡ xs
    go (yes l) =
        let m : length (take (length old) xs) ≡ length old = length-take-le (length old) xs (omega arith) in
        absurd (omega (arith, length_over (take (length old) xs) old (omega (arith, m))))
    go (no l) = ap (take n) (put_all xs old (omega arith)) ∙ over_take xs old n e

-- ---- from place k on

module _ (old : List ℕ) (k : ℕ) (fits : k ≤ length old) where
  pub over_start : old ≡ over (take k old ++ []) old
  unfolding over
  over_start = rw (append-nil (take k old), length-take-le k old fits) (sym (take-append-drop k old))

  pub over_next : (out ys : List ℕ) (at x : ℕ) → at ≡ k + length ys → at < length old → out ≡ over (take k old ++ ys) old → set out at x ≡ over (take k old ++ (ys ++ (x ∷ []))) old
  over_next out ys at x e h so =
      let n : length (take k old ++ ys) ≡ at = length-append (take k old) ys ∙ omega (arith, length-take-le k old fits) in
      rw so (over_set (take k old ++ ys) old at x n h ∙ ap (λ (l : List ℕ). over l old) (append_assoc (take k old) ys (x ∷ [])))

  -- ys in the middle
  pub over_mid : (n : ℕ) (ys : List ℕ) → length ys ≡ n → put_mid k n old ys ≡ over (take k old ++ ys) old
  unfolding over
  over_mid n ys e =
      let m : length (take k old ++ ys) ≡ k + n = length-append (take k old) ys ∙ omega (arith, length-take-le k old fits, e) in
      rw m (ap (λ (l : List ℕ). take k old ++ (ys ++ l)) (drop-drop n k old) ∙ sym (append_assoc (take k old) ys (drop (k + n) old)))

-- what is written over a whole list
pub over_all : (xs old : List ℕ) → length xs ≡ length old → over xs old ≡ xs
unfolding over
over_all xs old e = rw (drop_of_length-le old {i = length xs} (omega arith)) (append-nil xs)

-- ---- more elements, from the place behind those written

-- what is written later stands over what was written before
pub over_over : (xs ys old : List ℕ) → length xs ≤ length ys → over ys (over xs old) ≡ over ys old
unfolding over
over_over xs ys old h =
    let d : ℕ = length ys - length xs in
    let e : length ys ≡ length xs + d = omega arith in
    ap (λ (l : List ℕ). ys ++ l) (ap (λ (k : ℕ). drop k (xs ++ drop (length xs) old)) e ∙ drop-append-add xs (drop (length xs) old) d ∙ drop-drop d (length xs) old ∙ ap (λ (k : ℕ). drop k old) (sym e))

module _ (old out last front new : List ℕ) (k : ℕ) (long : length front ≡ k) (so : out ≡ over front old) (put : last ≡ over (take k out ++ new) out) where
  pub over_more : last ≡ over (front ++ new) old
  over_more =
      put ∙ ap (λ (o : List ℕ). over (take k o ++ new) o) so ∙ ap (λ (l : List ℕ). over (l ++ new) (over front old)) (over_take front old k long)
      ∙ over_over front (front ++ new) old (simp length-append (omega arith))

  pub long_more : length (front ++ new) ≡ k + length new
  long_more = length-append front new ∙ ap (λ (n : ℕ). n + length new) long
