-- Laws of items one after another: one more, the start of each, and the bytes from a start on.
use Prim.Native.Nat.{ℕ, zero, suc, ◌+◌, ◌<◌, ◌≤◌}
use mathlib.Core.Path.{◌≡◌, refl, sym, ap, ◌∙◌}
use mathlib.Core.List.{List, [], ◌∷◌, ◌++◌, append-nil}
use native.Mathlib.Omega.{arith}
use native.Mathlib.Nat.{add-zero}
use lib.ListN.{length, get_or, take, drop, length-append, take-append-drop}
use lib.Seq.{drop-append-add}
use Rattle.codec.specs.Flat.{flat, bounds}
use Rattle.codec.proofs.Laws.Flat.{flat_append}

module _ {A : Type 0} (enc : A → List ℕ) where
  pub flat_more : (xs : List A) (x : A) → flat enc (xs ++ (x ∷ [])) ≡ flat enc xs ++ enc x
  unfolding flat
  flat_more xs x = flat_append enc xs (x ∷ []) ∙ ap (λ (l : List ℕ). flat enc xs ++ l) (append-nil (enc x))

  -- some of the items are no longer than all
  pub flat_take : (xs : List A) (k : ℕ) → length (flat enc (take k xs)) ≤ length (flat enc xs)
  flat_take xs k =
      let e : flat enc (take k xs) ++ flat enc (drop k xs) ≡ flat enc xs = sym (flat_append enc (take k xs) (drop k xs)) ∙ ap (flat enc) (take-append-drop k xs) in
      omega (arith, simp length-append at (ap length e))

  pub starts_more : (o : ℕ) (xs : List A) (x : A) → bounds enc o (xs ++ (x ∷ [])) ≡ bounds enc o xs ++ ((o + length (flat enc xs) + length (enc x)) ∷ [])
  unfolding flat bounds
  starts_more o [] x = rw add-zero
  starts_more o (y ∷ xs) x =
      let e : o + length (enc y) + length (flat enc xs) + length (enc x) ≡ o + length (enc y ++ flat enc xs) + length (enc x) = omega (arith, length-append (enc y) (flat enc xs)) in
      ap (λ (l : List ℕ). o ∷ l) (starts_more (o + length (enc y)) xs x ∙ ap (λ (n : ℕ). bounds enc (o + length (enc y)) xs ++ (n ∷ [])) e)

  -- item k begins where the k items before it end
  pub start_at : (o : ℕ) (xs : List A) (k : ℕ) → k ≤ length xs → get_or (bounds enc o xs) k 0 ≡ o + length (flat enc (take k xs))
  unfolding flat bounds
  start_at o [] zero h = sym (add-zero o)
  start_at o [] (suc k) h = omega arith
  start_at o (x ∷ xs) zero h = sym (add-zero o)
  start_at o (x ∷ xs) (suc k) h =
      let g : k ≤ length xs = omega arith in
      let e : o + length (enc x) + length (flat enc (take k xs)) ≡ o + length (enc x ++ flat enc (take k xs)) = omega (arith, length-append (enc x) (flat enc (take k xs))) in
      start_at (o + length (enc x)) xs k g ∙ e

  -- the bytes from the start of item k on: the item, and those behind it
  pub from_start : (xs : List A) (k : ℕ) (d : A) → k < length xs → drop (length (flat enc (take k xs))) (flat enc xs) ≡ enc (get_or xs k d) ++ flat enc (drop (suc k) xs)
  unfolding flat
  from_start [] k d h = absurd (none h)
    where
      none : k < 0 → ⊥
      none h = omega arith
  from_start (x ∷ xs) zero d h = refl
  from_start (x ∷ xs) (suc k) d h =
      let g : k < length xs = omega arith in
      rw (length-append (enc x) (flat enc (take k xs)), drop-append-add (enc x) (flat enc xs) (length (flat enc (take k xs))))
      (from_start xs k d g)
