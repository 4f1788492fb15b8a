-- Section 3 of 01, by membership: bit i of a bitmap tells whether i is in, and the absent ids are those below N that are not in.
use Prim.Native.Nat.{ℕ, zero, suc, ◌+◌, ◌<◌}
use mathlib.Core.Path.{◌≡◌, refl, sym, ap, ◌∙◌, subst}
use mathlib.Core.Logic.{◌↔◌, inl, inr}
use mathlib.Core.Bool.{Bool, true, false, not, cond, ◌||◌, ◌&&◌}
use mathlib.Core.List.Memᴰ
use mathlib.Core.List.{List, [], ◌∷◌, map, Memᴰ}
use native.Mathlib.Omega.{arith}
use native.Mathlib.Decide.{dec_lt}
use lib.ListN.{length, get_or, length-map, get_or-eq_default}
use lib.Dec.{ltb, eqb}
use borrow.Author.Tests.{lt-ltb, le-ltb, eq-eqb, ne_eqb, eqb-true, eqb-false}
use Rattle.base.proofs.Bools.{false_true, or_left, or_right}
use Rattle.codec.specs.Sets.{Within, map_bits, ids_of, absent}
use Rattle.codec.proofs.Laws.Sets.{length_map_bits}

-- whether i is in
unfoldable pub is_in : ℕ → List ℕ → Bool
is_in i [] = false
is_in i (x ∷ xs) = eqb i x || is_in i xs

-- this is the library's membership
pub is_member : (i : ℕ) (ids : List ℕ) → is_in i ids ≡ true ↔ Memᴰ i ids
unfolding is_in
is_member i ids = (there ids, back ids)
  where
    there : (ids : List ℕ) → is_in i ids ≡ true → Memᴰ i ids
    there [] e = false_true e
    there (x ∷ xs) e = go (eqb i x) refl e (there xs)
      where
        go : (t : Bool) → eqb i x ≡ t → (t || is_in i xs) ≡ true → (is_in i xs ≡ true → Memᴰ i xs) → Memᴰ i (x ∷ xs)
        go true q e ih = Memᴰ.head (eqb-true i x q)
        go false q e ih = Memᴰ.tail (ih e)

    back : (ids : List ℕ) → Memᴰ i ids → is_in i ids ≡ true
    back [] m = absurd (Memᴰ.not-nil m)
    back (x ∷ xs) m = elim (Memᴰ.cases_cons m) [
      | inl e ↦ or_left (eqb i x) (is_in i xs) (eq-eqb i x e)
      | inr n ↦ or_right (eqb i x) (is_in i xs) (back xs n)
    ]

not_below : (ids : List ℕ) (from top i : ℕ) → Within from top ids → i < from → is_in i ids ≡ false
unfolding is_in
not_below [] from top i w h = refl
not_below (x ∷ xs) from top i w h = rw (ne_eqb i x (λ e. omega (arith, w.0, e))) (not_below xs (x + 1) top i w.2 (omega (arith, w.0)))

-- bit k of the bits for the ids from `from` on
bit_from : (n from top : ℕ) (ids : List ℕ) (k : ℕ) → Within from top ids → k < n → get_or (map_bits from n ids) k false ≡ is_in (from + k) ids
unfolding map_bits is_in
bit_from zero from top ids k w h = absurd (omega arith)
bit_from (suc n) from top [] zero w h = refl
bit_from (suc n) from top [] (suc k) w h = bit_from n (from + 1) top [] k tt (omega arith)
bit_from (suc n) from top (x ∷ xs) zero w h = go (eqb from x) refl
  where
    same : from + 0 ≡ from
    same = omega arith

    go : (t : Bool) → eqb from x ≡ t → t ≡ (eqb (from + 0) x || is_in (from + 0) xs)
    go true q = rw (same, q)
    go false q = rw (same, q) (sym (not_below xs (x + 1) top from w.2 (omega (arith, w.0))))
bit_from (suc n) from top (x ∷ xs) (suc k) w h = go (eqb from x) refl (bit_from n (from + 1) top xs k) (bit_from n (from + 1) top (x ∷ xs) k)
  where
    next : from + 1 + k ≡ from + suc k
    next = omega arith

    go : (t : Bool) → eqb from x ≡ t → (Within (from + 1) top xs → k < n → get_or (map_bits (from + 1) n xs) k false ≡ is_in (from + 1 + k) xs)
        → (Within (from + 1) top (x ∷ xs) → k < n → get_or (map_bits (from + 1) n (x ∷ xs)) k false ≡ is_in (from + 1 + k) (x ∷ xs))
        → get_or (map_bits (from + 1) n (cond t xs (x ∷ xs))) k false ≡ (eqb (from + suc k) x || is_in (from + suc k) xs)
    go true q here later =
        let s : from ≡ x = eqb-true from x q in
        let n : eqb (from + suc k) x ≡ false = ne_eqb (from + suc k) x (λ e. omega arith) in
        here (subst (λ (j : ℕ). Within j top xs) (ap (λ (j : ℕ). j + 1) (sym s)) w.2) (omega arith) ∙ ap (λ (j : ℕ). is_in j xs) next ∙ sym (ap (λ (t : Bool). t || is_in (from + suc k) xs) n)
    go false q here later =
        let s : from ≡ x → ⊥ = eqb-false from x q in
        later (omega (arith, w.0, s), w.1, w.2) (omega arith) ∙ ap (λ (j : ℕ). is_in j (x ∷ xs)) next

-- the ids that bits tell, one at a time
ids_from_lem : (bits : List Bool) (from k : ℕ) → is_in (from + k) (ids_of from bits) ≡ get_or bits k false
unfolding ids_of is_in
ids_from_lem [] from k = refl
ids_from_lem (true ∷ bits) from zero = or_left (eqb (from + 0) from) _ (eq-eqb (from + 0) from (omega arith))
ids_from_lem (true ∷ bits) from (suc k) =
    let next : from + suc k ≡ from + 1 + k = omega arith in
    rw (ne_eqb (from + suc k) from (λ e. omega arith)) (ap (λ (j : ℕ). is_in j (ids_of (from + 1) bits)) next ∙ ids_from_lem bits (from + 1) k)
ids_from_lem (false ∷ bits) from zero = later bits (from + 1) (from + 0) (omega arith)
  where
    later : (bits : List Bool) (from i : ℕ) → i < from → is_in i (ids_of from bits) ≡ false
    later [] from i h = refl
    later (true ∷ bits) from i h = rw (ne_eqb i from (λ e. omega arith)) (later bits (from + 1) i (omega arith))
    later (false ∷ bits) from i h = later bits (from + 1) i (omega arith)
ids_from_lem (false ∷ bits) from (suc k) =
    let next : from + suc k ≡ from + 1 + k = omega arith in
    ap (λ (j : ℕ). is_in j (ids_of (from + 1) bits)) next ∙ ids_from_lem bits (from + 1) k

module _ (N : ℕ) (ids : List ℕ) (w : Within 0 N ids) where
  tells : (i : ℕ) → i < N → get_or (map_bits 0 N ids) i false ≡ is_in i ids
  tells i h = let e : 0 + i ≡ i = omega arith in bit_from N 0 N ids i w h ∙ ap (λ (j : ℕ). is_in j ids) e

  -- "N bits, bit i telling whether i is in"
  pub bit_tells : (i : ℕ) → i < N → get_or (map_bits 0 N ids) i false ≡ true ↔ Memᴰ i ids
  bit_tells i h = (λ e. (is_member i ids).0 (sym (tells i h) ∙ e), λ m. tells i h ∙ (is_member i ids).1 m)

  absent_is : (i : ℕ) → is_in i (absent N ids) ≡ (ltb i N && not (is_in i ids))
  unfolding absent
  absent_is i =
      let e : 0 + i ≡ i = omega arith in
      ap (λ (j : ℕ). is_in j (ids_of 0 (map not (map_bits 0 N ids)))) (sym e) ∙ ids_from_lem (map not (map_bits 0 N ids)) 0 i ∙ go (dec_lt i N)
    where
      go : Dec (i < N) → get_or (map not (map_bits 0 N ids)) i false ≡ (ltb i N && not (is_in i ids))
      go (yes h) =
          rw (lt-ltb i N h) (inside (map_bits 0 N ids) i (subst (λ (k : ℕ). i < k) (sym (length_map_bits N 0 ids)) h) ∙ ap not (tells i h))
        where
          inside : (bits : List Bool) (i : ℕ) → i < length bits → get_or (map not bits) i false ≡ not (get_or bits i false)
          inside [] i h = absurd (omega arith)
          inside (b ∷ bits) zero h = refl
          inside (b ∷ bits) (suc i) h = inside bits i (omega arith)
      go (no h) = rw (le-ltb i N (omega arith)) (get_or-eq_default (map not (map_bits 0 N ids)) false (omega (arith, length-map (map_bits 0 N ids) not, length_map_bits N 0 ids)))

  -- "the absent ids": the numbers below N that are not in, and no others
  pub absent_exactly : (i : ℕ) → Memᴰ i (absent N ids) ↔ (i < N) × (Memᴰ i ids → ⊥)
  absent_exactly i = (there, back)
    where
      there : Memᴰ i (absent N ids) → (i < N) × (Memᴰ i ids → ⊥)
      there m = go (dec_lt i N) (is_in i ids) refl (sym (absent_is i) ∙ (is_member i (absent N ids)).1 m)
        where
          go : Dec (i < N) → (t : Bool) → is_in i ids ≡ t → (ltb i N && not t) ≡ true → (i < N) × (Memᴰ i ids → ⊥)
          go (no h) t q e = false_true (sym (ap (λ (u : Bool). u && not t) (le-ltb i N (omega arith))) ∙ e)
          go (yes h) true q e = false_true (sym (ap (λ (u : Bool). u && false) (lt-ltb i N h)) ∙ e)
          go (yes h) false q e = (h, λ m. false_true (sym q ∙ (is_member i ids).1 m))

      back : (i < N) × (Memᴰ i ids → ⊥) → Memᴰ i (absent N ids)
      back p = (is_member i (absent N ids)).0 (absent_is i ∙ go (is_in i ids) refl)
        where
          go : (t : Bool) → is_in i ids ≡ t → (ltb i N && not t) ≡ true
          go true q = absurd (p.1 ((is_member i ids).0 q))
          go false q = ap (λ (u : Bool). u && true) (lt-ltb i N p.0)
