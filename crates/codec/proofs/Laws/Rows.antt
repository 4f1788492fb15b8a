-- Ids written as a row of as many numbers as there can be, of which the last are filled up.
use Prim.Native.Nat.{ℕ, zero, suc, ◌+◌, ◌-◌, ◌*◌, ◌/◌, ◌%◌, ◌^◌, ◌≤◌, ◌<◌}
use mathlib.Core.Path.{◌≡◌, refl, sym, ap, ◌∙◌, subst}
use mathlib.Core.Bool.{Bool, true, false}
use mathlib.Core.List.{List, [], ◌∷◌, ◌++◌, append_assoc, append-nil}
use native.Mathlib.Omega.{arith}
use lib.ListN.{length, take, get_or, length-append}
use lib.Seq.{length-take-le}
use Rattle.std.specs.Prelude.{map}
use Rattle.std.proofs.lemmas.List.{length-map}
use Rattle.codec.specs.Bits.{low_bits}
use Rattle.codec.specs.Sets.{ids_of}
use Rattle.codec.specs.Inside.Bitmaps.{Front}
use Rattle.codec.proofs.Laws.Low.{length_low, low_mod}
use Rattle.codec.proofs.Laws.Chunks.{ids_join, ids_fewer}
use Rattle.codec.proofs.Laws.Fronts.{front_start, front_more}

-- the first j of these numbers, and zeros behind them, each from `base` on
unfoldable pub row : ℕ → List ℕ → ℕ → List ℕ
row base xs zero = []
row base [] (suc j) = (base + 0) ∷ row base [] j
row base (x ∷ xs) (suc j) = (base + x) ∷ row base xs j

pub row_more : (base : ℕ) (xs : List ℕ) (j : ℕ) → row base xs (suc j) ≡ row base xs j ++ ((base + get_or xs j 0) ∷ [])
unfolding row
row_more base [] zero = refl
row_more base (x ∷ xs) zero = refl
row_more base [] (suc j) = ap (λ (l : List ℕ). (base + 0) ∷ l) (row_more base [] j)
row_more base (x ∷ xs) (suc j) = ap (λ (l : List ℕ). (base + x) ∷ l) (row_more base xs j)

pub length_row : (base : ℕ) (xs : List ℕ) (j : ℕ) → length (row base xs j) ≡ j
unfolding row
length_row base xs zero = refl
length_row base [] (suc j) = ap suc (length_row base [] j)
length_row base (x ∷ xs) (suc j) = ap suc (length_row base xs j)

-- a row with room for all of them
pub row_all : (base : ℕ) (xs : List ℕ) (j : ℕ) → length xs ≤ j → row base xs j ≡ map (λ (z : ℕ). base + z) xs ++ row base [] (j - length xs)
unfolding row
row_all base [] j h = let e : j ≡ j - 0 = omega arith in ap (row base []) e
row_all base (x ∷ xs) zero h = absurd (omega arith)
row_all base (x ∷ xs) (suc j) h =
    let e : j - length xs ≡ suc j - suc (length xs) = omega arith in
    ap (λ (l : List ℕ). (base + x) ∷ l) (row_all base xs j (omega arith) ∙ ap (λ (n : ℕ). map (λ (z : ℕ). base + z) xs ++ row base [] n) e)

-- ids from a place on are those from 0 on, moved
pub ids_moved : (base from : ℕ) (bits : List Bool) → ids_of (base + from) bits ≡ map (λ (z : ℕ). base + z) (ids_of from bits)
unfolding ids_of
ids_moved base from [] = refl
ids_moved base from (true ∷ bits) =
    let e : base + from + 1 ≡ base + (from + 1) = omega arith in
    ap (λ (l : List ℕ). (base + from) ∷ l) (ap (λ (n : ℕ). ids_of n bits) e ∙ ids_moved base (from + 1) bits)
ids_moved base from (false ∷ bits) =
    let e : base + from + 1 ≡ base + (from + 1) = omega arith in
    ap (λ (n : ℕ). ids_of n bits) e ∙ ids_moved base (from + 1) bits

module _ (base : ℕ) (bits : List Bool) where
  moved : ids_of base bits ≡ map (λ (z : ℕ). base + z) (ids_of 0 bits)
  moved = let e : base ≡ base + 0 = omega arith in ap (λ (n : ℕ). ids_of n bits) e ∙ ids_moved base 0 bits

  pub count_moved : length (ids_of base bits) ≡ length (ids_of 0 bits)
  count_moved = ap length moved ∙ length-map (ids_of 0 bits) (λ (z : ℕ). base + z)

  -- a row of ids
  pub row_ids : (j : ℕ) → length (ids_of 0 bits) ≤ j → row base (ids_of 0 bits) j ≡ ids_of base bits ++ row base [] (j - length (ids_of 0 bits))
  row_ids j h = row_all base (ids_of 0 bits) j h ∙ ap (λ (l : List ℕ). l ++ row base [] (j - length (ids_of 0 bits))) (sym moved)

-- no more ids than bits
pub ids_most : (from : ℕ) (bits : List Bool) → length (ids_of from bits) ≤ length bits
unfolding ids_of
ids_most from [] = omega arith
ids_most from (true ∷ bits) = omega (arith, ids_most (from + 1) bits)
ids_most from (false ∷ bits) = omega (arith, ids_most (from + 1) bits)

-- ---- the ids of 32 bits, four bits at a time

-- those of the first 4 * j bits are written, from place k on
pub record Fours (word base count k : ℕ) (old : List ℕ) (j at : ℕ) (out : List ℕ) : Type 0 where
  pub told : at ≡ k + length (ids_of base (low_bits (4 * j) word))
  pub filled : Front (take k old ++ ids_of base (low_bits (4 * j) word)) count old out

-- the ids of the next four
abbrev pub next_ids : ℕ → ℕ → ℕ → List ℕ
next_ids word base j = ids_of (base + 4 * j) (low_bits 4 (word / 2 ^ (4 * j) % 16))

pub next_few : (word base j : ℕ) → length (next_ids word base j) ≤ 4
next_few word base j = let four : ℕ = word / 2 ^ (4 * j) % 16 in omega (arith, ids_most (base + 4 * j) (low_bits 4 four), length_low 4 four)

module _ (word base count k : ℕ) (old : List ℕ) (inside : k ≤ length old) where
  pub fours_start : Fours word base count k old 0 k old
  unfolding ids_of low_bits
  fours_start = record { told = omega arith; filled = rw (append-nil (take k old)) (front_start k count old inside) }

  module _ (j at : ℕ) (out : List ℕ) (so : Fours word base count k old j at out) where
    more : ids_of base (low_bits (4 * (j + 1)) word) ≡ ids_of base (low_bits (4 * j) word) ++ next_ids word base j
    more =
        let e : 4 * (j + 1) ≡ 4 * j + 4 = omega arith in
        ap (λ (n : ℕ). ids_of base (low_bits n word)) e ∙ ids_join word base (4 * j) 4
        ∙ ap (λ (l : List Bool). ids_of base (low_bits (4 * j) word) ++ ids_of (base + 4 * j) l) (sym (low_mod 4 (word / 2 ^ (4 * j))))

    -- they have place among those of all
    pub fours_fit : j < 8 → at + length (next_ids word base j) ≤ k + length (ids_of base (low_bits 32 word))
    fours_fit h = omega (arith, so.told, ap length more, length-append (ids_of base (low_bits (4 * j) word)) (next_ids word base j), ids_fewer word base (4 * (j + 1)) 32 (omega arith))

    pub fours_most : at ≤ k + 4 * j
    fours_most = omega (arith, so.told, ids_most base (low_bits (4 * j) word), length_low (4 * j) word)

    pub fours_next : (next : ℕ) (last : List ℕ) → next ≡ at + length (next_ids word base j) → Front (take at out ++ next_ids word base j) count out last → Fours word base count k old (j + 1) next last
    fours_next next last e filled =
        let front : List ℕ = take k old in
        let ids : List ℕ = ids_of base (low_bits (4 * j) word) in
        let long : length (front ++ ids) ≡ at = length-append front ids ∙ omega (arith, length-take-le k old inside, so.told) in
        record {
          told = omega (arith, e, so.told, ap length more, length-append ids (next_ids word base j));
          filled = subst (λ (l : List ℕ). Front l count old last) (append_assoc front ids (next_ids word base j) ∙ ap (λ (l : List ℕ). front ++ l) (sym more))
              (front_more (front ++ ids) count old out at (next_ids word base j) last long so.filled filled);
        }
