-- Ids told by bits: in parts, and counted.
use Prim.Native.Nat.{ℕ, zero, suc, ◌+◌, ◌-◌, ◌*◌, ◌/◌, ◌%◌, ◌^◌, ◌≤◌, ◌<◌}
use mathlib.Core.Path.{◌≡◌, refl, sym, ap, ap₂, ◌∙◌, subst}
use mathlib.Core.Bool.{Bool, true, false}
use mathlib.Core.List.{List, [], ◌∷◌, ◌++◌, append-nil}
use native.Mathlib.Nat.{zero-add, div-eq_of_lt}
use native.Mathlib.Omega.{arith}
use lib.ListN.{length, take, drop, length-append, length-drop}
use lib.Seq.{take-add, drop-drop, length-take-le}
use lib.Count.{ones, ones_step}
use Rattle.codec.specs.Bits.{low_bits, value_of}
use Rattle.codec.specs.Sets.{ids_of}
use Rattle.codec.proofs.Laws.Low.{length_low, low_add, low_value}

pub ids_append : (us vs : List Bool) (from : ℕ) → ids_of from (us ++ vs) ≡ ids_of from us ++ ids_of (from + length us) vs
unfolding ids_of
ids_append [] vs from = ap (λ (n : ℕ). ids_of n vs) (same from)
  where
    same : (n : ℕ) → n ≡ n + 0
    same n = omega arith
ids_append (true ∷ us) vs from = ap (λ (l : List ℕ). from ∷ l) (ids_append us vs (from + 1) ∙ ap (λ (n : ℕ). ids_of (from + 1) us ++ ids_of n vs) (shift from (length us)))
  where
    shift : (n k : ℕ) → n + 1 + k ≡ n + suc k
    shift n k = omega arith
ids_append (false ∷ us) vs from = ids_append us vs (from + 1) ∙ ap (λ (n : ℕ). ids_of (from + 1) us ++ ids_of n vs) (shift from (length us))
  where
    shift : (n k : ℕ) → n + 1 + k ≡ n + suc k
    shift n k = omega arith

-- as many ids as bits are set
pub count_ids : (bits : List Bool) (from : ℕ) → length (ids_of from bits) ≡ ones (value_of bits)
unfolding ids_of value_of ones
count_ids [] from = refl
count_ids (true ∷ bits) from =
    let r : (1 + 2 * value_of bits) % 2 ≡ 1 = omega arith in
    let q : (1 + 2 * value_of bits) / 2 ≡ value_of bits = omega arith in
    omega (arith, count_ids bits (from + 1), ones_step (1 + 2 * value_of bits) ∙ ap₂ (λ (a b : ℕ). a + ones b) r q)
count_ids (false ∷ bits) from =
    let r : (0 + 2 * value_of bits) % 2 ≡ 0 = omega arith in
    let q : (0 + 2 * value_of bits) / 2 ≡ value_of bits = omega arith in
    count_ids bits (from + 1) ∙ sym (ones_step (0 + 2 * value_of bits) ∙ ap₂ (λ (a b : ℕ). a + ones b) r q ∙ zero-add (ones (value_of bits)))

-- ---- a chunk behind those before it

module _ (bits : List Bool) (base width : ℕ) (fits : base + width ≤ length bits) where
  pub ids_chunk : ids_of 0 (take (base + width) bits) ≡ ids_of 0 (take base bits) ++ ids_of base (take width (drop base bits))
  ids_chunk =
      let l : length (take base bits) ≡ base = length-take-le base bits (omega arith) in
      ap (ids_of 0) (take-add base width bits) ∙ ids_append (take base bits) (take width (drop base bits)) 0
      ∙ ap (λ (n : ℕ). ids_of 0 (take base bits) ++ ids_of n (take width (drop base bits))) (zero-add (length (take base bits)) ∙ l)

  pub chunk_low : (word : ℕ) → word ≡ value_of (take width (drop base bits)) → low_bits width word ≡ take width (drop base bits)
  chunk_low word e =
      let l : length (take width (drop base bits)) ≡ width = length-take-le width (drop base bits) (simp length-drop (omega arith)) in
      rw e (subst (λ (n : ℕ). low_bits n (value_of (take width (drop base bits))) ≡ take width (drop base bits)) l (low_value (take width (drop base bits))))

-- ---- counted, from a place on

module _ (bits : List Bool) (at : ℕ) where
  -- those that a chunk adds
  pub count_more : (base width word count : ℕ) → at + (base + width) ≤ length bits → word ≡ value_of (take width (drop (at + base) bits)) → count ≡ length (ids_of 0 (take base (drop at bits)))
      → count + ones word ≡ length (ids_of 0 (take (base + width) (drop at bits)))
  count_more base width word count h w e =
      let d : take width (drop (at + base) bits) ≡ take width (drop base (drop at bits)) = ap (take width) (sym (drop-drop base at bits)) in
      let n : length (ids_of base (take width (drop base (drop at bits)))) ≡ ones word = count_ids (take width (drop base (drop at bits))) base ∙ ap ones (ap value_of (sym d) ∙ sym w) in
      rw (ids_chunk (drop at bits) base width (simp length-drop (omega arith)), length-append, n, e)

  -- two parts together
  pub count_parts : (m n : ℕ) → at + (m + n) ≤ length bits → length (ids_of 0 (take (m + n) (drop at bits))) ≡ length (ids_of 0 (take m (drop at bits))) + length (ids_of 0 (take n (drop (at + m) bits)))
  count_parts m n h =
      sym (count_more m n (value_of (take n (drop (at + m) bits))) (length (ids_of 0 (take m (drop at bits)))) h refl refl)
      ∙ ap (λ (k : ℕ). length (ids_of 0 (take m (drop at bits))) + k) (sym (count_ids (take n (drop (at + m) bits)) 0))

-- the ids of a part are no more than those of the whole
pub ids_part : (bits : List Bool) (m n : ℕ) → m ≤ n → n ≤ length bits → length (ids_of 0 (take m bits)) ≤ length (ids_of 0 (take n bits))
ids_part bits m n h l =
    let d : ℕ = n - m in
    let e : n ≡ m + d = omega arith in
    rw (e, ids_chunk bits m d (omega arith), length-append) (omega arith)

-- ---- a number's ids in parts

pub low_none : (width base : ℕ) → ids_of base (low_bits width 0) ≡ []
unfolding ids_of low_bits
low_none zero base = refl
low_none (suc width) base = low_none width (base + 1)

module _ (word base : ℕ) where
  -- those of p bits, and those of c bits more
  pub ids_join : (p c : ℕ) → ids_of base (low_bits (p + c) word) ≡ ids_of base (low_bits p word) ++ ids_of (base + p) (low_bits c (word / 2 ^ p))
  ids_join p c =
      ap (ids_of base) (low_add p c word) ∙ ids_append (low_bits p word) (low_bits c (word / 2 ^ p)) base
      ∙ ap (λ (n : ℕ). ids_of base (low_bits p word) ++ ids_of (base + n) (low_bits c (word / 2 ^ p))) (length_low p word)

  module _ (p q : ℕ) (h : p ≤ q) where
    parts : ids_of base (low_bits q word) ≡ ids_of base (low_bits p word) ++ ids_of (base + p) (low_bits (q - p) (word / 2 ^ p))
    parts = let e : q ≡ p + (q - p) = omega arith in ap (λ (n : ℕ). ids_of base (low_bits n word)) e ∙ ids_join p (q - p)

    pub ids_fewer : length (ids_of base (low_bits p word)) ≤ length (ids_of base (low_bits q word))
    ids_fewer = omega (arith, ap length parts, length-append (ids_of base (low_bits p word)) (ids_of (base + p) (low_bits (q - p) (word / 2 ^ p))))

    -- bits that are 0 tell none
    pub ids_wider : word < 2 ^ p → ids_of base (low_bits q word) ≡ ids_of base (low_bits p word)
    ids_wider l =
        parts ∙ ap (λ (n : ℕ). ids_of base (low_bits p word) ++ ids_of (base + p) (low_bits (q - p) n)) (div-eq_of_lt l)
        ∙ ap (λ (l : List ℕ). ids_of base (low_bits p word) ++ l) (low_none (q - p) (base + p)) ∙ append-nil (ids_of base (low_bits p word))
