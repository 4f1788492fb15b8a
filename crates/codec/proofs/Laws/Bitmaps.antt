-- The bitmap of a set in chunks.
use Prim.Native.Nat.{ℕ, zero, suc, ◌+◌, ◌-◌, ◌*◌, ◌%◌, ◌^◌, ◌≤◌, ◌<◌}
use mathlib.Core.Path.{◌≡◌, refl, sym, ap, ap₂, ◌∙◌, subst}
use mathlib.Core.Bool.{Bool, true, false}
use mathlib.Core.List.{List, [], ◌∷◌, ◌++◌, append_assoc, append-nil}
use native.Mathlib.Nat.{add_comm, zero-add, suc-add, lt_of_lt_of_le, mod-eq_of_lt}
use native.Mathlib.Numerals.{add-one}
use native.Mathlib.Decide.{dec_lt}
use native.Mathlib.Omega.{arith}
use lib.ListN.{length, take, drop, get_or, replicate, length-append, length-drop, take-append-drop, drop_of_length-le}
use lib.Seq.{drop-cons, take_at, drop_at, drop-drop, length-take-le}
use lib.Pow.{pow_mono}
use borrow.Author.Tests.{eq-eqb, ne_eqb}
use Rattle.std.specs.Int.Bits.{bit_or, or_shifted_r}
use Rattle.codec.specs.Bits.{low_bits, value_of}
use Rattle.codec.specs.Sets.{Within, map_bits}
use Rattle.codec.specs.Inside.Gaps.{Ahead}
use Rattle.codec.specs.Inside.Bitmaps.{MapOf}
use Rattle.codec.specs.declared.bitmap.MapChunk.{MapChunk}
use Rattle.codec.proofs.Laws.Low.{length_low, low_join, low_value, value_low}
use Rattle.codec.proofs.Laws.Bits.{joined_lt, low_more, shift_fits}
use Rattle.codec.proofs.Laws.Sets.{length_map_bits}
use Rattle.codec.proofs.Laws.Coded.{head_within}

-- ---- zeros up to the next id, and a one

-- a bit above those of a number, as the machine sets it
pub or_above : (p n : ℕ) → p < 64 → n < 2 ^ p → bit_or n (1 * 2 ^ p % 2 ^ 64) ≡ n + 1 * 2 ^ p
or_above p n h l = ap (bit_or n) (shift_fits p 1 1 (omega arith) (omega arith)) ∙ or_shifted_r 1 p n l ∙ add_comm (1 * 2 ^ p) n

map_past : (n from N : ℕ) (xs : List ℕ) → Within (from + 1) N xs → map_bits from (suc n) xs ≡ false ∷ map_bits (from + 1) n xs
unfolding map_bits
map_past n from N [] w = refl
map_past n from N (x ∷ xs) w = rw (ne_eqb from x (λ e. omega (arith, w.0, e)))

map_one : (n from : ℕ) (xs : List ℕ) → map_bits from (suc n) (from ∷ xs) ≡ true ∷ map_bits (from + 1) n xs
unfolding map_bits
map_one n from xs = rw (eq-eqb from from refl)

from_less : (from less N : ℕ) (xs : List ℕ) → less ≤ from → Within from N xs → Within less N xs
from_less from less N [] h w = tt
from_less from less N (x ∷ xs) h w = (omega (arith, w.0), w.1, w.2)

map_zeros : (k m from to N : ℕ) (xs : List ℕ) → from + k ≡ to → Within to N xs → map_bits from (k + m) xs ≡ replicate k false ++ map_bits to m xs
map_zeros zero m from to N xs e w = let f : from ≡ to = omega arith in ap₂ (λ (a b : ℕ). map_bits a b xs) f (zero-add m)
map_zeros (suc k) m from to N xs e w =
    ap (λ (j : ℕ). map_bits from j xs) (suc-add k m)
    ∙ map_past (k + m) from N xs (from_less to (from + 1) N xs (omega arith) w)
    ∙ ap (λ (l : List Bool). false ∷ l) (map_zeros k m (from + 1) to N xs (omega arith) w)

one_bit : low_bits 1 1 ≡ true ∷ []
unfolding low_bits
one_bit = refl

-- ---- one chunk: the ids taken so far lie before `place`

pub record Chunked (N : ℕ) (ids : List ℕ) (i base width word k : ℕ) : Type 0 where
  pub place : ℕ
  pub low : base ≤ place
  pub high : place ≤ base + width
  pub inside : k ≤ length ids
  pub left : Within place N (drop k ids)
  pub small : word < 2 ^ (place - base)
  pub bits : (m : ℕ) → map_bits base (width + m) (drop i ids) ≡ low_bits (place - base) word ++ map_bits place (base + width - place + m) (drop k ids)

module _ (N : ℕ) (ids : List ℕ) (i base width : ℕ) where
  pub chunk_start : Ahead N ids (record { i = i; from = base }) → Chunked N ids i base width 0 i
  unfolding low_bits
  chunk_start a =
      let z : base - base ≡ 0 = omega arith in
      record {
        place = base;
        low = omega arith;
        high = omega arith;
        inside = a.inside;
        left = a.left;
        small = rw z (omega arith);
        bits = λ m. let n : base + width - base + m ≡ width + m = omega arith in rw (z, n);
      }

  module _ (word k : ℕ) (so : Chunked N ids i base width word k) (more : k < length ids) where
    pub chunk_above : so.place ≤ get_or ids k 0
    chunk_above = (head_within ids N k so.place more so.left).0

    -- its bit and those above it are not set yet
    pub chunk_clear : word < 2 ^ (get_or ids k 0 - base)
    chunk_clear = lt_of_lt_of_le so.small (pow_mono {i = so.place - base} {j = get_or ids k 0 - base} (omega (arith, chunk_above)))

    pub chunk_next : get_or ids k 0 < base + width → Chunked N ids i base width (word + 1 * 2 ^ (get_or ids k 0 - base)) (k + 1)
    chunk_next h =
        let id : ℕ = get_or ids k 0 in
        let w = head_within ids N k so.place more so.left in
        let p : ℕ = so.place - base in
        let q : ℕ = id - so.place in
        let b : id - base ≡ p + q = omega (arith, w.0, so.low) in
        let s : word < 2 ^ (id - base) = chunk_clear in
        let u : id + 1 - base ≡ id - base + 1 = omega (arith, w.0, so.low) in
        record {
          place = id + 1;
          low = omega (arith, w.0, so.low);
          high = omega arith;
          inside = omega arith;
          left = w.2;
          small = rw u (joined_lt (id - base) 1 word 1 s (omega arith));
          bits = λ m.
              let n : base + width - so.place + m ≡ q + suc (base + width - (id + 1) + m) = omega (arith, w.0) in
              let rest : List Bool = map_bits (id + 1) (base + width - (id + 1) + m) (drop (k + 1) ids) in
              let d : drop k ids ≡ id ∷ drop (k + 1) ids = drop-cons ids k 0 more ∙ ap (λ (j : ℕ). id ∷ drop j ids) (sym (add-one k)) in
              let z : map_bits so.place (base + width - so.place + m) (drop k ids) ≡ replicate q false ++ true ∷ rest =
              ap (λ (j : ℕ). map_bits so.place j (drop k ids)) n ∙ ap (map_bits so.place (q + suc (base + width - (id + 1) + m))) d
              ∙ map_zeros q (suc (base + width - (id + 1) + m)) so.place id N (id ∷ drop (k + 1) ids) (omega (arith, w.0)) (omega arith, w.1, w.2)
              ∙ ap (λ (l : List Bool). replicate q false ++ l) (map_one (base + width - (id + 1) + m) id (drop (k + 1) ids))
              in
              let l : low_bits (id + 1 - base) (word + 1 * 2 ^ (id - base)) ≡ low_bits p word ++ replicate q false ++ (true ∷ []) =
              ap (λ (j : ℕ). low_bits j (word + 1 * 2 ^ (id - base))) u ∙ low_join (id - base) 1 word 1 s ∙ ap₂ (λ (x y : List Bool). x ++ y) (ap (λ (j : ℕ). low_bits j word) b ∙ low_more p q word so.small) one_bit
              in
              so.bits m ∙ ap (λ (y : List Bool). low_bits p word ++ y) z ∙ regroup (low_bits p word) (replicate q false) rest ∙ ap (λ (y : List Bool). y ++ rest) (sym l);
        }
      where
        regroup : (xs ys zs : List Bool) → xs ++ (ys ++ true ∷ zs) ≡ (xs ++ ys ++ (true ∷ [])) ++ zs
        regroup xs ys zs = simp append_assoc

  -- no id of the chunk is left
  pub chunk_end : (word k : ℕ) → Chunked N ids i base width word k → base + width ≤ N → (k < length ids → base + width ≤ get_or ids k 0) → MapOf N ids i base width (record { word = word; next = k })
  chunk_end word k so h f =
      let p : ℕ = so.place - base in
      let q : ℕ = base + width - so.place in
      let b : width ≡ p + q = omega (arith, so.low, so.high) in
      let w : Within (base + width) N (drop k ids) = behind (dec_lt k (length ids)) in
      record {
        small = lt_of_lt_of_le so.small (pow_mono {i = p} {j = width} (omega arith));
        later = λ m.
            so.bits m
            ∙ ap (λ (l : List Bool). low_bits p word ++ l) (map_zeros q m so.place (base + width) N (drop k ids) (omega (arith, so.high)) w)
            ∙ sym (append_assoc (low_bits p word) (replicate q false) (map_bits (base + width) m (drop k ids)))
            ∙ ap (λ (l : List Bool). l ++ map_bits (base + width) m (drop k ids)) (sym (ap (λ (j : ℕ). low_bits j word) b ∙ low_more p q word so.small));
        ahead = record { inside = so.inside; below = h; left = w };
      }
    where
      behind : Dec (k < length ids) → Within (base + width) N (drop k ids)
      behind (yes l) =
          let w = head_within ids N k so.place l so.left in
          subst (Within (base + width) N) (sym (drop-cons ids k 0 l ∙ ap (λ (j : ℕ). get_or ids k 0 ∷ drop j ids) (sym (add-one k)))) (f l, w.1, w.2)
      behind (no g) = subst (Within (base + width) N) (sym (drop_of_length-le ids {i = k} (omega arith))) tt

-- ---- chunk by chunk: the bits of those passed, and those from `base` on

pub record Mapping (N : ℕ) (ids : List ℕ) (i base : ℕ) (done : List Bool) : Type 0 where
  pub ahead : Ahead N ids (record { i = i; from = base })
  pub all : map_bits 0 N ids ≡ done ++ map_bits base (N - base) (drop i ids)

module _ (N : ℕ) (ids : List ℕ) where
  pub mapping_start : Within 0 N ids → Mapping N ids 0 0 []
  mapping_start w = let n : N ≡ N - 0 = omega arith in record {
    ahead = record { inside = omega arith; below = omega arith; left = w };
    all = ap (λ (m : ℕ). map_bits 0 m ids) n;
  }

  module _ (i base : ℕ) (done : List Bool) (so : Mapping N ids i base done) where
    pub mapping_end : N ≤ base → map_bits 0 N ids ≡ done
    unfolding map_bits
    mapping_end h = let n : N - base ≡ 0 = omega arith in so.all ∙ ap (λ (m : ℕ). done ++ map_bits base m (drop i ids)) n ∙ append-nil done

    pub mapping_count : length done ≡ base
    mapping_count = omega (arith, so.ahead.below, sym (length_map_bits N 0 ids) ∙ ap length so.all ∙ length-append done (map_bits base (N - base) (drop i ids)), length_map_bits (N - base) base (drop i ids))

    module _ (width : ℕ) (r : MapChunk) (chunk : MapOf N ids i base width r) where
      pub mapping_next : Mapping N ids r.next (base + width) (done ++ low_bits width r.word)
      mapping_next =
          let n : N - base ≡ width + (N - (base + width)) = omega (arith, chunk.ahead.below) in
          record {
            ahead = chunk.ahead;
            all = so.all ∙ ap (λ (m : ℕ). done ++ map_bits base m (drop i ids)) n ∙ ap (λ (l : List Bool). done ++ l) (chunk.later (N - (base + width)))
                ∙ sym (append_assoc done (low_bits width r.word) (map_bits (base + width) (N - (base + width)) (drop r.next ids)));
          }

      -- where the whole map stands, the chunk is read
      pub mapping_read : (bits left rest : List Bool) → bits ≡ done ++ left → bits ≡ map_bits 0 N ids ++ rest → value_of (take width left) ≡ r.word
      mapping_read bits left rest p q =
          let low : List Bool = low_bits width r.word in
          let more : List Bool = map_bits (base + width) (N - (base + width)) (drop r.next ids) ++ rest in
          let e : done ++ left ≡ done ++ (low ++ more) =
          sym p ∙ q ∙ ap (λ (l : List Bool). l ++ rest) mapping_next.all ∙ append_assoc (done ++ low) (map_bits (base + width) (N - (base + width)) (drop r.next ids)) rest ∙ append_assoc done low more
          in
          let l : left ≡ low ++ more = sym (drop_at done left (length done) refl) ∙ ap (drop (length done)) e ∙ drop_at done (low ++ more) (length done) refl in
          ap (λ (y : List Bool). value_of (take width y)) l ∙ ap value_of (take_at low more width (length_low width r.word)) ∙ value_low width r.word ∙ mod-eq_of_lt chunk.small

-- the bits at a place, by their value
pub bits_by_value : (width word at : ℕ) (bits : List Bool) → at + width ≤ length bits → value_of (take width (drop at bits)) ≡ word → drop at bits ≡ low_bits width word ++ drop (at + width) bits
bits_by_value width word at bits h e =
    let n : length (take width (drop at bits)) ≡ width = length-take-le width (drop at bits) (simp length-drop (omega arith)) in
    let t : take width (drop at bits) ≡ low_bits width word = sym (low_value (take width (drop at bits))) ∙ ap₂ low_bits n e in
    sym (take-append-drop width (drop at bits)) ∙ ap₂ (λ (x y : List Bool). x ++ y) t (drop-drop width at bits)
