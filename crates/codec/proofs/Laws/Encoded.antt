-- Laws of writing a set: the bits of its body by kind, its payload, and its record.
use Prim.Native.Nat.{ℕ, ◌+◌, ◌-◌, ◌^◌, ◌≤◌, ◌<◌}
use mathlib.Core.Path.{◌≡◌, refl, sym, ap, ◌∙◌}
use mathlib.Core.Bool.{Bool, true, false}
use mathlib.Core.List.{List, [], ◌∷◌, ◌++◌}
use native.Mathlib.Omega.{arith}
use borrow.Rule.Slice.PartMut.{put_mid}
use lib.ListN.{length, take, set, length-append}
use lib.Seq.{take_all}
use lib.Dec.{eqb, ltb}
use borrow.Author.Tests.{ltb-false, eqb-false}
use Rattle.base.specs.Parts.{over}
use Rattle.base.proofs.Bools.{or_none}
use Rattle.base.proofs.Parts.{length_over}
use Rattle.codec.specs.Bits.{low_bits, bits_of, pack_bits}
use Rattle.codec.specs.Codes.{delta}
use Rattle.codec.specs.Prefix.{prefix_of}
use Rattle.codec.specs.Sets.{Within, map_bits, gap_bits, Regime, regime, body_bits, set_bits, encode_set}
use Rattle.codec.specs.Inside.Gaps.{coded_ids}
use Rattle.codec.specs.Inside.Payloads.{regime_of}
use Rattle.codec.specs.Records.{bad_colors, record_of}
use Rattle.codec.specs.Inside.Writers.{stream_of, Fresh, Ready, Wrote}
use Rattle.codec.specs.declared.bits.BitWriter.{BitWriter}
use Rattle.codec.specs.declared.sets.Kind.{Kind}
use Rattle.codec.specs.declared.sets.Kind.TheVariants.{Empty, Sparse, Bitmap, Dense}
use Rattle.codec.proofs.Laws.Sizes.{set_size, length_payload}
use Rattle.codec.proofs.Laws.Sets.{absent_count}
use Rattle.codec.proofs.Laws.Varints.{prefix_1}
use Rattle.codec.proofs.Laws.Writers.{wrote_then}
use Rattle.codec.proofs.Laws.Filled.{over_mid, over_take, over_over}

-- ---- the bits of the body, by kind

module _ (N : ℕ) (ids : List ℕ) (k : Kind) (is : regime_of k ≡ regime N (length ids)) where
  by_kind : (j : Kind) → k ≡ j → body_bits (regime_of j) N ids ≡ body_bits (regime N (length ids)) N ids
  by_kind j e = ap (λ (r : Regime). body_bits r N ids) (sym (ap regime_of e) ∙ is)

  pub body_empty : k ≡ Empty → [] ≡ body_bits (regime N (length ids)) N ids
  body_empty e = by_kind Empty e

  pub body_sparse : k ≡ Sparse → gap_bits 0 (coded_ids false N ids) ≡ body_bits (regime N (length ids)) N ids
  unfolding coded_ids
  body_sparse e = by_kind Sparse e

  pub body_bitmap : k ≡ Bitmap → map_bits 0 N ids ≡ body_bits (regime N (length ids)) N ids
  body_bitmap e = by_kind Bitmap e

  pub body_dense : k ≡ Dense → gap_bits 0 (coded_ids true N ids) ≡ body_bits (regime N (length ids)) N ids
  unfolding coded_ids
  body_dense e = by_kind Dense e

-- ---- lengths

pub few_ids : (N : ℕ) (ids : List ℕ) → Within 0 N ids → length ids ≤ N
few_ids N ids w = omega (arith, absent_count N ids w)

-- the bits of a set, from those of its length and of its body
module _ (N : ℕ) (ids : List ℕ) (body : List Bool) (is : body ≡ body_bits (regime N (length ids)) N ids) where
  pub set_length : length (delta (length ids)) + length body ≡ length (set_bits N ids)
  unfolding set_bits
  set_length = ap (λ (l : List Bool). length (delta (length ids)) + length l) is ∙ sym (length-append (delta (length ids)) (body_bits (regime N (length ids)) N ids))

  pub set_short : N ≤ 2 ^ 20 → Within 0 N ids → length (delta (length ids)) + length body < 2 ^ 26
  set_short h w = omega (arith, set_length, set_size N ids h w)

-- ---- payloads

-- a writer at the front of a buffer that the payload fits
pub ready_front : (N : ℕ) (ids out : List ℕ) (f : BitWriter) → Fresh out f → length (encode_set N ids) ≤ length out → Ready f (length (set_bits N ids))
ready_front N ids out f is h = omega (arith, is.front, is.none, ap length is.buffer, length_payload N ids, h)

-- the length and then the body, written one behind the other
pub set_written : (N : ℕ) (ids : List ℕ) (w v r : BitWriter) → Wrote w v (delta (length ids)) → Wrote v r (body_bits (regime N (length ids)) N ids) → Wrote w r (set_bits N ids)
unfolding set_bits
set_written N ids w v r a b = wrote_then w v (delta (length ids)) a r (body_bits (regime N (length ids)) N ids) b

-- the bits written from the front on, as bytes
pub encoded : (N r : ℕ) (ids out after : List ℕ) (f w : BitWriter) → Fresh out f → Wrote f w (set_bits N ids)
    → r ≡ length (pack_bits (stream_of w)) → take r after ≡ pack_bits (stream_of w) → (r ≡ length (encode_set N ids)) × (take r after ≡ encode_set N ids)
unfolding encode_set low_bits bits_of
encoded N r ids out after f w is a n e =
    let nothing : stream_of f ≡ [] = rw (is.front, is.none) refl in
    let p : pack_bits (stream_of w) ≡ pack_bits (set_bits N ids) = ap pack_bits (a.stream ∙ ap (λ (l : List Bool). l ++ set_bits N ids) nothing) in
    (n ∙ ap length p, e ∙ p)

-- ---- records

pub good_colors : (N : ℕ) → bad_colors N ≡ false → (1 ≤ N) × (N ≤ 2 ^ 20)
unfolding bad_colors
good_colors N e =
    let a = or_none (eqb N 0) (ltb 1048576 N) e in
    (omega (arith, eqb-false N 0 a.0), ltb-false 1048576 N a.1)

pub record_length_lem : (N : ℕ) (ids : List ℕ) (len : ℕ) → len ≡ length (encode_set N ids) → length (prefix_of len) + len ≡ length (record_of N ids)
unfolding record_of
record_length_lem N ids len e = rw e (sym (length-append (prefix_of (length (encode_set N ids))) (encode_set N ids)))

-- the prefix in the front of a buffer, and the payload behind it
module _ (N len at : ℕ) (ids out mid : List ℕ) (long : len ≡ length (encode_set N ids)) (behind : at ≡ length (prefix_of len)) (front : mid ≡ over (prefix_of len) out) where
  -- and the payload in a part of its length
  pub record_put : (total k : ℕ) → total ≡ at + len → k ≡ total - at → at + len ≤ length out → (part : List ℕ) → take len part ≡ encode_set N ids → length part ≡ len → put_mid at k mid part ≡ over (record_of N ids) out
  unfolding record_of
  record_put total k t e h part is l =
      let p : List ℕ = prefix_of len in
      let m : length mid ≡ length out = ap length front ∙ length_over p out (omega (arith, behind)) in
      let all : part ≡ encode_set N ids = sym (take_all len part (omega arith)) ∙ is in
      let n : k ≡ length part = omega arith in
      over_mid mid at (omega (arith, m)) k part (sym n) ∙ ap (λ (l : List ℕ). over (take at mid ++ l) mid) all
      ∙ ap (λ (l : List ℕ). over (l ++ encode_set N ids) mid) (ap (take at) front ∙ ap (λ (i : ℕ). take i (over p out)) behind ∙ over_take p out (length p) refl)
      ∙ ap (over (p ++ encode_set N ids)) front ∙ over_over p (p ++ encode_set N ids) out (omega (arith, length-append p (encode_set N ids)))
      ∙ ap (λ (n : ℕ). over (prefix_of n ++ encode_set N ids) out) long

-- a payload behind its length, which takes one byte
module _ (N len : ℕ) (ids : List ℕ) (long : len ≡ length (encode_set N ids)) (short : len < 128) where
  short_record : (len ∷ []) ++ encode_set N ids ≡ record_of N ids
  unfolding record_of
  short_record = ap (λ (p : List ℕ). p ++ encode_set N ids) (sym (prefix_1 len short) ∙ ap prefix_of long)

  pub short_length : len + 1 ≡ length (record_of N ids)
  short_length = omega (arith, long, ap length short_record)

  pub short_put : (out : List ℕ) (k : ℕ) → len + 1 ≤ length out → k ≡ len → set (put_mid 1 k out (encode_set N ids)) 0 len ≡ over (record_of N ids) out
  unfolding over
  short_put [] k h e = absurd (omega arith)
  short_put (x ∷ xs) k h e =
      ap (λ (l : List ℕ). set l 0 len) (over_mid (x ∷ xs) 1 (omega arith) k (encode_set N ids) (sym (e ∙ long))) ∙ ap (λ (r : List ℕ). over r (x ∷ xs)) short_record
