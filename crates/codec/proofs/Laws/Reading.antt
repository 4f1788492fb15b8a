-- Laws of reading a record: what the reader answers, and that it accepts exactly what is written.
use Prim.Native.Nat.{ℕ, ◌+◌, ◌-◌, ◌^◌, ◌≤◌, ◌<◌}
use mathlib.Core.Path.{◌≡◌, refl, sym, ap, ap₂, ◌∙◌}
use mathlib.Core.Bool.{Bool, true, false}
use mathlib.Core.List.{List, [], ◌∷◌, ◌++◌}
use native.Mathlib.Omega.{arith}
use lib.ListN.{length, take, drop, length-append, length-drop}
use lib.Dec.{ltb, eqb}
use borrow.Author.Tests.{lt-ltb, le-ltb, le-leb, lt-leb, ne_eqb}
use Rattle.base.specs.Answers.{Answer, refused, done, of_given}
use Rattle.base.specs.Tests.{◌when◌else◌}
use Rattle.base.specs.Parts.{over}
use Rattle.base.specs.declared.Refusal.{Refusal}
use Rattle.base.proofs.Bools.{or_false}
use Rattle.base.proofs.Tests.{when_yes, when_no}
use Rattle.codec.specs.Bits.{AreBytes}
use Rattle.codec.specs.Codes.{gamma, got, read_gamma}
use Rattle.codec.specs.Prefix.{prefix_of, ReadLeb, whole, cut, bad, read_prefix, of_prefix, prefix_in}
use Rattle.codec.specs.Sets.{Within, Decoded, set, no_set, decode_set}
use Rattle.codec.specs.Inside.Payloads.{set_ids, put_set}
use Rattle.codec.specs.Records.{record_of, found, payload_set, after_prefix, read_record, bad_colors, read_by, read_into}
use Rattle.std.specs.Prelude.{Err}
use Rattle.codec.proofs.Laws.Codes.{gamma_read}
use Rattle.codec.proofs.Laws.Prefix.{prefix_read}
use Rattle.codec.proofs.Laws.Records.{record_read, record_only}

-- ---- a payload's set to the front of a buffer

module _ (N : ℕ) (payload out : List ℕ) where
  pub set_damaged : decode_set N payload ≡ no_set → (refused 5, out) ≡ put_set (decode_set N payload) out
  unfolding put_set
  set_damaged e = rw e refl

  module _ (ids : List ℕ) (are : decode_set N payload ≡ set ids) (count : ℕ) (counted : count ≡ length ids) where
    pub set_space : length out < count → (refused 3, out) ≡ put_set (decode_set N payload) out
    unfolding put_set
    set_space h = rw are (sym (when_yes _ _ _ (lt-ltb (length out) (length ids) (omega arith))))

    pub set_done : (last : List ℕ) → count ≤ length out → last ≡ over (set_ids (decode_set N payload)) out → (done (count ∷ []), last) ≡ put_set (decode_set N payload) out
    unfolding put_set
    set_done last h e =
        rw are (ap₂ (λ (n : ℕ) (l : List ℕ). (done (n ∷ []), l)) counted (e ∙ ap (λ (d : Decoded). over (set_ids d) out) are) ∙ sym (when_no _ _ _ (le-ltb (length out) (length ids) (omega arith))))

-- ---- the payload behind a prefix of `len` bytes

-- an answer that tells how many bytes were read too
abbrev pub and_bytes : ℕ → Answer → Answer
and_bytes n (refused r) = refused r
and_bytes n (done ns) = done (ns ++ (n ∷ []))

abbrev pub told : ℕ → Answer × List ℕ → Answer × List ℕ
told n p = (and_bytes n p.0, p.1)

told_put : (ids rest out : List ℕ) (total n : ℕ) (t : Bool) → total - length rest ≡ n
    → told n ((refused 3, out) when t else (done (length ids ∷ []), over ids out)) ≡ (refused 3, out) when t else (done (length ids ∷ (total - length rest) ∷ []), over ids out)
unfolding ◌when◌else◌
told_put ids rest out total n true e = refl
told_put ids rest out total n false e = ap (λ (k : ℕ). (done (length ids ∷ k ∷ []), over ids out)) (sym e)

told_set : (d : Decoded) (rest out : List ℕ) (total n : ℕ) → total - length rest ≡ n → told n (put_set d out) ≡ read_by (payload_set d rest) total out
unfolding put_set read_by
told_set no_set rest out total n e = refl
told_set (set ids) rest out total n e = told_put ids rest out total n (ltb (length out) (length ids)) e

module _ (N : ℕ) (input : List ℕ) (value len : ℕ) (out : List ℕ) (inside : len ≤ length input) where
  pub payload_cut : length input < len + value → (refused 4, out) ≡ read_by (after_prefix N (whole value (drop len input))) (length input) out
  unfolding read_by
  payload_cut h = rw (lt-leb value (length (drop len input)) (simp length-drop (omega arith)))

  -- what its set gives
  pub payload_put : (end : ℕ) → end ≡ len + value → end ≤ length input → (p : Answer × List ℕ) → p ≡ put_set (decode_set N (take (end - len) (drop len input))) out
      → told end p ≡ read_by (after_prefix N (whole value (drop len input))) (length input) out
  payload_put end is fits p e =
      let rest : List ℕ = drop value (drop len input) in
      let v : end - len ≡ value = omega arith in
      let there : value ≤ length (drop len input) = simp length-drop (omega arith) in
      let taken : length input - length rest ≡ end = simp length-drop (omega arith) in
      ap (told end) (e ∙ ap (λ (k : ℕ). put_set (decode_set N (take k (drop len input))) out) v)
      ∙ rw (le-leb value (length (drop len input)) there) (told_set (decode_set N (take value (drop len input))) rest out (length input) end taken)

-- ---- the whole record

pub read_refused : (N : ℕ) (input out : List ℕ) → bad_colors N ≡ true → (refused 1, out) ≡ read_into N input out
unfolding read_into
read_refused N input out e = sym (when_yes _ _ _ e)

module _ (N : ℕ) (input out : List ℕ) (good : bad_colors N ≡ false) where
  by_prefix : (r : ReadLeb) → read_prefix input ≡ r → read_into N input out ≡ read_by (after_prefix N r) (length input) out
  unfolding read_into read_record
  by_prefix r e = when_no _ _ _ good ∙ ap (λ (q : ReadLeb). read_by (after_prefix N q) (length input) out) e

  -- a prefix that isn't whole
  pub read_up : (r : Refusal) → of_prefix (Err r) ≡ prefix_in (length input) (read_prefix input) → (of_given (Err r), out) ≡ read_into N input out
  unfolding read_by
  read_up r e = go (read_prefix input) refl e
    where
      go : (q : ReadLeb) → read_prefix input ≡ q → of_prefix (Err r) ≡ prefix_in (length input) q → (of_given (Err r), out) ≡ read_into N input out
      go (whole n rest) s e = let x : ◌≡◌ {A = ℕ} 0 1 = cc in absurd (omega arith)
      go cut s e = ap (λ (a : Answer). (a, out)) e ∙ sym (by_prefix cut s)
      go bad s e = ap (λ (a : Answer). (a, out)) e ∙ sym (by_prefix bad s)

  pub read_whole : (v len : ℕ) → read_prefix input ≡ whole v (drop len input) → read_by (after_prefix N (whole v (drop len input))) (length input) out ≡ read_into N input out
  read_whole v len e = sym (by_prefix (whole v (drop len input)) e)

pub in_limits : (N : ℕ) → 1 ≤ N → N ≤ 2 ^ 20 → bad_colors N ≡ false
unfolding bad_colors
in_limits N some most = or_false (eqb N 0) (ltb 1048576 N) (ne_eqb N 0 (λ e. omega arith)) (le-ltb 1048576 N most)

-- ---- what is accepted

-- a record is read exactly where the written record of a set stands
pub accepts_exactly : (N : ℕ) → 1 ≤ N → N ≤ 2 ^ 20 → (input ids rest : List ℕ) → AreBytes input
    → (read_record N input ≡ found ids rest → (input ≡ record_of N ids ++ rest) × Within 0 N ids)
    × ((input ≡ record_of N ids ++ rest) × Within 0 N ids → read_record N input ≡ found ids rest)
accepts_exactly N some most input ids rest bytes = (
  λ e. let o = record_only N input ids rest bytes e in (o.1, o.0),
  λ w. ap (read_record N) w.0 ∙ record_read N some most ids rest w.1,
)

-- ---- no written form is the beginning of another (delta codes: `delta_free`)

pub gamma_free : (v w : ℕ) (r s : List Bool) → gamma v ++ r ≡ gamma w ++ s → (v ≡ w) × (r ≡ s)
gamma_free v w r s e =
    let q : got v r ≡ got w s = sym (gamma_read v r) ∙ ap read_gamma e ∙ gamma_read w s in
    (cc, cc)

pub prefix_free : (v w : ℕ) (r s : List ℕ) → v < 2 ^ 32 → w < 2 ^ 32 → prefix_of v ++ r ≡ prefix_of w ++ s → (v ≡ w) × (r ≡ s)
prefix_free v w r s h k e =
    let q : whole v r ≡ whole w s = sym (prefix_read v r h) ∙ ap read_prefix e ∙ prefix_read w s k in
    (cc, cc)

pub record_free : (N : ℕ) → 1 ≤ N → N ≤ 2 ^ 20 → (a b r s : List ℕ) → Within 0 N a → Within 0 N b → record_of N a ++ r ≡ record_of N b ++ s → (a ≡ b) × (r ≡ s)
record_free N some most a b r s v w e =
    let q : found a r ≡ found b s = sym (record_read N some most a r v) ∙ ap (read_record N) e ∙ record_read N some most b s w in
    (cc, cc)

-- what is written is read back, with whatever stands behind it
pub write_read : (N : ℕ) → 1 ≤ N → N ≤ 2 ^ 20 → (ids out room : List ℕ) → Within 0 N ids → length (record_of N ids) ≤ length out → length ids ≤ length room
    → read_into N (over (record_of N ids) out) room ≡ (done (length ids ∷ length (record_of N ids) ∷ []), over ids room)
unfolding read_into read_by over
write_read N some most ids out room w fits enough =
    let bytes : List ℕ = record_of N ids in
    let rest : List ℕ = drop (length bytes) out in
    let taken : length (bytes ++ rest) - length rest ≡ length bytes = omega (arith, length-append bytes rest) in
    rw (record_read N some most ids rest w, when_no _ _ _ (in_limits N some most), taken, when_no _ _ _ (le-ltb (length room) (length ids) enough))
