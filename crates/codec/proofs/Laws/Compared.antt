-- Laws of comparing a payload or a record with a set, bit by bit.
use Prim.Native.Nat.{ℕ, ◌+◌, ◌≤◌, ◌<◌}
use mathlib.Core.Path.{◌≡◌, refl, sym, ap, ap₂, ◌∙◌, subst}
use mathlib.Core.Bool.{Bool, true, false, cond, ◌&&◌}
use mathlib.Core.List.{List, [], ◌∷◌, ◌++◌, append_assoc}
use native.Mathlib.Omega.{arith}
use lib.ListN.{length, take, drop}
use lib.Dec.{ltb, eqb}
use borrow.Author.Tests.{le-leb, lt-leb, lt-ltb, eq-eqb, eqb-true}
use Rattle.base.proofs.Bools.{and_true, true_false, false_true}
use Rattle.codec.specs.Bits.{bits_of, AreBytes}
use Rattle.codec.specs.Codes.{delta, got, read_delta}
use Rattle.codec.specs.Sets.{Within, within, regime, body_bits, set_bits, ReadIds, given, read_set, padding, Decoded, set, no_set, padded, decode_set}
use Rattle.codec.specs.Inside.Payloads.{gives_set}
use Rattle.codec.specs.Prefix.{ReadLeb, whole, cut, bad, read_prefix, of_prefix, prefix_in}
use Rattle.codec.specs.Records.{same, ReadRecord, found, short, damaged, payload_set, after_prefix, read_record, gives_ids}
use Rattle.base.specs.declared.Refusal.{Refusal}
use Rattle.std.specs.Prelude.{Err}
use Rattle.codec.proofs.Laws.Codes.{delta_read, delta_only}
use Rattle.codec.proofs.Laws.Sets.{set_read, set_only, padded_set}
use Rattle.codec.proofs.Laws.Records.{record_only}

pub same_self : (xs : List ℕ) → same xs xs ≡ true
unfolding same
same_self [] = refl
same_self (x ∷ xs) = rw (eq-eqb x x refl, same_self xs)

pub same_only : (xs ys : List ℕ) → same xs ys ≡ true → xs ≡ ys
unfolding same
same_only [] [] e = refl
same_only [] (y ∷ ys) e = false_true e
same_only (x ∷ xs) [] e = false_true e
same_only (x ∷ xs) (y ∷ ys) e =
    let a = and_true (eqb x y) (same xs ys) e in
    ap₂ (λ (z : ℕ) (l : List ℕ). z ∷ l) (eqb-true x y a.0) (same_only xs ys a.1)

not_same : (xs ys : List ℕ) → (xs ≡ ys → ⊥) → same xs ys ≡ false
not_same xs ys h = go (same xs ys) refl
  where
    go : (t : Bool) → same xs ys ≡ t → t ≡ false
    go true e = absurd (h (same_only xs ys e))
    go false e = refl

-- ---- payloads

-- a payload that is not that of these ids
pub gives_other : (d : Decoded) (ids : List ℕ) → (d ≡ set ids → ⊥) → gives_set d ids ≡ false
gives_other no_set ids h = refl
gives_other (set js) ids h = not_same js ids (λ e. h (ap set e))

module _ (N : ℕ) (ids payload : List ℕ) where
  -- the payload of these ids begins with their number, and their bits stand behind it
  pub set_stands : decode_set N payload ≡ set ids → (rest : List Bool) × (bits_of payload ≡ delta (length ids) ++ (body_bits (regime N (length ids)) N ids ++ rest))
  unfolding decode_set set_bits
  set_stands e =
      let p = padded_set (read_set N (bits_of payload)) ids e in
      let s = set_only N (bits_of payload) ids p.0 p.1 in
      (p.0, s.1 ∙ append_assoc (delta (length ids)) (body_bits (regime N (length ids)) N ids) p.0)

  pub set_begins : decode_set N payload ≡ set ids → (rest : List Bool) × (read_delta (bits_of payload) ≡ got (length ids) (body_bits (regime N (length ids)) N ids ++ rest))
  set_begins e =
      let s = set_stands e in
      (s.0, ap read_delta s.1 ∙ delta_read (length ids) (body_bits (regime N (length ids)) N ids ++ s.0))

  -- where their number and their bits stand, the padding decides
  pub gives_same : (at behind : ℕ) → Within 0 N ids → read_delta (bits_of payload) ≡ got (length ids) (drop at (bits_of payload)) → drop at (bits_of payload) ≡ body_bits (regime N (length ids)) N ids ++ drop behind (bits_of payload)
      → gives_set (decode_set N payload) ids ≡ (ltb (length (drop behind (bits_of payload))) 8 && padding (drop behind (bits_of payload)))
  unfolding decode_set set_bits
  gives_same at behind w e b =
      let rest : List Bool = drop behind (bits_of payload) in
      let body : List Bool = body_bits (regime N (length ids)) N ids in
      let s : bits_of payload ≡ set_bits N ids ++ rest = delta_only (length ids) (bits_of payload) (drop at (bits_of payload)) e ∙ ap (λ (l : List Bool). delta (length ids) ++ l) b ∙ sym (append_assoc (delta (length ids)) body rest) in
      let r : read_set N (bits_of payload) ≡ given ids rest = ap (read_set N) s ∙ set_read N ids rest w in
      ap (λ (x : ReadIds). gives_set (padded x) ids) r ∙ by_padding (ltb (length rest) 8 && padding rest)
    where
      by_padding : (t : Bool) → gives_set (cond t (set ids) no_set) ids ≡ t
      by_padding true = same_self ids
      by_padding false = refl

-- ---- records

pub within_all : (from top : ℕ) (xs : List ℕ) → Within from top xs → within from top xs ≡ true
unfolding within
within_all from top [] w = refl
within_all from top (x ∷ xs) w = rw (le-leb from x w.0, lt-ltb x top w.1, within_all (x + 1) top xs w.2)

-- what is read as a record is a set
pub gives_none : (N : ℕ) (ids input : List ℕ) → AreBytes input → within 0 N ids ≡ false → gives_ids (read_record N input) ids ≡ false
gives_none N ids input h e = go (read_record N input) refl
  where
    go : (r : ReadRecord) → read_record N input ≡ r → gives_ids r ids ≡ false
    go short q = refl
    go damaged q = refl
    go (found js rest) q = not_same js ids (λ s. true_false (sym (within_all 0 N ids (subst (Within 0 N) s (record_only N input js rest h q).0)) ∙ e))

module _ (N : ℕ) (ids input : List ℕ) where
  pub gives_refused : (x : Refusal) → of_prefix (Err x) ≡ prefix_in (length input) (read_prefix input) → gives_ids (read_record N input) ids ≡ false
  unfolding read_record
  gives_refused x e = go (read_prefix input) e
    where
      go : (r : ReadLeb) → of_prefix (Err x) ≡ prefix_in (length input) r → gives_ids (after_prefix N r) ids ≡ false
      go (whole n rest) e = let z : ◌≡◌ {A = ℕ} 0 1 = cc in absurd (omega arith)
      go cut e = refl
      go bad e = refl

  module _ (v : ℕ) (rest : List ℕ) (is : read_prefix input ≡ whole v rest) where
    pub gives_cut : length rest < v → gives_ids (read_record N input) ids ≡ false
    unfolding read_record
    gives_cut h = rw (is, lt-leb v (length rest) h)

    pub gives_payload : v ≤ length rest → gives_ids (read_record N input) ids ≡ gives_set (decode_set N (take v rest)) ids
    unfolding read_record
    gives_payload h = rw (is, le-leb v (length rest) h) (go (decode_set N (take v rest)))
      where
        go : (d : Decoded) → gives_ids (payload_set d (drop v rest)) ids ≡ gives_set d ids
        go (set js) = refl
        go no_set = refl
