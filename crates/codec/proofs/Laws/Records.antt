-- Laws of records and record files.
use Prim.Native.Nat.{ℕ, ◌+◌, ◌-◌, ◌^◌, ◌≤◌, ◌<◌}
use mathlib.Core.Path.{◌≡◌, refl, sym, ap, ap₂, ◌∙◌, subst}
use mathlib.Core.Bool.{Bool, true, false, cond, ◌&&◌}
use mathlib.Core.List.{List, [], ◌∷◌, ◌++◌, append_assoc}
use native.Mathlib.Omega.{arith}
use lib.ListN.{length, take, drop, length-append, take-append-drop}
use lib.Seq.{take_at, drop_at, length-take-le, get_or-append-add}
use lib.Dec.{leb, ltb}
use borrow.Author.Tests.{le-leb, leb-true, ltb-true}
use Rattle.codec.specs.Bits.{AreBytes, low_bits, pack_bits, pack_bytes, value_of}
use Rattle.codec.specs.Codes.{delta, gamma, high_bit, high_in}
use Rattle.codec.specs.Prefix.{leb_in, prefix_of, ReadLeb, whole, cut, bad, read_leb, narrow, read_prefix}
use Rattle.codec.specs.Sets.{Within, within, encode_set, regime, set_bits, Decoded, set, no_set, decode_set}
use Rattle.codec.specs.Records.{record_of, file_of, found, short, payload_set, after_prefix, read_record}
use Rattle.codec.specs.Flat.{flat, bounds}
use Rattle.codec.specs.History.{Sets}
use Rattle.codec.specs.Index.{index_from, index_of, entries, stopped, and_entry, behind}
use Rattle.codec.proofs.Laws.Prefix.{leb_only, prefix_read}
use Rattle.codec.proofs.Laws.Sets.{decode_encode, decode_only}
use Rattle.codec.proofs.Laws.Bits.{bytes_take}
use Rattle.codec.proofs.Laws.Sizes.{payload_size}

narrow_only : (r : ReadLeb) (n : ℕ) (rest : List ℕ) → narrow r ≡ whole n rest → (r ≡ whole n rest) × (n < 2 ^ 32)
narrow_only cut n rest e = let x : ◌≡◌ {A = ℕ} 0 1 = cc in absurd (omega arith)
narrow_only bad n rest e = let x : ◌≡◌ {A = ℕ} 0 1 = cc in absurd (omega arith)
narrow_only (whole m r) n rest e = go (ltb m (2 ^ 32)) refl e
  where
    go : (t : Bool) → ltb m (2 ^ 32) ≡ t → cond t (whole m r) bad ≡ whole n rest → (whole m r ≡ whole n rest) × (n < 2 ^ 32)
    go true q e = let p : m ≡ n = cc in (e, subst (λ (k : ℕ). k < 2 ^ 32) p (ltb-true m (2 ^ 32) q))
    go false q e = let x : ◌≡◌ {A = ℕ} 0 1 = cc in absurd (omega arith)

pub prefix_only : (bytes : List ℕ) (n : ℕ) (rest : List ℕ) → AreBytes bytes → read_prefix bytes ≡ whole n rest → (bytes ≡ prefix_of n ++ rest) × (n < 2 ^ 32)
unfolding read_prefix prefix_of
prefix_only bytes n rest h e =
    let a = narrow_only (read_leb 5 true bytes) n rest e in
    ((leb_only 5 n true bytes rest h a.0).are, a.1)

bytes_behind : (xs ys : List ℕ) → AreBytes (xs ++ ys) → AreBytes ys
bytes_behind xs ys h = λ i. rw (get_or-append-add xs ys i 0) at (h (length xs + i))

after_found : (N : ℕ) (r : ReadLeb) (s rest : List ℕ) → after_prefix N r ≡ found s rest
    → (n : ℕ) × (more : List ℕ) × (r ≡ whole n more) × (n ≤ length more) × (decode_set N (take n more) ≡ set s) × (drop n more ≡ rest)
after_found N cut s rest e = let x : ◌≡◌ {A = ℕ} 0 1 = cc in absurd (omega arith)
after_found N bad s rest e = let x : ◌≡◌ {A = ℕ} 0 1 = cc in absurd (omega arith)
after_found N (whole n more) s rest e = go (leb n (length more)) refl e
  where
    payload : (d : Decoded) → decode_set N (take n more) ≡ d → payload_set d (drop n more) ≡ found s rest → (decode_set N (take n more) ≡ set s) × (drop n more ≡ rest)
    payload (set t) q e = let p : t ≡ s = cc in (q ∙ ap set p, cc)
    payload no_set q e = let x : ◌≡◌ {A = ℕ} 0 1 = cc in absurd (omega arith)

    go : (t : Bool) → leb n (length more) ≡ t → cond t (payload_set (decode_set N (take n more)) (drop n more)) short ≡ found s rest
        → (k : ℕ) × (l : List ℕ) × (whole n more ≡ whole k l) × (k ≤ length l) × (decode_set N (take k l) ≡ set s) × (drop k l ≡ rest)
    go true q e = let p = payload (decode_set N (take n more)) refl e in (n, more, refl, leb-true n (length more) q, p.0, p.1)
    go false q e = let x : ◌≡◌ {A = ℕ} 0 1 = cc in absurd (omega arith)

-- what is read as a record is the written record of what is answered
pub record_only : (N : ℕ) (bytes s rest : List ℕ) → AreBytes bytes → read_record N bytes ≡ found s rest → Within 0 N s × (bytes ≡ record_of N s ++ rest)
unfolding read_record record_of
record_only N bytes s rest h e =
    let a = after_found N (read_prefix bytes) s rest e in
    let n : ℕ = a.0 in
    let more : List ℕ = a.1 in
    let p = prefix_only bytes n more h a.2 in
    let b : AreBytes more = bytes_behind (prefix_of n) more (subst AreBytes p.0 h) in
    let d = decode_only N (take n more) s (bytes_take n more b) a.4 in
    let l : length (encode_set N s) ≡ n = sym (ap length d.1) ∙ length-take-le n more a.3 in (
      d.0,
      p.0 ∙ ap (λ (x : List ℕ). prefix_of n ++ x) (sym (take-append-drop n more) ∙ ap₂ (λ (x y : List ℕ). x ++ y) d.1 a.5)
          ∙ ap (λ (k : ℕ). prefix_of k ++ (encode_set N s ++ rest)) (sym l) ∙ sym (append_assoc (prefix_of (length (encode_set N s))) (encode_set N s) rest),
    )

module _ (N : ℕ) (some : 1 ≤ N) (most : N ≤ 2 ^ 20) where
  pub record_read : (s : List ℕ) (rest : List ℕ) → Within 0 N s → read_record N (record_of N s ++ rest) ≡ found s rest
  unfolding read_record record_of
  record_read s rest w =
      let p : List ℕ = encode_set N s in
      let n : ℕ = length p in
      rw (append_assoc (prefix_of n) p rest, prefix_read n (p ++ rest) (omega (arith, payload_size N s some most w)), le-leb n (length (p ++ rest)) (simp length-append (omega arith)), take_at p rest n refl, drop_at p rest n refl, decode_encode N s w)

-- ---- what the promise is made of

-- delta(0) alone, a one and zeros up to the byte: a payload of one byte
pub record_empty : (N : ℕ) → record_of N [] ≡ 0x01 ∷ 0x01 ∷ []
unfolding record_of prefix_of leb_in encode_set set_bits regime pack_bits pack_bytes delta gamma high_bit high_in low_bits value_of
record_empty N = refl

pub within_ids : (from top : ℕ) (xs : List ℕ) → within from top xs ≡ true → Within from top xs
unfolding within
within_ids from top [] e = tt
within_ids from top (x ∷ xs) e = go (leb from x) refl (ltb x top) refl (within (x + 1) top xs) e (within_ids (x + 1) top xs)
  where
    go : (a : Bool) → leb from x ≡ a → (b : Bool) → ltb x top ≡ b → (c : Bool) → (a && b && c) ≡ true → (c ≡ true → Within (x + 1) top xs) → (from ≤ x) × (x < top) × Within (x + 1) top xs
    go true p true q c e ih = (leb-true from x p, ltb-true x top q, ih e)
    go true p false q c e ih = let z : ◌≡◌ {A = ℕ} 0 1 = cc in absurd (omega arith)
    go false p b q c e ih = let z : ◌≡◌ {A = ℕ} 0 1 = cc in absurd (omega arith)

module _ (N : ℕ) (some : 1 ≤ N) (most : N ≤ 2 ^ 20) where
  -- the index made from a record file
  index_from_lem : (S : List (List ℕ)) (at : ℕ) → Sets N S → index_from (length S) at (flat (record_of N) S) ≡ entries (bounds (record_of N) at S)
  unfolding index_from flat bounds record_of
  index_from_lem [] at w = refl
  index_from_lem (s ∷ S) at w =
      let p : List ℕ = encode_set N s in
      let n : ℕ = length p in
      let rest : List ℕ = flat (record_of N) S in
      let e : prefix_of n ++ p ++ rest ≡ prefix_of n ++ (p ++ rest) = append_assoc (prefix_of n) p rest in
      let long : length (prefix_of n ++ p ++ rest) - length (p ++ rest) ≡ length (prefix_of n) = omega (arith, ap length e, length-append (prefix_of n) (p ++ rest)) in
      let there : at + (length (prefix_of n ++ p ++ rest) - length (p ++ rest)) + n ≡ at + length (prefix_of n ++ p) = omega (arith, long, length-append (prefix_of n) p) in
      let read : read_prefix (prefix_of n ++ p ++ rest) ≡ whole n (p ++ rest) = ap read_prefix e ∙ prefix_read n (p ++ rest) (omega (arith, payload_size N s some most w.0)) in
      let fits : leb n (length (p ++ rest)) ≡ true = le-leb n (length (p ++ rest)) (simp length-append (omega arith)) in
      ap (behind (λ (next : ℕ) (left : List ℕ). index_from (length S) next left) at (length (prefix_of n ++ p ++ rest))) read
      ∙ ap (λ (t : Bool). cond t (and_entry at (index_from (length S) (at + (length (prefix_of n ++ p ++ rest) - length (p ++ rest)) + n) (drop n (p ++ rest)))) (stopped 4)) fits
      ∙ ap (and_entry at) (ap₂ (λ (next : ℕ) (left : List ℕ). index_from (length S) next left) there (drop_at p rest n refl) ∙ index_from_lem S (at + length (prefix_of n ++ p)) w.1)

  pub index_read : (S : List (List ℕ)) → Sets N S → index_of (length S) (file_of N S) ≡ entries (bounds (record_of N) 0 S)
  unfolding index_of
  index_read S w = index_from_lem S 0 w
