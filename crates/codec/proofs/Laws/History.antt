-- One history: what the bytes of two record files tell of their lists of sets.
use Prim.Native.Nat.{ℕ, ◌^◌, ◌≤◌}
use mathlib.Core.Path.{◌≡◌, refl, sym, ap, ap₂, ◌∙◌}
use mathlib.Core.List.{List, [], ◌∷◌, ◌++◌, IsPrefix, append_assoc, append-nil}
use native.Mathlib.Omega.{arith}
use lib.ListN.{length, length-append}
use Rattle.codec.specs.Bits.{pack_bits, pack_bytes, value_of, low_bits}
use Rattle.codec.specs.Codes.{delta, gamma, high_bit, high_in}
use Rattle.codec.specs.Flat.{flat}
use Rattle.codec.specs.History.{FilesOneHistoryStatement, Sets}
use Rattle.codec.specs.Prefix.{leb_in, prefix_of, read_leb, read_prefix}
use Rattle.codec.specs.Records.{file_of, found, read_record, record_of, short}
use Rattle.codec.specs.Sets.{Within, absent, encode_set, gap_bits, ids_of, map_bits, regime, set_bits}
use Rattle.codec.proofs.Laws.Flat.{flat_append}
use Rattle.codec.proofs.Laws.Reading.{record_free}
use Rattle.codec.proofs.Laws.Records.{record_read}

-- of two colours and of three: the same bytes, other sets
pub colours_tell : file_of 2 ((1 ∷ []) ∷ []) ≡ file_of 3 ((0 ∷ []) ∷ [])
unfolding flat record_of encode_set set_bits regime map_bits absent ids_of gap_bits delta gamma high_bit high_in pack_bits pack_bytes value_of low_bits prefix_of leb_in
colours_tell = refl

-- of ids that are not below four: the same bytes, other lists
pub below_tells : file_of 4 ((4 ∷ []) ∷ []) ≡ file_of 4 ((5 ∷ []) ∷ [])
unfolding flat record_of encode_set set_bits regime map_bits absent ids_of gap_bits delta gamma high_bit high_in pack_bits pack_bytes value_of low_bits prefix_of leb_in
below_tells = refl

-- nothing is read of no bytes
nothing : (N : ℕ) → read_record N [] ≡ short
unfolding read_record read_prefix read_leb
nothing N = refl

-- two lists, each the beginning of the other
each_way : {A : Type 0} (xs ys : List A) → IsPrefix xs ys → IsPrefix ys xs → xs ≡ ys
each_way {A = A} xs ys p q = go p.0 p.1
  where
    go : (t : List A) → xs ++ t ≡ ys → xs ≡ ys
    go [] e = sym (append-nil xs) ∙ e
    go (x ∷ t) e = absurd (omega (arith, simp length-append at (ap length e), simp length-append at (ap length q.1)))

longer_file : (N : ℕ) (S T : List (List ℕ)) → IsPrefix S T → IsPrefix (file_of N S) (file_of N T)
longer_file N S T p = (file_of N p.0, sym (flat_append (record_of N) S p.0) ∙ ap (file_of N) p.1)

module _ (N : ℕ) (some : 1 ≤ N) (most : N ≤ 2 ^ 20) where
  -- a record has bytes
  not_empty : (s rest : List ℕ) → Within 0 N s → record_of N s ++ rest ≡ [] → ⊥
  not_empty s rest w e =
      let q : found s rest ≡ short = sym (record_read N some most s rest w) ∙ ap (read_record N) e ∙ nothing N in
      let z : ◌≡◌ {A = ℕ} 0 1 = cc in omega arith

  longer_list : (S T : List (List ℕ)) → Sets N S → Sets N T → IsPrefix (file_of N S) (file_of N T) → IsPrefix S T
  unfolding flat
  longer_list [] T v w p = (T, refl)
  longer_list (s ∷ S) [] v w p = absurd (not_empty s _ v.0 (sym (append_assoc (record_of N s) (file_of N S) p.0) ∙ p.1))
  longer_list (s ∷ S) (t ∷ T) v w p =
      let f = record_free N some most s t _ _ v.0 w.0 (sym (append_assoc (record_of N s) (file_of N S) p.0) ∙ p.1) in
      let q = longer_list S T v.1 w.1 (p.0, f.1) in
      (q.0, ap₂ (λ (x : List ℕ) (l : List (List ℕ)). x ∷ l) f.0 q.1)

  same_list : (S T : List (List ℕ)) → Sets N S → Sets N T → file_of N S ≡ file_of N T → S ≡ T
  same_list S T v w e = each_way S T (longer_list S T v w ([], append-nil (file_of N S) ∙ e)) (longer_list T S w v ([], append-nil (file_of N T) ∙ sym e))

pub files_one_history : FilesOneHistoryStatement
unfolding flat
files_one_history N some most S T v w =
    record {
      begins = (longer_list N some most S T v w, longer_file N S T);
      equal = (same_list N some most S T v w, ap (file_of N));
      empty = (same_list N some most S [] v tt, ap (file_of N));
    }
