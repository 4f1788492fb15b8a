-- What the crates above rely on of the formats, besides the functions' contracts: the record codec's promise.
use Prim.Native.Nat.{ℕ, ◌^◌, ◌≤◌}
use mathlib.Core.Path.{◌≡◌}
use mathlib.Core.Bool.{true, false}
use mathlib.Core.List.{List, [], ◌∷◌, ◌++◌}
use native.Mathlib.Omega.{arith}
use lib.ListN.{length}
use lib.Dec.{eqb}
use borrow.Author.Tests.{eqb-false, ltb-false}
use Rattle.base.proofs.All.{All}
use Rattle.base.proofs.Bools.{or_none}
use Rattle.codec.specs.Flat.{bounds}
use Rattle.codec.specs.History.{OneHistory, Sets}
use Rattle.codec.specs.Index.{index_of, entries}
use Rattle.codec.specs.Records.{bad_colors, file_of, read_record, record_of, found}
use Rattle.codec.specs.Sets.{within}
use Rattle.codec.proofs.Laws.History.{files_one_history}
use Rattle.codec.proofs.Laws.Records.{index_read, record_empty, record_read, within_ids}

-- strictly ascending ids, each below N
abbrev pub IsSet : ℕ → List ℕ → Type 0
IsSet N ids = within 0 N ids ≡ true

pub record Promise : Type 0 where
  -- a written record reads back, whatever stands behind it
  pub read : (N : ℕ) → bad_colors N ≡ false → (ids rest : List ℕ) → IsSet N ids → read_record N (record_of N ids ++ rest) ≡ found ids rest
  -- the empty set's record is 01 01, whatever N
  pub empty_record : (N : ℕ) → record_of N [] ≡ 0x01 ∷ 0x01 ∷ []
  -- the index made from written records is where each begins, and where the last ends
  pub index : (N : ℕ) → bad_colors N ≡ false → (S : List (List ℕ)) → All (IsSet N) S → index_of (length S) (file_of N S) ≡ entries (bounds (record_of N) 0 S)
  -- the bytes of two files tell which list of sets is the beginning of the other
  pub history : (N : ℕ) → bad_colors N ≡ false → (S T : List (List ℕ)) → All (IsSet N) S → All (IsSet N) T → OneHistory (file_of N S) (file_of N T) S T

limits : (N : ℕ) → bad_colors N ≡ false → (1 ≤ N) × (N ≤ 2 ^ 20)
unfolding bad_colors
limits N e =
    let z : N ≡ 0 → ⊥ = eqb-false N 0 (or_none _ _ e).0 in
    let y : N ≤ 1048576 = ltb-false 1048576 N (or_none (eqb N 0) _ e).1 in
    (omega arith, omega arith)

each_within : (N : ℕ) (S : List (List ℕ)) → All (IsSet N) S → Sets N S
each_within N [] h = tt
each_within N (s ∷ S) h = (within_ids 0 N s h.0, each_within N S h.1)

pub promise : Promise
promise =
    record {
      read = λ N e ids rest s. let l = limits N e in record_read N l.0 l.1 ids rest (within_ids 0 N ids s);
      empty_record = record_empty;
      index = λ N e S h. let l = limits N e in index_read N l.0 l.1 S (each_within N S h);
      history = λ N e S T h k. let l = limits N e in files_one_history N l.0 l.1 S T (each_within N S h) (each_within N T k);
    }
