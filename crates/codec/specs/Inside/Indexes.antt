-- What the functions that make an index say of one record, and of the records passed.
use Rattle.std.specs.Prelude.{ℕ, suc, ◌≤◌, ◌≡◌, Result, Ok, Err, List, [], length, drop}
use Rattle.base.specs.Answers.{Answer, refused, done, number_of}
use Rattle.base.specs.declared.Refusal.{Refusal}
use Rattle.codec.specs.Index.{Indexed, entries, stopped, and_entry, index_from}

-- the index from a place on is that place and the index from the place behind its record; or the record is refused
abbrev pub SteppedAt : List ℕ → ℕ → Result ℕ Refusal → Type 0
SteppedAt bytes at (Ok next) =
    ((count : ℕ) → index_from (suc count) at (drop at bytes) ≡ and_entry at (index_from count next (drop next bytes))) × (next ≤ length bytes)
SteppedAt bytes at (Err r) = ((count : ℕ) → index_from (suc count) at (drop at bytes) ≡ stopped (number_of r))

-- what an index answers, without its entries
abbrev pub outcome : Indexed → Answer
outcome (entries es) = done []
outcome (stopped n) = refused n

-- the entries, of an index that has them
abbrev pub entries_in : Indexed → List ℕ
entries_in (entries es) = es
entries_in (stopped n) = []
