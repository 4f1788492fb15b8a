-- An add with the next number: its tests, and the set that they measured.
use Rattle.std.specs.Prelude.{ℕ, List, Result, Ok, Err}
use Rattle.base.specs.Answers.{Answer}
use Rattle.base.specs.declared.Refusal.{Refusal}
use Rattle.store.specs.Add.{add_filed, add_test}
use Rattle.store.specs.Numbered.{Test, by_gate, tested}
use Rattle.store.specs.declared.state.Cell.{Cell}

-- what the tests of a set find: a refusal, or the set itself
abbrev pub set_found : ℕ → List ℕ → Test → Result (ℕ × List ℕ) Refusal
set_found N ids (Err r) = Err r
set_found N ids (Ok _) = Ok (N, ids)

-- the answer, the cell, the record file and the index, once the number is known to be the next
abbrev pub add_next : ℕ → Cell → ℕ → List ℕ → (file index : List ℕ) → Answer × Cell × List ℕ × List ℕ
add_next N c i ids file index = by_gate (tested (add_test N c ids)) (λ a. (a, c, file, index)) (add_filed N c i ids file index)
