-- "What each operation turns down" of 01: numbered calls after 15. 10, 11 and repeats, then the tests of the call itself.
use Rattle.std.specs.Prelude.{ℕ, ◌+◌, Bool, [], ◌∷◌, eqb, Option, Some, None, Result, Ok, Err}
use Rattle.base.specs.Answers.{Answer, done, number_of, refused}
use Rattle.base.specs.Tests.{◌when◌else◌}
use Rattle.base.specs.declared.Refusal.{Refusal}
use Rattle.base.specs.declared.Refusal.TheVariants.{Arguments, Number}
use Rattle.store.specs.declared.numbered.Sequence.{Sequence}
use Rattle.store.specs.declared.numbered.Sequence.TheVariants.{New, Repeat}
use Rattle.store.specs.declared.state.Cell.{Cell}

-- what the tests of a call itself find: a refusal, or nothing
abbrev pub Test : Type 0
Test = Result (Unit {0}) Refusal

-- what is found of a numbered call: a refusal, the answer of the call that it repeats, or that it may go
abbrev pub Gate : Type 0
Gate = Result (Option ℕ) Refusal

-- where a number stands to the last accepted one; 10, neither it nor the next, or 0
unfoldable pub sequence_of : ℕ → ℕ → Result Sequence Refusal
sequence_of last i =
    Err Number when eqb i 0 else
    Ok Repeat when eqb i last else
    Ok New when eqb i (last + 1) else
    Err Number

-- the last number: its answer again for the same call with the same arguments, otherwise 11
unfoldable pub repeated : Bool → ℕ → Gate
repeated same answer = Ok (Some answer) when same else Err Arguments

-- a new call goes where its tests find nothing
unfoldable pub tested : Test → Gate
tested (Err r) = Err r
tested (Ok _) = Ok None

-- 10 is told, and a repeat is answered, before all that follows
unfoldable pub by_sequence : Result Sequence Refusal → Gate → Test → Gate
by_sequence (Err r) again new = Err r
by_sequence (Ok Repeat) again new = again
by_sequence (Ok New) again new = tested new

-- whether the last call was this one, and the tests of the call itself
unfoldable pub numbered : Cell → ℕ → Bool → Test → Gate
numbered c i same tests = by_sequence (sequence_of c.number i) (repeated same c.answer) tests

-- what a gate says where it does not let the call go: `told` is the answer beside what was there
unfoldable pub by_gate : {R : Type 0} → Gate → (told : Answer → R) → (go : R) → R
by_gate (Err r) told go = told (refused (number_of r))
by_gate (Ok (Some a)) told go = told (done (a ∷ []))
by_gate (Ok None) told go = go
