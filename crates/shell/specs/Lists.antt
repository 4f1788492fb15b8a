-- Numbers and runs from a place of a line to its end.
use Rattle.std.specs.Prelude.{ℕ, zero, suc, ◌+◌, ◌-◌, List, length, take, drop, set, leb, Option, Some, None, Result, Ok, Err}
use Rattle.base.specs.Tests.{◌when◌else◌}
use Rattle.shell.specs.declared.fields.Field.{Field}
use Rattle.shell.specs.declared.numbers.NumberError.{NumberError}
use Rattle.shell.specs.declared.reasons.Fault.{Fault}
use Rattle.shell.specs.declared.reasons.Fault.TheVariants.{Digits, Pair, Many}
use Rattle.shell.specs.declared.lists.Item.{Item}
use Rattle.shell.specs.Fields.{field_at}
use Rattle.shell.specs.Numbers.{decimal_of, fault_of_number}
use Rattle.shell.specs.Pairs.{pair_of}

-- a number, or what is wrong with the line
abbrev pub or_fault : Fault → Result ℕ NumberError → Result ℕ Fault
or_fault bad (Ok v) = Ok v
or_fault bad (Err e) = Err (fault_of_number bad e)

-- the number of 32 bits that a word says
unfoldable pub id_of : List ℕ → Result ℕ Fault
id_of word = or_fault Digits (decimal_of 4294967295 word)

-- the run that a word says
unfoldable pub run_of : List ℕ → Result ℕ Fault
run_of word = or_fault Pair (pair_of word)

abbrev pub item_of : {T : Type 0} → Result T Fault → ℕ → Result (Option (Item T)) Fault
item_of (Ok v) next = Ok (Some (record { value = v; next = next }))
item_of (Err f) next = Err f

-- what a word says, if there is one
abbrev pub word_of : {T : Type 0} → (List ℕ → Result T Fault) → List ℕ → Option Field → Result (Option (Item T)) Fault
word_of said line None = Ok None
word_of said line (Some f) = item_of (said (take (f.end - f.start) (drop f.start line))) f.end

-- what the word that stands next says
unfoldable pub item_at : {T : Type 0} → (List ℕ → Result T Fault) → List ℕ → ℕ → Result (Option (Item T)) Fault
item_at said line at = word_of said line (field_at line at)

-- one word: the end, a fault, or a value for the output
abbrev pub item_into : {T : Type 0} → Result (Option (Item T)) Fault → ℕ → List T → (ℕ → ℕ → List T → Result ℕ Fault × List T) → Result ℕ Fault × List T
item_into (Ok None) k out go = (Ok k, out)
item_into (Err f) k out go = (Err f, out)
item_into (Ok (Some i)) k out go = (Err Many, out) when leb (length out) k else go i.next (k + 1) (set out k i.value)

-- at most `left` words, from place k of the output on; a line has fewer words than bytes
unfoldable pub list_from : {T : Type 0} → (List ℕ → Result T Fault) → ℕ → List ℕ → ℕ → ℕ → List T → Result ℕ Fault × List T
list_from said zero line at k out = (Ok k, out)
list_from said (suc left) line at k out = item_into (item_at said line at) k out (list_from said left line)
