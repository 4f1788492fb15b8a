-- Decimal numbers: '0' is 48, '9' is 57.
use Rattle.std.specs.Prelude.{ℕ, ◌+◌, ◌-◌, ◌*◌, List, [], ◌∷◌, ltb, if◌then◌else◌, Option, Some, None, Result, Ok, Err}
use Rattle.base.specs.Tests.{◌when◌else◌}
use Rattle.shell.specs.Digits.{between}
use Rattle.shell.specs.declared.numbers.NumberError.{NumberError}
use Rattle.shell.specs.declared.numbers.NumberError.TheVariants.{Bad, Large}
use Rattle.shell.specs.declared.reasons.Fault.{Fault}
use Rattle.shell.specs.declared.reasons.Fault.TheVariants as fault

-- what a digit says; none for any other byte
unfoldable pub digit_of : ℕ → Option ℕ
digit_of b = if between 48 b 57 then Some (b - 48) else None

-- one digit behind those that gave `v`, and the digits left, which `go` reads
abbrev pub digit_into : ℕ → ℕ → Option ℕ → (ℕ → Result ℕ NumberError) → Result ℕ NumberError
digit_into most v None go = Err Bad
digit_into most v (Some d) go = Err Large when ltb most (v * 10 + d) else go (v * 10 + d)

-- the digits left, behind those that gave `v`
unfoldable pub number_from : ℕ → ℕ → List ℕ → Result ℕ NumberError
number_from most v [] = Ok v
number_from most v (b ∷ bs) = digit_into most v (digit_of b) (λ w. number_from most w bs)

-- the number that a text says, if it is at most `most`
unfoldable pub decimal_of : ℕ → List ℕ → Result ℕ NumberError
decimal_of most [] = Err Bad
decimal_of most (b ∷ bs) = number_from most 0 (b ∷ bs)

-- what is wrong with a line: `bad`, where a word is no number at all
abbrev pub fault_of_number : Fault → NumberError → Fault
fault_of_number bad Bad = bad
fault_of_number bad Large = fault.Large
