-- A run as OFFSET:COORDINATE.
use Rattle.std.specs.Prelude.{ℕ, ◌+◌, ◌*◌, List, length, take, drop, ◌==◌, leb, ltb, Result, Ok, Err}
use Rattle.std.specs.List.{position_or_len}
use Rattle.base.specs.Tests.{◌when◌else◌}
use Rattle.shell.specs.declared.numbers.NumberError.{NumberError}
use Rattle.shell.specs.declared.numbers.NumberError.TheVariants.{Bad, Large}
use Rattle.shell.specs.Numbers.{decimal_of}

-- the word of an offset and a coordinate: the low 24 bits, and the 40 bits above them
unfoldable pub pack : ℕ → ℕ → Result ℕ NumberError
pack low high = Err Large when ltb 16777215 low else Err Large when ltb 1099511627775 high else Ok (low + 16777216 * high)

abbrev pub packed : Result ℕ NumberError → Result ℕ NumberError → Result ℕ NumberError
packed (Ok low) (Ok high) = pack low high
packed (Ok low) (Err e) = Err e
packed (Err e) c = Err e

-- what stands before the first ':', and what stands behind it
unfoldable pub halves : ℕ → List ℕ → Result ℕ NumberError
halves k text =
    Err Bad when leb (length text) k else
    packed (decimal_of 16777215 (take k text)) (decimal_of 1099511627775 (drop (k + 1) text))

unfoldable pub pair_of : List ℕ → Result ℕ NumberError
pair_of text = halves (position_or_len (λ b. b == 58) text) text
