-- Bytes as hexadecimal digits, two a byte, the high one first.
use Rattle.std.specs.Prelude.{ℕ, if◌then◌else◌, ◌+◌, ◌-◌, ◌*◌, ◌/◌, ◌%◌, List, [], ◌∷◌, length, set, leb, Option, Some, None, Result, Ok, Err}
use Rattle.base.specs.Tests.{◌when◌else◌}
use Rattle.shell.specs.Digits.{hex_digit_ascii, between}
use Rattle.shell.specs.declared.reasons.Fault.{Fault}
use Rattle.shell.specs.declared.reasons.Fault.TheVariants.{Hex, Many}

-- '0' to '9', 'A' to 'F' or 'a' to 'f'; none for any other byte
unfoldable pub digit_of : ℕ → Option ℕ
digit_of b =
    if between 48 b 57 then Some (b - 48)
    else (if between 65 b 70 then Some (b - 55)
    else (if between 97 b 102 then Some (b - 87)
    else None))

-- the byte of two digits at place k, and the bytes behind it, which `go` puts
abbrev pub byte_into : Option ℕ → Option ℕ → ℕ → List ℕ → (ℕ → List ℕ → Result ℕ Fault × List ℕ) → Result ℕ Fault × List ℕ
byte_into None low k out go = (Err Hex, out)
byte_into (Some high) None k out go = (Err Hex, out)
byte_into (Some high) (Some low) k out go =
    (Err Many, out) when leb (length out) k else go (k + 1) (set out k (high * 16 + low))

-- the bytes that the digits say, from place k of the output on
unfoldable pub unhex_at : List ℕ → ℕ → List ℕ → Result ℕ Fault × List ℕ
unhex_at [] k out = (Ok k, out)
unhex_at (x ∷ []) k out = (Err Hex, out)
unhex_at (x ∷ y ∷ rest) k out = byte_into (digit_of x) (digit_of y) k out (unhex_at rest)

-- how bytes are printed
unfoldable pub hex_of : List ℕ → List ℕ
hex_of [] = []
hex_of (b ∷ bs) = hex_digit_ascii (b / 16) ∷ hex_digit_ascii (b % 16) ∷ hex_of bs
