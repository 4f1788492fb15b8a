-- A place or a coordinate, if there is one.
use Rattle.std.specs.Prelude.{ℕ, Option, Some, None}
use Rattle.std.proofs.Math.Option as plain

abbrev pub option_of : Option ℕ → plain.Option ℕ
option_of (Some x) = plain.some x
option_of None = plain.none
