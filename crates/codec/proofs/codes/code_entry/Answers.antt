-- `codes::code_entry` meets its contract: the table is the one that the definitions compute.
use mathlib.Core.Path.{refl}
use Rattle.codec.specs.Bits.{low_bits}
use Rattle.codec.specs.Codes.{gamma, high_bit, high_in}
use Rattle.codec.proofs.Laws.Tables.{alike, entry, code_is}
use Rattle.codec.proofs.codes.code_entry.Goals as goal

pub returns : goal.returns
unfolding entry alike low_bits gamma high_bit high_in
returns c = code_is c.args.w _ refl
