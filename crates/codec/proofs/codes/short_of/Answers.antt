-- `codes::short_of` meets its contract, by the table's rule.
use mathlib.Core.Path.{sym, subst}
use native.Mathlib.Omega.{arith}
use Rattle.codec.specs.Inside.Writers.{ShortOf}
use Rattle.codec.proofs.Laws.Tables.{short_is}
use Rattle.codec.proofs.codes.short_of.Goals as goal

pub returns : goal.returns
returns c = subst (ShortOf c.args.bit) (sym c.from.ensures) (short_is c.args.bit (omega arith))
