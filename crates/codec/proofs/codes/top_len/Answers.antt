-- `codes::top_len` meets its contract, by the table's rule.
use mathlib.Core.Path.{◌∙◌}
use native.Mathlib.Omega.{arith}
use Rattle.codec.proofs.Laws.Tables.{len_is}
use Rattle.codec.proofs.codes.top_len.Goals as goal

pub returns : goal.returns
returns c = let l = len_is c.args.bit (omega arith) in (c.from.ensures ∙ l.0, omega (arith, c.from.ensures, l.1))
