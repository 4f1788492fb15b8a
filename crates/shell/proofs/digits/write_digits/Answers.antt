-- `shell::digits::write_digits` meets its contract.
use Rattle.std.proofs.Common.{arith, ◌∙◌}
use Rattle.shell.proofs.Laws.Digits.{digits_begin, digit_step, digits_end}
use Rattle.shell.proofs.digits.write_digits.Goals as goal

pub loop-i-init : goal.loop-i-init
loop-i-init c = digits_begin c.args.n c.args.out.now

pub loop-i-preserved : goal.loop-i-preserved
loop-i-preserved c = digit_step _ _ _ _ _ c.loop-i-test.true c.loop-i.auto.i (omega arith) c.glyph.ensures ∙ c.loop-i.invariant

pub returns : goal.returns
returns c = digits_end _ _ _ _ _ c.loop-i-test.false c.loop-i.auto.out c.loop-i.invariant
