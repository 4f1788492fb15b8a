-- `shell::numbers::number_to` meets its contract.
use Rattle.std.proofs.Common.{rules, arith}
use Rattle.shell.proofs.Laws.Numbers.{number_none, number_start, number_bad, number_large, number_next, number_end}
use Rattle.shell.proofs.numbers.number_to.Goals as goal

pub returns-then-is_empty-clause-said : goal.returns-then-is_empty-clause-said
returns-then-is_empty-clause-said c = number_none _ _ c.if-is_empty.ensures

pub loop-b-init : goal.loop-b-init
loop-b-init c = record { small = omega arith; same = number_start _ _ c.if-is_empty.ensures }

pub returns-in_err-digit-clause-said : goal.returns-in_err-digit-clause-said
returns-in_err-digit-clause-said c = search (rules, number_bad)

pub returns-then-most-value-clause-said : goal.returns-then-most-value-clause-said
returns-then-most-value-clause-said c = number_large _ _ _ _ c.loop-b.invariant.same c.loop-b-test.true _ c.digit_of.ensures.said _ c.in_ok-digit.ensures.ok_part _ c.from.ensures c.if-most-value.true

pub loop-b-preserved : goal.loop-b-preserved
loop-b-preserved c = record {
  small = c.if-most-value.false;
  same = number_next _ _ _ _ c.loop-b.invariant.same c.loop-b-test.true _ c.digit_of.ensures.said _ c.in_ok-digit.ensures.ok_part _ c.from.ensures c.if-most-value.false;
}

pub returns-clause-said : goal.returns-clause-said
returns-clause-said c = number_end _ _ _ _ c.loop-b.invariant.same c.loop-b-test.false
