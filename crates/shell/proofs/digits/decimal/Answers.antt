-- `shell::digits::decimal` meets its contract.
use Rattle.shell.proofs.Laws.Digits.{count_fits}
use Rattle.std.proofs.Common.{arith}
use Rattle.shell.proofs.digits.decimal.Goals as goal

pub slice_bounds-write_digits-end : goal.slice_bounds-write_digits-end
slice_bounds-write_digits-end c = omega (arith, count_fits c.args.n c.digit_count-k.result c.digit_count-k.ensures (omega arith))
