-- `prefix::varint_len` meets its contract.
use mathlib.Core.Path.{refl}
use native.Mathlib.Omega.{arith}
use Rattle.codec.proofs.Laws.Varints.{prefix_size}
use Rattle.codec.proofs.prefix.varint_len.Goals as goal

pub returns-in-0-to-127 : goal.returns-in-0-to-127
returns-in-0-to-127 c = (prefix_size 0 4 c.args.n refl (omega arith) (omega arith), omega arith)

pub returns-in-0-to-16383 : goal.returns-in-0-to-16383
returns-in-0-to-16383 c = (prefix_size 1 3 c.args.n refl (omega arith) (omega arith), omega arith)

pub returns-in-0-to-2097151 : goal.returns-in-0-to-2097151
returns-in-0-to-2097151 c = (prefix_size 2 2 c.args.n refl (omega arith) (omega arith), omega arith)

pub returns-in-0-to-268435455 : goal.returns-in-0-to-268435455
returns-in-0-to-268435455 c = (prefix_size 3 1 c.args.n refl (omega arith) (omega arith), omega arith)

pub returns-in_default : goal.returns-in_default
returns-in_default c = (prefix_size 4 0 c.args.n refl (omega arith) (omega arith), omega arith)
