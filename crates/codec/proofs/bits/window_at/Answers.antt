-- `bits::window_at` meets its contract.
use mathlib.Core.Path.{ap}
use native.Mathlib.Omega.{arith}
use lib.ListN.{drop, drop_of_length-le}
use Rattle.codec.specs.Bits.{bits_of, low_bits}
use Rattle.codec.proofs.Laws.Windows.{tail_window, word_window}
use Rattle.codec.proofs.bits.window_at.Goals as goal

pub returns-then-k-bytes : goal.returns-then-k-bytes
returns-then-k-bytes c = word_window _ c.word_at.result _ c.word_at.ensures

pub returns-then-bytes-k : goal.returns-then-bytes-k
unfolding bits_of low_bits
returns-then-bytes-k c =
    let xs = c.args.bytes.now in
    tail_window (bits_of (drop c.args.k xs)) 0 0 (ap bits_of (drop_of_length-le xs {i = c.args.k} (omega arith))) (omega arith) (omega arith)

pub returns : goal.returns
returns c =
    tail_window (bits_of (drop c.args.k c.args.bytes.now)) _ c.tail_at.result c.tail_at.ensures.0 c.tail_at.ensures.1 (omega arith)
