-- `bits::BitWriter::finish` meets its contract.
use Prim.Native.Nat.{◌+◌}
use mathlib.Core.Path.{◌≡◌, sym, ap, ◌∙◌}
use native.Mathlib.Omega.{arith}
use lib.ListN.{take, length}
use lib.Seq.{length-take-le}
use Rattle.codec.specs.Bits.{pack_bits}
use Rattle.codec.specs.Inside.Writers.{stream_of}
use Rattle.codec.proofs.Laws.Bits.{packed_end}
use Rattle.codec.proofs.bits.BitWriter.finish.Goals as goal

pub returns-clause-packed : goal.returns-clause-packed
returns-clause-packed c =
    let w = c.args.self.now in
    let n = c.div_ceil-len.result in
    let put = c.put_low_bytes.ensures in
    let new = c.put_low_bytes.new.out in
    let p : pack_bits (stream_of w) ≡ take (w.at + n) new = packed_end w.out.now new w.at n w.acc w.pending put c.requires.1 w.low (omega (arith, c.div_ceil-len.ensures)) (omega (arith, c.div_ceil-len.ensures)) in
    (sym (length-take-le (w.at + n) new (omega (arith, put.size, c.div_ceil-len.ensures))) ∙ ap length (sym p), sym p, put.size)
