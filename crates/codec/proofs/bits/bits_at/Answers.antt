-- `bits::bits_at` meets its contract: the bits are those of a window.
use Prim.Native.Nat.{◌≤◌}
use mathlib.Core.Path.{sym}
use native.Mathlib.Nat.{mod-lt}
use native.Mathlib.Omega.{arith}
use lib.ListN.{length, drop, length-drop}
use lib.Pow.{pow_pos}
use Rattle.codec.specs.Bits.{bits_of}
use Rattle.codec.proofs.Laws.Low.{length_bits, one_shl}
use Rattle.codec.proofs.Laws.Windows.{window, window_value}
use Rattle.codec.proofs.bits.bits_at.Goals as goal

pub nonzero_rem-result-2 : goal.nonzero_rem-result-2
nonzero_rem-result-2 c = rw (one_shl c.args.b (omega arith)) (pow_pos c.args.b)

pub returns : goal.returns
returns c =
    let bits = bits_of c.args.bytes.now in
    let at = c.args.at in
    let b = c.args.b in
    let w = window c.args.bytes.now at c.window_at.result c.window_at.ensures (omega arith) in
    let are : b ≤ length (drop at bits) = rw (length-drop at bits, length_bits c.args.bytes.now) (omega arith) in
    rw (one_shl b (omega arith)) (sym (window_value (drop at bits) _ b w.0 w.1 (omega arith) are), mod-lt _ (pow_pos b))
