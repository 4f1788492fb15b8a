-- `codes::low_at` meets its contract.
use Prim.Native.Nat.{◌*◌, ◌%◌, ◌^◌, ◌≤◌, ◌<◌}
use mathlib.Core.Path.{◌≡◌}
use native.Mathlib.Nat.{one-mul, mod-eq_of_lt}
use native.Mathlib.Omega.{arith}
use lib.ListN.{length, drop, length-drop}
use lib.Seq.{drop-drop}
use lib.Pow.{pow_pos, pow-lt, pow_mono}
use Rattle.codec.specs.Bits.{bits_of}
use Rattle.codec.proofs.Laws.Low.{length_bits, value_take_lt}
use Rattle.codec.proofs.Laws.Codes.{low_got, low_end, low_large, end_got}
use Rattle.codec.proofs.codes.low_at.Goals as goal

pub returns-then-b-gt20 : goal.returns-then-b-gt20
returns-then-b-gt20 c = λ v rest e. low_large _ v _ rest c.if-b-gt20.true e

pub returns-then-bytes-at : goal.returns-then-bytes-at
returns-then-bytes-at c =
    λ v rest e. end_got (low_end c.args.b (drop c.args.at (bits_of c.args.bytes.now)) (simp (length-drop, length_bits) (omega arith))) e

one_shl : (c : goal.After-bits_at-low) → 1 * 2 ^ c.args.b % 2 ^ 64 ≡ 2 ^ c.args.b
one_shl c = rw one-mul (mod-eq_of_lt (pow-lt {j = 64} (omega arith)))

low_lt : (c : goal.After-bits_at-low) → c.bits_at-low.result < 2 ^ c.args.b
low_lt c =
    rw c.bits_at-low.ensures.0 (value_take_lt (bits_of c.args.bytes.now) c.args.at c.args.b)

pub overflow_add-result : goal.overflow_add-result
overflow_add-result c = omega (arith, one_shl c, low_lt c, pow_mono {i = c.args.b} {j = 20} (omega arith))

pub overflow_sub-result : goal.overflow_sub-result
overflow_sub-result c = omega (arith, one_shl c, pow_pos c.args.b)

pub overflow_cast-result : goal.overflow_cast-result
overflow_cast-result c = omega (arith, one_shl c, low_lt c, pow_mono {i = c.args.b} {j = 20} (omega arith))

pub returns : goal.returns
returns c =
    let at = c.args.at in
    let b = c.args.b in
    let bits = bits_of c.args.bytes.now in
    let room : b ≤ length (drop at bits) = simp (length-drop, length_bits) (omega arith) in
    (rw (low_got b (drop at bits) room, drop-drop b at bits, one_shl c, c.bits_at-low.ensures.0), omega arith)
