-- `bits::put_low_bytes` meets its contract.
use Prim.Native.Nat.{ℕ, ◌+◌, ◌-◌}
use mathlib.Core.Path.{◌≡◌, ap, ◌∙◌}
use native.Mathlib.Omega.{arith}
use lib.ListN.{length, take, drop, length-drop}
use lib.Seq.{length-take-le}
use Rattle.codec.specs.Inside.Buffers.{low_bytes}
use Rattle.codec.proofs.Laws.Bits.{low_of, placed}
use Rattle.codec.proofs.bits.put_low_bytes.Goals as goal

pub returns-then-at-out : goal.returns-then-at-out
returns-then-at-out c =
    let a = c.args in
    placed a.out.now c.copy_from_slice.new.self a.at a.len 8 (a.at + 8 - a.at) a.x (omega arith) (omega arith) (omega arith) (c.copy_from_slice.ensures.after ∙ c.to_le_bytes.ensures ∙ low_of 8 a.x (omega arith))

pub returns-else-at-out : goal.returns-else-at-out
returns-else-at-out c =
    let a = c.args in
    let n : a.at + a.len - a.at ≡ a.len = omega arith in
    let room : length (take (a.at + a.len - a.at) (drop a.at a.out.now)) ≡ a.len = length-take-le (a.at + a.len - a.at) (drop a.at a.out.now) (omega (arith, length-drop a.at a.out.now)) ∙ n in
    placed a.out.now c.put_bytes.new.out a.at a.len a.len (a.at + a.len - a.at) a.x n (omega arith) (omega arith) (c.put_bytes.ensures ∙ ap (λ (k : ℕ). low_bytes k a.x) room)
