-- `codes::delta_len` meets its contract.
use Prim.Native.Nat.{ℕ, ◌+◌, ◌*◌}
use mathlib.Core.Path.{sym, ap, ◌∙◌}
use native.Mathlib.Omega.{arith}
use Rattle.codec.specs.Codes.{high_bit}
use Rattle.codec.proofs.Laws.Codes.{high_log}
use Rattle.codec.proofs.Laws.Bits.{length_delta, high_lt}
use Rattle.codec.proofs.codes.delta_len.Goals as goal

pub top_len-requires : goal.top_len-requires
top_len-requires c = omega (arith, high_log (c.args.v + 1) c.ilog2.result c.ilog2.ensures.power_le c.ilog2.ensures.next_power_gt, high_lt (c.args.v + 1) 21 (omega arith) (omega arith))

pub returns : goal.returns
returns c =
    let v = c.args.v in
    let b = high_log (v + 1) c.ilog2.result c.ilog2.ensures.power_le c.ilog2.ensures.next_power_gt in
    (c.top_len.ensures.0 ∙ ap (λ (k : ℕ). 2 * high_bit (k + 1) + 1 + k) b ∙ sym (length_delta v), c.top_len.ensures.1)
