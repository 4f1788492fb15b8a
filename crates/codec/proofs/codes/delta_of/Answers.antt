-- `codes::delta_of` meets its contract: a gamma code, and as many bits as it says.
use Prim.Native.Nat.{ℕ, ◌+◌, ◌-◌, ◌/◌, ◌%◌, ◌^◌}
use mathlib.Core.Path.{◌≡◌, sym, ap, ◌∙◌, subst}
use native.Mathlib.Omega.{arith}
use lib.Bits.{bit_and, and_mask}
use lib.Pow.{pow_pos}
use Rattle.codec.specs.Bits.{low_bits}
use Rattle.codec.specs.Codes.{delta}
use Rattle.codec.specs.Inside.Windows.{Head}
use Rattle.codec.proofs.Laws.Windows.{delta_of_lem}
use Rattle.codec.proofs.codes.delta_of.Goals as goal
use Rattle.codec.proofs.codes.delta_of.Goals.{Else-entry-eq0}

head : (c : Else-entry-eq0) → Head c.args.w c.code_entry-entry.result
head c = c.code_entry-entry.ensures (omega (arith, c.if-entry-eq0.false))

pub returns-then-entry-eq0 : goal.returns-then-entry-eq0
returns-then-entry-eq0 c = tt

pub returns : goal.returns
returns c =
    let h = head (goal.at.returns c).Else-entry-eq0 in
    let e : ℕ = c.code_entry-entry.result in
    let x : ℕ = c.args.w / 2 ^ (e / 64 % 64) in
    let m : c.from-mask.result ≡ 2 ^ h.b - 1 = c.from-mask.ensures ∙ h.mask in
    let low : bit_and x c.from-mask.result ≡ x % 2 ^ h.b = ap (bit_and x) m ∙ and_mask x h.b in
    let v : ℕ = bit_and x c.from-mask.result + c.from-mask.result in
    let is : v ≡ x % 2 ^ h.b + 2 ^ h.b - 1 = omega (arith, low, m, pow_pos h.b) in
    (subst (λ (k : ℕ). low_bits k c.args.w ≡ delta v) (sym h.count) (delta_of_lem c.args.w (e / 64 % 64) h.b v h.code is), omega (arith, h.count, h.few, h.short))
