-- `codes::delta_word` meets its contract: the gamma code of the highest set bit, and the bits below it.
use Prim.Native.Nat.{ℕ, ◌+◌, ◌-◌, ◌*◌, ◌%◌, ◌^◌, ◌≤◌, ◌<◌}
use mathlib.Core.Path.{◌≡◌, sym, ap, ◌∙◌, subst}
use native.Mathlib.Nat.{add-mul}
use native.Mathlib.Omega.{arith}
use lib.Pow.{pow-add}
use Rattle.codec.specs.Bits.{low_bits}
use Rattle.codec.specs.Codes.{high_bit, delta}
use Rattle.codec.specs.Inside.Writers.{ShortOf, CodewordOf}
use Rattle.codec.proofs.Laws.Codes.{high_log}
use Rattle.codec.proofs.Laws.Bits.{delta_low, high_lt, joined_lt, shift_fits}
use Rattle.codec.proofs.codes.delta_word.Goals as goal

bit_lt : (v b m : ℕ) → v + 1 < 2 ^ m → 2 ^ b ≤ v + 1 → v + 1 < 2 * 2 ^ b → b < m
bit_lt v b m h le gt = subst (λ (n : ℕ). n < m) (sym (high_log (v + 1) b le gt)) (high_lt (v + 1) m (omega arith) h)

module _ (v b count short : ℕ) (le : 2 ^ b ≤ v + 1) (gt : v + 1 < 2 * 2 ^ b) (long : (count ≡ 2 * high_bit (b + 1) + 1 + b) × (count ≤ 29)) (of : ShortOf b short) where
  abbrev k : ℕ
  k = 2 * high_bit (b + 1) + 1

  abbrev low : ℕ
  low = v + 1 - 2 ^ b

  sum : low + 2 ^ b ≡ v + 1
  sum = omega (arith, le)

  small : low < 2 ^ b
  small = omega (arith, le, gt)

  more : count - b ≡ k
  more = omega (arith, long.0)

  up : v + 1 < 2 ^ (b + 1)
  up = omega (arith, gt, pow-add 2 b 1)

  parts : (v + 1) * 2 ^ k ≡ low * 2 ^ k + 2 ^ (k + b)
  parts = ap (λ (n : ℕ). n * 2 ^ k) (sym sum) ∙ add-mul low (2 ^ b) (2 ^ k) ∙ ap (λ (n : ℕ). low * 2 ^ k + n) (sym (pow-add 2 b k) ∙ ap (λ (n : ℕ). 2 ^ n) (omega arith))

  shl : (v + 1) * 2 ^ (count - b) % 2 ^ 64 ≡ low * 2 ^ k + 2 ^ (k + b)
  shl = ap (λ (n : ℕ). (v + 1) * 2 ^ n % 2 ^ 64) more ∙ shift_fits k (b + 1) (v + 1) up (omega (arith, long.0, long.1)) ∙ parts

  room : short ≤ (v + 1) * 2 ^ (count - b) % 2 ^ 64
  room = omega (arith, shl, of.sum)

  value : (v + 1) * 2 ^ (count - b) % 2 ^ 64 - short ≡ of.code + low * 2 ^ k
  value = omega (arith, shl, of.sum)

  word : CodewordOf (record { value = (v + 1) * 2 ^ (count - b) % 2 ^ 64 - short; count = count }) (delta v)
  word =
      let all : k + b ≡ count = omega (arith, long.0) in
      record {
        code = rw value (ap (λ (n : ℕ). low_bits n (of.code + low * 2 ^ k)) (sym all) ∙ delta_low v b low k of.code (high_log (v + 1) b le gt) sum small of.small of.is);
        small = rw value (subst (λ (n : ℕ). of.code + low * 2 ^ k < 2 ^ n) all (joined_lt k b of.code low of.small small));
      }

  -- one bit fewer where the number is not the largest
  fewer : v + 1 < 2 ^ 20 → count ≤ 28
  fewer h = omega (arith, long.0, bit_lt v b 20 h le gt, high_lt (b + 1) 5 (omega arith) (omega (arith, bit_lt v b 20 h le gt)))

pub top_len-count-requires : goal.top_len-count-requires
top_len-count-requires c = omega (arith, bit_lt c.args.v c.ilog2-bit.result 21 (omega arith) c.ilog2-bit.ensures.power_le c.ilog2-bit.ensures.next_power_gt)

pub short_of-requires : goal.short_of-requires
short_of-requires c = omega (arith, bit_lt c.args.v c.ilog2-bit.result 21 (omega arith) c.ilog2-bit.ensures.power_le c.ilog2-bit.ensures.next_power_gt)

pub overflow_sub-result-2 : goal.overflow_sub-result-2
overflow_sub-result-2 c = rw c.from.ensures (room c.args.v c.ilog2-bit.result c.top_len-count.result c.short_of.result c.ilog2-bit.ensures.power_le c.ilog2-bit.ensures.next_power_gt c.top_len-count.ensures c.short_of.ensures)

pub returns : goal.returns
returns c =
    let le = c.ilog2-bit.ensures.power_le in
    let gt = c.ilog2-bit.ensures.next_power_gt in
    let long = c.top_len-count.ensures in
    let of = c.short_of.ensures in
    (rw c.from.ensures (word c.args.v c.ilog2-bit.result c.top_len-count.result c.short_of.result le gt long of), long.1, fewer c.args.v c.ilog2-bit.result c.top_len-count.result c.short_of.result le gt long of)
