-- `bits::BitWriter::push` meets its contract.
use Prim.Native.Nat.{ℕ, ◌+◌, ◌*◌, ◌/◌, ◌%◌, ◌^◌, ◌≤◌, ◌<◌}
use mathlib.Core.Path.{◌≡◌, sym, ap, ◌∙◌, subst}
use mathlib.Core.List.{List, ◌++◌, append_assoc}
use native.Mathlib.Nat.{add_comm, lt_of_lt_of_le}
use native.Mathlib.Omega.{arith}
use lib.ListN.{take}
use lib.Pow.{shr_lt, pow_mono}
use Rattle.codec.specs.Bits.{bits_of, low_bits}
use Rattle.codec.specs.Inside.Buffers.{Placed}
use Rattle.codec.specs.declared.bits.BitWriter.{BitWriter}
use Rattle.codec.proofs.Laws.Low.{length_low, low_add}
use Rattle.codec.proofs.Laws.Bits.{joined_lt, shift_fits, put_bits}
use Rattle.codec.proofs.bits.BitWriter.push.Goals as goal

-- the pending bits with the new ones, as the machine adds them
abbrev sum : BitWriter → ℕ → ℕ
sum w v = w.acc + v * 2 ^ w.pending % 2 ^ 64

module _ (w : BitWriter) (v n : ℕ) (given : (v < 2 ^ n) × (n ≤ 56)) where
  sum-eq : sum w v ≡ w.acc + v * 2 ^ w.pending
  sum-eq = ap (λ (x : ℕ). w.acc + x) (shift_fits w.pending n v given.0 (omega (arith, w.few)))

  sum_lt : sum w v < 2 ^ (w.pending + n)
  sum_lt = rw sum-eq (joined_lt w.pending n w.acc v w.low given.0)

  joined : bits_of (take w.at w.out.now) ++ low_bits (w.pending + n) (sum w v) ≡ (bits_of (take w.at w.out.now) ++ low_bits w.pending w.acc) ++ low_bits n v
  joined = rw sum-eq (put_bits (take w.at w.out.now) w.pending n w.acc v w.low)

  -- whole bytes, and the bits that are left
  abbrev whole : ℕ
  whole = (w.pending + n) / 8

  abbrev left : ℕ
  left = (w.pending + n) % 8

  all : 8 * whole + left ≡ w.pending + n
  all = omega arith

  flushed : (new : List ℕ) → Placed w.out.now new w.at whole (sum w v) → bits_of (take (w.at + whole) new) ++ low_bits left (sum w v / 2 ^ (8 * whole)) ≡ (bits_of (take w.at w.out.now) ++ low_bits w.pending w.acc) ++ low_bits n v
  flushed new put =
      ap (λ (l : List _). l ++ low_bits left (sum w v / 2 ^ (8 * whole))) put.bits ∙ append_assoc (bits_of (take w.at w.out.now)) (low_bits (8 * whole) (sum w v)) (low_bits left (sum w v / 2 ^ (8 * whole)))
      ∙ ap (λ (l : List _). bits_of (take w.at w.out.now) ++ l) (sym (low_add (8 * whole) left (sum w v)) ∙ ap (λ (k : ℕ). low_bits k (sum w v)) all) ∙ joined

  left_lt : sum w v / 2 ^ (8 * whole) < 2 ^ left
  left_lt = shr_lt left (8 * whole) (subst (λ (k : ℕ). sum w v < 2 ^ k) (sym all ∙ add_comm (8 * whole) left) sum_lt)

pub overflow_add-acc : goal.overflow_add-acc
overflow_add-acc c =
    let w = c.args.self.now in
    record { fits = lt_of_lt_of_le (sum_lt w c.args.value c.args.count c.requires.value_bound) (pow_mono {j = 64} (omega (arith, w.few, c.requires.value_bound))) }

pub invariant_of-self : goal.invariant_of-self
invariant_of-self c = record { few = omega arith; low = left_lt c.args.self.now c.args.value c.args.count c.requires.value_bound }

pub returns-clause-wrote : goal.returns-clause-wrote
returns-clause-wrote c =
    let w = c.args.self.now in
    let put = c.put_low_bytes.ensures in
    record {
      stream = flushed w c.args.value c.args.count c.requires.value_bound c.put_low_bytes.new.out put;
      forth = omega arith;
      place = omega (arith, length_low c.args.count c.args.value);
      size = put.size;
      bytes = put.bytes;
    }
