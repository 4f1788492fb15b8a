-- `codes::Codeword::then` meets its contract.
use Prim.Native.Nat.{◌+◌, ◌*◌, ◌%◌, ◌^◌, ◌≤◌, ◌<◌}
use mathlib.Core.Path.{◌≡◌, refl}
use native.Mathlib.Nat.{lt_of_lt_of_le}
use native.Mathlib.Omega.{arith}
use lib.Pow.{pow_mono}
use Rattle.codec.specs.declared.codes.Codeword.{Codeword}
use Rattle.codec.proofs.Laws.Low.{low_join}
use Rattle.codec.proofs.Laws.Bits.{joined_lt, shift_fits}
use Rattle.codec.proofs.codes.Codeword.then.Goals as goal

module _ (a b : Codeword) (given : (a.value < 2 ^ a.count) × (b.value < 2 ^ b.count) × (a.count + b.count ≤ 56)) where
  shl : b.value * 2 ^ a.count % 2 ^ 64 ≡ b.value * 2 ^ a.count
  shl = shift_fits a.count b.count b.value given.1 (omega (arith, given.2))

  small : a.value + b.value * 2 ^ a.count % 2 ^ 64 < 2 ^ (a.count + b.count)
  small = rw shl (joined_lt a.count b.count a.value b.value given.0 given.1)

pub overflow_add-result : goal.overflow_add-result
overflow_add-result c = let a = c.args in record { fits = lt_of_lt_of_le (small a.self a.next c.requires) (pow_mono {j = 64} (omega (arith, c.requires.2))) }

pub returns : goal.returns
returns c =
    let a = c.args in
    (record { code = rw (shl a.self a.next c.requires) (low_join a.self.count a.next.count a.self.value a.next.value c.requires.0); small = small a.self a.next c.requires }, refl)
