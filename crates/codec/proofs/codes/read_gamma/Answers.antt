use Prim.Native.Nat.{ℕ, ◌+◌, ◌-◌, ◌*◌, ◌≤◌, ◌<◌}
use mathlib.Core.Path.{◌≡◌, sym, ap, ◌∙◌, subst}
use mathlib.Core.Bool.{Bool, true, false}
use native.Mathlib.Omega.{arith}
use lib.ListN.{length, drop}
use mathlib.Core.List.{List}
use Rattle.std.specs.Prelude.{Option, Some, None, slice_get}
use Rattle.codec.specs.Bits.{bits_of}
use Rattle.codec.specs.Codes.{read_zeros, read_gamma, read_low, got, end}
use Rattle.codec.proofs.Laws.Low.{length_bits, bit_is, bits_end}
use Rattle.codec.proofs.Laws.Codes.{zeros_more, zeros_stop, zeros_end, end_got, gamma_end, gamma_from}
use Rattle.codec.proofs.Laws.Places.{found_as}
use Rattle.codec.proofs.codes.read_gamma.Goals as goal
use Rattle.codec.proofs.codes.read_gamma.Goals.{in-None, in-Some-true, Joined-bit_at}

-- the zeros so far, and those from a place on
abbrev Sofar : List ℕ → ℕ → ℕ → Type 0
Sofar bytes at place = (at ≤ place) × (read_zeros 0 (drop at (bits_of bytes)) ≡ read_zeros (place - at) (drop place (bits_of bytes)))

-- what the loop yields
abbrev Yields : List ℕ → ℕ → Option ℕ → Type 0
Yields bytes at (Some n) = (read_zeros 0 (drop at (bits_of bytes)) ≡ got n (drop (at + n + 1) (bits_of bytes))) × (at + n < 8 * length bytes)
Yields bytes at None = read_zeros 0 (drop at (bits_of bytes)) ≡ end

module _ (bytes : List ℕ) (at place : ℕ) (sofar : Sofar bytes at place) where
  ended : None ≡ slice_get (bits_of bytes) place → Yields bytes at None
  ended e = sofar.1 ∙ zeros_end (bits_of bytes) (place - at) place (bits_end bytes place e)

  module _ (b : Bool) (is : Some b ≡ slice_get (bits_of bytes) place) where
    inside : place < length (bits_of bytes)
    inside = rw length_bits (bit_is bytes place b is).0

    counted : b ≡ true → Yields bytes at (Some (place - at))
    counted one =
        let next : at + (place - at) + 1 ≡ place + 1 = omega arith in
        (rw next (sofar.1 ∙ zeros_stop (bits_of bytes) (place - at) place inside ((bit_is bytes place b is).1 ∙ one)), omega (arith, inside, length_bits bytes))

    one_more : b ≡ false → Sofar bytes at (place + 1)
    one_more zero =
        let z : place - at + 1 ≡ place + 1 - at = omega arith in
        (omega arith, sofar.1 ∙ zeros_more (bits_of bytes) (place - at) place inside ((bit_is bytes place b is).1 ∙ zero) ∙ ap (λ (n : ℕ). read_zeros n (drop (place + 1) (bits_of bytes))) z)

pub loop-place-init : goal.loop-place-init
loop-place-init c = (omega arith, ap (λ (z : ℕ). read_zeros z (drop c.args.at (bits_of c.args.bytes.now))) (omega arith))

pub overflow_add-place : goal.overflow_add-place
overflow_add-place c = omega (arith, bit_is _ _ _ c.in-Some-false.ensures)

pub loop-place-smaller : goal.loop-place-smaller
loop-place-smaller c = omega (arith, bit_is _ _ _ c.in-Some-false.ensures)

pub loop-place-preserved : goal.loop-place-preserved
loop-place-preserved c = one_more _ _ _ c.loop-place.invariant _ c.in-Some-false.ensures c.in-Some-false.field-0-test

yields : (c : goal.Joined-bit_at) → Yields c.args.bytes.now c.args.at c.match-bit_at.zeros
yields c =
    let yield = Yields c.args.bytes.now c.args.at in
    elim c.match-bit_at.branch [
      | in-None w ↦ subst yield (sym w.zeros-is) (ended _ _ _ c.loop-place.invariant w.in-None.ensures)
      | in-Some-true w ↦ subst yield (sym w.zeros-is) (counted _ _ _ c.loop-place.invariant _ w.in-Some-true.ensures w.in-Some-true.field-0-test)
    ]

-- at what the loop yielded
module _ (c : goal.Joined-bit_at) where
  none : c.match-bit_at.zeros ≡ None → Yields c.args.bytes.now c.args.at None
  none e = subst (Yields c.args.bytes.now c.args.at) e (yields c)

  found : (n : ℕ) → c.match-bit_at.zeros ≡ Some n → Yields c.args.bytes.now c.args.at (Some n)
  found n e = subst (Yields c.args.bytes.now c.args.at) e (yields c)

pub returns-in_err-n : goal.returns-in_err-n
returns-in_err-n c =
    rw c.from_residual.ensures (λ v rest e. end_got (gamma_end _ (none (goal.at.returns-in_err-n c).Joined-bit_at c.in_err-n.was)) e)

pub overflow_add-at : goal.overflow_add-at
overflow_add-at c = omega (arith, (found (goal.at.overflow_add-at c).Joined-bit_at _ c.in_ok-n.was).1)

pub overflow_add-at-2 : goal.overflow_add-at-2
overflow_add-at-2 c = omega (arith, (found (goal.at.overflow_add-at-2 c).Joined-bit_at _ c.in_ok-n.was).1)

pub low_at-requires : goal.low_at-requires
low_at-requires c = omega (arith, (found (goal.at.low_at-requires c).Joined-bit_at _ c.in_ok-n.was).1)

pub returns : goal.returns
returns c =
    let zeros = (found (goal.at.returns c).Joined-bit_at _ c.in_ok-n.was).0 in
    found_as read_gamma (read_low c.in_ok-n.n) c.args.bytes.now c.args.at (c.args.at + c.in_ok-n.n + 1) c.low_at.result (gamma_from _ _ _ zeros) c.low_at.ensures
