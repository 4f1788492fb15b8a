-- `bits::tail_at` meets its contract.
use Prim.Native.Nat.{◌+◌, ◌*◌, ◌^◌, ◌<◌}
use mathlib.Core.Path.{◌≡◌, refl}
use native.Mathlib.Omega.{arith}
use lib.ListN.{drop, length-drop}
use lib.Seq.{get_or-drop}
use Rattle.std.specs.Slice.Iter.{iter_rest}
use Rattle.std.specs.Iterator.Adapters.{rev_source}
use Rattle.base.proofs.Parts.{tail_is}
use Rattle.codec.proofs.Laws.Windows.{Tail, tail_none, tail_more, tail_fits, tail_end}
use Rattle.codec.proofs.bits.tail_at.Goals as goal

pub loop-byte-init : goal.loop-byte-init
loop-byte-init c =
    let bytes = c.args.bytes.now in
    let e : iter_rest (rev_source c.into_iter-byte-iterator.result) ≡ drop c.args.k bytes = rw (c.into_iter-byte-iterator.ensures.into_iter_gives, c.rev-byte-items.ensures.source, c.iter.ensures.rest, tail_is c.args.k bytes) refl in
    rw e (tail_none (drop c.args.k bytes))

-- what the turn leaves
step : (c : goal.After-from) → Tail (drop c.args.k c.args.bytes.now) (iter_rest (rev_source c.next.new.self)) (c.from.result + 256 * c.loop-byte.value)
step c =
    rw c.from.ensures (tail_more _ _ _ _ (λ i. rw (get_or-drop c.args.k c.args.bytes.now i 0) (c.type_inv.bytes (c.args.k + i)).fits) (rw c.in-Some.ensures.steps at c.loop-byte.invariant))

small : (c : goal.After-from) → c.from.result + 256 * c.loop-byte.value < 2 ^ 64
small c = tail_fits _ _ _ (step c) (omega (arith, length-drop c.args.k c.args.bytes.now))

pub overflow_mul-value : goal.overflow_mul-value
overflow_mul-value c = omega (arith, small c)

pub overflow_add-value : goal.overflow_add-value
overflow_add-value c = omega (arith, small c)

pub loop-byte-preserved : goal.loop-byte-preserved
loop-byte-preserved c = step c

pub returns : goal.returns
returns c =
    let h = c.in-None.ensures.steps in
    rw (← length-drop c.args.k c.args.bytes.now) (tail_end _ _ _ c.loop-byte.invariant h.0)
