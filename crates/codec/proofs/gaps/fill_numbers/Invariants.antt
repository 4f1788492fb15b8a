-- `gaps::fill_numbers` meets its contract: the places passed hold their numbers, and `id` is the next one.
use Prim.Native.Nat.{◌+◌}
use mathlib.Core.Path.{◌≡◌}
use Rattle.base.specs.Parts.{over}
use Rattle.codec.specs.Inside.Gaps.{numbers}
use Rattle.codec.proofs.gaps.fill_numbers.Given as goal

abbrev pub invariant-loop-place : goal.invariant-loop-place
invariant-loop-place l = (l.id ≡ l.from + l.place-index) × (l.place-items ≡ over (numbers l.from l.place-index) l.initial.place-items)
