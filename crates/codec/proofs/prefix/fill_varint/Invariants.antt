-- `prefix::fill_varint` meets its contract. The groups passed stand in front.
use Prim.Native.Nat.{ℕ}
use mathlib.Core.Path.{◌≡◌}
use mathlib.Core.List.{List}
use Rattle.base.specs.Parts.{over}
use Rattle.codec.proofs.Laws.Varints.{Passed}
use Rattle.codec.proofs.prefix.fill_varint.Given as goal

abbrev pub invariant-loop-group : goal.invariant-loop-group
invariant-loop-group l = (front : List ℕ) × Passed l.n l.group-index l.rest front × (l.out ≡ over front l.initial.out)
