-- `copies::copy_front` meets its contract: so many elements stand in front.
use mathlib.Core.Path.{◌≡◌}
use lib.ListN.{take}
use Rattle.codec.proofs.copies.copy_front.Given as goal

abbrev pub invariant-loop-i : goal.invariant-loop-i
invariant-loop-i g l = take l.i l.out ≡ take l.i l.from
