-- `gaps::skip_present` meets its contract. The loop's invariant: eight ids for each turn go up by one.
use Prim.Native.Nat.{◌*◌}
use Rattle.codec.specs.Inside.Gaps.{Skipped}
use Rattle.codec.proofs.gaps.skip_present.Given as goal

abbrev pub invariant-loop-eight : goal.invariant-loop-eight
invariant-loop-eight l = Skipped l.set.colors.n l.set.ids.now l.c.i l.c.from (8 * l.eight)
