-- `bitmap::write_map` meets its contract. The loop's invariant: the bits below `base` are written.
use mathlib.Core.Path.{◌≡◌}
use mathlib.Core.Bool.{Bool}
use mathlib.Core.List.{List}
use Rattle.codec.specs.Inside.Writers.{Wrote}
use Rattle.codec.proofs.Laws.Bitmaps.{Mapping}
use Rattle.codec.proofs.bitmap.write_map.Given as goal

abbrev pub invariant-loop-base : goal.invariant-loop-base
invariant-loop-base l = (done : List Bool) × Mapping l.set.colors.n l.set.ids.now l.i l.base done × Wrote l.initial.w l.w done × (l.w.out.ghost_name ≡ l.initial.w.out.ghost_name)
