-- `gaps::fill_outside` meets its contract.
use Prim.Native.Nat.{ℕ, ◌≤◌, ◌-◌, ◌+◌}
use mathlib.Core.Path.{◌≡◌}
use mathlib.Core.List.{List, ◌++◌}
use lib.ListN.{length, drop}
use Rattle.codec.specs.Sets.{Within, absent}
use Rattle.codec.specs.Inside.Gaps.{absent_from}
use Rattle.codec.specs.Inside.Bitmaps.{Front}
use Rattle.codec.proofs.gaps.fill_outside.Given as goal

-- the ids left out below `from` are written, and the others are above
abbrev pub invariant-loop-id : goal.invariant-loop-id
invariant-loop-id l = (l.from ≤ l.top) × (l.k + l.id-index ≡ l.from) × Within l.from l.top (drop l.id-index l.others)
    × ((front : List ℕ) × (length front ≡ l.k) × Front front l.count l.initial.out l.out × (absent l.top l.others ≡ front ++ absent_from l.from (l.top - l.from) (drop l.id-index l.others)))
