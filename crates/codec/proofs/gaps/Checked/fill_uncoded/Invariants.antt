-- `gaps::Checked::fill_uncoded` meets its contract.
use Prim.Native.Nat.{ℕ, ◌≤◌, ◌-◌, ◌+◌}
use mathlib.Core.Path.{◌≡◌}
use mathlib.Core.List.{List, ◌++◌}
use lib.ListN.{length, drop}
use Rattle.base.specs.Parts.{over}
use Rattle.codec.specs.Bits.{bits_of}
use Rattle.codec.specs.Sets.{absent}
use Rattle.codec.specs.Inside.Gaps.{absent_from, ids_in}
use Rattle.codec.specs.Inside.Bodies.{gaps_in}
use Rattle.codec.proofs.Laws.Gaps.{Left}
use Rattle.codec.proofs.gaps.Checked.fill_uncoded.Given as goal

-- the ids left out below `from` are written, and the coded ones from there on are yet to be read
abbrev pub invariant-loop : goal.invariant-loop
invariant-loop l = (l.from ≤ l.self.body.colors.n) × (l.k + l.counter ≡ l.from)
    × ((front : List ℕ) × (ys : List ℕ) × (length front ≡ l.k) × (l.out ≡ over front l.initial.out) × (absent l.self.body.colors.n (ids_in (gaps_in l.self.body)) ≡ front ++ absent_from l.from (l.self.body.colors.n - l.from) ys) × Left l.self.body.count l.counter l.from l.self.body.colors.n (drop l.place (bits_of l.self.body.source.bytes.now)) ys)
