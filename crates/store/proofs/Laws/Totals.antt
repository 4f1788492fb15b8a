-- The run total of a unitig, closed or open: 1 plus its changes of coordinate.
use Prim.Native.Nat.{ℕ, ◌+◌, ◌≤◌, ◌<◌}
use mathlib.Core.Path.{◌≡◌, ap, ◌∙◌}
use mathlib.Core.Bool.{Bool, true, false}
use mathlib.Core.List.{List, [], ◌∷◌}
use mathlib.Core.Option.{Option, some}
use native.Mathlib.Omega.{arith}
use lib.Dec.{eqb}
use lib.ListN.{length, length-map, take}
use lib.Seq.{length-take-le}
use Rattle.base.specs.Tests.{◌when◌else◌}
use Rattle.runs.specs.Merge.{unless}
use Rattle.runs.specs.Rotate.{changes, firsts, merged, runs_at}
use Rattle.store.specs.Demand.{changes_behind, changes_in}
use Rattle.store.specs.Plain.{Unitig}
use Rattle.store.specs.declared.state.Current.{Current}
use Rattle.store.proofs.Laws.Rep.{Good, OpenRep}
use Rattle.store.proofs.Laws.Rep as rep
use Rattle.store.proofs.Laws.Unitigs.{runs_merged}

changes_count : (c at : ℕ) (cs : List ℕ) → length (changes c at cs) ≡ changes_behind c cs
unfolding changes changes_behind ◌when◌else◌
changes_count c at [] = omega arith
changes_count c at (d ∷ cs) = go (eqb c d) (changes_count d (at + 1) cs)
  where
    go : (t : Bool) → length (changes d (at + 1) cs) ≡ changes_behind d cs → length (unless t at (changes d (at + 1) cs)) ≡ (0 when t else 1) + changes_behind d cs
    go true r = omega arith
    go false r = omega arith

firsts_count : (cs : List ℕ) → 0 < length cs → length (firsts cs) ≡ 1 + changes_in cs
unfolding firsts changes_in
firsts_count [] h = absurd (omega arith)
firsts_count (c ∷ cs) h = omega (arith, changes_count c 1 cs)

pub run_total : {names : ℕ → Type 0} (u : Unitig) → Good names u → length (merged u.coords) ≡ 1 + changes_in u.coords
unfolding merged runs_at
run_total u g = length-map (firsts u.coords) _ ∙ firsts_count u.coords g.vertices

pub open_merged : {names : ℕ → Type 0} {used : ℕ} {current : Option Unitig} {o : Current} {runs : List ℕ} → OpenRep names current o used runs → used ≤ length runs
    → (u : Unitig) → current ≡ some u → (take used runs ≡ merged u.coords) × (used ≡ 1 + changes_in u.coords)
open_merged rep.closed room u e = let z : ◌≡◌ {A = ℕ} 0 1 = cc in absurd (omega arith)
open_merged {used = used} {runs = runs} (rep.opened {u = v} q g t) room u e =
    let z : v ≡ u = cc in
    let m : take used runs ≡ merged v.coords = t ∙ runs_merged v g in
    rw (← z) (m, omega (arith, ap length m, run_total v g, length-take-le used runs room))
