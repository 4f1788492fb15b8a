-- Laws of a turned cycle's iterator: it gives the runs ahead, no more than there are vertices.
use Prim.Native.Nat.{ℕ, ◌≤◌}
use mathlib.Core.Path.{◌≡◌, refl, sym, subst}
use native.Mathlib.Omega.{arith}
use lib.ListN.{length}
use lib.Seq.{take_all}
use Rattle.std.specs.declared.iter.Take.{Take}
use Rattle.std.specs.Iterator.{YieldsFirst, item_count, at_most, count_min}
use Rattle.std.specs.Iterator.Adapters.{take_source, take_count, take_steps}
use Rattle.std.proofs.lemmas.Iterator.{YieldsList-from_take}
use Rattle.std.proofs.lemmas.Iterator.Consumers.{YieldsList-from_first}
use Rattle.runs.specs.declared.turned.Turned.{Turned}
use Rattle.runs.specs.Inside.Oriented.{list_of}
use Rattle.runs.specs.Inside.Turned.{ahead}
use Rattle.runs.specs.Inside.Yields.{YieldsAll, YieldsUpTo}
use Rattle.runs.proofs.Laws.Reverse.{oriented_steady}
use Rattle.runs.proofs.Laws.Cursor.{ahead_few}

pub gives_ahead : (t : Turned) → YieldsAll (YieldsFirst ahead) t (ahead t)
gives_ahead t = YieldsList-from_first (λ x. x) ahead (ahead t) refl

pub few_ahead : (t : Turned) → length (ahead t) ≤ t.turn.list.n
few_ahead t =
    let list = t.turn.list in
    ahead_few list.n t.turn.pivot (list_of list) t.step t.colour (oriented_steady list.reversed list.n list.runs.now list.taken.small list.taken.list)

-- the same of an iterator that is asked for as many as there are
module _ (s : Take Turned) (t : Turned) (n : ℕ) (source : take_source s ≡ t) (count : take_count s ≡ n) (all : n ≡ length (ahead t)) where
  pub gives_counted : YieldsAll (take_steps (YieldsFirst ahead)) s (ahead t)
  gives_counted =
      subst (YieldsAll (take_steps (YieldsFirst ahead)) s) (take_all n (ahead t) (omega (arith, all)))
      (YieldsList-from_take n (subst (λ (u : Turned). YieldsAll (YieldsFirst ahead) u (ahead t)) (sym source) (gives_ahead t)) count)

  pub yields_counted : {C : Take Turned → Type 0} (m : ℕ) → C s → n ≤ m
      → YieldsUpTo C (take_steps (YieldsFirst ahead)) (λ (u : Take Turned). count_min (at_most (take_count u)) (item_count ahead (take_source u))) s m
  yields_counted m asked few =
      record { asked = asked; ends = (tt, omega (arith, count)); all = ahead t; gives = gives_counted; few = omega (arith, all) }
