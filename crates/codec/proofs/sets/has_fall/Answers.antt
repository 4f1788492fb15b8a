use mathlib.Core.Path.{◌≡◌}
use borrow.Author.Rules.{rules}
use Prim.Native.Nat.{◌-◌}
use lib.ListN.{length, take, drop}
use Rattle.base.proofs.Parts.{tail_is}
use Rattle.std.specs.Slice.Iter.{iter_rest}
use Rattle.std.specs.Iterator.Adapters.{zip_first, zip_second}
use mathlib.Core.Logic.{inl, inr}
use native.Mathlib.Omega.{arith}
use Rattle.codec.proofs.Laws.Ascending.{falling_none, falling_more, falling_end}
use Rattle.codec.proofs.sets.has_fall.Goals as goal

pub loop-before-init : goal.loop-before-init
loop-before-init c =
    let ids = c.args.ids.now in
    let it = c.into_iter-before-iterator.result in
    let first : iter_rest (zip_first it) ≡ ids = cc in
    let second : iter_rest (zip_second it) ≡ take (length ids - 1) (drop 1 ids) = search rules in
    rw (first, second, tail_is 1 ids) (falling_none ids c.requires)

pub loop-before-preserved : goal.loop-before-preserved
loop-before-preserved c =
    let h = c.in-Some.ensures.steps in
    falling_more c.args.ids.now _ _ _ _ _ (rw (h.0, h.1) at c.loop-before.invariant)

pub returns : goal.returns
returns c =
    let so = c.loop-before.invariant in
    elim c.in-None.ensures.steps [
      | inl p ↦ absurd (omega (arith, so.some, p.1.0))
      | inr p ↦ falling_end _ _ _ _ so p.1.0
    ]
