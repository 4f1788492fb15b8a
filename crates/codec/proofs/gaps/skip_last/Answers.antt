use Prim.Native.Nat.{ℕ, ◌+◌, ◌-◌}
use mathlib.Core.Path.{◌≡◌, refl, sym, ap, ◌∙◌, subst}
use mathlib.Core.Logic.{inl, inr}
use native.Mathlib.Omega.{arith}
use lib.ListN.{length, drop, length-drop}
use Rattle.std.specs.Slice.Iter.{iter_rest}
use Rattle.std.specs.Iterator.Adapters.{zip_first, zip_second}
use Rattle.base.proofs.Parts.{tail_is}
use Rattle.codec.specs.Sets.{Within}
use Rattle.codec.specs.Inside.Gaps.{Skipped}
use Rattle.codec.proofs.Laws.Coded.{NextOf, next_of, skipped_one, skipped_all}
use Rattle.codec.proofs.gaps.skip_last.Goals as goal
use Rattle.codec.proofs.gaps.skip_last.Goals.{In-Some}

pub loop-k-init : goal.loop-k-init
loop-k-init c =
    let a = c.args in
    let ids = a.set.ids.now in
    let it = c.into_iter-k-iterator.result in
    let first : zip_first it ≡ record { start = a.low; end = length ids - a.c.i } = cc in
    let second : iter_rest (zip_second it) ≡ drop (a.c.i + a.low) ids = rw c.into_iter-k-iterator.ensures.into_iter_gives (c.zip-k-items.ensures.second.0 ∙ tail_is (a.c.i + a.low) ids) in
    rw (first, second) (record { skipped = c.requires; end = refl; rest = refl })

-- the ids passed, and the id that a turn compares
passed : (c : In-Some) → Skipped c.args.set.colors.n c.args.set.ids.now c.args.c.i c.args.c.from c.in-Some.k
passed c = let h = c.in-Some.ensures.steps in rw h.0.1.1 c.loop-k.invariant.skipped

here : (c : In-Some) → NextOf c.args.set.ids.now (c.args.c.i + c.in-Some.k) c.in-Some.field-0-1.now (iter_rest (zip_second c.next.new.self))
here c = let h = c.in-Some.ensures.steps in rw h.0.1.1 (next_of _ _ _ _ (sym c.loop-k.invariant.rest ∙ h.1))

pub returns-then-id-c : goal.returns-then-id-c
returns-then-id-c c =
    let a = c.args in
    let at = (goal.at.returns-then-id-c c).In-Some in
    (passed at, skipped_all a.set.colors.n a.set.ids.now a.c.i a.c.from c.in-Some.k (passed at) (λ h x. c.if-id-c.true (sym (here at).is ∙ x)))

pub loop-k-preserved : goal.loop-k-preserved
loop-k-preserved c =
    let a = c.args in
    let h = c.in-Some.ensures.steps in
    let at = (goal.at.loop-k-preserved c).In-Some in
    let next = here at in
    let n : (zip_first c.next.new.self).start ≡ c.in-Some.k + 1 = omega (arith, h.0.1.1, h.0.1.2) in
    let m : a.c.i + c.in-Some.k + 1 ≡ a.c.i + (c.in-Some.k + 1) = omega arith in
    rw n (record {
      skipped = skipped_one a.set.colors.n a.set.ids.now a.c.i a.c.from c.in-Some.k (passed at) next.inside (next.is ∙ c.if-id-c.false);
      end = h.0.0 ∙ c.loop-k.invariant.end;
      rest = next.behind ∙ ap (λ (n : ℕ). drop n a.set.ids.now) m;
    })

pub returns : goal.returns
returns c =
    let a = c.args in
    let so = c.loop-k.invariant in
    let k = (zip_first c.loop-k.k-iterator).start in
    let last : k ≡ length a.set.ids.now - a.c.i =
    elim c.in-None.ensures.steps [
      | inl p ↦ omega (arith, so.end, so.skipped.inside, p.1.1)
      | inr p ↦ omega (arith, so.skipped.inside, p.1.0, ap length so.rest, length-drop (a.c.i + k) a.set.ids.now)
    ]
    in
    subst (λ (k : ℕ). Skipped a.set.colors.n a.set.ids.now a.c.i a.c.from k × Within (a.c.from + k + 1) a.set.colors.n (drop (a.c.i + k) a.set.ids.now)) last
    (so.skipped, skipped_all a.set.colors.n a.set.ids.now a.c.i a.c.from k so.skipped (λ h x. omega (arith, last)))
