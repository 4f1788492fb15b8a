use Prim.Native.Nat.{ℕ, ◌+◌, ◌-◌, ◌≤◌, ◌<◌}
use mathlib.Core.Path.{◌≡◌, refl, sym, ap, ◌∙◌}
use mathlib.Core.Logic.{inl, inr}
use mathlib.Core.Bool.{Bool, true, false}
use native.Mathlib.Omega.{arith}
use mir.Val.{bool_byte}
use lib.Dec.{eqb}
use lib.ListN.{length, take, drop, get_or, length-drop}
use lib.Seq.{get_or-drop, length-take-le}
use Rattle.std.proofs.lemmas.List.{get_or-take}
use Rattle.std.specs.Slice.Iter.{iter_rest}
use Rattle.std.specs.Iterator.Adapters.{zip_first, zip_second}
use Rattle.codec.specs.Bits.{digit}
use Rattle.codec.specs.Inside.Gaps.{up_in}
use Rattle.codec.proofs.Laws.Coded.{up_next, next_of}
use Rattle.codec.proofs.gaps.count_up.Goals as goal

-- a Bool as a number
as_digit : (t : Bool) → (bool_byte t ≡ digit t) × (digit t ≤ 1)
as_digit true = (refl, omega arith)
as_digit false = (refl, omega arith)

pub loop-j-init : goal.loop-j-init
unfolding up_in
loop-j-init c =
    let ids = c.args.ids.now in
    let it = c.into_iter-j-iterator.result in
    let first : zip_first it ≡ record { start = 0; end = 8 } = cc in
    let eight : c.args.i + 8 - c.args.i ≡ 8 = omega arith in
    let second : iter_rest (zip_second it) ≡ take 8 (drop c.args.i ids) = rw c.into_iter-j-iterator.ensures.into_iter_gives (c.zip-j-items.ensures.second.0 ∙ ap (λ (n : ℕ). take n (drop c.args.i ids)) eight) in
    rw (first, second) (record { counted = refl; few = omega arith; inside = omega arith; end = refl; rest = refl })

pub loop-j-preserved : goal.loop-j-preserved
loop-j-preserved c =
    let a = c.args in
    let ids = a.ids.now in
    let h = c.in-Some.ensures.steps in
    let so = c.loop-j.invariant in
    let part = take 8 (drop a.i ids) in
    let j = (zip_first c.loop-j.j-iterator).start in
    let next = next_of part j c.in-Some.field-0-1.now _ (sym so.rest ∙ h.1) in
    let here : j < 8 = omega (arith, h.0.1.0, so.end) in
    let is : get_or ids (a.i + j) 0 ≡ c.in-Some.field-0-1.now = sym (get_or-drop a.i ids j 0) ∙ sym (get_or-take 8 (drop a.i ids) j 0 here) ∙ next.is in
    let d = as_digit (eqb (get_or ids (a.i + j) 0) (a.from + j)) in
    let e : c.from-count.result ≡ digit (eqb (get_or ids (a.i + j) 0) (a.from + j)) = rw is (c.from-count.ensures ∙ ap (λ (n : ℕ). bool_byte (eqb c.in-Some.field-0-1.now (a.from + n))) h.0.1.1) ∙ d.0 in
    rw h.0.1.2 (record {
      counted = ap (λ (n : ℕ). n + c.from-count.result) so.counted ∙ ap (λ (n : ℕ). up_in ids a.i a.from j + n) e ∙ up_next ids a.i a.from j;
      few = omega (arith, so.few, e, d.1);
      inside = omega arith;
      end = h.0.0 ∙ so.end;
      rest = next.behind;
    })

pub returns : goal.returns
returns c =
    let a = c.args in
    let so = c.loop-j.invariant in
    let j = (zip_first c.loop-j.j-iterator).start in
    let last : j ≡ 8 =
    elim c.in-None.ensures.steps [
      | inl p ↦ omega (arith, so.end, so.inside, p.1.1)
      | inr p ↦ omega (arith, so.inside, p.1.0, ap length so.rest, length-drop j (take 8 (drop a.i a.ids.now)), length-take-le 8 (drop a.i a.ids.now) (omega (arith, length-drop a.i a.ids.now)))
    ]
    in
    (so.counted ∙ ap (up_in a.ids.now a.i a.from) last, omega (arith, so.few))
