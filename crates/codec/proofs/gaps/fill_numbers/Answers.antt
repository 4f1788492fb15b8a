use Prim.Native.Nat.{ℕ, ◌≤◌, ◌-◌, ◌<◌, ◌+◌}
use mathlib.Core.Path.{◌≡◌, refl, sym, ap, ◌∙◌}
use mathlib.Core.List.{List, ◌++◌}
use native.Mathlib.Omega.{arith}
use borrow.Rule.Slice.PartMut.{put_mid}
use lib.ListN.{length, take, drop, set, length-drop}
use lib.Seq.{length-take-le}
use Rattle.base.specs.Parts.{over}
use Rattle.codec.specs.Inside.Gaps.{numbers}
use Rattle.codec.proofs.Laws.Filled.{over_none, over_set, over_mid, over_all}
use Rattle.codec.proofs.Laws.Gaps.{length_numbers, numbers_more}
use Rattle.codec.proofs.gaps.fill_numbers.Goals as goal

none_yet : (old : List ℕ) (from : ℕ) → old ≡ over (numbers from 0) old
unfolding numbers
none_yet old from = sym (over_none old)

one_more : (out old : List ℕ) (from j : ℕ) → j < length old → out ≡ over (numbers from j) old → set out j (from + j) ≡ over (numbers from (j + 1)) old
one_more out old from j h e =
    ap (λ (l : List ℕ). set l j (from + j)) e ∙ over_set (numbers from j) old j (from + j) (length_numbers j from) h
    ∙ ap (λ (l : List ℕ). over l old) (numbers_more j from)

-- at the last place all are written
all : (out part now : List ℕ) (from k m n j : ℕ) → k ≤ length out → n ≡ m → length part ≡ m → j ≡ m → now ≡ over (numbers from j) part → put_mid k n out now ≡ over (take k out ++ numbers from m) out
all out part now from k m n j h e l s so =
    let is : now ≡ numbers from m = so ∙ ap (λ (i : ℕ). over (numbers from i) part) s ∙ over_all (numbers from m) part (length_numbers m from ∙ sym l) in
    over_mid out k h n now (ap length is ∙ length_numbers m from ∙ sym e) ∙ ap (λ (ys : List ℕ). over (take k out ++ ys) out) is

pub loop-place-init : goal.loop-place-init
loop-place-init c = (omega arith, none_yet _ c.args.from)

pub loop-place-preserved : goal.loop-place-preserved
loop-place-preserved c =
    let i = c.loop-place.invariant in
    (omega (arith, i.0), ap (λ (x : ℕ). set c.loop-place.place-items c.loop-place.place-index x) i.0 ∙ one_more c.loop-place.place-items _ c.args.from c.loop-place.place-index c.loop-place-test.true i.1)

pub returns : goal.returns
returns c =
    let out = c.args.out.now in
    let k = c.args.k in
    let m : ℕ = c.args.to - c.args.from in
    let n : k + m - k ≡ m = omega arith in
    let long : length (take (k + m - k) (drop k out)) ≡ m = length-take-le (k + m - k) (drop k out) (omega (arith, length-drop k out)) ∙ n in
    (refl, all out _ c.loop-place.place-items c.args.from k m (k + m - k) c.loop-place.place-index (omega arith) n long (omega (arith, long, c.loop-place-test.false)) c.loop-place.invariant.1)
