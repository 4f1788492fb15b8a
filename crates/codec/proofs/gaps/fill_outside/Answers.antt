use Prim.Native.Nat.{ℕ, ◌≤◌, ◌-◌, ◌+◌, ◌<◌}
use mathlib.Core.Path.{◌≡◌, refl, sym, ap, ◌∙◌, subst}
use mathlib.Core.List.{List, [], ◌∷◌, ◌++◌, append_assoc}
use native.Mathlib.Numerals.{add-one}
use native.Mathlib.Omega.{arith}
use lib.ListN.{length, take, drop, get_or, length-append, length-drop, drop_of_length-le}
use lib.Seq.{drop-cons, length-take-le}
use Rattle.base.specs.Parts.{over}
use Rattle.codec.specs.Sets.{Within, absent}
use Rattle.codec.specs.Inside.Bitmaps.{Front}
use Rattle.codec.specs.Inside.Gaps.{absent_from, numbers}
use Rattle.codec.proofs.Laws.Coded.{head_within}
use Rattle.codec.proofs.Laws.Fronts.{front_none, front_over, front_more, front_all}
use Rattle.codec.proofs.Laws.Gaps.{within_room, length_numbers, absent_run, absent_end, absent_all}
use Rattle.codec.proofs.gaps.fill_outside.Goals as goal

pub loop-id-init : goal.loop-id-init
loop-id-init c =
    (omega arith, refl, c.requires.0, ([], refl, front_none _ c.args.out.now, absent_all c.args.top c.args.others.now))

-- the next of the others: where it lies, and that those behind it leave it room
record Turn (others : List ℕ) (top from i : ℕ) : Type 0 where
  pub low : from ≤ get_or others i 0
  pub below : get_or others i 0 < top
  pub later : Within (get_or others i 0 + 1) top (drop (i + 1) others)
  pub room : get_or others i 0 + length others ≤ top + i

turn_of : (others : List ℕ) (top from i : ℕ) → i < length others → Within from top (drop i others) → Turn others top from i
turn_of others top from i h w =
    let d = head_within others top i from h w in
    record {
      low = d.0;
      below = d.1;
      later = d.2;
      room = omega (arith, length-drop (i + 1) others, within_room (drop (i + 1) others) (get_or others i 0 + 1) top (omega (arith, d.1)) d.2);
    }

pub overflow_sub-count : goal.overflow_sub-count
overflow_sub-count c = omega (arith, within_room c.args.others.now 0 c.args.top (omega arith) c.requires.0)

pub fill_gap-k-requires : goal.fill_gap-k-requires
fill_gap-k-requires c =
    let turn : Turn c.args.others.now c.args.top c.loop-id.from c.loop-id.id-index = turn_of _ _ _ _ c.loop-id-test.true c.loop-id.invariant.2 in
    let t = turn in record { numbers = (t.low, omega (arith, t.below)); places = (omega (arith, t.room, t.low), omega arith) }

pub overflow_add-from : goal.overflow_add-from
overflow_add-from c =
    let turn : Turn c.args.others.now c.args.top c.loop-id.from c.loop-id.id-index = turn_of _ _ _ _ c.loop-id-test.true c.loop-id.invariant.2 in
    omega (arith, turn.below)

pub loop-id-preserved : goal.loop-id-preserved
loop-id-preserved c =
    let turn : Turn c.args.others.now c.args.top c.loop-id.from c.loop-id.id-index = turn_of _ _ _ _ c.loop-id-test.true c.loop-id.invariant.2 in
    let t = turn in
    let v = c.loop-id.invariant.3 in
    let others : List ℕ = c.args.others.now in
    let id : ℕ = get_or others c.loop-id.id-index 0 in
    let new : List ℕ = numbers c.loop-id.from (id - c.loop-id.from) in
    let n : length new ≡ id - c.loop-id.from = length_numbers (id - c.loop-id.from) c.loop-id.from in
    let next : drop c.loop-id.id-index others ≡ id ∷ drop (c.loop-id.id-index + 1) others = drop-cons others c.loop-id.id-index 0 c.loop-id-test.true ∙ ap (λ (m : ℕ). id ∷ drop m others) (sym (add-one c.loop-id.id-index)) in (
      omega (arith, t.below),
      omega (arith, c.fill_gap-k.ensures.0, t.low),
      t.later,
      (
        v.0 ++ new,
        omega (arith, length-append v.0 new, v.1, n, c.fill_gap-k.ensures.0),
        front_more v.0 _ c.args.out.now c.loop-id.out c.loop-id.k new c.fill_gap-k.new.out v.1 v.2 c.fill_gap-k.ensures.1,
        v.3 ∙ ap (λ (y : List ℕ). v.0 ++ absent_from c.loop-id.from (c.args.top - c.loop-id.from) y) next ∙ ap (λ (x : List ℕ). v.0 ++ x) (absent_run c.loop-id.from c.args.top id _ t.low t.below) ∙ sym (append_assoc v.0 new _),
      ),
    )

pub returns : goal.returns
returns c =
    let v = c.loop-id.invariant.3 in
    let e : drop c.loop-id.id-index c.args.others.now ≡ [] = drop_of_length-le c.args.others.now {i = c.loop-id.id-index} (omega arith) in
    let old : List ℕ = c.args.out.now in
    let new : List ℕ = numbers c.loop-id.from (c.args.top - c.loop-id.from) in
    let all : absent c.args.top c.args.others.now ≡ v.0 ++ new =
    v.3 ∙ ap (λ (y : List ℕ). v.0 ++ absent_from c.loop-id.from (c.args.top - c.loop-id.from) y) e ∙ ap (λ (x : List ℕ). v.0 ++ x) (absent_end (c.args.top - c.loop-id.from) c.loop-id.from)
    in
    let k : ℕ = c.args.top - c.loop-id.from in
    let count : ℕ = c.args.top - length c.args.others.now in
    let whole : length (v.0 ++ new) ≡ count = omega (arith, length-append v.0 new, v.1, length_numbers k c.loop-id.from) in
    let last : Front (take c.loop-id.k c.loop-id.out ++ new) count c.loop-id.out c.fill_numbers.new.out =
    subst (Front (take c.loop-id.k c.loop-id.out ++ new) count c.loop-id.out) (sym c.fill_numbers.ensures.1)
    (front_over (take c.loop-id.k c.loop-id.out ++ new) c.loop-id.out count (omega (arith, length-append (take c.loop-id.k c.loop-id.out) new, length-take-le c.loop-id.k c.loop-id.out (omega (arith, v.2.size)), length_numbers k c.loop-id.from)) (omega (arith, v.2.size)))
    in
    front_all (v.0 ++ new) count old c.fill_numbers.new.out whole (front_more v.0 count old c.loop-id.out c.loop-id.k new c.fill_numbers.new.out v.1 v.2 last) ∙ ap (λ (x : List ℕ). over x old) (sym all)
