use Prim.Native.Nat.{ℕ, ◌≤◌, ◌-◌, ◌+◌}
use mathlib.Core.Path.{◌≡◌, refl, sym, ap, ◌∙◌}
use mathlib.Core.List.{List, [], ◌++◌, append_assoc}
use native.Mathlib.Omega.{arith}
use lib.ListN.{length, drop}
use Rattle.base.specs.Parts.{over}
use Rattle.codec.specs.Bits.{bits_of}
use Rattle.codec.specs.Sets.{absent, ReadIds}
use Rattle.codec.specs.Inside.Gaps.{absent_from, numbers, ids_in}
use Rattle.codec.proofs.Laws.Filled.{over_none, over_more, long_more}
use Rattle.codec.proofs.Laws.Gaps.{given_is, Turn, left_all, left_turn, left_there, left_none, turn_room, length_numbers, absent_run, absent_end, absent_all}
use Rattle.codec.proofs.gaps.Checked.fill_uncoded.Goals as goal
use Rattle.codec.proofs.gaps.Checked.fill_uncoded.Goals.{In-Some}

pub loop-init : goal.loop-init
loop-init c =
    let a = given_is _ c.args.self.accepted in
    (omega arith, refl, ([], a.0, refl, sym (over_none _), ap (λ (r : ReadIds). absent c.args.self.body.colors.n (ids_in r)) a.2 ∙ absent_all c.args.self.body.colors.n a.0, left_all _ _ _ _ a.1 a.2))

pub returns-in_default : goal.returns-in_default
returns-in_default c =
    left_there _ _ _ _ _ _ c.loop.invariant.2.5 c.loop-test.true c.args.self.body.colors.few c.in_default.ensures

turn_of : (c : goal.In-Some)
    → Turn c.args.self.body.count c.loop.counter c.loop.from c.args.self.body.colors.n c.in-Some.field-0.value
    (drop c.in-Some.field-0.next (bits_of c.args.self.body.source.bytes.now)) c.loop.invariant.2.1
turn_of c =
    left_turn _ _ _ _ _ _ c.loop.invariant.2.5 c.loop-test.true _ _ c.in-Some.ensures.0

pub overflow_add-id : goal.overflow_add-id
overflow_add-id c = omega (arith, (turn_of c).below)

pub fill_numbers-k-requires : goal.fill_numbers-k-requires
fill_numbers-k-requires c =
    let turn = turn_of (goal.at.fill_numbers-k-requires c).In-Some in
    let room : c.loop.from + c.in-Some.field-0.value + c.args.self.body.count ≤ c.args.self.body.colors.n + c.loop.counter = turn_room _ _ _ _ _ _ _ c.loop-test.true turn in
    (omega arith, omega (arith, room))

pub overflow_add-from : goal.overflow_add-from
overflow_add-from c =
    let turn = turn_of (goal.at.overflow_add-from c).In-Some in
    omega (arith, turn.below)

pub loop-preserved : goal.loop-preserved
loop-preserved c =
    let turn = turn_of (goal.at.loop-preserved c).In-Some in
    let room : c.loop.from + c.in-Some.field-0.value + c.args.self.body.count ≤ c.args.self.body.colors.n + c.loop.counter = turn_room _ _ _ _ _ _ _ c.loop-test.true turn in
    let t = turn in
    let v = c.loop.invariant.2 in
    let old : List ℕ = c.args.out.now in
    let id : ℕ = c.loop.from + c.in-Some.field-0.value in
    let new : List ℕ = numbers c.loop.from (id - c.loop.from) in
    let n : length new ≡ id - c.loop.from = length_numbers (id - c.loop.from) c.loop.from in (
      omega (arith, t.below),
      omega (arith, c.fill_numbers-k.ensures.0),
      (
        v.0 ++ new,
        t.tail,
        long_more old c.loop.out _ v.0 new c.loop.k v.2 v.3 c.fill_numbers-k.ensures.1 ∙ omega (arith, n, c.fill_numbers-k.ensures.0),
        over_more old c.loop.out _ v.0 new c.loop.k v.2 v.3 c.fill_numbers-k.ensures.1,
        v.4 ∙ ap (λ (y : List ℕ). v.0 ++ absent_from c.loop.from (c.args.self.body.colors.n - c.loop.from) y) t.are ∙ ap (λ (x : List ℕ). v.0 ++ x) (absent_run c.loop.from c.args.self.body.colors.n id t.tail (omega arith) t.below) ∙ sym (append_assoc v.0 new _),
        t.later,
      ),
    )

pub returns : goal.returns
returns c =
    let v = c.loop.invariant.2 in
    let e : v.1 ≡ [] = left_none _ _ _ _ _ _ v.5 (omega arith) in
    let old : List ℕ = c.args.out.now in
    over_more old c.loop.out _ v.0 _ c.loop.k v.2 v.3 c.fill_numbers.ensures.1
    ∙ ap (λ (x : List ℕ). over x old) (sym (v.4 ∙ ap (λ (y : List ℕ). v.0 ++ absent_from c.loop.from (c.args.self.body.colors.n - c.loop.from) y) e ∙ ap (λ (x : List ℕ). v.0 ++ x) (absent_end (c.args.self.body.colors.n - c.loop.from) c.loop.from)))
