use Prim.Native.Nat.{ℕ, ◌-◌, ◌/◌}
use mathlib.Core.Path.{◌≡◌, refl, ap, ◌∙◌}
use native.Mathlib.Omega.{arith}
use lib.ListN.{length, get_or}
use mathlib.Core.List.{List, []}
use Rattle.std.specs.Prelude.{Result, Ok, Err}
use Rattle.base.specs.declared.Refusal.{Refusal}
use Rattle.base.specs.Answers.{code_of}
use Rattle.store.specs.State.{of_answer}
use Rattle.replay.specs.Tape.{head_at, refusal_of, count_of, replay_step}
use Rattle.replay.specs.Inside.{room_by}
use Rattle.replay.proofs.Laws.Heads.{head_in}
use Rattle.replay.proofs.Laws.Turns.{keep_none, lent_zero, lent_next, keep_turn, part_roomy}
use Rattle.replay.proofs.Buffers.all.Goals as goal

-- the number of an answer is what the tape tells of its refusal
code_told : (a : Result ℕ Refusal) → code_of a ≡ refusal_of (of_answer a)
code_told (Ok v) = refl
code_told (Err r) = refl

pub loop-i-init : goal.loop-i-init
loop-i-init c = (
  (refl, refl, refl, refl, refl, refl),
  record {
    inside = omega arith;
    places = lent_zero c.args.calls.now c.args.ids.now c.args.pieces.now c.args.shown.now;
    done = keep_none _ _ c.args.calls.now c.args.ids.now c.args.pieces.now _ _ _;
  },
)

pub one-told-requires : goal.one-told-requires
one-told-requires c = let r = c.room-room.ensures in part_roomy _ _ _ _ r.0 r.1

pub loop-i-preserved : goal.loop-i-preserved
loop-i-preserved c =
    let r = c.room-room.ensures in
    let k = c.loop-i.invariant.0 in
    let v = c.loop-i.invariant.1 in
    let f = c.one-told.ensures.same_references in
    let m = c.loop-i.auto.shown in
    let h : c.from.result ≡ head_at c.args.calls.now c.loop-i.i =
    c.from.ensures ∙ ap (λ (ws : List (List ℕ)). head_at (get_or ws c.loop-i.i []) 0) c.as_chunks.ensures.front ∙ head_in (length c.args.calls.now / 6) c.loop-i.i c.args.calls.now (omega (arith, c.loop-i-test.true, c.min-n.ensures, c.min.ensures)) in
    let w : c.room-room.result ≡ room_by c.from-call.result (length c.args.shown.now - c.loop-i.at) = rw m at r.0 in (
      (f.0 ∙ k.0, f.1 ∙ k.1, f.2 ∙ k.2, f.3 ∙ k.3, f.4 ∙ k.4, f.5 ∙ k.5),
      record {
        inside = omega (arith, r.1, v.inside, m);
        places = lent_next _ _ _ _ c.loop-i.i _ _ _ _ v.inside v.places h c.from-call.ensures w;
        done = rw (c.code_of.ensures, code_told, c.value_of.ensures) (keep_turn _ _ _ _ _ _ _ _ c.loop-i.i _ _ _ _ (omega arith) (omega arith) v.inside v.places h c.from-call.ensures w _ _ _ _ _ _ _ _ _ v.done c.one-told.ensures.step);
      },
    )

pub returns : goal.returns
unfolding replay_step
returns c =
    let q : c.loop-i.i ≡ count_of c.args.calls.now c.args.refusals.now c.args.answers.now = omega (arith, c.loop-i-test.false, c.min-n.ensures, c.min.ensures) in
    record { same_references = c.loop-i.invariant.0; run = rw (← q) c.loop-i.invariant.1.done }
