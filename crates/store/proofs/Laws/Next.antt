-- A call with the next number, by its own tests: it is neither out of sequence nor a repeat. What its number, and the one before it, are told once it is accepted.
use Prim.Native.Nat.{ℕ, ◌+◌}
use mathlib.Core.List.{[], ◌∷◌}
use mathlib.Core.Path.{◌≡◌, refl, ap, ◌∙◌, sym}
use mathlib.Core.Bool.{Bool, true, false}
use mathlib.Core.Option.{some}
use native.Mathlib.Omega.{arith}
use lib.Dec.{eqb}
use borrow.Author.Tests.{eq-eqb, ne_eqb}
use Rattle.base.specs.Answers.{done, refused}
use Rattle.base.specs.Tests.{◌when◌else◌}
use Rattle.base.proofs.Bools.{or_right}
use Rattle.store.specs.Demand.{Seen, as_seen, out_of, seen, sent, store_step, updating}
use Rattle.store.specs.Plain.{Plain, Reply, Update, Verdict, accept, accepted, again, answer, effect, equal_updates, plain_step, plain_update, refusal, refuse, repeat, tests, verdict}
use Rattle.store.specs.WhileOpen.{next_call}
use Rattle.store.specs.State.{Bufs}
use Rattle.store.specs.declared.state.Store.{Store}
use Rattle.store.proofs.Laws.Accepted.{tests_not_repeat}
use Rattle.store.proofs.Laws.Rep.{Rep}
use Rattle.store.proofs.Laws.Trace.{step_ok}

pub next_number : (p : Plain) (u : Update) → verdict p (p.cell.last + 1) u ≡ tests p u
unfolding verdict ◌when◌else◌
next_number p u =
    let z : p.cell.last + 1 ≡ 0 → ⊥ = λ e. omega arith in
    let n : p.cell.last + 1 ≡ p.cell.last → ⊥ = λ e. omega arith in
    rw (ne_eqb _ _ z, ne_eqb _ _ n, eq-eqb (p.cell.last + 1) _ refl)

-- what it is told where its tests found nothing
pub next_goes : (p : Plain) (u : Update) → tests p u ≡ accept → plain_step p (sent (next_call p u)) ≡ (answer (effect p u).0, accepted p (p.cell.last + 1) u (effect p u))
unfolding plain_step plain_update sent
next_goes p u e = rw (next_number p u, e)

-- what it is told by two tests
pub two_tests : (j k : ℕ) (s t : Bool) (p : Plain) (i : ℕ) (u : Update)
    → (plain_update (◌when◌else◌ (refuse j) s (◌when◌else◌ (refuse k) t accept)) p i u).0 ≡ ◌when◌else◌ (refusal j) s (◌when◌else◌ (refusal k) t (answer (effect p u).0))
unfolding plain_update ◌when◌else◌
two_tests j k true t p i u = refl
two_tests j k false true p i u = refl
two_tests j k false false p i u = refl

-- a refusal that it is told is one of its tests
pub refused_by : (p : Plain) (u : Update) (k : ℕ) → (as_seen (plain_step p (sent (next_call p u))).0 []).answer ≡ refused k → tests p u ≡ refuse k
unfolding plain_step plain_update sent as_seen
refused_by p u k e = go (tests p u) refl (rw (next_number p u) at e)
  where
    go : (v : Verdict) → tests p u ≡ v → (as_seen (plain_update v p (p.cell.last + 1) u).0 []).answer ≡ refused k → tests p u ≡ refuse k
    go (refuse n) q e = let z : n ≡ k = cc in q ∙ ap refuse z
    go (repeat b) q e = let z : ◌≡◌ {A = ℕ} 0 1 = cc in absurd (omega arith)
    go accept q e = let z : ◌≡◌ {A = ℕ} 0 1 = cc in absurd (omega arith)

-- and they found nothing where it is answered
pub answered : (p : Plain) (u : Update) (a : ℕ) → as_seen (plain_step p (sent (next_call p u))).0 [] ≡ seen (done (a ∷ [])) [] → (tests p u ≡ accept) × ((effect p u).0 ≡ a)
unfolding plain_step plain_update sent as_seen
answered p u a e = go (tests p u) refl (rw (next_number p u) at e)
  where
    go : (v : Verdict) → tests p u ≡ v → as_seen (plain_update v p (p.cell.last + 1) u).0 [] ≡ seen (done (a ∷ [])) [] → (tests p u ≡ accept) × ((effect p u).0 ≡ a)
    go (refuse n) q e =
        let x : refused n ≡ done (a ∷ []) = ap (λ (x : Seen). x.answer) e in
        let z : ◌≡◌ {A = ℕ} 0 1 = cc in absurd (omega arith)
    go (repeat b) q e = absurd (tests_not_repeat p u b q)
    go accept q e =
        let x : done ((effect p u).0 ∷ []) ≡ done (a ∷ []) = ap (λ (x : Seen). x.answer) e in
        (q, cc)

-- ---- once it is accepted

module _ (p : Plain) (u : Update) where
  -- what it leaves
  abbrev pub after_next : Plain
  after_next = accepted p (p.cell.last + 1) u (effect p u)

  -- under its number what was sent is compared with it
  under_number : (v : Update) → verdict after_next (p.cell.last + 1) v ≡ again (some (u, (effect p u).0)) v
  unfolding verdict accepted ◌when◌else◌
  under_number v =
      let z : p.cell.last + 1 ≡ 0 → ⊥ = λ e. omega arith in
      rw (ne_eqb _ _ z, eq-eqb (p.cell.last + 1) _ refl)

  -- it is a repeat
  told_again : equal_updates u u ≡ true → (plain_step after_next (sent (next_call p u))).0 ≡ answer (effect p u).0
  unfolding plain_step plain_update sent again ◌when◌else◌
  told_again e = rw (under_number u, e)

  -- or it is another call, or has other arguments
  told_other : (v : Update) → equal_updates u v ≡ false → (plain_step after_next (sent (next_call p v))).0 ≡ refusal 11
  unfolding plain_step plain_update sent again ◌when◌else◌
  told_other v e = rw (under_number v, e)

  -- and the number before it is neither the last nor the next
  told_late : (v : Update) → (plain_step after_next (sent (updating p.cell.last v))).0 ≡ refusal 10
  unfolding plain_step plain_update sent verdict accepted ◌when◌else◌
  told_late v =
      let m : p.cell.last ≡ p.cell.last + 1 → ⊥ = λ e. omega arith in
      let n : p.cell.last ≡ p.cell.last + 1 + 1 → ⊥ = λ e. omega arith in
      rw (ne_eqb _ _ m, ne_eqb _ _ n, or_right (eqb p.cell.last 0) true refl)

-- the same of the store over its buffers
module _ {p : Plain} {s : Store} {b : Bufs} (r : Rep p s b) (u : Update) (goes : tests p u ≡ accept) where
  abbrev s' : Store
  s' = (store_step s b (next_call p u)).1

  abbrev b' : Bufs
  b' = (store_step s b (next_call p u)).2

  pub next_rep : Rep (after_next p u) s' b'
  next_rep = rw (next_goes p u goes) at (step_ok r (next_call p u)).rep

  pub sent_again : equal_updates u u ≡ true → (store_step s' b' (next_call p u)).0 ≡ (store_step s b (next_call p u)).0
  unfolding out_of
  sent_again e =
      (step_ok next_rep (next_call p u)).same ∙ ap (λ (x : Reply). as_seen x []) (told_again p u e ∙ sym (ap (λ (x : Reply × Plain). x.0) (next_goes p u goes)))
      ∙ sym (step_ok r (next_call p u)).same

  pub sent_other : (v : Update) → equal_updates u v ≡ false → (store_step s' b' (next_call p v)).0 ≡ seen (refused 11) []
  unfolding as_seen out_of
  sent_other v e = (step_ok next_rep (next_call p v)).same ∙ rw (told_other p u v e) refl

  pub sent_late : (v : Update) → (store_step s' b' (updating p.cell.last v)).0 ≡ seen (refused 10) []
  unfolding as_seen out_of
  sent_late v = (step_ok next_rep (updating p.cell.last v)).same ∙ rw (told_late p u v) refl
