-- One call, and every list of calls: the store's answers are the plain store's.
use Prim.Native.Nat.{ℕ}
use mathlib.Core.Path.{◌≡◌, refl, ap}
use mathlib.Core.List.{List, [], ◌∷◌, map}
use Rattle.base.specs.Answers.{Answer, done}
use Rattle.base.specs.Tests.{◌when◌else◌}
use Rattle.store.specs.Add.{add_cell, add_step, add_test, after_add}
use Rattle.store.specs.Close.{after_close, close_cell, close_step, close_test}
use Rattle.store.specs.Demand.{LentCall, Seen, all_seen, as_seen, out_of, seen, sent, showing, store_run, store_step, store_update, updated, updating, way_of}
use Rattle.store.specs.Join.{after_join, join_cell, join_step, join_test}
use Rattle.store.specs.Numbered.{Test, by_gate, numbered}
use Rattle.store.specs.Plain.{Plain, Reply, Update, Verdict, accept, accepted, add, close, effect, join, plain_run, plain_step, plain_update, refuse, repeat, tests, verdict}
use Rattle.store.specs.State.{Bufs, Outcome}
use Rattle.store.specs.declared.state.Store.{Store}
use Rattle.store.proofs.Laws.Adds.{add_answer, add_kept, add_tests_lem}
use Rattle.store.proofs.Laws.Closes.{close_answer, close_kept, close_tests_lem}
use Rattle.store.proofs.Laws.Gates.{as_verdict, by_verdict_lem, by_verdict, verdict_accept}
use Rattle.store.proofs.Laws.Joins.{join_answer, join_kept, join_tests_lem}
use Rattle.store.proofs.Laws.Rep.{Rep, unaltered}
use Rattle.store.proofs.Laws.Same.{same_update, verdicts_agree}
use Rattle.store.proofs.Laws.Shows.{show_ok}

-- what one call gives on the two sides belongs together
pub record Okay (c : LentCall) (x : Seen × Store × Bufs) (y : Reply × Plain) : Type 0 where
  pub same : x.0 ≡ as_seen y.0 (out_of c)
  pub rep : Rep y.1 x.1 x.2

-- what an accepted call leaves
abbrev Kept : Plain → ℕ → Update → Outcome → Type 0
Kept p i u o = (o.0 ≡ done ((effect p u).0 ∷ [])) × Rep (accepted p i u (effect p u)) o.1 o.2

module _ {p : Plain} {s : Store} {b : Bufs} (r : Rep p s b) where
  -- a numbered call, by what is found of it; `into` puts what a cell's call hands back into the store
  by_found : {R : Type 0} (i : ℕ) (u : Update) (told : Answer → R) (go : R) (into : R → Outcome) → ((a : Answer) → into (told a) ≡ (a, s, b)) → (v : Verdict) → (v ≡ accept → Kept p i u (into go))
      → Okay (updating i u) (updated (into (by_verdict v told go))) (plain_update v p i u)
  unfolding by_verdict plain_update as_seen out_of
  by_found i u told go into t (refuse n) k = rw (t _) (record { same = refl; rep = r })
  by_found i u told go into t (repeat a) k = rw (t _) (record { same = refl; rep = r })
  by_found i u told go into t accept k = record { same = ap (λ (a : Answer). seen a []) (k refl).0; rep = (k refl).1 }

  by_tests : {R : Type 0} (i : ℕ) (u : Update) (g : Test) (told : Answer → R) (go : R) (into : R → Outcome) → ((a : Answer) → into (told a) ≡ (a, s, b)) → as_verdict g ≡ tests p u → (tests p u ≡ accept → Kept p i u (into go))
      → Okay (updating i u) (updated (into (by_gate (numbered s.cell i (same_update s.colors s.cell b.cell u) g) told go))) (plain_update (verdict p i u) p i u)
  by_tests i u g told go into t e k =
      rw (by_verdict_lem (numbered s.cell i (same_update s.colors s.cell b.cell u) g) told go, verdicts_agree r i u g e)
      (by_found i u told go into t (verdict p i u) (λ f. k (verdict_accept p i u f).1))

  update_ok : (i : ℕ) (u : Update) → Okay (updating i u) (updated (store_update s b i u)) (plain_update (verdict p i u) p i u)
  unfolding store_update add_step join_step close_step add_cell join_cell close_cell ◌when◌else◌
  update_ok i (add ids) = rw (unaltered r) (by_tests i (add ids) (add_test s.colors s.cell ids) _ _ (after_add s b) (λ a. refl) (add_tests_lem r ids) (λ e. (add_answer r i ids, add_kept r i ids e)))
  update_ok i (join n reversed piece) =
      rw (unaltered r)
      (by_tests i (join n reversed piece) (join_test s.cell b.cell.opened n reversed piece) _ _ (after_join s b) (λ a. refl) (join_tests_lem r n reversed piece) (λ e. (join_answer r i n reversed piece e, join_kept r i n reversed piece e)))
  update_ok i (close way) =
      rw (unaltered r)
      (by_tests i (close way) (close_test s.cell s.shared b.cell.opened (way_of way)) _ _ (after_close s b) (λ a. refl) (close_tests_lem r way) (λ e. (close_answer r i way, close_kept r i way e)))

  pub step_ok : (c : LentCall) → Okay c (store_step s b c) (plain_step p (sent c))
  unfolding store_step plain_step sent out_of
  step_ok (updating i u) = update_ok i u
  step_ok (showing unitig vertex out) = record { same = show_ok r unitig vertex out; rep = r }

pub record Ran (cs : List LentCall) (x : List Seen × Store × Bufs) (y : List Reply × Plain) : Type 0 where
  pub answers : x.0 ≡ all_seen cs y.0
  pub rep : Rep y.1 x.1 x.2

pub run_ok : {p : Plain} {s : Store} {b : Bufs} → Rep p s b → (cs : List LentCall) → Ran cs (store_run s b cs) (plain_run p (map sent cs))
unfolding store_run plain_run all_seen
run_ok {p = p} {s = s} {b = b} r [] = record { answers = refl; rep = r }
run_ok {p = p} {s = s} {b = b} r (c ∷ cs) =
    let k = step_ok r c in
    let t = run_ok {p = (plain_step p (sent c)).1} {s = (store_step s b c).1} {b = (store_step s b c).2} k.rep cs in
    record { answers = rw (k.same, t.answers); rep = t.rep }
