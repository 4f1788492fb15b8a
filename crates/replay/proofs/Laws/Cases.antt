-- The cases of one call, as `search` looks for them, and a session's claim.
use Prim.Native.Nat.{ℕ}
use mathlib.Core.Path.{◌≡◌, sym, ap, ◌∙◌}
use mathlib.Core.Bool.{Bool, true, false}
use mathlib.Core.List.{List, [], ◌∷◌}
use native.Mathlib.Omega.{arith}
use lib.ListN.{length}
use Rattle.base.specs.Tests.{◌when◌else◌}
use Rattle.base.specs.Answers.{Answer, refused, done, number_of}
use Rattle.base.specs.declared.Refusal.{Refusal}
use Rattle.store.specs.Plain.{Update, add, join, close, line, cycle}
use Rattle.store.specs.State.{Bufs, lengths_of, Outcome}
use Rattle.store.specs.Start.{start_step, bad_limits, bad_lengths, fresh, no_store, zeroed}
use Rattle.store.specs.Add.{add_step}
use Rattle.store.specs.Join.{join_step}
use Rattle.store.specs.Close.{close_step}
use Rattle.store.specs.Show.{show_step, with_state}
use Rattle.store.specs.Demand.{LentCall, Seen, seen, updating, updated, store_update, store_step, way_of}
use Rattle.store.specs.declared.state.Store.{Store}
use Rattle.store.specs.declared.state.Way.{Way}
use Rattle.store.specs.declared.state.Way.TheVariants.{Line, Cycle}
use Rattle.store.proofs.Laws.Proved.{demand_3}
use Rattle.replay.specs.declared.Call.{Call}
use Rattle.replay.specs.declared.Call.TheVariants as call
use Rattle.replay.specs.Tape.{part, tape, replay_step, calls_to, count_of, Replayed}
use Rattle.replay.specs.Inside.{lent_by, room_by}

-- ---- one call

module _ (s : Store) (b : Bufs) (c : LentCall) (o : Outcome) where
  -- an update is lent no places
  pub updated_is : (i : ℕ) (u : Update) (out : List ℕ) → c ≡ updating i u → 0 ≡ length out → o ≡ store_update s b i u → ◌≡◌ {A = Seen × Store × Bufs} (seen o.0 out, o.1, o.2) (store_step s b c)
  unfolding store_step
  updated_is i u [] q z e = ap (λ (x : Outcome). updated x) e ∙ ap (λ (d : LentCall). store_step s b d) (sym q)
  updated_is i u (y ∷ ys) q z e = let w : ◌≡◌ {A = ℕ} 0 1 = cc in absurd (omega arith)

module _ (s : Store) (b : Bufs) (c : Call) (ids pieces out : List ℕ) where
  module _ (r : room_by c (length out) ≡ length out) (o : Outcome) where
    pub one_add : (i from count : ℕ) (set : List ℕ) → c ≡ call.Add i from count → set ≡ part ids from count → o ≡ add_step s b i set → ◌≡◌ {A = Seen × Store × Bufs} (seen o.0 out, o.1, o.2) (store_step s b (lent_by c ids pieces out))
    unfolding lent_by room_by store_update
    one_add i from count set q p e =
        updated_is s b (lent_by c ids pieces out) o i (add (part ids from count)) out (ap (λ (d : Call). lent_by d ids pieces out) q) (rw q at r) (e ∙ ap (λ (l : List ℕ). add_step s b i l) p)

    pub one_join : (i n : ℕ) (back : Bool) (from count : ℕ) (piece : List ℕ) → c ≡ call.Join i n back from count → piece ≡ part pieces from count → o ≡ join_step s b i n back piece
        → ◌≡◌ {A = Seen × Store × Bufs} (seen o.0 out, o.1, o.2) (store_step s b (lent_by c ids pieces out))
    unfolding lent_by room_by store_update
    one_join i n back from count piece q p e =
        updated_is s b (lent_by c ids pieces out) o i (join n back (part pieces from count)) out (ap (λ (d : Call). lent_by d ids pieces out) q) (rw q at r) (e ∙ ap (λ (l : List ℕ). join_step s b i n back l) p)

    pub one_close : (i : ℕ) (w : Way) → c ≡ call.Close i w → o ≡ close_step s b i w → ◌≡◌ {A = Seen × Store × Bufs} (seen o.0 out, o.1, o.2) (store_step s b (lent_by c ids pieces out))
    unfolding lent_by room_by store_update way_of
    one_close i Line q e = updated_is s b (lent_by c ids pieces out) o i (close line) out (ap (λ (d : Call). lent_by d ids pieces out) q) (rw q at r) e
    one_close i (Cycle pivot) q e = updated_is s b (lent_by c ids pieces out) o i (close (cycle pivot)) out (ap (λ (d : Call). lent_by d ids pieces out) q) (rw q at r) e

  pub one_show : (u v count : ℕ) (a : Answer) (t : Store) (out' : List ℕ) → c ≡ call.Show u v count → ◌≡◌ {A = Answer × Store × List ℕ} (a, t, out') (with_state s (show_step s b u v out))
      → ◌≡◌ {A = Seen × Store × Bufs} (seen a out', t, b) (store_step s b (lent_by c ids pieces out))
  unfolding lent_by store_step
  one_show u v count a t out' q e =
      ap (λ (x : Answer × Store × List ℕ). (seen x.0 x.2, x.1, b)) e ∙ ap (λ (d : Call). store_step s b (lent_by d ids pieces out)) (sym q)

-- ---- a session

start_by : (t u : Bool) (N W : ℕ) (b b' : Bufs) (n : ℕ) (s s₀ : Store) → ◌≡◌ {A = Outcome} (refused n, s₀, b') (◌when◌else◌ (refused 1, no_store, b) t (◌when◌else◌ (refused 3, no_store, b) u (done [], s, zeroed b))) → b' ≡ b
unfolding ◌when◌else◌
start_by true u N W b b' n s s₀ e = ap (λ (x : Outcome). x.2) e
start_by false true N W b b' n s s₀ e = ap (λ (x : Outcome). x.2) e
start_by false false N W b b' n s s₀ e =
    let q : refused n ≡ done [] = ap (λ (x : Outcome). x.0) e in
    let z : ◌≡◌ {A = ℕ} 0 1 = cc in absurd (omega arith)

pub start_kept : (s : Store) (r : Refusal) (N W : ℕ) (b b' : Bufs) → ◌≡◌ {A = Outcome} (refused (number_of r), s, b') (start_step N W b) → (start_step N W b ≡ (refused (number_of r), s, b)) × (b' ≡ b)
unfolding start_step
start_kept s r N W b b' k =
    let q : b' ≡ b = start_by (bad_limits N W) (bad_lengths (lengths_of b)) N W b b' (number_of r) (fresh N W (lengths_of b)) s k in
    (sym k ∙ ap (λ (c : Bufs). (refused (number_of r), s, c)) q, q)

pub session_ran : (s₀ s : Store) (N W : ℕ) (words ids pieces : List ℕ) (b b₀ b' : Bufs) (x₀ y₀ z₀ x' y' z' : List ℕ) → ◌≡◌ {A = Outcome} (done [], s₀, b₀) (start_step N W b)
    → tape s b' x' y' z' ≡ replay_step s₀ b₀ words ids pieces x₀ y₀ z₀ → Replayed N W (calls_to words ids pieces z₀ (count_of words x₀ y₀)) b x₀ y₀ z₀ (tape s b' x' y' z')
unfolding replay_step
session_ran s₀ s N W words ids pieces b b₀ b' x₀ y₀ z₀ x' y' z' e k =
    let q : start_step N W b ≡ (done [], s₀, b₀) = sym e in
    record { begun = s₀; zeroed = b₀; started = q; left = k; demand = demand_3 N W b b₀ s₀ q (calls_to words ids pieces z₀ (count_of words x₀ y₀)) }
