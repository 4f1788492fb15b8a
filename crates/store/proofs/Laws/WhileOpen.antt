-- Sets filed while a unitig is open: what an add is told and leaves, and what may be named after it.
use Prim.Native.Nat.{ℕ, ◌+◌, ◌/◌, ◌<◌}
use mathlib.Core.Bool.{Bool, true, false, not}
use mathlib.Core.List.{List, [], ◌∷◌, ◌++◌, map}
use mathlib.Core.Option.{Option}
use mathlib.Core.Path.{◌≡◌, refl, sym, ap, ◌∙◌}
use native.Mathlib.Omega.{arith}
use lib.Dec.{eqb}
use lib.ListN.{length, get_or, length-append, get_or-append}
use lib.Seq.{get_or-append_seam}
use borrow.Author.Tests.{eq-eqb, eqb-false, not-false}
use Rattle.std.proofs.Common.{Ok, Err, Some, None}
use Rattle.base.specs.Answers.{Answer, done, refused}
use Rattle.base.specs.Tests.{◌when◌else◌}
use Rattle.base.proofs.Bools.{not_no}
use Rattle.base.proofs.Tests.{when_no}
use Rattle.codec.specs.Records.{record_of, file_of}
use Rattle.runs.specs.Words.{coordinate}
use Rattle.runs.proofs.Laws.Words.{place_of_lem, worker_of_lem}
use Rattle.store.specs.Add.{add_cell, add_filed, add_step, add_test, after_add, same_add}
use Rattle.store.specs.Altered.{altered}
use Rattle.store.specs.Demand.{LentCall, Seen, as_seen, out_of, record_file, seen, sent, store_step, store_update, updated, updating}
use Rattle.store.specs.Numbered.{Gate, by_gate, numbered}
use Rattle.store.specs.Plain.{Plain, Reply, Unitig, accept, accepted, add, add_tests, effect, equal_updates, is_set, join, join_tests, name_sets, no_space_for_set, plain_step, refuse, tests, equal}
use Rattle.store.specs.Start.{bad_lengths, bad_limits}
use Rattle.store.specs.State.{Bufs, Outcome, after, lengths_of}
use Rattle.store.specs.WhileOpen.{FiledBetween, WhileOpen, WhileOpenAfter, WhileOpenStatement, add_reply, on_file, next_call, open_coords, unitigs_in, next_coord, set_named}
use Rattle.store.specs.declared.state.Current.{Current}
use Rattle.store.specs.declared.state.Store.{Store}
use Rattle.store.proofs.Laws.Adds.{set_more}
use Rattle.store.proofs.Laws.Demand.{began, left, records_kept, runs_agree}
use Rattle.store.proofs.Laws.Flats.{flat_more}
use Rattle.store.proofs.Laws.Gates.{found_later, refuse_less}
use Rattle.store.proofs.Laws.Names.{names_more, names_told, told_names}
use Rattle.store.proofs.Laws.Next.{after_next, answered, next_goes, next_number, next_rep, refused_by, sent_again, sent_late, two_tests}
use Rattle.store.proofs.Laws.Rep.{Named, OpenRep, Rep}
use Rattle.store.proofs.Laws.Rep as rep
use Rattle.store.proofs.Laws.Trace.{step_ok}

open_named : {W k : ℕ} {c : Option Unitig} {o : Current} {used : ℕ} {runs : List ℕ} → OpenRep (Named W k) c o used runs → name_sets W k (open_coords c) ≡ true
unfolding open_coords
open_named {W} {k} rep.closed = told_names W k [] tt
open_named {W} {k} (rep.opened {u} e g t) = told_names W k u.coords g.named

-- a join whose piece names sets on file isn't told 9
names_pass : (p : Plain) (n : ℕ) (reversed : Bool) (piece : List ℕ) → on_file p.cell (map coordinate piece) ≡ true → tests p (join n reversed piece) ≡ refuse 9 → ⊥
unfolding tests join_tests
names_pass p n reversed piece h e =
    let other = λ (k : ℕ) (d : eqb k 9 ≡ false) (z : refuse k ≡ refuse 9). eqb-false k 9 d cc in
    let a = found_later _ (other 7 refl) e in
    let b = found_later _ (other 6 refl) a.1 in
    let c = found_later _ (other 8 refl) (sym (when_no _ _ _ (not_no _ h)) ∙ b.1) in
    let d = found_later _ (other 3 refl) c.1 in
    let z : ◌≡◌ {A = ℕ} 0 1 = cc in
    omega arith

-- ---- an add with the next number

equal_self : (xs : List ℕ) → equal xs xs ≡ true
unfolding equal
equal_self [] = refl
equal_self (x ∷ xs) = rw (eq-eqb x x refl, equal_self xs)

equal_adds : (ids : List ℕ) → equal_updates (add ids) (add ids) ≡ true
unfolding equal_updates
equal_adds ids = equal_self ids

module _ (p : Plain) (ids : List ℕ) where
  add_told : (plain_step p (sent (next_call p (add ids)))).0 ≡ add_reply p ids
  unfolding plain_step sent tests add_tests effect add_reply
  add_told = rw (next_number p (add ids)) (two_tests 2 3 (not (is_set p.N ids)) (no_space_for_set p.N p.cell ids) p (p.cell.last + 1) (add ids))

  pub add_taken : is_set p.N ids ≡ true → no_space_for_set p.N p.cell ids ≡ false → tests p (add ids) ≡ accept
  unfolding tests add_tests ◌when◌else◌
  add_taken s f = rw (s, f)

  -- a join is tested after it as before, except that more sets may be named
  join_taken : (i n : ℕ) (reversed : Bool) (piece : List ℕ) → tests p (join n reversed piece) ≡ accept
      → tests (accepted p i (add ids) (effect p (add ids))) (join n reversed piece) ≡ accept
  unfolding tests join_tests accepted effect ◌when◌else◌
  join_taken i n reversed piece e =
      refuse_less 7 (λ z. z) (
      refuse_less 6 (λ z. z) (
      refuse_less 9 (λ z. not_no _ (names_more p.cell.W (length p.cell.S) (length (p.cell.S ++ (ids ∷ []))) (map coordinate piece) (set_more p.cell.S ids) (not-false _ z)))
      (λ z. z))) e

  -- and has the same answer
  join_same : (i n : ℕ) (reversed : Bool) (piece : List ℕ) → (effect (accepted p i (add ids) (effect p (add ids))) (join n reversed piece)).0 ≡ (effect p (join n reversed piece)).0
  unfolding accepted effect
  join_same i n reversed piece = refl

-- ---- the store

-- one set more: its record more
files_it : {p : Plain} {s t : Store} {b d : Bufs} (i : ℕ) (ids : List ℕ) → Rep p s b → Rep (accepted p i (add ids) (effect p (add ids))) t d → record_file t.cell d.cell ≡ record_file s.cell b.cell ++ record_of p.N ids
unfolding accepted effect
files_it {p} {s} {t} {b} {d} i ids r k =
    let old : record_file s.cell b.cell ≡ file_of p.N p.cell.S = (records_kept r.limits r.cell).file in
    let new : record_file t.cell d.cell ≡ file_of p.N (p.cell.S ++ (ids ∷ [])) = (records_kept k.limits k.cell).file in
    rw (new, old) (flat_more (record_of p.N) p.cell.S ids)

-- whatever an add is told, it leaves the unitigs
by_told : (s : Store) (b : Bufs) (i : ℕ) (ids : List ℕ) (g : Gate)
    → let r = after_add s b (by_gate g (λ (a : Answer). (a, s.cell, b.cell.records, b.cell.index)) (add_filed s.colors s.cell i ids b.cell.records b.cell.index)) in
    unitigs_in r.1 r.2 ≡ unitigs_in s b
unfolding by_gate add_filed after
by_told s b i ids (Err r) = refl
by_told s b i ids (Ok (Some a)) = refl
by_told s b i ids (Ok None) = refl

untouched_by : (t : Bool) (s : Store) (b : Bufs) (o : Outcome) → unitigs_in o.1 o.2 ≡ unitigs_in s b
    → let r = updated (◌when◌else◌ (refused 15, s, b) t o) in
    unitigs_in r.1 r.2 ≡ unitigs_in s b
unfolding ◌when◌else◌
untouched_by true s b o e = refl
untouched_by false s b o e = e

add_untouched : (s : Store) (b : Bufs) (i : ℕ) (ids : List ℕ) → unitigs_in (store_step s b (updating i (add ids))).1 (store_step s b (updating i (add ids))).2 ≡ unitigs_in s b
unfolding store_step store_update add_step add_cell
add_untouched s b i ids =
    untouched_by (altered s (lengths_of b)) s b _
    (by_told s b i ids (numbered s.cell i (same_add s.colors s.cell b.cell.records b.cell.index s.cell.last ids) (add_test s.colors s.cell ids)))

module _ {p : Plain} {s : Store} {b : Bufs} (r : Rep p s b) where
  module _ (ids : List ℕ) (ok : is_set p.N ids ≡ true) (room : no_space_for_set p.N p.cell ids ≡ false) where
    abbrev p' : Plain
    p' = after_next p (add ids)

    taken : tests p (add ids) ≡ accept
    taken = add_taken p ids ok room

    rep_after : Rep p' (store_step s b (next_call p (add ids))).1 (store_step s b (next_call p (add ids))).2
    rep_after = next_rep r (add ids) taken

    -- the coordinate that it answers
    abbrev coord : ℕ
    coord = next_coord p.cell

    small : p.cell.W < 256
    small = omega (arith, r.cell.narrow)

    new_named : on_file p'.cell (coord ∷ []) ≡ true
    unfolding accepted effect
    new_named =
        let here : length p.cell.S < length (p.cell.S ++ (ids ∷ [])) = omega (arith, length-append p.cell.S (ids ∷ [])) in
        told_names p.cell.W (length (p.cell.S ++ (ids ∷ []))) (coord ∷ [])
        (record { own = worker_of_lem p.cell.W (length p.cell.S) small; low = rw (place_of_lem p.cell.W (length p.cell.S) small) here }, tt)

    new_set : set_named p'.cell coord ≡ ids
    unfolding accepted effect
    new_set = ap (λ (k : ℕ). get_or (p.cell.S ++ (ids ∷ [])) k []) (place_of_lem p.cell.W (length p.cell.S) small) ∙ get_or-append_seam p.cell.S ids [] []

    old_sets : (coord : ℕ) → on_file p.cell (coord ∷ []) ≡ true → set_named p'.cell coord ≡ set_named p.cell coord
    unfolding accepted effect
    old_sets coord h = get_or-append p.cell.S (ids ∷ []) [] (coord / 256) (names_told p.cell.W (length p.cell.S) (coord ∷ []) h).0.low

    joins_later : (n : ℕ) (reversed : Bool) (piece : List ℕ) (count : ℕ) → (store_step s b (next_call p (join n reversed piece))).0 ≡ seen (done (count ∷ [])) []
        → (store_step (store_step s b (next_call p (add ids))).1 (store_step s b (next_call p (add ids))).2 (next_call p' (join n reversed piece))).0 ≡ seen (done (count ∷ [])) []
    unfolding out_of as_seen
    joins_later n reversed piece count e =
        let a = answered p (join n reversed piece) count (sym (step_ok r (next_call p (join n reversed piece))).same ∙ e) in
        let g = next_goes p' (join n reversed piece) (join_taken p ids (p.cell.last + 1) n reversed piece a.0) in
        (step_ok rep_after (next_call p' (join n reversed piece))).same ∙ rw (g, join_same p ids (p.cell.last + 1) n reversed piece, a.1)

    filed_between : FiledBetween ids p s b (plain_step p (sent (next_call p (add ids)))).1 (store_step s b (next_call p (add ids))).1 (store_step s b (next_call p (add ids))).2
    filed_between =
        rw (next_goes p (add ids) taken)
        (record {
          file = files_it (p.cell.last + 1) ids r rep_after;
          new_named = new_named;
          new_set = new_set;
          old_sets = old_sets;
          joins = joins_later;
          again = sent_again r (add ids) taken (equal_adds ids);
          overtaken = sent_late r (add ids) taken;
        })

  pub while_open : WhileOpen p s b
  unfolding out_of
  while_open =
      record {
        named = open_named r.cell.opened;
        may_name =
            λ n reversed piece h e.
            names_pass p n reversed piece h
            (refused_by p (join n reversed piece) 9 (sym (ap (λ (x : Seen). x.answer) (step_ok r (next_call p (join n reversed piece))).same) ∙ e));
        added = λ ids. (step_ok r (next_call p (add ids))).same ∙ ap (λ (x : Reply). as_seen x []) (add_told p ids);
        untouched = add_untouched s b;
        filed = filed_between;
      }

module _ (N W : ℕ) (b : Bufs) (x : bad_limits N W ≡ false) (y : bad_lengths (lengths_of b) ≡ false) (calls : List LentCall) where
  while_open_fresh : WhileOpenAfter N W b calls (left N W b x y calls)
  while_open_fresh = while_open (runs_agree N W b x y calls).rep

pub while_open_lem : WhileOpenStatement
while_open_lem N W b b' s e calls =
    let k = began N W b b' s e in
    rw (k.state, k.bufs) (while_open_fresh N W b k.limits k.lengths calls)
