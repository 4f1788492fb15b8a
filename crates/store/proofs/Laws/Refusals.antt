-- Which refusals start and each call can be told, and that nothing is altered where one is.
use Prim.Native.Nat.{ℕ, ◌+◌}
use mathlib.Core.Bool.{Bool, true, false}
use mathlib.Core.List.{List, [], ◌∷◌}
use mathlib.Core.Option.{Option, none, some}
use mathlib.Core.Path.{ap, refl, subst, sym, ◌∙◌, ◌≡◌}
use native.Mathlib.Omega.{arith}
use lib.Dec.{eqb, ltb}
use lib.ListN.{length}
use borrow.Author.Tests.{eq-eqb}
use Rattle.std.proofs.Common.{Err, None, Ok, Some}
use Rattle.base.specs.Answers.{Answer, done, number_of, refused}
use Rattle.base.specs.Tests.{◌when◌else◌}
use Rattle.base.specs.declared.Refusal.{Refusal}
use Rattle.base.specs.declared.Refusal.TheVariants.{Acyclic, Number}
use Rattle.base.specs.Parts.{over}
use Rattle.base.proofs.Bools.{or_left, or_right, true_false}
use Rattle.store.specs.Add.{add_cell, add_filed, add_step, add_test, after_add, same_add}
use Rattle.store.specs.Close.{acyclic_runs, after_close, close_cell, close_filed_of, close_open, close_step, close_test, same_close}
use Rattle.store.specs.Demand.{LentCall, Seen, out_of, seen, showing, store_step, store_update, unchanged, updated, updating, way_of}
use Rattle.store.specs.Join.{after_join, join_cell, join_filed_at, join_step, join_test, open_space, open_test, same_join}
use Rattle.store.specs.Numbered.{Gate, Test, by_gate, by_sequence, numbered, repeated, sequence_of, tested}
use Rattle.store.specs.Plain.{Update, Way, add, close, cycle, join, line}
use Rattle.store.specs.Refusals.{RefusalsStatement, is_one_of, refusals_of}
use Rattle.store.specs.Show.{no_place, show_step, shown_by, vertex_set}
use Rattle.store.specs.Start.{bad_lengths, bad_limits, no_store, start_step}
use Rattle.store.specs.State.{Bufs, Outcome, lengths_of}
use Rattle.store.specs.declared.state.Cell.{Cell}
use Rattle.store.specs.declared.state.Current.{Current}
use Rattle.store.specs.declared.state.Current.TheVariants.{Nothing, Open}
use Rattle.store.specs.declared.state.Store.{Store}
use Rattle.store.specs.declared.state.Shared.{Shared}
use Rattle.store.specs.declared.numbered.Sequence.TheVariants.{New, Repeat}
use Rattle.store.specs.Altered.{altered}
use Rattle.store.specs.WhileOpen.{NeverTwelveStatement}
use Rattle.store.specs.Cycles.{OnlyCyclesStatement, closes_cycle}

-- a refusal that an answer tells is one of these
abbrev Among : List ℕ → Answer → Type 0
Among ns a = (n : ℕ) → a ≡ refused n → is_one_of n ns ≡ true

first : (k n : ℕ) (ns : List ℕ) → k ≡ n → is_one_of n (k ∷ ns) ≡ true
unfolding is_one_of
first k n ns e = or_left _ _ (eq-eqb n k (sym e))

later : (k n : ℕ) (ns : List ℕ) → is_one_of n ns ≡ true → is_one_of n (k ∷ ns) ≡ true
unfolding is_one_of
later k n ns e = or_right _ _ e

same_refusal : (k n : ℕ) → refused k ≡ refused n → k ≡ n
same_refusal k n e = cc

done_not : (values : List ℕ) (n : ℕ) → done values ≡ refused n → ⊥
done_not values n e = let z : ◌≡◌ {A = ℕ} 0 1 = cc in omega arith

done_among : (values ns : List ℕ) → Among ns (done values)
done_among values ns n e = absurd (done_not values n e)

refused_among : (k : ℕ) (ns : List ℕ) → Among (k ∷ ns) (refused k)
refused_among k ns n e = first k n ns (same_refusal k n e)

-- by the order of tests: the one that stands here, or a later one
one_before : {R : Type 0} (of : R → Answer) (k : ℕ) (ns : List ℕ) (t : Bool) (x y : R) → of x ≡ refused k → Among ns (of y) → Among (k ∷ ns) (of (◌when◌else◌ x t y))
unfolding ◌when◌else◌
one_before of k ns true x y e h n q = first k n ns (same_refusal k n (sym e ∙ q))
one_before of k ns false x y e h n q = later k n ns (h n q)

-- ---- the tests of a numbered call

abbrev Finds : List ℕ → Test → Type 0
Finds ns t = (r : Refusal) → t ≡ Err r → is_one_of (number_of r) ns ≡ true

finds_none : Finds [] (Ok tt)
finds_none r e = let z : ◌≡◌ {A = ℕ} 0 1 = cc in absurd (omega arith)

finds_it : (r : Refusal) (ns : List ℕ) → Finds (number_of r ∷ ns) (Err r)
finds_it r ns q e = let z : r ≡ q = cc in first (number_of r) (number_of q) ns (ap number_of z)

finds_more : (k : ℕ) (ns : List ℕ) (x : Test) → Finds ns x → Finds (k ∷ ns) x
finds_more k ns x h r e = later k (number_of r) ns (h r e)

finds_one : (r : Refusal) (ns : List ℕ) (t : Bool) (x : Test) → Finds ns x → Finds (number_of r ∷ ns) (◌when◌else◌ (Err r) t x)
unfolding ◌when◌else◌
finds_one r ns true x h = finds_it r ns
finds_one r ns false x h = finds_more (number_of r) ns x h

add_finds : (N : ℕ) (c : Cell) (ids : List ℕ) → Finds (2 ∷ 3 ∷ []) (add_test N c ids)
unfolding add_test
add_finds N c ids = finds_one _ _ _ _ (finds_one _ _ _ _ finds_none)

open_finds : (k : Current) (old piece : List ℕ) (rest : Test) → Finds (3 ∷ []) rest → Finds (5 ∷ 8 ∷ 3 ∷ []) (open_test k old piece rest)
unfolding open_test
open_finds Nothing old piece rest h = finds_more 5 _ rest (finds_more 8 _ rest h)
open_finds (Open m) old piece rest h = finds_one _ _ _ _ (finds_one _ _ _ _ h)

join_finds : (c : Cell) (opened : List ℕ) (n : ℕ) (reversed : Bool) (piece : List ℕ) → Finds (7 ∷ 6 ∷ 9 ∷ 5 ∷ 8 ∷ 3 ∷ []) (join_test c opened n reversed piece)
unfolding join_test open_space
join_finds c opened n reversed piece = finds_one _ _ _ _ (finds_one _ _ _ _ (finds_one _ _ _ _ (open_finds c.current _ _ _ (finds_one _ _ _ _ finds_none))))

close_finds : (ns : List ℕ) (way : Way) (k : Current) (old : List ℕ) (rest : Test) → ((n : ℕ) → Finds ns (◌when◌else◌ (Err Acyclic) (acyclic_runs (way_of way) n old) rest)) → Finds (13 ∷ 5 ∷ ns) (close_open (way_of way) k old rest)
unfolding close_open
close_finds ns way Nothing old rest h = finds_it _ _
close_finds ns way (Open n) old rest h = finds_more _ _ _ (finds_one _ _ _ _ (h n))

line_finds : (c : Cell) (s : Shared) (opened : List ℕ) → Finds (13 ∷ 5 ∷ 3 ∷ []) (close_test c s opened (way_of line))
unfolding close_test acyclic_runs way_of ◌when◌else◌
line_finds c s opened = close_finds _ line c.current _ _ (λ n. finds_one _ _ _ _ finds_none)

cycle_finds : (c : Cell) (s : Shared) (opened : List ℕ) (pivot : ℕ) → Finds (13 ∷ 5 ∷ 16 ∷ 3 ∷ []) (close_test c s opened (way_of (cycle pivot)))
unfolding close_test
cycle_finds c s opened pivot = close_finds _ (cycle pivot) c.current _ _ (λ n. finds_one _ _ _ _ (finds_one _ _ _ _ finds_none))

-- ---- 10 and 11 before them

module _ {R : Type 0} (of : R → Answer) (told : Answer → R) (go : R) (ns : List ℕ) (t : Test) (tells : (a : Answer) → of (told a) ≡ a) (goes : Among (10 ∷ 11 ∷ ns) (of go)) (finds : Finds ns t) where
  told_among : (a : Answer) → Among (10 ∷ 11 ∷ ns) a → Among (10 ∷ 11 ∷ ns) (of (told a))
  told_among a h n e = h n (sym (tells a) ∙ e)

  tests_among : (x : Test) → t ≡ x → Among (10 ∷ 11 ∷ ns) (of (by_gate (tested x) told go))
  unfolding by_gate tested
  tests_among (Err r) q = told_among (refused (number_of r)) (λ n e. later 10 n _ (later 11 n _ (subst (λ (k : ℕ). is_one_of k ns ≡ true) (same_refusal (number_of r) n e) (finds r q))))
  tests_among (Ok _) q = goes

  by_among : (a b d same : Bool) (answer : ℕ) → Among (10 ∷ 11 ∷ ns) (of (by_gate (by_sequence (◌when◌else◌ (Err Number) a (◌when◌else◌ (Ok Repeat) b (◌when◌else◌ (Ok New) d (Err Number)))) (repeated same answer) t) told go))
  unfolding by_gate by_sequence repeated ◌when◌else◌
  by_among true b d same answer = told_among (refused 10) (refused_among 10 _)
  by_among false true d true answer = told_among (done (answer ∷ [])) (done_among (answer ∷ []) _)
  by_among false true d false answer = told_among (refused 11) (λ n e. later 10 n _ (refused_among 11 _ n e))
  by_among false false true same answer = tests_among t refl
  by_among false false false same answer = told_among (refused 10) (refused_among 10 _)

  gate_among : (c : Cell) (i : ℕ) (same : Bool) → Among (10 ∷ 11 ∷ ns) (of (by_gate (numbered c i same t) told go))
  unfolding numbered sequence_of
  gate_among c i same = by_among (eqb i 0) (eqb i c.number) (eqb i (c.number + 1)) same c.answer

-- ---- 15 before everything

update_among : (s : Store) (b : Bufs) (i : ℕ) (u : Update) → Among (refusals_of (updating i u)) (store_update s b i u).0
unfolding store_update refusals_of add_step add_cell add_filed join_step join_cell join_filed_at close_step close_cell close_filed_of
update_among s b i (add ids) =
    one_before {R = Outcome} (λ r. r.0) 15 _ (altered s (lengths_of b)) _ _ refl
    (gate_among {R = Answer × Cell × List ℕ × List ℕ} (λ r. r.0) _ _ _ _ (λ a. refl) (done_among _ _) (add_finds s.colors s.cell ids) s.cell i _)
update_among s b i (join n reversed piece) =
    one_before {R = Outcome} (λ r. r.0) 15 _ (altered s (lengths_of b)) _ _ refl
    (gate_among {R = Answer × Cell × List ℕ × List ℕ} (λ r. r.0) _ _ _ _ (λ a. refl) (done_among _ _) (join_finds s.cell b.cell.opened n reversed piece) s.cell i _)
update_among s b i (close line) =
    one_before {R = Outcome} (λ r. r.0) 15 _ (altered s (lengths_of b)) _ _ refl
    (gate_among {R = Answer × Cell × Shared × List ℕ × List ℕ} (λ r. r.0) _ _ _ _ (λ a. refl) (done_among _ _) (line_finds s.cell s.shared b.cell.opened) s.cell i _)
update_among s b i (close (cycle pivot)) =
    one_before {R = Outcome} (λ r. r.0) 15 _ (altered s (lengths_of b)) _ _ refl
    (gate_among {R = Answer × Cell × Shared × List ℕ × List ℕ} (λ r. r.0) _ _ _ _ (λ a. refl) (done_among _ _) (cycle_finds s.cell s.shared b.cell.opened pivot) s.cell i _)

shown_among : (found : Option (List ℕ)) (out : List ℕ) → Among (5 ∷ 3 ∷ []) (shown_by found out).0
unfolding shown_by
shown_among none out n e = refused_among 5 _ n e
shown_among (some ids) out n e = later 5 n _ (one_before {R = Answer × List ℕ} (λ r. r.0) 3 [] (ltb (length out) (length ids)) _ _ refl (done_among _ _) n e)

-- ---- and nothing is altered

abbrev Left : Type 0
Left = Seen × Store × Bufs

-- a step that leaves everything where it is told a refusal
abbrev Keeps : Store → Bufs → List ℕ → Left → Type 0
Keeps s b out r = (n : ℕ) → r.0.answer ≡ refused n → r ≡ (seen (refused n) out, s, b)

-- what is told by its answer alone
keeps_told : (s : Store) (b : Bufs) (out : List ℕ) (a : Answer) → Keeps s b out (seen a out, s, b)
keeps_told s b out a n e = ap (λ (x : Answer). (seen x out, s, b)) e

keeps_done : (s : Store) (b : Bufs) (out : List ℕ) (values : List ℕ) (x : Left) → x.0.answer ≡ done values → Keeps s b out x
keeps_done s b out values x d n e = absurd (done_not values n (sym d ∙ e))

keeps_gate : {R : Type 0} (s : Store) (b : Bufs) (as_left : R → Left) (g : Gate) (told : Answer → R) (go : R) → ((a : Answer) → as_left (told a) ≡ (seen a [], s, b)) → Keeps s b [] (as_left go) → Keeps s b [] (as_left (by_gate g told go))
unfolding by_gate
keeps_gate s b f (Err r) told go t h = subst (Keeps s b []) (sym (t (refused (number_of r)))) (keeps_told s b [] (refused (number_of r)))
keeps_gate s b f (Ok (Some a)) told go t h = subst (Keeps s b []) (sym (t (done (a ∷ [])))) (keeps_told s b [] (done (a ∷ [])))
keeps_gate s b f (Ok None) told go t h = h

keeps_15 : (s : Store) (b : Bufs) (t : Bool) (o : Outcome) → Keeps s b [] (updated o) → Keeps s b [] (updated (◌when◌else◌ (refused 15, s, b) t o))
unfolding ◌when◌else◌
keeps_15 s b true o h = keeps_told s b [] (refused 15)
keeps_15 s b false o h = h

update_keeps : (s : Store) (b : Bufs) (i : ℕ) (u : Update) → Keeps s b [] (updated (store_update s b i u))
unfolding store_update add_step add_cell add_filed join_step join_cell join_filed_at close_step close_cell close_filed_of
update_keeps s b i (add ids) =
    keeps_15 s b (altered s (lengths_of b)) _
    (keeps_gate s b (λ r. updated (after_add s b r)) (numbered s.cell i (same_add s.colors s.cell b.cell.records b.cell.index s.cell.last ids) (add_test s.colors s.cell ids)) _ _ (λ a. refl) (keeps_done s b [] _ _ refl))
update_keeps s b i (join n reversed piece) =
    keeps_15 s b (altered s (lengths_of b)) _
    (keeps_gate s b (λ r. updated (after_join s b r)) (numbered s.cell i (same_join s.cell.held.used b.cell.held s.cell.last n reversed piece) (join_test s.cell b.cell.opened n reversed piece)) _ _ (λ a. refl) (keeps_done s b [] _ _ refl))
update_keeps s b i (close way) =
    keeps_15 s b (altered s (lengths_of b)) _
    (keeps_gate s b (λ r. updated (after_close s b r)) (numbered s.cell i (same_close s.cell.last (way_of way)) (close_test s.cell s.shared b.cell.opened (way_of way))) _ _ (λ a. refl) (keeps_done s b [] _ _ refl))

show_keeps : (s : Store) (b : Bufs) (out : List ℕ) (t u : Bool) (found : Option (List ℕ)) → Keeps s b out (unchanged s b (◌when◌else◌ {A = Answer × List ℕ} (refused 15, out) t (◌when◌else◌ (refused 14, out) u (shown_by found out))))
unfolding shown_by ◌when◌else◌
show_keeps s b out true u found = keeps_told s b out (refused 15)
show_keeps s b out false true found = keeps_told s b out (refused 14)
show_keeps s b out false false none = keeps_told s b out (refused 5)
show_keeps s b out false false (some ids) = by (ltb (length out) (length ids))
  where
    by : (t : Bool) → Keeps s b out (unchanged s b (◌when◌else◌ {A = Answer × List ℕ} (refused 3, out) t (done (length ids ∷ []), over ids out)))
    by true = keeps_told s b out (refused 3)
    by false = keeps_done s b out _ _ refl

start_keeps : (t u : Bool) (b : Bufs) (x : Outcome) (n : ℕ) → x.0 ≡ done [] → (◌when◌else◌ {A = Outcome} (refused 1, no_store, b) t (◌when◌else◌ (refused 3, no_store, b) u x)).0 ≡ refused n → (◌when◌else◌ {A = Outcome} (refused 1, no_store, b) t (◌when◌else◌ (refused 3, no_store, b) u x)).2 ≡ b
unfolding ◌when◌else◌
start_keeps true u b x n d e = refl
start_keeps false true b x n d e = refl
start_keeps false false b x n d e = let z : done [] ≡ refused n = sym d ∙ e in absurd (done_not [] n z)

pub refusals : RefusalsStatement
unfolding start_step store_step show_step refusals_of out_of
refusals =
    record {
      start = λ N W b. one_before {R = Outcome} (λ r. r.0) 1 _ (bad_limits N W) _ _ refl (one_before {R = Outcome} (λ r. r.0) 3 [] (bad_lengths (lengths_of b)) _ _ refl (done_among _ _));
      call = calls;
      start_kept = λ N W b n e. start_keeps (bad_limits N W) (bad_lengths (lengths_of b)) b _ n refl e;
      kept = keeps;
    }
  where
    keeps : (s : Store) (b : Bufs) (call : LentCall) → Keeps s b (out_of call) (store_step s b call)
    keeps s b (updating i u) = update_keeps s b i u
    keeps s b (showing unitig vertex out) = show_keeps s b out (altered s (lengths_of b)) (no_place s.shared b.shared.table unitig vertex) (vertex_set s b unitig vertex)

    calls : (s : Store) (b : Bufs) (call : LentCall) → Among (refusals_of call) (store_step s b call).0.answer
    calls s b (updating i u) = update_among s b i u
    calls s b (showing unitig vertex out) =
        one_before {R = Answer × List ℕ} (λ r. r.0) 15 _ (altered s (lengths_of b)) _ _ refl
        (one_before {R = Answer × List ℕ} (λ r. r.0) 14 _ (no_place s.shared b.shared.table unitig vertex) _ _ refl (shown_among (vertex_set s b unitig vertex) out))

-- ---- what no call is told, and what one alone is

-- a number that isn't one of them
not_told : (s : Store) (b : Bufs) (call : LentCall) (n : ℕ) → is_one_of n (refusals_of call) ≡ false → (store_step s b call).0.answer ≡ refused n → ⊥
not_told s b call n h e = true_false (sym (refusals.call s b call n e) ∙ h)

pub never_12 : NeverTwelveStatement
unfolding refusals_of is_one_of
never_12 s b (updating i (add ids)) e = not_told s b (updating i (add ids)) 12 refl e
never_12 s b (updating i (join n reversed piece)) e = not_told s b (updating i (join n reversed piece)) 12 refl e
never_12 s b (updating i (close line)) e = not_told s b (updating i (close line)) 12 refl e
never_12 s b (updating i (close (cycle pivot))) e = not_told s b (updating i (close (cycle pivot))) 12 refl e
never_12 s b (showing unitig vertex out) e = not_told s b (showing unitig vertex out) 12 refl e

pub only_cycles : OnlyCyclesStatement
unfolding refusals_of is_one_of closes_cycle
only_cycles s b (updating i (add ids)) e = absurd (not_told s b (updating i (add ids)) 16 refl e)
only_cycles s b (updating i (join n reversed piece)) e = absurd (not_told s b (updating i (join n reversed piece)) 16 refl e)
only_cycles s b (updating i (close line)) e = absurd (not_told s b (updating i (close line)) 16 refl e)
only_cycles s b (updating i (close (cycle pivot))) e = refl
only_cycles s b (showing unitig vertex out) e = absurd (not_told s b (showing unitig vertex out) 16 refl e)
