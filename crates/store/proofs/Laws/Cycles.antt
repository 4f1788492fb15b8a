-- Cycles, whose last vertex is their first: what a close as one is told, and what it leaves.
use Prim.Native.Nat.{ℕ, suc, ◌+◌, ◌-◌, ◌*◌, ◌/◌, ◌%◌, ◌≤◌, ◌<◌}
use mathlib.Core.Bool.{Bool, true, false}
use mathlib.Core.List.{List, [], ◌∷◌, ◌++◌}
use mathlib.Core.Option.{Option, none, some}
use mathlib.Core.Path.{ap, ap₂, refl, sym, ◌∙◌, ◌≡◌}
use native.Mathlib.Omega.{arith}
use lib.Dec.{leb}
use lib.ListN.{drop, drop_of_length-le, get_or, length, length-append, take}
use lib.Seq.{get_or-append_seam, get_or-take}
use borrow.Author.Tests.{eq-eqb, le-leb, le-ltb, lt-leb, ltb-false, ne_eqb}
use Rattle.std.proofs.Math.Nat.{mod-lt}
use Rattle.base.specs.Answers.{done, refused}
use Rattle.base.specs.Parts.{over}
use Rattle.base.specs.Tests.{◌when◌else◌}
use Rattle.base.proofs.Bools.{or_false, or_none, or_right}
use Rattle.codec.specs.Flat.{flat}
use Rattle.runs.specs.Bytes.{found}
use Rattle.runs.specs.Orders.{sharp}
use Rattle.runs.specs.Rotate.{merged}
use Rattle.runs.specs.Colours.{colours}
use Rattle.runs.proofs.Laws.Lists.{turned_at, turned_onto}
use Rattle.runs.proofs.Laws.Widths.{Narrow}
use Rattle.store.specs.Close.{filed_count}
use Rattle.store.specs.Cycles.{CycleFiled, Cycles, CyclesAfter, CyclesStatement, Dropped, cycle_reply}
use Rattle.store.specs.Demand.{LentCall, as_seen, out_of, runs_of, seen, sent, showing, store_step, way_of}
use Rattle.store.specs.Plain.{Plain, Reply, Unitig, Way, accept, accepted, acyclic, answer, are_sharp, bytes_of, close, close_effect, close_tests, coord_at, coords_of, cycle, effect, equal_updates, equal_ways, filed, ids_at, line, no_space_for_unitig, no_unitig, no_vertex, plain_show, plain_step, plain_update, refusal, refuse, tests, turned_by, without_last}
use Rattle.store.specs.Start.{bad_lengths, bad_limits}
use Rattle.store.specs.State.{Bufs, lengths_of}
use Rattle.store.specs.WhileOpen.{next_call, set_named}
use Rattle.store.specs.declared.state.Current.{Current}
use Rattle.store.specs.declared.state.Store.{Store}
use Rattle.store.specs.declared.state.Current.TheVariants.{Nothing}
use Rattle.store.proofs.Laws.Closes.{close_place, files}
use Rattle.store.proofs.Laws.Demand.{began, left, runs_agree}
use Rattle.store.proofs.Laws.Next.{after_next, next_goes, next_number, next_rep, sent_again, sent_other, two_tests}
use Rattle.store.proofs.Laws.Rep.{Good, Named, NamedIn, OpenRep, Rep, unitig_runs}
use Rattle.store.proofs.Laws.Rep as rep
use Rattle.store.proofs.Laws.Shows.{count_is, good_here, named_narrow, runs_are}
use Rattle.store.proofs.Laws.Trace.{step_ok}
use Rattle.store.proofs.Laws.Accepted.{close_sets}
use Rattle.store.proofs.Laws.Unitigs.{runs_sharp, runs_start, runs_tell, shorter_good, shorter_long}
use Rattle.store.proofs.Laws.Agree.{sharp_agrees}

open_good : {names : ℕ → Type 0} {used : ℕ} {c : Option Unitig} {o : Current} {runs : List ℕ} → OpenRep names c o used runs → (u : Unitig) → c ≡ some u → Good names u
open_good rep.closed u e = let z : ◌≡◌ {A = ℕ} 0 1 = cc in absurd (omega arith)
open_good (rep.opened {u = v} q g t) u e = let z : v ≡ u = cc in rw (← z) g

open_none : {names : ℕ → Type 0} {used : ℕ} {c : Option Unitig} {o : Current} {runs : List ℕ} → OpenRep names c o used runs → c ≡ none → o ≡ Nothing
open_none rep.closed e = refl
open_none (rep.opened q g t) e = let z : ◌≡◌ {A = ℕ} 0 1 = cc in absurd (omega arith)

none_left : (p : Plain) (way : Way) (c : Option Unitig) → (close_effect p way c).2 ≡ none
unfolding close_effect
none_left p way none = refl
none_left p way (some u) = refl

-- an answer is told where neither test holds
replied : (s t : Bool) (a b : ℕ) → ◌when◌else◌ (refusal 16) s (◌when◌else◌ (refusal 3) t (answer a)) ≡ answer b → (s ≡ false) × (t ≡ false)
unfolding ◌when◌else◌
replied true t a b e = let z : ◌≡◌ {A = ℕ} 0 1 = cc in absurd (omega arith)
replied false true a b e = let z : ◌≡◌ {A = ℕ} 0 1 = cc in absurd (omega arith)
replied false false a b e = (refl, refl)

-- ---- cycles with the same pivot, with another one, and a line

same_cycles : (pivot : ℕ) → equal_updates (close (cycle pivot)) (close (cycle pivot)) ≡ true
unfolding equal_updates equal_ways
same_cycles pivot = eq-eqb pivot pivot refl

other_cycles : (pivot q : ℕ) → (pivot ≡ q → ⊥) → equal_updates (close (cycle pivot)) (close (cycle q)) ≡ false
unfolding equal_updates equal_ways
other_cycles pivot q n = ne_eqb pivot q n

cycle_no_line : (pivot : ℕ) → equal_updates (close (cycle pivot)) (close line) ≡ false
unfolding equal_updates equal_ways
cycle_no_line pivot = refl

-- ---- a cycle by its coordinates

module _ (u : Unitig) (pivot : ℕ) where
  abbrev n : ℕ
  n = length u.coords - 1

  -- each vertex of the walk but the last
  cycle_coords : (v : ℕ) → length (without_last u).coords ≡ n → v < n → get_or (filed (cycle pivot) u).coords v 0 ≡ get_or u.coords ((v + pivot) % n) 0
  unfolding filed turned_by without_last
  cycle_coords v l h =
      let k : (v + pivot) % n < n = mod-lt (v + pivot) (omega (arith, h)) in
      turned_at pivot (take n u.coords) 0 v (omega (arith, l, h)) ∙ ap (λ (m : ℕ). get_or (take n u.coords) ((v + pivot) % m) 0) l ∙ get_or-take n u.coords ((v + pivot) % n) 0 k

  cycle_merged : unitig_runs (filed (cycle pivot) u) ≡ merged (filed (cycle pivot) u).coords
  unfolding filed turned_by merged
  cycle_merged = refl

-- ---- the close with the next number

module _ {p : Plain} {s : Store} {b : Bufs} (r : Rep p s b) (u : Unitig) (pivot : ℕ) (is : p.cell.current ≡ some u) where
  abbrev way : Way
  way = cycle pivot

  cycle_tests : tests p (close way) ≡ ◌when◌else◌ (refuse 16) (acyclic way u) (◌when◌else◌ (refuse 3) (no_space_for_unitig p.closed p.shared (filed way u)) accept)
  unfolding tests close_tests acyclic
  cycle_tests = rw is refl

  place_is : (effect p (close way)).0 ≡ length p.closed
  unfolding effect
  place_is = close_place p way p.cell.current

  cycle_told : (plain_step p (sent (next_call p (close way)))).0 ≡ cycle_reply p pivot u
  unfolding plain_step sent cycle_reply
  cycle_told =
      rw (next_number p (close way), cycle_tests)
      (two_tests 16 3 (acyclic way u) (no_space_for_unitig p.closed p.shared (filed way u)) p (p.cell.last + 1) (close way)
      ∙ ap (λ (a : ℕ). ◌when◌else◌ (refusal 16) (acyclic way u) (◌when◌else◌ (refusal 3) (no_space_for_unitig p.closed p.shared (filed way u)) (answer a))) place_is)

  module _ (back : acyclic way u ≡ false) (room : no_space_for_unitig p.closed p.shared (filed way u) ≡ false) where
    abbrev p' : Plain
    p' = after_next p (close way)

    taken : tests p (close way) ≡ accept
    unfolding ◌when◌else◌
    taken = cycle_tests ∙ rw (back, room) refl

    -- one unitig more, behind the others
    closed_is : p'.closed ≡ p.closed ++ (filed way u ∷ [])
    unfolding accepted effect close_effect
    closed_is = rw is refl

    here_is : get_or p'.closed (length p.closed) no_unitig ≡ filed way u
    here_is = ap (λ (us : List Unitig). get_or us (length p.closed) no_unitig) closed_is ∙ get_or-append_seam p.closed (filed way u) [] no_unitig

    one_more : length p.closed < length p'.closed
    one_more = omega (arith, ap length closed_is, length-append p.closed (filed way u ∷ []))

    sets_are : p'.cell.S ≡ p.cell.S
    unfolding accepted effect
    sets_are = close_sets p way p.cell.current

    -- ---- the store over its buffers

    abbrev s' : Store
    s' = (store_step s b (next_call p (close way))).1

    abbrev b' : Bufs
    b' = (store_step s b (next_call p (close way))).2

    abbrev place : ℕ
    place = length p.closed

    abbrev m : ℕ
    m = length u.coords - 1

    rep_after : Rep p' s' b'
    rep_after = next_rep r (close way) taken

    two : 2 ≤ length u.coords
    unfolding acyclic
    two = ltb-false _ _ (or_none _ _ back).0

    long : length (filed way u).coords ≡ m
    unfolding acyclic way_of filed_count
    long = sym (files way u (open_good r.cell.opened u is) back).count

    narrow : (coord : ℕ) → NamedIn p'.cell coord → Narrow coord
    narrow = named_narrow rep_after.cell

    count : get_or b'.shared.table (2 * place + 1) 0 ≡ m
    count = count_is narrow rep_after.shared place one_more ∙ ap (λ (v : Unitig). length v.coords) here_is ∙ long

    turned : (v : ℕ) → v < m → coord_at p' place v ≡ get_or u.coords ((v + pivot) % m) 0
    unfolding coord_at
    turned v h = ap (λ (w : Unitig). get_or w.coords v 0) here_is ∙ cycle_coords u pivot v (shorter_long u (open_good r.cell.opened u is)) h

    no_more : (vertex : ℕ) (out : List ℕ) → m ≤ vertex → (store_step s' b' (showing place vertex out)).0 ≡ seen (refused 14) out
    unfolding plain_step plain_show no_vertex sent out_of as_seen ◌when◌else◌
    no_more vertex out h =
        let k : m ≡ length (get_or p'.closed place no_unitig).coords = sym (ap (λ (v : Unitig). length v.coords) here_is ∙ long) in
        let e : leb (length (get_or p'.closed place no_unitig).coords) vertex ≡ true = le-leb _ _ (omega (arith, h, k)) in
        (step_ok rep_after (showing place vertex out)).same ∙ rw (or_right (leb (length p'.closed) place) _ e) refl

    -- the runs in the file, and nothing behind them
    merged_here : unitig_runs (get_or p'.closed place no_unitig) ≡ merged (coords_of p' place)
    merged_here = ap unitig_runs here_is ∙ cycle_merged u pivot ∙ sym (ap (λ (v : Unitig). merged v.coords) here_is)

    last_here : drop (suc place) p'.closed ≡ []
    last_here = drop_of_length-le p'.closed {i = suc place} (omega (arith, ap length closed_is, length-append p.closed (filed way u ∷ [])))

    runs_filed : runs_of s'.shared b'.shared place ≡ found (merged (coords_of p' place)) []
    unfolding flat
    runs_filed = runs_are narrow rep_after.shared place one_more ∙ ap₂ (λ (ws : List ℕ) (us : List Unitig). found ws (flat bytes_of us)) merged_here last_here

    each_run : sharp m (merged (coords_of p' place)) ≡ true
    each_run = ap₂ sharp (sym (ap (λ (v : Unitig). length v.coords) here_is ∙ long)) (sym merged_here) ∙ runs_sharp (get_or p'.closed place no_unitig) (good_here narrow rep_after.shared place one_more)

    module _ (v : ℕ) (h : v < m) where
      abbrev ids : List ℕ
      ids = set_named p.cell (get_or u.coords ((v + pivot) % m) 0)

      ids_are : ids_at p' place v ≡ ids
      unfolding ids_at
      ids_are = ap₂ (λ (S : List (List ℕ)) (c : ℕ). get_or S (c / 256) []) sets_are (turned v h)

      vertex_is : no_vertex p' place v ≡ false
      unfolding no_vertex
      vertex_is =
          let l : v < length (coords_of p' place) = omega (arith, h, ap (λ (w : Unitig). length w.coords) here_is, long) in
          or_false _ _ (lt-leb _ _ one_more) (lt-leb _ _ l)

      shown_at : (out : List ℕ) → length ids ≤ length out → (store_step s' b' (showing place v out)).0 ≡ seen (done (length ids ∷ [])) (over ids out)
      unfolding plain_step plain_show sent out_of as_seen ◌when◌else◌
      shown_at out k = (step_ok rep_after (showing place v out)).same ∙ rw (vertex_is, ids_are, le-ltb _ _ k) refl

    none_open_after : s'.cell.current ≡ Nothing
    unfolding accepted effect
    none_open_after = open_none rep_after.cell.opened (none_left p way p.cell.current)

    cycle_filed : CycleFiled u pivot p s b (plain_step p (sent (next_call p (close way)))).1 s' b'
    cycle_filed =
        rw (next_goes p (close way) taken)
        (record {
          closed = none_open_after;
          count = count;
          no_more = no_more;
          turned = turned;
          shown = λ v out h k. shown_at v h out k;
          each = λ w h. turned_onto pivot m w h;
          runs = runs_filed;
          each_run = each_run;
          again = sent_again r (close way) taken (same_cycles pivot);
          other_pivot = λ q n. sent_other r (close way) taken (close (cycle q)) (other_cycles pivot q n);
          as_line = sent_other r (close way) taken (close line) (cycle_no_line pivot);
        })

-- ---- the walk without its last vertex

all_but_last : (u : Unitig) → (without_last u).coords ≡ take (length u.coords - 1) u.coords
unfolding without_last
all_but_last u = refl

dropped : {names : ℕ → Type 0} (u : Unitig) → Good names u → 2 ≤ length u.coords → Dropped u
dropped u g two =
    let w : Unitig = without_last u in
    let k = shorter_good u g two in
    let l = shorter_long u g in
    record {
      starts = ap₂ are_sharp (sym l) (sym (runs_start w k)) ∙ sharp_agrees (length w.coords) (unitig_runs w) ∙ runs_sharp w k;
      runs = ap (λ (m : ℕ). colours m (unitig_runs w)) (sym l) ∙ runs_tell w k ∙ all_but_last u;
    }

module _ {p : Plain} {s : Store} {b : Bufs} (r : Rep p s b) where
  none_told : (way : Way) → p.cell.current ≡ none → (plain_step p (sent (next_call p (close way)))).0 ≡ refusal 13
  unfolding plain_step plain_update sent tests close_tests
  none_told way is = rw (next_number p (close way), is) refl

  cycles : Cycles p s b
  unfolding out_of cycle_reply as_seen
  cycles =
      record {
        none_open = λ way is. (step_ok r (next_call p (close way))).same ∙ ap (λ (x : Reply). as_seen x []) (none_told way is);
        told = λ u pivot is. (step_ok r (next_call p (close (cycle pivot)))).same ∙ ap (λ (x : Reply). as_seen x []) (cycle_told r u pivot is);
        dropped = λ u is two. dropped u (open_good r.cell.opened u is) two;
        filed = λ u pivot is e. let k = replied _ _ _ _ e in cycle_filed r u pivot is k.0 k.1;
      }

module _ (N W : ℕ) (b : Bufs) (x : bad_limits N W ≡ false) (y : bad_lengths (lengths_of b) ≡ false) (calls : List LentCall) where
  cycles_fresh : CyclesAfter N W b calls (left N W b x y calls)
  cycles_fresh = cycles (runs_agree N W b x y calls).rep

pub cycles_lem : CyclesStatement
cycles_lem N W b b' s e calls =
    let k = began N W b b' s e in
    rw (k.state, k.bufs) (cycles_fresh N W b k.limits k.lengths calls)
