-- What demand 3 asks of every list of calls after an accepted start.
use Prim.Native.Nat.{ℕ, ◌+◌, ◌<◌}
use mathlib.Core.Path.{◌≡◌, refl, sym, ap, ◌∙◌}
use mathlib.Core.Bool.{Bool, true, false, ◌||◌}
use mathlib.Core.List.{List, [], ◌∷◌, ◌++◌, map}
use mathlib.Core.Option.{some}
use native.Mathlib.Omega.{arith}
use native.Mathlib.Nat.{zero-add}
use lib.ListN.{length, get_or, take, length-set, length-append, get_or-append}
use lib.Seq.{take-suc-set}
use lib.Dec.{leb, ltb}
use borrow.Author.Tests.{eqb-false, leb-false, ltb-false}
use Rattle.base.specs.Answers.{done, refused}
use Rattle.base.specs.Parts.{over}
use Rattle.base.specs.Tests.{◌when◌else◌}
use Rattle.base.proofs.All.{All}
use Rattle.base.proofs.Bools.{or_none}
use Rattle.base.proofs.Tests.{none_of}
use Rattle.codec.specs.Flat.{flat, bounds}
use Rattle.codec.specs.Records.{bad_colors, file_of}
use Rattle.codec.proofs.Promise.{IsSet, promise}
use Rattle.runs.specs.Words.{coordinate_of, place_of}
use Rattle.runs.proofs.Laws.Words.{coordinate_of_lem}
use Rattle.store.specs.Demand.{Demand3, LentCall, RecordsKept, RunsMerged, Seen, ShowsSent, UnitigsKept, accepted_from, all_seen, as_seen, out_of, record_file, seen, sent, set_for, sets_in, showing, store_run, table_of}
use Rattle.store.specs.Once.{Item, item_call, update_of, updates_from}
use Rattle.store.specs.Plain.{Call, Plain, PlainCell, SharedLengths, Unitig, Update, Verdict, accept, accepted, coord_at, ids_at, no_unitig, no_vertex, plain_fresh, plain_run, plain_show, plain_step, plain_update, refusal, refuse, repeat, show, shown, update, verdict}
use Rattle.store.specs.Start.{bad_cell_lengths, bad_lengths, bad_limits, bad_shared_lengths, fresh, fresh_cell, fresh_shared, no_store, start_step, too_long, zeroed}
use Rattle.store.specs.State.{Bufs, CellBufs, Outcome, SharedBufs, lengths_of}
use Rattle.store.specs.declared.state.Cell.{Cell}
use Rattle.store.specs.declared.state.Shared.{Shared}
use Rattle.store.specs.declared.state.Store.{Store}
use Rattle.store.proofs.Laws.Accepted.{acc, first_run, once_run, sets_run}
use Rattle.store.proofs.Laws.Totals.{open_merged, run_total}
use Rattle.store.proofs.Laws.Rep.{CellRep, Rep, SharedRep, Size, unitig_runs}
use Rattle.store.proofs.Laws.Shows.{good_here, merged_are, named_narrow}
use Rattle.store.proofs.Laws.Trace.{Ran, run_ok}
use Rattle.store.proofs.Laws.Unitigs.{name_of}
use Rattle.store.proofs.Laws.Rep as rep

-- ---- an accepted start

fits : (n : ℕ) → too_long n ≡ false → Size n n n
unfolding too_long
fits n e = record { told = refl; long = refl; small = ltb-false 4294967295 n e }

module _ (N W : ℕ) (b : Bufs) (e : bad_limits N W ≡ false) (l : bad_lengths (lengths_of b) ≡ false) where
  pub fresh_ok : Rep (plain_fresh N W (lengths_of b)) (fresh N W (lengths_of b)) (zeroed b)
  unfolding plain_fresh fresh fresh_cell fresh_shared flat bounds table_of bad_limits bad_lengths bad_cell_lengths bad_shared_lengths
  fresh_ok =
      let a = or_none (bad_colors N) _ e in
      let x = or_none (bad_cell_lengths (lengths_of b).cell) _ l in
      let c = none_of _ x.0 in
      let d = none_of _ x.1 in
      let i = fits (length b.cell.index) c.1.1.0 in
      let z : length b.cell.index ≡ 0 → ⊥ = eqb-false _ 0 c.0 in
      let some : 0 < length b.cell.index = omega arith in
      let long : length (zeroed b).cell.index ≡ length b.cell.index = length-set b.cell.index 0 0 in
      record {
        colors = refl;
        limits = a.0;
        cell =
            record {
              worker = refl;
              narrow = ltb-false 255 W a.1;
              record_size = fits (length b.cell.records) c.1.0;
              index_size = record { told = refl; long = long; small = i.small };
              open_size = fits (length b.cell.opened) c.1.1.1.0;
              held_size = fits (length b.cell.held) c.1.1.1.1.0;
              filed =
                  record {
                    far = refl;
                    many = refl;
                    room = omega arith;
                    entries = omega arith;
                    bytes = refl;
                    places = take-suc-set b.cell.index 0 0 some;
                    each = tt;
                  };
              open_room = omega arith;
              opened = rep.closed;
              held_room = omega arith;
              last = refl;
              call = rep.nothing;
            };
        shared =
            record {
              run_size = fits (length b.shared.runs) d.0;
              table_size = fits (length b.shared.table) d.1.0;
              closed =
                  record {
                    far = refl;
                    many = refl;
                    room = omega arith;
                    pairs = omega arith;
                    bytes = refl;
                    places = refl;
                    each = tt;
                  };
            };
      }

pub record Began (N W : ℕ) (b b' : Bufs) (s : Store) : Type 0 where
  pub limits : bad_limits N W ≡ false
  pub lengths : bad_lengths (lengths_of b) ≡ false
  pub state : s ≡ fresh N W (lengths_of b)
  pub bufs : b' ≡ zeroed b

pub began : (N W : ℕ) (b b' : Bufs) (s : Store) → start_step N W b ≡ (done [], s, b') → Began N W b b' s
unfolding start_step ◌when◌else◌
began N W b b' s e = go (bad_limits N W) (bad_lengths (lengths_of b)) refl refl e
  where
    no : (n : ℕ) → ◌≡◌ {A = Outcome} (refused n, no_store, b) (done [], s, b') → ⊥
    no n e =
        let q : refused n ≡ done [] = ap (λ (x : Outcome). x.0) e in
        let z : ◌≡◌ {A = ℕ} 0 1 = cc in omega arith

    go : (t u : Bool) → bad_limits N W ≡ t → bad_lengths (lengths_of b) ≡ u
        → ◌≡◌ {A = Outcome} (◌when◌else◌ (refused 1, no_store, b) t (◌when◌else◌ (refused 3, no_store, b) u (done [], fresh N W (lengths_of b), zeroed b))) (done [], s, b')
        → Began N W b b' s
    go true u x y e = absurd (no 1 e)
    go false true x y e = absurd (no 3 e)
    go false false x y e = record { limits = x; lengths = y; state = sym (ap (λ (z : Outcome). z.1) e); bufs = sym (ap (λ (z : Outcome). z.2) e) }

-- ---- runs of lists in two parts

kept : (p : Plain) (cs : List Call) → ((plain_run p cs).1.N ≡ p.N) × ((plain_run p cs).1.cell.W ≡ p.cell.W)
unfolding plain_run plain_step plain_update accepted
kept p [] = (refl, refl)
kept p (show u v n ∷ cs) = kept p cs
kept p (update i u ∷ cs) =
    let k = kept (plain_step p (update i u)).1 cs in
    let g = go (verdict p i u) in
    (k.0 ∙ g.0, k.1 ∙ g.1)
  where
    go : (v : Verdict) → ((plain_update v p i u).1.N ≡ p.N) × ((plain_update v p i u).1.cell.W ≡ p.cell.W)
    go (refuse n) = (refl, refl)
    go (repeat a) = (refl, refl)
    go accept = (refl, refl)

run_append : (p : Plain) (early late : List LentCall) → (plain_run p (map sent (early ++ late))).1 ≡ (plain_run (plain_run p (map sent early)).1 (map sent late)).1
unfolding plain_run
run_append p [] late = refl
run_append p (c ∷ early) late = run_append (plain_step p (sent c)).1 early late

reply_at : (p : Plain) (early : List LentCall) (c : LentCall) (late : List LentCall) (x : Seen)
    → get_or (all_seen (early ++ (c ∷ late)) (plain_run p (map sent (early ++ (c ∷ late)))).0) (length early) x ≡ as_seen (plain_step (plain_run p (map sent early)).1 (sent c)).0 (out_of c)
unfolding plain_run all_seen
reply_at p [] c late x = refl
reply_at p (a ∷ early) c late x = reply_at (plain_step p (sent a)).1 early c late x

-- a show that is answered gives a vertex's ids
record Given (p : Plain) (k v : ℕ) (out values : List ℕ) : Type 0 where
  pub unitig : k < length p.closed
  pub vertex : v < length (get_or p.closed k no_unitig).coords
  pub many : values ≡ length (ids_at p k v) ∷ []
  pub left : (as_seen (plain_show p k v (length out)) out).out ≡ over (ids_at p k v) out

only : (ids out values : List ℕ) (a c d : Bool) → (as_seen (◌when◌else◌ (refusal 14) (a || c) (◌when◌else◌ (refusal 3) d (shown ids))) out).answer ≡ done values → (a ≡ false) × (c ≡ false) × (d ≡ false) × (values ≡ length ids ∷ [])
unfolding as_seen ◌when◌else◌
only ids out values true c d e = let z : ◌≡◌ {A = ℕ} 0 1 = cc in absurd (omega arith)
only ids out values false true d e = let z : ◌≡◌ {A = ℕ} 0 1 = cc in absurd (omega arith)
only ids out values false false true e = let z : ◌≡◌ {A = ℕ} 0 1 = cc in absurd (omega arith)
only ids out values false false false e = (refl, refl, refl, cc)

given : (p : Plain) (k v : ℕ) (out values : List ℕ) → (as_seen (plain_show p k v (length out)) out).answer ≡ done values → Given p k v out values
unfolding plain_show no_vertex as_seen ◌when◌else◌
given p k v out values e =
    let o = only (ids_at p k v) out values (leb (length p.closed) k) (leb (length (get_or p.closed k no_unitig).coords) v) (ltb (length out) (length (ids_at p k v))) e in
    record {
      unitig = leb-false _ _ o.0;
      vertex = leb-false _ _ o.1;
      many = o.3;
      left = rw (o.0, o.1, o.2);
    }

pub shows_plain : (q : Plain) (k v : ℕ) (out : List ℕ) → as_seen (plain_step q (sent (showing k v out))).0 (out_of (showing k v out)) ≡ as_seen (plain_show q k v (length out)) out
unfolding plain_step sent out_of
shows_plain q k v out = refl

-- ---- what is filed

pub records_kept : {N : ℕ} {p : PlainCell} {c : Cell} {b : CellBufs} → bad_colors N ≡ false → CellRep N p c b → RecordsKept N p.S c b
records_kept {N} {p} {c} {b} limits r =
    let f = r.filed in
    let bytes : record_file c b ≡ file_of N p.S = ap (λ (n : ℕ). take n b.records) f.far ∙ f.bytes in
    record {
      file = bytes;
      count = f.many;
      index = rw (bytes, f.many, f.places) (promise.index N limits p.S f.each);
    }

unitigs_kept : {names : ℕ → Type 0} {us : List Unitig} {l : SharedLengths} {s : Shared} {b : SharedBufs} → SharedRep names us l s b → UnitigsKept us s b
unitigs_kept r =
    let c = r.closed in
    record { file = rw c.far c.bytes; count = c.many; table = rw c.many c.places }

-- ---- a list of calls after an accepted start

module _ (N W : ℕ) (b : Bufs) (x : bad_limits N W ≡ false) (y : bad_lengths (lengths_of b) ≡ false) where
  abbrev p₀ : Plain
  p₀ = plain_fresh N W (lengths_of b)

  -- what the store leaves of a list of calls, and what the plain store
  abbrev pub left : List LentCall → List Seen × Store × Bufs
  left cs = store_run (fresh N W (lengths_of b)) (zeroed b) cs

  abbrev pub plain : List LentCall → Plain
  plain cs = (plain_run p₀ (map sent cs)).1

  pub runs_agree : (cs : List LentCall) → Ran cs (left cs) (plain_run p₀ (map sent cs))
  runs_agree cs = run_ok (fresh_ok N W b x y) cs

  accepted_are : (cs : List LentCall) → accepted_from 0 cs (left cs).0 ≡ acc p₀ cs
  unfolding plain_fresh
  accepted_are cs = ap (accepted_from 0 cs) (runs_agree cs).answers

  -- losses, repeats and calls out of turn change nothing
  pub once_fresh : (updates : ℕ → Update) (items : List Item)
      → map update_of (accepted_from 0 (map (item_call updates) items) (left (map (item_call updates) items)).0) ≡ updates_from updates 1 (left (map (item_call updates) items)).1.cell.number
  unfolding plain_fresh
  once_fresh updates items =
      let o = once_run updates items p₀ in
      rw (accepted_are (map (item_call updates) items), (runs_agree (map (item_call updates) items)).rep.cell.last, o.sum, zero-add o.m) o.those

  module _ (calls : List LentCall) where
    all_sets : (plain calls).cell.S ≡ sets_in (acc p₀ calls)
    unfolding plain_fresh
    all_sets = sets_run p₀ calls

    sets_are : (plain calls).cell.S ≡ sets_in (accepted_from 0 calls (left calls).0)
    sets_are = all_sets ∙ ap sets_in (sym (accepted_are calls))

    colors_are : (plain calls).N ≡ N
    unfolding plain_fresh
    colors_are = (kept p₀ (map sent calls)).0

    -- each accepted set is one of N colours
    pub each_set : All (IsSet N) (sets_in (accepted_from 0 calls (left calls).0))
    each_set = rw (colors_are, sets_are) at (runs_agree calls).rep.cell.filed.each

    -- the set that the first accepted add with this vertex's coordinate sent; no later call changes it
    pub sent_set : (early late : List LentCall) (k v : ℕ) → calls ≡ early ++ late → k < length (plain early).closed → v < length (get_or (plain early).closed k no_unitig).coords
        → set_for (coord_at (plain early) k v) (accepted_from 0 calls (left calls).0) ≡ some (ids_at (plain early) k v)
    unfolding plain_fresh coord_at ids_at
    sent_set early late k v e h l =
        let q : Plain = plain early in
        let r = (runs_agree early).rep in
        let coord : ℕ = get_or (get_or q.closed k no_unitig).coords v 0 in
        let n = name_of (get_or q.closed k no_unitig) (good_here (named_narrow r.cell) r.shared k h) v l in
        let w : q.cell.W ≡ W = (kept p₀ (map sent early)).1 in
        let c : coordinate_of W (place_of coord) ≡ coord = ap (λ (x : ℕ). coordinate_of x (place_of coord)) (sym (n.own ∙ w)) ∙ coordinate_of_lem coord in
        let more : List (List ℕ) = sets_in (acc q late) in
        let final : sets_in (acc p₀ calls) ≡ q.cell.S ++ more =
        sym all_sets ∙ ap (λ (cs : List LentCall). (plain cs).cell.S) e ∙ ap (λ (z : Plain). z.cell.S) (run_append p₀ early late) ∙ sets_run q late
        in
        let m : place_of coord < length (sets_in (acc p₀ calls)) = omega (arith, n.low, ap length final, length-append q.cell.S more) in
        let x : set_for (coordinate_of W (0 + place_of coord)) (acc p₀ calls) ≡ some (get_or (sets_in (acc p₀ calls)) (place_of coord) []) = first_run p₀ calls (place_of coord) m in
        let y : get_or (sets_in (acc p₀ calls)) (place_of coord) [] ≡ get_or q.cell.S (place_of coord) [] =
        ap (λ (z : List (List ℕ)). get_or z (place_of coord) []) final ∙ get_or-append q.cell.S more [] (place_of coord) n.low
        in
        ap (set_for coord) (accepted_are calls) ∙ ap (λ (z : ℕ). set_for z (acc p₀ calls)) (sym c ∙ ap (coordinate_of W) (sym (zero-add (place_of coord)))) ∙ x ∙ ap some y

    shows : ShowsSent N W (lengths_of b) calls (left calls).0
    shows early k v out late values e a =
        let q : Plain = plain early in
        let at : get_or (left calls).0 (length early) (seen (refused 0) []) ≡ as_seen (plain_show q k v (length out)) out =
        ap (λ (xs : List Seen). get_or xs (length early) (seen (refused 0) [])) (runs_agree calls).answers
        ∙ ap (λ (cs : List LentCall). get_or (all_seen cs (plain_run p₀ (map sent cs)).0) (length early) (seen (refused 0) [])) e
        ∙ reply_at p₀ early (showing k v out) late (seen (refused 0) [])
        ∙ shows_plain q k v out
        in
        let d = given q k v out values (sym (ap (λ (x : Seen). x.answer) at) ∙ a) in (
          ids_at q k v,
          sent_set early (showing k v out ∷ late) k v e d.unitig d.vertex,
          d.many,
          ap (λ (x : Seen). x.out) at ∙ d.left,
        )

    merged : RunsMerged (plain calls).closed (left calls).1.shared (left calls).2.shared
    merged k h =
        let r = (runs_agree calls).rep in
        let q = named_narrow r.cell in
        let u : Unitig = get_or (plain calls).closed k no_unitig in
        (_, merged_are q r.shared k h, run_total u (good_here q r.shared k h))

    pub demand_fresh : Demand3 N W (lengths_of b) calls (left calls)
    demand_fresh =
        let r = (runs_agree calls).rep in
        record {
          answers = (runs_agree calls).answers;
          shows = shows;
          records = rw (colors_are, sets_are) at (records_kept r.limits r.cell);
          unitigs = unitigs_kept r.shared;
          opened = open_merged r.cell.opened r.cell.open_room;
          merged = merged;
        }
