-- A show: both stores agree.
use Prim.Native.Nat.{ℕ, suc, ◌+◌, ◌*◌, ◌≤◌, ◌<◌}
use mathlib.Core.Path.{◌≡◌, refl, sym, ap, ◌∙◌}
use mathlib.Core.Bool.{Bool, true, false, ◌||◌}
use mathlib.Core.List.{List, [], ◌∷◌}
use mathlib.Core.Option.{some}
use native.Mathlib.Omega.{arith}
use native.Mathlib.Nat.{zero-add}
use native.Mathlib.Numerals.{add-one}
use lib.ListN.{length, get_or, take, drop}
use lib.Seq.{get_or-take}
use lib.Dec.{ltb, leb}
use borrow.Author.Tests.{le-ltb, leb-false, lt-leb}
use Rattle.base.specs.Answers.{Answer, done, refused}
use Rattle.base.specs.Parts.{over}
use Rattle.base.specs.Tests.{◌when◌else◌}
use Rattle.base.proofs.All.{all_at}
use Rattle.codec.specs.Flat.{flat}
use Rattle.runs.specs.Bytes.{found, sharp_colour, sharp_colour_in}
use Rattle.runs.specs.Orders.{most_vertices}
use Rattle.runs.proofs.Laws.Widths.{Narrow}
use Rattle.runs.specs.Rotate.{merged}
use Rattle.store.specs.Demand.{Seen, as_seen, runs_of, seen, table_of}
use Rattle.store.specs.Plain.{Plain, PlainCell, SharedLengths, Unitig, bytes_of, coord_at, ids_at, no_unitig, no_vertex, plain_show, refusal, shown}
use Rattle.store.specs.Show.{coord_from, no_place, set_by, show_step, shown_by, vertex_coord, vertex_set}
use Rattle.store.specs.State.{Bufs, CellBufs, SharedBufs}
use Rattle.store.specs.declared.state.Cell.{Cell}
use Rattle.store.specs.declared.state.Shared.{Shared}
use Rattle.store.specs.declared.state.Store.{Store}
use Rattle.store.proofs.Laws.Flats.{flat_take, from_start}
use Rattle.store.proofs.Laws.Rep.{CellRep, Good, NamedIn, Rep, SharedRep, unaltered, unitig_runs}
use Rattle.store.proofs.Laws.Same.{set_here}
use Rattle.store.proofs.Laws.Table.{count_at_table, start_at_table}
use Rattle.store.proofs.Laws.Unitigs.{colour_of, name_of, read_of, runs_merged, runs_sharp}

-- a coordinate that names a record has 40 bits
pub named_narrow : {N : ℕ} {p : PlainCell} {c : Cell} {b : CellBufs} → CellRep N p c b → (coord : ℕ) → NamedIn p coord → Narrow coord
named_narrow {p = p} {b = b} r coord n =
    let f = r.filed in
    let z = r.index_size in
    let m : length p.S ≤ 4294967295 = omega arith in
    omega (arith, n.low)

-- ---- the runs filed for a unitig, and the coordinate of its vertex

module _ {names : ℕ → Type 0} {us : List Unitig} {l : SharedLengths} {s : Shared} {b : SharedBufs} (narrow : (c : ℕ) → names c → Narrow c) (r : SharedRep names us l s b) where
  table_at : (k : ℕ) → k < 2 * length us → get_or b.table k 0 ≡ get_or (table_of 0 us) k 0
  table_at k h = sym (get_or-take (2 * length us) b.table k 0 h) ∙ ap (λ (t : List ℕ). get_or t k 0) r.closed.places

  module _ (k : ℕ) (h : k < length us) where
    abbrev here : Unitig
    here = get_or us k no_unitig

    pub good_here : Good names here
    good_here = all_at (Good names) us k no_unitig h r.closed.each

    start_is : get_or b.table (2 * k) 0 ≡ length (flat bytes_of (take k us))
    start_is =
        let g : 2 * k < 2 * length us = omega arith in
        table_at (2 * k) g ∙ start_at_table 0 us k h ∙ zero-add _

    pub count_is : get_or b.table (2 * k + 1) 0 ≡ length here.coords
    count_is =
        let g : suc (2 * k) < 2 * length us = omega arith in
        rw (add-one (2 * k)) (table_at (suc (2 * k)) g ∙ count_at_table 0 us k h)

    pub runs_are : runs_of s b k ≡ found (unitig_runs here) (flat bytes_of (drop (suc k) us))
    runs_are =
        let d = from_start bytes_of us k no_unitig h in
        let x = read_of narrow here good_here (flat bytes_of (drop (suc k) us)) in
        rw (start_is, r.closed.far, r.closed.bytes, d, x)

    pub merged_are : runs_of s b k ≡ found (merged here.coords) (flat bytes_of (drop (suc k) us))
    merged_are = runs_are ∙ ap (λ (ws : List ℕ). found ws (flat bytes_of (drop (suc k) us))) (runs_merged here good_here)

    pub coord_is : (v : ℕ) → v < length here.coords → vertex_coord s b.runs b.table k v ≡ some (get_or here.coords v 0)
    unfolding coord_from sharp_colour sharp_colour_in ◌when◌else◌
    coord_is v g =
        let few : ltb most_vertices (length here.coords) ≡ false = le-ltb _ _ good_here.few in
        let low : get_or b.table (2 * k) 0 ≤ s.runs.used = rw (start_is, r.closed.far) (flat_take bytes_of us k) in
        let inside : ltb s.runs.used (get_or b.table (2 * k) 0) ≡ false = le-ltb _ _ low in
        let there : leb (length here.coords) v ≡ false = lt-leb _ _ g in
        rw (runs_are, count_is, few, inside, there, runs_sharp here good_here, colour_of here good_here v g)

-- ---- show

abbrev seen_of : Answer × List ℕ → Seen
seen_of r = seen r.0 r.1

shown_is : (ids out : List ℕ) → seen_of (shown_by (some ids) out) ≡ as_seen (◌when◌else◌ (refusal 3) (ltb (length out) (length ids)) (shown ids)) out
unfolding shown_by as_seen ◌when◌else◌
shown_is ids out = go (ltb (length out) (length ids))
  where
    go : (t : Bool) → seen_of (◌when◌else◌ (refused 3, out) t (done (length ids ∷ []), over ids out)) ≡ as_seen (◌when◌else◌ (refusal 3) t (shown ids)) out
    go true = refl
    go false = refl

module _ {p : Plain} {s : Store} {b : Bufs} (r : Rep p s b) where
  set_is : (k v : ℕ) → k < length p.closed → v < length (get_or p.closed k no_unitig).coords → vertex_set s b k v ≡ some (ids_at p k v)
  unfolding vertex_set set_by ids_at coord_at
  set_is k v h l =
      let q = named_narrow r.cell in
      let n = name_of (get_or p.closed k no_unitig) (good_here q r.shared k h) v l in
      rw (r.colors, coord_is q r.shared k h v l) (set_here r.limits r.cell (get_or (get_or p.closed k no_unitig).coords v 0) n)

  pub show_ok : (k v : ℕ) (out : List ℕ) → seen_of (show_step s b k v out) ≡ as_seen (plain_show p k v (length out)) out
  unfolding show_step plain_show no_place no_vertex ◌when◌else◌ as_seen
  show_ok k v out =
      let m : leb s.shared.unitigs k ≡ leb (length p.closed) k = ap (λ (n : ℕ). leb n k) r.shared.closed.many in
      rw (unaltered r, m) (by_unitig (leb (length p.closed) k) refl)
    where
      by_vertex : (k < length p.closed) → (t : Bool) → leb (length (get_or p.closed k no_unitig).coords) v ≡ t
          → seen_of (◌when◌else◌ (refused 14, out) t (shown_by (vertex_set s b k v) out)) ≡ as_seen (◌when◌else◌ (refusal 14) t (◌when◌else◌ (refusal 3) (ltb (length out) (length (ids_at p k v))) (shown (ids_at p k v)))) out
      by_vertex h true e = refl
      by_vertex h false e =
          let l : v < length (get_or p.closed k no_unitig).coords = leb-false _ _ e in
          rw (set_is k v h l) (shown_is (ids_at p k v) out)

      by_unitig : (t : Bool) → leb (length p.closed) k ≡ t
          → seen_of (◌when◌else◌ (refused 14, out) (t || leb (get_or b.shared.table (2 * k + 1) 0) v) (shown_by (vertex_set s b k v) out)) ≡ as_seen (◌when◌else◌ (refusal 14) (t || leb (length (get_or p.closed k no_unitig).coords) v) (◌when◌else◌ (refusal 3) (ltb (length out) (length (ids_at p k v))) (shown (ids_at p k v)))) out
      by_unitig true e = refl
      by_unitig false e =
          let h : k < length p.closed = leb-false _ _ e in
          rw (count_is (named_narrow r.cell) r.shared k h) (by_vertex h (leb (length (get_or p.closed k no_unitig).coords) v) refl)
