-- The record that a coordinate names, and what is found of a numbered call, a repeat too: both stores agree.
use Prim.Native.Nat.{ℕ, suc, ◌+◌, ◌≤◌, ◌<◌}
use mathlib.Core.Path.{◌≡◌, refl, sym, ap, ◌∙◌}
use mathlib.Core.Bool.{Bool, true, false}
use mathlib.Core.List.{List, []}
use mathlib.Core.Option.{Option, some}
use native.Mathlib.Omega.{arith}
use native.Mathlib.Nat.{zero-add}
use lib.ListN.{length, get_or, take, drop}
use lib.Seq.{get_or-take}
use lib.Dec.{ltb, leb, eqb}
use borrow.Author.Tests.{eq-eqb, le-ltb, lt-leb}
use Rattle.base.specs.Tests.{◌when◌else◌}
use Rattle.base.proofs.All.{all_at}
use Rattle.codec.specs.Flat.{flat}
use Rattle.codec.specs.Records.{bad_colors, file_of, record_of}
use Rattle.codec.proofs.Promise.{IsSet, promise}
use Rattle.runs.specs.Words.{place_of, worker_of}
use Rattle.runs.proofs.Laws.Words.{place_of_lem, worker_of_lem}
use Rattle.store.specs.Add.{same_add}
use Rattle.store.specs.Close.{same_close}
use Rattle.store.specs.Demand.{way_of}
use Rattle.store.specs.Filed.{reads_as, record_start, set_at, set_from, set_in, unnamed}
use Rattle.store.specs.Join.{same_join}
use Rattle.store.specs.Numbered.{Test, numbered, repeated}
use Rattle.store.specs.Plain.{Plain, PlainCell, Update, Way, add, again, close, equal_updates, join, tests, verdict}
use Rattle.store.specs.State.{Bufs, CellBufs}
use Rattle.store.specs.declared.state.Cell.{Cell}
use Rattle.store.specs.declared.state.Last.{Last}
use Rattle.store.specs.declared.state.Store.{Store}
use Rattle.store.proofs.Laws.Agree.{alike_agrees, equal_agrees, ways_agree}
use Rattle.store.proofs.Laws.Flats.{flat_take, from_start, start_at}
use Rattle.store.proofs.Laws.Gates.{as_verdict, gate_verdict, numbered_agrees, repeats, repeats_none}
use Rattle.store.proofs.Laws.Rep.{CallRep, CellRep, NamedIn, Rep, added, filed, joined, nothing}

-- ---- the record that a coordinate names

module _ {N : ℕ} {p : PlainCell} {c : Cell} {b : CellBufs} (limits : bad_colors N ≡ false) (r : CellRep N p c b) where
  entry_at : (k : ℕ) → k ≤ length p.S → get_or b.index k 0 ≡ length (flat (record_of N) (take k p.S))
  entry_at k h =
      let g : k < length p.S + 1 = omega arith in
      sym (get_or-take (length p.S + 1) b.index k 0 g)
      ∙ ap (λ (l : List ℕ). get_or l k 0) r.filed.places
      ∙ start_at (record_of N) 0 p.S k h
      ∙ zero-add _

  start_here : (coord : ℕ) → NamedIn p coord → record_start c b.index coord ≡ some (length (flat (record_of N) (take (place_of coord) p.S)))
  unfolding record_start unnamed ◌when◌else◌
  start_here coord n =
      let g : place_of coord ≤ length p.S = omega (arith, n.low) in
      let a : eqb (worker_of coord) c.worker ≡ true = eq-eqb _ _ (n.own ∙ sym r.worker) in
      let m : place_of coord < c.sets = omega (arith, n.low, r.filed.many) in
      let t : leb c.sets (place_of coord) ≡ false = lt-leb _ _ m in
      let f : ltb (length (file_of N p.S)) (length (flat (record_of N) (take (place_of coord) p.S))) ≡ false = le-ltb _ _ (flat_take (record_of N) p.S (place_of coord)) in
      rw (a, t, entry_at (place_of coord) g, r.filed.far, f)

  pub set_here : (coord : ℕ) → NamedIn p coord → set_at N c b.records b.index coord ≡ some (get_or p.S (place_of coord) [])
  unfolding set_at set_from set_in
  set_here coord n =
      let w = all_at (IsSet N) p.S (place_of coord) [] n.low r.filed.each in
      let x = promise.read N limits (get_or p.S (place_of coord) []) (flat (record_of N) (drop (suc (place_of coord)) p.S)) w in
      rw (start_here coord n, r.filed.far, r.filed.bytes, from_start (record_of N) p.S (place_of coord) [] n.low, x)

  add_again : {l : Option (Update × ℕ)} {k : Last} → CallRep p.W p.S l k c.answer c.held.used b.held → (ids : List ℕ) → gate_verdict (repeated (same_add N c b.records b.index k ids) c.answer) ≡ again l (add ids)
  unfolding same_add equal_updates reads_as
  add_again nothing js = repeats_none _ _
  add_again (added {ids} k h e q) js =
      let w : p.W < 256 = omega (arith, r.narrow) in
      let v : place_of c.answer ≡ k = ap (λ (c : ℕ). place_of c) q ∙ place_of_lem p.W k w in
      let n : NamedIn p c.answer = record { own = ap (λ (c : ℕ). worker_of c) q ∙ worker_of_lem p.W k w; low = omega arith } in
      let x : set_at N c b.records b.index c.answer ≡ some ids = set_here c.answer n ∙ ap (λ (j : ℕ). some (get_or p.S j [])) v ∙ ap some e in
      repeats _ _ (add ids) (add js) (rw (x, equal_agrees ids js))
  add_again (joined {n} {r} {runs} e) js = repeats _ _ (join n r runs) (add js) refl
  add_again (filed {way}) js = repeats _ _ (close way) (add js) refl

-- ---- repeats

join_again : {W : ℕ} {S : List (List ℕ)} {l : Option (Update × ℕ)} {k : Last} {a used : ℕ} {held : List ℕ} → CallRep W S l k a used held → (m : ℕ) (e : Bool) (piece : List ℕ) → gate_verdict (repeated (same_join used held k m e piece) a) ≡ again l (join m e piece)
unfolding same_join equal_updates
join_again nothing m e piece = repeats_none _ _
join_again (added {ids} k h q x) m e piece = repeats _ _ (add ids) (join m e piece) refl
join_again (joined {n} {r} {runs} q) m e piece = repeats _ _ (join n r runs) (join m e piece) (rw (q, alike_agrees r e, equal_agrees runs piece))
join_again (filed {way}) m e piece = repeats _ _ (close way) (join m e piece) refl

close_again : {W : ℕ} {S : List (List ℕ)} {l : Option (Update × ℕ)} {k : Last} {a used : ℕ} {held : List ℕ} → CallRep W S l k a used held → (way : Way) → gate_verdict (repeated (same_close k (way_of way)) a) ≡ again l (close way)
unfolding same_close equal_updates
close_again nothing w = repeats_none _ _
close_again (added {ids} k h q x) w = repeats _ _ (add ids) (close w) refl
close_again (joined {n} {r} {runs} q) w = repeats _ _ (join n r runs) (close w) refl
close_again (filed {way}) w = repeats _ _ (close way) (close w) (sym (ways_agree way w))

-- ---- a numbered call

-- the last call was this one
abbrev pub same_update : ℕ → Cell → CellBufs → Update → Bool
same_update N c b (add ids) = same_add N c b.records b.index c.last ids
same_update N c b (join n reversed piece) = same_join c.held.used b.held c.last n reversed piece
same_update N c b (close way) = same_close c.last (way_of way)

again_agrees : {N : ℕ} {p : PlainCell} {c : Cell} {b : CellBufs} → bad_colors N ≡ false → CellRep N p c b → (u : Update) → gate_verdict (repeated (same_update N c b u) c.answer) ≡ again p.call u
again_agrees limits r (add ids) = add_again limits r r.call ids
again_agrees limits r (join n reversed piece) = join_again r.call n reversed piece
again_agrees limits r (close way) = close_again r.call way

-- what is found of it, where its own tests agree
pub verdicts_agree : {p : Plain} {s : Store} {b : Bufs} → Rep p s b → (i : ℕ) (u : Update) (g : Test) → as_verdict g ≡ tests p u → gate_verdict (numbered s.cell i (same_update s.colors s.cell b.cell u) g) ≡ verdict p i u
verdicts_agree {p} {s} {b} r i u g e = rw r.colors (numbered_agrees p s.cell r.cell.last i u _ g (again_agrees r.limits r.cell u) e)
