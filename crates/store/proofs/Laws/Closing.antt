-- The cases of a close, as `search` looks for them.
use Prim.Native.Nat.{ℕ, ◌+◌, ◌-◌, ◌*◌, ◌≤◌, ◌<◌}
use mathlib.Core.Path.{◌≡◌, refl, sym, ap, ◌∙◌}
use mathlib.Core.Bool.{Bool, true, false, not, ◌||◌}
use mathlib.Core.List.{List, [], ◌∷◌, ◌++◌}
use native.Mathlib.Omega.{arith}
use lib.ListN.{length, set, take, drop, length-drop, length-set, take-append-drop}
use lib.Dec.{ltb, eqb}
use borrow.Author.Tests.{lt-ltb, le-ltb, ltb-false, ltb-true, not-false}
use borrow.Rule.Slice.PartMut.{mid_of, put_mid}
use Rattle.std.proofs.Common.{Option, Result, Ok, Err, Some, None}
use Rattle.std.specs.Result.{result_transpose}
use Rattle.base.specs.Answers.{Answer, done, number_of, of_written}
use Rattle.base.specs.Answers as answer
use Rattle.base.specs.Parts.{over}
use Rattle.base.specs.Tests.{◌when◌else◌}
use Rattle.base.specs.declared.Refusal.{Refusal}
use Rattle.base.specs.declared.Refusal.TheVariants.{Acyclic, Damaged, Space}
use Rattle.base.proofs.Bools.{or_none}
use Rattle.base.proofs.Parts.{put_tail, tail_is}
use Rattle.base.proofs.Tests.{when_no, when_yes}
use Rattle.runs.specs.Bytes.{run_bytes, write_rotated, write_runs}
use Rattle.runs.specs.Orders.{sharp, steady}
use Rattle.runs.specs.Rotate.{rotate_runs}
use Rattle.runs.specs.Inside.Lists.{Taken}
use Rattle.runs.proofs.Laws.Answers.{rotated_written}
use Rattle.runs.proofs.Laws.Cursor.{rotate_few}
use Rattle.runs.proofs.Laws.Orders.{steady_sharp, taken}
use Rattle.runs.proofs.Laws.Shorter.{sharp_last, steady_shorter}
use Rattle.store.specs.Altered.{bad_current, bad_vertices}
use Rattle.store.specs.Close.{acyclic_runs, close_cell, close_filed, close_filed_of, close_open, close_test, count_of, filed_bytes, filed_count, filed_runs, no_close_space, same_close}
use Rattle.store.specs.Inside.Closing.{bytes_into, filed_or_full, table_test}
use Rattle.store.specs.Inside.Fits.{CloseFits, CloseReady}
use Rattle.store.specs.Numbered.{Gate, Test, by_gate, by_sequence, numbered, repeated, sequence_of, tested}
use Rattle.store.specs.State.{after, of_answer, put, with_unitig}
use Rattle.store.specs.declared.numbered.Sequence.{Sequence}
use Rattle.store.specs.declared.numbered.Sequence.TheVariants.{New, Repeat}
use Rattle.store.specs.declared.state.Cell.{Cell}
use Rattle.store.specs.declared.state.Current.{Current}
use Rattle.store.specs.declared.state.Current.TheVariants.{Nothing, Open}
use Rattle.store.specs.declared.state.Last.TheVariants as last
use Rattle.store.specs.declared.state.Shared.{Shared}
use Rattle.store.specs.declared.state.Way.{Way}
use Rattle.store.specs.declared.state.Way.TheVariants.{Cycle, Line}
use Rattle.store.proofs.Laws.Tested.{gate_goes, gate_told, gate_went, refuse_go, said_go}

-- ---- what is known where close may go

open_let : (way : Way) (k : Current) (old : List ℕ) (rest : Test) → close_open way k old rest ≡ Ok tt → (sharp (count_of k) old ≡ true) × (acyclic_runs way (count_of k) old ≡ false) × (k ≡ Open (count_of k)) × (rest ≡ Ok tt)
unfolding close_open count_of
open_let way Nothing old rest e = let z : ◌≡◌ {A = ℕ} 0 1 = cc in absurd (omega arith)
open_let way (Open n) old rest e =
    let a = refuse_go _ _ _ e in
    let b = refuse_go _ _ _ a.1 in
    (not-false _ a.0, b.0, refl, b.1)

pub count_open : (k : Current) (n : ℕ) → k ≡ Open n → n ≡ count_of k
unfolding count_of
count_open k n e = rw e refl

few_vertices : (k : Current) → bad_current k ≡ false → count_of k ≤ 16777215
unfolding bad_current bad_vertices count_of
few_vertices Nothing e = omega arith
few_vertices (Open n) e = ltb-false _ _ (or_none (eqb n 0) _ e).1

close_ready : (c : Cell) (s : Shared) (way : Way) (n : ℕ) (old runs table : List ℕ) → CloseFits c s n (length runs) (length table) → table_test c s way old ≡ Ok tt → CloseReady c s way old (length runs) (length table)
unfolding table_test
close_ready c s way n old runs table o e =
    let a = open_let way c.current old _ e in
    let d = refuse_go _ _ _ a.3 in
    let y : 2 * s.unitigs + 2 ≤ s.table = ltb-false _ _ d.0 in
    record {
      is_sharp = a.0;
      not_acyclic = a.1;
      few = few_vertices c.current o.current;
      is_open = a.2;
      used_runs = o.runs.inside;
      pair = omega (arith, y, o.table.same);
      small_runs = o.runs.small;
      small_table = o.table.small;
    }

-- ---- the run bytes are written

space_same : (at k : ℕ) (file : List ℕ) → at ≤ length file → ltb (length (drop at file)) k ≡ ltb (length file) (at + k)
space_same at k file h = go (ltb (length file) (at + k)) refl
  where
    go : (t : Bool) → ltb (length file) (at + k) ≡ t → ltb (length (drop at file)) k ≡ t
    go true e =
        let a : length file < at + k = ltb-true _ _ e in
        let b : length (drop at file) < k = omega (arith, length-drop at file) in
        lt-ltb _ _ b
    go false e =
        let a : at + k ≤ length file = ltb-false _ _ e in
        let b : k ≤ length (drop at file) = omega (arith, length-drop at file) in
        le-ltb _ _ b

into_by : (t : Bool) (a : Answer) (bytes file part : List ℕ) (at : ℕ) → ◌≡◌ {A = Answer × List ℕ} (a, part) (◌when◌else◌ (answer.refused 3, drop at file) t (done (length bytes ∷ []), over bytes (drop at file)))
    → ◌≡◌ {A = Answer × List ℕ} (a, take at file ++ part) (◌when◌else◌ (answer.refused 3, file) t (done (length bytes ∷ []), put at bytes file))
unfolding ◌when◌else◌ put
into_by true a bytes file part at e =
    ap (λ (x : Answer × List ℕ). (x.0, take at file ++ x.1)) e ∙ ap (λ (l : List ℕ). (answer.refused 3, l)) (take-append-drop at file)
into_by false a bytes file part at e = ap (λ (x : Answer × List ℕ). (x.0, take at file ++ x.1)) e

module _ (file : List ℕ) (at : ℕ) (inside : at ≤ length file) where
  -- behind what is used: it fits, or it is refused
  runs_into : (a : Answer) (part ws : List ℕ) → length ws ≤ 4294967295 → ◌≡◌ {A = Answer × List ℕ} (a, part) (write_runs ws (mid_of at (length file - at) file))
      → ◌≡◌ {A = Answer × List ℕ} (a, put_mid at (length file - at) file part) (bytes_into (run_bytes ws) at file)
  unfolding bytes_into write_runs
  runs_into a part ws few e =
      rw (put_tail at file part)
      (into_by (ltb (length file) (at + length (run_bytes ws))) a (run_bytes ws) file part at
      (e ∙ rw (tail_is at file, space_same at (length (run_bytes ws)) file inside) (when_no _ _ _ (le-ltb _ _ few))))

  pub line_filed : (way : Way) (a : Answer) (part ws : List ℕ) (n used : ℕ) → way ≡ Line → length ws ≡ used → used ≤ 4294967295
      → ◌≡◌ {A = Answer × List ℕ} (a, part) (write_runs ws (mid_of at (length file - at) file))
      → ◌≡◌ {A = Answer × List ℕ} (a, put_mid at (length file - at) file part) (bytes_into (run_bytes (filed_runs way n ws)) at file)
  unfolding filed_runs
  line_filed way a part ws n used q l few e =
      let k : length ws ≤ 4294967295 = omega arith in
      rw q (runs_into a part ws k e)

  pub cycle_filed : (way : Way) (pivot : ℕ) (a : Answer) (part ws : List ℕ) (n : ℕ) → way ≡ Cycle pivot → n ≤ 16777215 → steady n ws ≡ true
      → ◌≡◌ {A = Answer × List ℕ} (a, part) (write_rotated ws n pivot false (mid_of at (length file - at) file))
      → ◌≡◌ {A = Answer × List ℕ} (a, put_mid at (length file - at) file part) (bytes_into (run_bytes (filed_runs way n ws)) at file)
  unfolding filed_runs
  cycle_filed way pivot a part ws n q small st e =
      let t : Taken n ws = taken n ws small st in
      let f : length (rotate_runs n pivot false ws) ≤ n = rotate_few n pivot false ws t in
      let k : length (rotate_runs n pivot false ws) ≤ 4294967295 = omega arith in
      rw q (runs_into a part (rotate_runs n pivot false ws) k (e ∙ sym (rotated_written ws n pivot false (mid_of at (length file - at) file) t)))

-- ---- with the table and the state

bytes_open : (way : Way) (k : Current) (n : ℕ) (old : List ℕ) → k ≡ Open n → filed_bytes way k old ≡ run_bytes (filed_runs way (filed_count way n) old)
unfolding filed_bytes
bytes_open way k n old e = rw e

module _ (c : Cell) (s : Shared) (way : Way) (old file file' : List ℕ) (w : Result ℕ Refusal) (n end : ℕ) (a : CloseReady c s way old (length file) end) (m : n ≡ filed_count way (count_of c.current))
    (e : ◌≡◌ {A = Answer × List ℕ} (of_written w, file') (bytes_into (run_bytes (filed_runs way n old)) s.runs.used file)) where
  abbrev bytes : List ℕ
  bytes = filed_bytes way c.current old

  said : ◌≡◌ {A = Answer × List ℕ} (of_written w, file') (bytes_into bytes s.runs.used file)
  said = e ∙ ap (λ (l : List ℕ). bytes_into l s.runs.used file) (ap (λ (k : ℕ). run_bytes (filed_runs way k old)) m ∙ sym (bytes_open way c.current (count_of c.current) old a.is_open))

  refused_by : (t : Bool) (k : ℕ) → ◌≡◌ {A = Answer × List ℕ} (answer.refused k, file') (◌when◌else◌ (answer.refused 3, file) t (done (length bytes ∷ []), put s.runs.used bytes file))
      → (t ≡ true) × (file' ≡ file)
  unfolding ◌when◌else◌
  refused_by true k q = (refl, ap (λ (x : Answer × List ℕ). x.1) q)
  refused_by false k q =
      let y : answer.refused k ≡ done (length bytes ∷ []) = ap (λ (x : Answer × List ℕ). x.0) q in
      let z : ◌≡◌ {A = ℕ} 0 1 = cc in absurd (omega arith)

  done_by : (t : Bool) (len : ℕ) → ◌≡◌ {A = Answer × List ℕ} (done (len ∷ []), file') (◌when◌else◌ (answer.refused 3, file) t (done (length bytes ∷ []), put s.runs.used bytes file))
      → (t ≡ false) × (len ≡ length bytes) × (file' ≡ put s.runs.used bytes file)
  unfolding ◌when◌else◌
  done_by true len q =
      let y : done (len ∷ []) ≡ answer.refused 3 = ap (λ (x : Answer × List ℕ). x.0) q in
      let z : ◌≡◌ {A = ℕ} 0 1 = cc in absurd (omega arith)
  done_by false len q =
      let y : done (len ∷ []) ≡ done (length bytes ∷ []) = ap (λ (x : Answer × List ℕ). x.0) q in
      (refl, cc, ap (λ (x : Answer × List ℕ). x.1) q)

  pub filed_full : (i : ℕ) (table : List ℕ) (r : Refusal) → w ≡ Err r → ◌≡◌ {A = Answer × Cell × Shared × List ℕ × List ℕ} (answer.refused 3, c, s, file', table) (filed_or_full c s i way old file table)
  unfolding filed_or_full bytes_into
  filed_full i table r h =
      let d = refused_by (ltb (length file) (s.runs.used + length bytes)) (number_of r) (ap (λ (x : Result ℕ Refusal). (of_written x, file')) (sym h) ∙ said) in
      rw d.1 (sym (when_yes _ _ _ d.0))

  filed_length : (len : ℕ) → w ≡ Ok len → (s.runs.used + len ≤ length file) × (len ≡ length bytes) × (file' ≡ put s.runs.used bytes file)
  unfolding bytes_into
  filed_length len h =
      let d = done_by (ltb (length file) (s.runs.used + length bytes)) len (ap (λ (x : Result ℕ Refusal). (of_written x, file')) (sym h) ∙ said) in
      let f : s.runs.used + length bytes ≤ length file = ltb-false _ _ d.0 in
      let l : len ≡ length bytes = d.1 in
      (omega arith, d.1, d.2)

  pub filed_small : (len : ℕ) → w ≡ Ok len → s.runs.used + len < 18446744073709551616
  filed_small len h = omega (arith, (filed_length len h).0, a.small_runs)

  pub filed_done : (i : ℕ) (table : List ℕ) (len : ℕ) → w ≡ Ok len
      → ◌≡◌ {A = Answer × Cell × Shared × List ℕ × List ℕ} (done (s.unitigs ∷ []), after c c.records.used c.sets 0 c.held.used Nothing i (last.Close way) s.unitigs, with_unitig s (s.runs.used + len) (s.unitigs + 1), file', set (set table (2 * s.unitigs) s.runs.used) (2 * s.unitigs + 1) n) (filed_or_full c s i way old file table)
  unfolding filed_or_full close_filed_of
  filed_done i table len h =
      let l = filed_length len h in
      let f : s.runs.used + length bytes ≤ length file = omega (arith, l.0, l.1) in
      rw (l.2, m) (ap (λ (j : ℕ). (done (s.unitigs ∷ []), after c c.records.used c.sets 0 c.held.used Nothing i (last.Close way) s.unitigs, with_unitig s (s.runs.used + j) (s.unitigs + 1), put s.runs.used bytes file, set (set table (2 * s.unitigs) s.runs.used) (2 * s.unitigs + 1) (filed_count way (count_of c.current)))) l.1 ∙ sym (when_no _ _ _ (le-ltb _ _ f)))

-- the open runs are steady for the vertices that are filed
pub filed_steady : (way : Way) (n : ℕ) (old : List ℕ) → sharp n old ≡ true → steady (filed_count way n) old ≡ true
unfolding filed_count
filed_steady Line n old e = steady_sharp n old e
filed_steady (Cycle pivot) n old e = steady_shorter (n - 1) old (sharp_last n old e)

pub count_filed : (way : Way) (k : Current) (n m : ℕ) → k ≡ Open n → m ≡ filed_count way n → m ≡ filed_count way (count_of k)
unfolding count_of
count_filed way k n m e h = rw e h

pub filed_few : (way : Way) (n : ℕ) → n ≤ 16777215 → filed_count way n ≤ 16777215
unfolding filed_count
filed_few Line n h = h
filed_few (Cycle pivot) n h = omega arith

-- the second number of a pair stands behind the first
pub second_number : (k v : ℕ) (table : List ℕ) → k + 2 ≤ length table → k + 1 < length (set table k v)
second_number k v table h = omega (arith, length-set table k v)

-- ---- the table's space is tested before, the space of the run bytes where they are written

module _ {R : Type 0} (told : Answer → R) (go : R) where
  space_split : (long full : Bool) → by_gate (tested (◌when◌else◌ (Err Space) (long || full) (Ok tt))) told go ≡ by_gate (tested (◌when◌else◌ (Err Space) full (Ok tt))) told (◌when◌else◌ (told (answer.refused 3)) long go)
  unfolding ◌when◌else◌ by_gate tested
  space_split true true = refl
  space_split true false = refl
  space_split false true = refl
  space_split false false = refl

  -- behind a test of another refusal
  later_split : (r : Refusal) (t : Bool) (x y : Test) (late : R) → by_gate (tested x) told go ≡ by_gate (tested y) told late → by_gate (tested (◌when◌else◌ (Err r) t x)) told go ≡ by_gate (tested (◌when◌else◌ (Err r) t y)) told late
  unfolding ◌when◌else◌ by_gate tested
  later_split r true x y late e = refl
  later_split r false x y late e = e

  open_split : (way : Way) (k : Current) (old : List ℕ) (long full : Bool) → by_gate (tested (close_open way k old (◌when◌else◌ (Err Space) (long || full) (Ok tt)))) told go ≡ by_gate (tested (close_open way k old (◌when◌else◌ (Err Space) full (Ok tt)))) told (◌when◌else◌ (told (answer.refused 3)) long go)
  unfolding close_open by_gate tested
  open_split way Nothing old long full = refl
  open_split way (Open n) old long full = later_split Damaged (not (sharp n old)) _ _ _ (later_split Acyclic (acyclic_runs way n old) _ _ _ (space_split long full))

  sequence_split : (t : Result Sequence Refusal) (same : Bool) (a : ℕ) (x y : Test) (late : R) → by_gate (tested x) told go ≡ by_gate (tested y) told late → by_gate (by_sequence t (repeated same a) x) told go ≡ by_gate (by_sequence t (repeated same a) y) told late
  unfolding by_sequence repeated ◌when◌else◌ by_gate
  sequence_split (Err r) same a x y late e = refl
  sequence_split (Ok Repeat) true a x y late e = refl
  sequence_split (Ok Repeat) false a x y late e = refl
  sequence_split (Ok New) same a x y late e = e

closed_is : (c : Cell) (s : Shared) (i : ℕ) (way : Way) (o k t : List ℕ) → s.runs.length ≡ length k
    → close_cell c s i way o k t ≡ by_gate (numbered c i (same_close c.last way) (table_test c s way (take c.opened.used o))) (λ (a : Answer). (a, c, s, k, t)) (filed_or_full c s i way (take c.opened.used o) k t)
unfolding close_cell close_test no_close_space table_test filed_or_full numbered
closed_is c s i way o k t e =
    let old : List ℕ = take c.opened.used o in
    let end : ℕ = s.runs.used + length (filed_bytes way c.current (take c.opened.used o)) in
    sequence_split (λ (a : Answer). (a, c, s, k, t)) (close_filed c s i way o k t) (sequence_of c.number i) (same_close c.last way) c.answer _ _ _
    (open_split (λ (a : Answer). (a, c, s, k, t)) (close_filed c s i way o k t) way c.current old (ltb s.runs.length end) (ltb s.table (2 * s.unitigs + 2)))
    ∙ ap (λ (m : ℕ). by_gate (numbered c i (same_close c.last way) (table_test c s way (take c.opened.used o))) (λ (a : Answer). (a, c, s, k, t)) (◌when◌else◌ (answer.refused 3, c, s, k, t) (ltb m end) (close_filed c s i way o k t))) e

-- ---- what the gate of a close told

module _ (c : Cell) (s : Shared) (i : ℕ) (way : Way) (o k t : List ℕ) (fits : CloseFits c s (length o) (length k) (length t)) (g : Gate) (r : Option (Result ℕ Refusal))
    (h : g ≡ numbered c i (same_close c.last way) (table_test c s way (take c.opened.used o))) (e : r ≡ result_transpose g) where
  abbrev told : Answer → Answer × Cell × Shared × List ℕ × List ℕ
  told a = (a, c, s, k, t)

  abbrev filed : Answer × Cell × Shared × List ℕ × List ℕ
  filed = filed_or_full c s i way (take c.opened.used o) k t

  close_is : by_gate g told filed ≡ close_cell c s i way o k t
  close_is = ap (λ (x : Gate). by_gate x told filed) h ∙ sym (closed_is c s i way o k t fits.runs.same)

  pub close_told : (a : Result ℕ Refusal) → r ≡ Some a → ◌≡◌ {A = Answer × Cell × Shared × List ℕ × List ℕ} (of_answer a, c, s, k, t) (close_cell c s i way o k t)
  close_told a q = gate_told g told filed r e a q ∙ close_is

  pub close_goes : r ≡ None → CloseReady c s way (take c.opened.used o) (length k) (length t)
  close_goes q = close_ready c s way _ (take c.opened.used o) k t fits (said_go c i _ _ (sym h ∙ gate_goes g told filed r e q))

  pub close_done : r ≡ None → (x : Answer × Cell × Shared × List ℕ × List ℕ) → x ≡ filed_or_full c s i way (take c.opened.used o) k t → x ≡ close_cell c s i way o k t
  close_done q x p = gate_went g told filed r e q x p ∙ close_is
