-- The cases of an add, as `search` looks for them.
use Prim.Native.Nat.{ℕ, ◌+◌, ◌-◌, ◌≤◌, ◌<◌}
use mathlib.Core.Path.{◌≡◌, refl, ap, ◌∙◌, sym}
use mathlib.Core.Bool.{Bool, true, false}
use mathlib.Core.List.{List, [], ◌∷◌}
use mathlib.Core.Option.{Option, none, some}
use native.Mathlib.Omega.{arith}
use lib.ListN.{length, set, take, drop, length-drop}
use lib.Dec.{ltb}
use borrow.Author.Tests.{le-ltb, ltb-false, not-false}
use borrow.Rule.Slice.PartMut.{mid_of, put_mid}
use Rattle.std.proofs.Common.{Result, Ok, Err, Some, None, IsOk}
use Rattle.std.proofs.Common as std
use Rattle.std.specs.Result.{result_transpose}
use Rattle.base.specs.Answers.{Answer, done, number_of, of_written, refused}
use Rattle.base.specs.Parts.{over}
use Rattle.base.specs.declared.Refusal.{Refusal}
use Rattle.base.specs.Tests.{◌when◌else◌}
use Rattle.base.proofs.Bools.{or_none}
use Rattle.base.proofs.Parts.{put_tail, tail_is}
use Rattle.codec.specs.Records.{ReadRecord, bad_colors, gives_ids, is_record, read_record, record_length, record_of, write_record}
use Rattle.codec.specs.Records as records
use Rattle.runs.specs.Words.{coordinate_of}
use Rattle.store.specs.Add.{add_cell, add_filed, add_test, no_space, same_add}
use Rattle.store.specs.Filed.{reads_as, record_start, set_at, set_from, set_in, unnamed}
use Rattle.store.specs.Inside.Adding.{add_next, set_found}
use Rattle.store.specs.Inside.Fits.{AddFits, AddReady}
use Rattle.store.specs.Numbered.{Gate, Test, by_gate, by_sequence, numbered, repeated, sequence_of, tested}
use Rattle.store.specs.State.{after, of_answer, put}
use Rattle.store.specs.declared.numbered.Sequence.{Sequence}
use Rattle.store.specs.declared.numbered.Sequence.TheVariants.{New, Repeat}
use Rattle.store.specs.declared.state.Cell.{Cell}
use Rattle.store.specs.declared.state.Last.{Last}
use Rattle.store.specs.declared.state.Last.TheVariants as last
use Rattle.store.proofs.Laws.Parts.{part_whole, rest_is}
use Rattle.store.proofs.Laws.Tested.{told_written, is_ok_at, gate_told, gate_went, refuse_go}

-- ---- the record that a coordinate names

-- where a record begins is within what is used
within_by : (t u : Bool) (used entry at : ℕ) → ltb used entry ≡ u → ◌≡◌ {A = Option ℕ} (some at) (◌when◌else◌ none t (◌when◌else◌ none u (some entry))) → at ≤ used
unfolding ◌when◌else◌
within_by true u used entry at q k = let z : ◌≡◌ {A = ℕ} 0 1 = cc in absurd (omega arith)
within_by false true used entry at q k = let z : ◌≡◌ {A = ℕ} 0 1 = cc in absurd (omega arith)
within_by false false used entry at q k =
    let e : at ≡ entry = cc in
    let h : entry ≤ used = ltb-false used entry q in
    omega arith

pub start_within : (at : ℕ) (c : Cell) (index : List ℕ) (coord : ℕ) → some at ≡ record_start c index coord → at ≤ c.records.used
unfolding record_start
start_within at c index coord e = within_by (unnamed c.worker c.sets coord) _ _ _ at refl e

-- the part of the record file from a place on reads to these ids
gives_reads : (r : ReadRecord) (ids : List ℕ) → gives_ids r ids ≡ reads_as (set_in r) ids
unfolding set_in reads_as
gives_reads (records.found js rest) ids = refl
gives_reads records.short ids = refl
gives_reads records.damaged ids = refl

pub part_reads : (r : Bool) (N : ℕ) (c : Cell) (file ids : List ℕ) (at : ℕ) → length file ≡ c.records.used → bad_colors N ≡ false
    → r ≡ is_record N ids (take (length file - at) (drop at file)) → r ≡ reads_as (set_from N c file (some at)) ids
unfolding is_record set_from ◌when◌else◌
part_reads r N c file ids at h b e =
    e ∙ rw (b, rest_is c.records.used file h at) (gives_reads _ ids)

-- ---- what is known where add may go

pub ready : (N : ℕ) (c : Cell) (ids : List ℕ) (f n : ℕ) → AddFits N c f n → add_test N c ids ≡ Ok tt → AddReady N c ids f n
unfolding add_test no_space
ready N c ids f n a e =
    let i = refuse_go _ _ _ e in
    let s = refuse_go _ _ _ i.1 in
    let long : Bool = ltb c.records.length (c.records.used + length (record_of N ids)) in
    let x : c.records.used + length (record_of N ids) ≤ c.records.length = ltb-false _ _ (or_none long _ s.0).0 in
    let y : c.sets + 2 ≤ c.index = ltb-false _ _ (or_none long _ s.0).1 in
    let x' : c.records.length ≡ f = a.records.same in
    let y' : c.index ≡ n = a.index.same in
    record {
      fits = a;
      is_set = not-false _ i.0;
      room = omega arith;
      entry = omega arith;
    }

-- the sets are read in the used part of the file
pub set_part : (N : ℕ) (c : Cell) (file : List ℕ) → c.records.used ≤ length file → (o : Option ℕ) → set_from N c (take c.records.used file) o ≡ set_from N c file o
unfolding set_from
set_part N c file h none = refl
set_part N c file h (some at) = ap (λ (l : List ℕ). set_in (read_record N (drop at l))) (part_whole c.records.used file h)

same_part : (N : ℕ) (c : Cell) (file index : List ℕ) (l : Last) (ids : List ℕ) → c.records.used ≤ length file → same_add N c (take c.records.used file) index l ids ≡ same_add N c file index l ids
unfolding same_add set_at
same_part N c file index last.Fresh ids h = refl
same_part N c file index last.Add ids h = ap (λ (o : Option (List ℕ)). reads_as o ids) (set_part N c file h (record_start c index c.answer))
same_part N c file index (last.Join n r) ids h = refl
same_part N c file index (last.Close v) ids h = refl

-- ---- the tests behind the gate

found_refused : (N : ℕ) (ids : List ℕ) (t : Test) (r : Refusal) → Err r ≡ set_found N ids t → t ≡ Err r
found_refused N ids (Err r) q e = cc
found_refused N ids (Ok _) q e = let z : ◌≡◌ {A = ℕ} 0 1 = cc in absurd (omega arith)

found_set : (N : ℕ) (ids : List ℕ) (t : Test) (m : ℕ × List ℕ) → Ok m ≡ set_found N ids t → (t ≡ Ok tt) × (m ≡ (N, ids))
found_set N ids (Err r) m e = let z : ◌≡◌ {A = ℕ} 0 1 = cc in absurd (omega arith)
found_set N ids (Ok _) m e = (refl, cc)

module _ (N : ℕ) (c : Cell) (i : ℕ) (ids file index : List ℕ) where
  pub next_refused : (r : Refusal) → Err r ≡ set_found N ids (add_test N c ids) → (refused (number_of r), c, file, index) ≡ add_next N c i ids file index
  unfolding by_gate tested
  next_refused r e = rw (found_refused N ids (add_test N c ids) r e) refl

  pub next_goes : (m : ℕ × List ℕ) → Ok m ≡ set_found N ids (add_test N c ids) → AddFits N c (length file) (length index) → AddReady m.0 c m.1 (length file) (length index)
  next_goes m e a =
      let f = found_set N ids (add_test N c ids) m e in
      rw f.1 (ready N c ids _ _ a f.0)

  pub next_filed : (m : ℕ × List ℕ) → Ok m ≡ set_found N ids (add_test N c ids) → (x : Answer × Cell × List ℕ × List ℕ) → x ≡ add_filed m.0 c i m.1 file index → x ≡ add_next N c i ids file index
  unfolding by_gate tested
  next_filed m e x k =
      let f = found_set N ids (add_test N c ids) m e in
      rw f.0 (k ∙ ap (λ (s : ℕ × List ℕ). add_filed s.0 c i s.1 file index) f.1)

-- ---- what the gate of an add told, which has no tests: the laws of every gate (Tested), of what an add is; Closing and Joining have theirs

-- the tests of a call, behind its gate or in it
tests_behind : {R : Type 0} (t : Result Sequence Refusal) (same : Bool) (a : ℕ) (tests : Test) (told : Answer → R) (go : R)
    → by_gate (by_sequence t (repeated same a) (Ok tt)) told (by_gate (tested tests) told go) ≡ by_gate (by_sequence t (repeated same a) tests) told go
unfolding by_gate by_sequence tested repeated ◌when◌else◌
tests_behind (Err r) same a tests told go = refl
tests_behind (Ok Repeat) true a tests told go = refl
tests_behind (Ok Repeat) false a tests told go = refl
tests_behind (Ok New) same a tests told go = refl

module _ (N : ℕ) (c : Cell) (i : ℕ) (ids file index : List ℕ) (fits : AddFits N c (length file) (length index)) (g : Gate) (r : std.Option (Result ℕ Refusal))
    (h : g ≡ numbered c i (same_add N c (take c.records.used file) index c.last ids) (Ok tt)) (e : r ≡ result_transpose g) where
  cell_is : by_gate g (λ (a : Answer). (a, c, file, index)) (add_next N c i ids file index) ≡ add_cell N c i ids file index
  unfolding add_cell numbered
  cell_is =
      ap (λ (x : Gate). by_gate x (λ (a : Answer). (a, c, file, index)) (add_next N c i ids file index)) (h ∙ ap (λ (t : Bool). numbered c i t (Ok tt)) (same_part N c file index c.last ids (omega (arith, fits.records.inside))))
      ∙ tests_behind (sequence_of c.number i) (same_add N c file index c.last ids) c.answer (add_test N c ids) (λ (a : Answer). (a, c, file, index)) (add_filed N c i ids file index)

  pub add_told : (a : Result ℕ Refusal) → r ≡ Some a → ◌≡◌ {A = Answer × Cell × List ℕ × List ℕ} (of_answer a, c, file, index) (add_cell N c i ids file index)
  add_told a q = gate_told g (λ (x : Answer). (x, c, file, index)) (add_next N c i ids file index) r e a q ∙ cell_is

  pub add_done : r ≡ None → (x : Answer × Cell × List ℕ × List ℕ) → x ≡ add_next N c i ids file index → x ≡ add_cell N c i ids file index
  add_done q x k = gate_went g (λ (y : Answer). (y, c, file, index)) (add_next N c i ids file index) r e q x k ∙ cell_is

-- ---- the record is written

module _ (w : Result ℕ Refusal) (part : List ℕ) (N : ℕ) (c : Cell) (ids file index : List ℕ) (a : AddReady N c ids (length file) (length index)) (e : ◌≡◌ {A = Answer × List ℕ} (of_written w, part) (write_record N ids (mid_of c.records.used (length file - c.records.used) file))) where
  said : ◌≡◌ {A = Answer × List ℕ} (of_written w, part) (done (length (record_of N ids) ∷ []), over (record_of N ids) (drop c.records.used file))
  unfolding write_record ◌when◌else◌
  said =
      let r = a.room in
      let l : length (record_of N ids) ≤ length (drop c.records.used file) = omega (arith, length-drop c.records.used file) in
      e ∙ rw (tail_is c.records.used file, a.fits.colors, a.is_set, le-ltb _ _ l)

  told : w ≡ Ok (length (record_of N ids))
  told = told_written w _ (ap (λ (x : Answer × List ℕ). x.0) said)

  pub wrote_ok : IsOk w
  wrote_ok = is_ok_at w _ told

  wrote : (len : ℕ) → w ≡ Ok len → len ≡ length (record_of N ids)
  wrote len k = let z : ◌≡◌ {A = Result ℕ Refusal} (Ok len) (Ok (length (record_of N ids))) = sym k ∙ told in cc

  pub wrote_small : (len : ℕ) → w ≡ Ok len → c.records.used + len < 18446744073709551616
  wrote_small len k = omega (arith, wrote len k, a.room, a.fits.records.small)

  pub filed_set : (len : ℕ) → w ≡ Ok len → (i coord : ℕ) → coord ≡ coordinate_of c.worker c.sets
      → ◌≡◌ {A = Answer × Cell × List ℕ × List ℕ} (done (coord ∷ []), after c (c.records.used + len) (c.sets + 1) c.opened.used c.held.used c.current i last.Add coord, put_mid c.records.used (length file - c.records.used) file part, set index (c.sets + 1) (c.records.used + len)) (add_filed N c i ids file index)
  unfolding add_filed put
  filed_set len k i coord h =
      let p : part ≡ over (record_of N ids) (drop c.records.used file) = ap (λ (x : Answer × List ℕ). x.1) said in
      rw (h, wrote len k, put_tail c.records.used file part, p)
