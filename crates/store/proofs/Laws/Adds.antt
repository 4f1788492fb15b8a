-- An add: its tests, one record more, and what ties the two stores after an accepted one.
use Prim.Native.Nat.{ℕ, ◌+◌, ◌*◌, ◌≤◌, ◌<◌}
use mathlib.Core.Path.{◌≡◌, refl, sym, ap, ◌∙◌}
use mathlib.Core.Bool.{not}
use mathlib.Core.List.{List, [], ◌∷◌, ◌++◌}
use mathlib.Core.Option.{Option}
use native.Mathlib.Omega.{arith}
use native.Mathlib.Nat.{zero-add}
use native.Mathlib.Numerals.{add-one}
use lib.ListN.{length, set, length-append, length-set}
use lib.Seq.{get_or-append_seam, take-suc-set}
use borrow.Author.Tests.{ltb-false, not-false}
use Rattle.base.specs.Answers.{done}
use Rattle.base.specs.declared.Refusal.TheVariants.{Ids, Space}
use Rattle.base.proofs.All.{all_append}
use Rattle.base.proofs.Bools.{or_none}
use Rattle.codec.proofs.Promise.{IsSet}
use Rattle.codec.specs.Flat.{bounds}
use Rattle.codec.specs.Records.{file_of, record_of}
use Rattle.store.specs.Add.{add_filed, add_test, after_add, no_space}
use Rattle.store.specs.Plain.{Plain, PlainCell, Unitig, accept, accepted, add, add_tests, effect, tests}
use Rattle.store.specs.State.{Bufs, CellBufs, Outcome, after, put, with_records}
use Rattle.store.specs.declared.state.Cell.{Cell}
use Rattle.store.specs.declared.state.Current.{Current}
use Rattle.store.specs.declared.state.Store.{Store}
use Rattle.store.proofs.Laws.After.{cell_after, size_kept}
use Rattle.store.proofs.Laws.Agree.{set_within}
use Rattle.store.proofs.Laws.Flats.{flat_more, starts_more}
use Rattle.store.proofs.Laws.Gates.{as_verdict, refuse_accept, refuse_both}
use Rattle.store.proofs.Laws.Names.{named_more}
use Rattle.store.proofs.Laws.Puts.{put_length, put_take}
use Rattle.store.proofs.Laws.Rep.{CellRep, Filed, OpenRep, Rep, added}
use Rattle.store.proofs.Laws.Rep as rep
use Rattle.store.proofs.Laws.Table.{shared_more}
use Rattle.store.proofs.Laws.Unitigs.{good_more}

-- ---- one record more

module _ {N : ℕ} {S : List (List ℕ)} {used sets : ℕ} {file index : List ℕ} (f : Filed N S used sets file index) (ids : List ℕ) (ok : IsSet N ids) (room : length (file_of N S) + length (record_of N ids) ≤ length file) (entry : length S + 2 ≤ length index) where
  long_file : length (file_of N (S ++ (ids ∷ []))) ≡ length (file_of N S) + length (record_of N ids)
  long_file = ap length (flat_more (record_of N) S ids) ∙ length-append (file_of N S) (record_of N ids)

  long_sets : length (S ++ (ids ∷ [])) ≡ length S + 1
  long_sets = length-append S (ids ∷ [])

  filed_more : Filed N (S ++ (ids ∷ [])) (used + length (record_of N ids)) (sets + 1) (put used (record_of N ids) file) (set index (sets + 1) (used + length (record_of N ids)))
  filed_more =
      let u : used ≡ length (file_of N S) = f.far in
      let fits : used + length (record_of N ids) ≤ length file = omega arith in
      let x : length S + 1 < length index = omega arith in
      record {
        far = omega (arith, long_file);
        many = omega (arith, long_sets, f.many);
        room = omega (arith, long_file, put_length used (record_of N ids) file fits);
        entries = omega (arith, long_sets, length-set index (sets + 1) (used + length (record_of N ids)));
        bytes =
            rw (long_file, ← u, put_take used (record_of N ids) file fits, u, f.bytes)
            (sym (flat_more (record_of N) S ids));
        places =
            rw (long_sets, f.many, u, add-one (length S + 1), take-suc-set index (length S + 1) (length (file_of N S) + length (record_of N ids)) x, f.places)
            (sym (starts_more (record_of N) 0 S ids ∙ ap (λ (n : ℕ). bounds (record_of N) 0 S ++ ((n + length (record_of N ids)) ∷ [])) (zero-add (length (file_of N S)))));
        each = all_append (IsSet N) S (ids ∷ []) f.each (ok, tt);
      }

-- ---- a set more leaves what is named named

pub set_more : (S : List (List ℕ)) (ids : List ℕ) → length S ≤ length (S ++ (ids ∷ []))
set_more S ids = omega (arith, length-append S (ids ∷ []))

open_more : {P Q : ℕ → Type 0} {c : Option Unitig} {o : Current} {used : ℕ} {runs : List ℕ} → ((x : ℕ) → P x → Q x) → OpenRep P c o used runs → OpenRep Q c o used runs
open_more h rep.closed = rep.closed
open_more h (rep.opened e g t) = rep.opened e (good_more h g) t

-- ---- a cell

module _ {N : ℕ} {p : PlainCell} {c : Cell} {b : CellBufs} (r : CellRep N p c b) (ids : List ℕ) where
  pub add_tests_cell : as_verdict (add_test N c ids) ≡ add_tests N p ids
  unfolding as_verdict add_test add_tests no_space
  add_tests_cell =
      refuse_both Ids _ _ (ap not (sym (set_within N ids))) (λ x.
      refuse_both Space _ _ (rw (r.record_size.told, r.index_size.told, r.filed.far, r.filed.many)) (λ y. refl))

  pub add_cell_lem : (i : ℕ) → add_tests N p ids ≡ accept
      → CellRep N (cell_after p i (add ids) (p.W + 256 * length p.S) (p.S ++ (ids ∷ [])) p.current) (add_filed N c i ids b.records b.index).1
      (with_records b (add_filed N c i ids b.records b.index).2 (add_filed N c i ids b.records b.index).3)
  unfolding add_tests add_filed after
  add_cell_lem i e =
      let x = refuse_accept _ _ _ e in
      let y = refuse_accept _ _ _ x.1 in
      let ok : IsSet N ids = sym (set_within N ids) ∙ not-false _ x.0 in
      let fits = or_none _ _ y.0 in
      let a : length (file_of N p.S) + length (record_of N ids) ≤ p.lengths.records = ltb-false _ _ fits.0 in
      let d : length p.S + 2 ≤ p.lengths.index = ltb-false _ _ fits.1 in
      let room : length (file_of N p.S) + length (record_of N ids) ≤ length b.records = omega (arith, r.record_size.long) in
      let entry : length p.S + 2 ≤ length b.index = omega (arith, r.index_size.long) in
      let space : c.records.used + length (record_of N ids) ≤ length b.records = omega (arith, r.filed.far) in
      let here : length p.S < length (p.S ++ (ids ∷ [])) = omega (arith, length-append p.S (ids ∷ [])) in
      record {
        worker = r.worker;
        narrow = r.narrow;
        record_size = size_kept r.record_size (put_length c.records.used (record_of N ids) b.records space);
        index_size = size_kept r.index_size (length-set b.index _ _);
        open_size = r.open_size;
        held_size = r.held_size;
        filed = filed_more r.filed ids ok room entry;
        open_room = r.open_room;
        opened = open_more (named_more (set_more p.S ids)) r.opened;
        held_room = r.held_room;
        last = refl;
        call = rw (r.worker, r.filed.many) (added (length p.S) here (get_or-append_seam p.S ids [] []) refl);
      }

-- ---- the store

abbrev pub add_done : Store → Bufs → ℕ → List ℕ → Outcome
add_done s b i ids = after_add s b (add_filed s.colors s.cell i ids b.cell.records b.cell.index)

module _ {p : Plain} {s : Store} {b : Bufs} (r : Rep p s b) where
  pub add_tests_lem : (ids : List ℕ) → as_verdict (add_test s.colors s.cell ids) ≡ tests p (add ids)
  unfolding tests
  add_tests_lem ids = rw r.colors (add_tests_cell r.cell ids)

  pub add_kept : (i : ℕ) (ids : List ℕ) → tests p (add ids) ≡ accept → Rep (accepted p i (add ids) (effect p (add ids))) (add_done s b i ids).1 (add_done s b i ids).2
  unfolding tests accepted effect
  add_kept i ids e =
      rw r.colors
      (record {
        colors = refl;
        limits = r.limits;
        cell = add_cell_lem r.cell ids i e;
        shared = shared_more (named_more (set_more p.cell.S ids)) r.shared;
      })

  pub add_answer : (i : ℕ) (ids : List ℕ) → (add_done s b i ids).0 ≡ done ((effect p (add ids)).0 ∷ [])
  unfolding effect add_filed
  add_answer i ids = rw (r.cell.worker, r.cell.filed.many)
