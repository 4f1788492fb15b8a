-- A join: its tests, and what ties the two stores after an accepted one.
use Prim.Native.Nat.{ℕ, ◌+◌, ◌-◌, ◌≤◌}
use mathlib.Core.Path.{◌≡◌, refl, sym, ap, ◌∙◌}
use mathlib.Core.Bool.{Bool, true, false, not, ◌||◌}
use mathlib.Core.List.{List, [], ◌∷◌, ◌++◌, map}
use mathlib.Core.Option.{Option, some}
use native.Mathlib.Omega.{arith}
use native.Mathlib.Nat.{zero-add}
use lib.ListN.{length, get_or, take, length-append}
use lib.Seq.{length-take-le}
use lib.Dec.{ltb, eqb}
use borrow.Author.Tests.{ltb-false, not-false}
use Rattle.base.specs.Answers.{done}
use Rattle.base.specs.Tests.{◌when◌else◌}
use Rattle.base.specs.declared.Refusal.TheVariants.{Coordinate, Junction, Runs, Space, Vertices}
use Rattle.base.proofs.Bools.{or_none}
use Rattle.base.proofs.Parts.{length_over}
use Rattle.runs.specs.Append.{appendix}
use Rattle.runs.specs.Colours.{first_coord, last_coord, starts}
use Rattle.runs.specs.Merge.{merge}
use Rattle.runs.specs.Orders.{sharp}
use Rattle.runs.specs.Reverse.{oriented}
use Rattle.runs.specs.Words.{coordinate}
use Rattle.store.specs.Join.{after_join, all_named, join_filed, join_filed_at, join_test, open_at, open_count, open_new, open_space, open_test}
use Rattle.store.specs.Numbered.{Test}
use Rattle.store.specs.Plain.{Plain, PlainCell, Unitig, Verdict, accept, accepted, are_sharp, differs, effect, join, join_tests, joined, name_sets, new_count, piece_of, refuse, tests}
use Rattle.store.specs.State.{Bufs, CellBufs, Outcome, after, with_opened}
use Rattle.store.specs.declared.state.Cell.{Cell}
use Rattle.store.specs.declared.state.Current.{Current}
use Rattle.store.specs.declared.state.Store.{Store}
use Rattle.store.proofs.Laws.After.{cell_after, size_kept}
use Rattle.store.proofs.Laws.Agree.{names_agree, sharp_agrees}
use Rattle.store.proofs.Laws.Gates.{as_verdict, refuse_accept, refuse_both}
use Rattle.store.proofs.Laws.Puts.{over_take, put_length, put_take}
use Rattle.store.proofs.Laws.Rep.{CellRep, Good, NamedIn, OpenRep, Rep, unitig_runs}
use Rattle.store.proofs.Laws.Rep as rep
use Rattle.store.proofs.Laws.Unitigs.{Told, join_told, last_of, piece_coords, piece_first, piece_told, runs_long, runs_sharp}

-- a piece is no longer than what it makes
pub few_of : {names : ℕ → Type 0} {n used : ℕ} {c : Option Unitig} {o : Current} {runs : List ℕ} → OpenRep names c o used runs → new_count c n ≤ 16777215 → n ≤ 16777215
unfolding new_count
few_of rep.closed h = h
few_of (rep.opened {u} e g t) h = let v = g.vertices in omega arith

counts_agree : {names : ℕ → Type 0} {used : ℕ} {c : Option Unitig} {o : Current} {runs : List ℕ} (n : ℕ) → OpenRep names c o used runs → open_count o n ≡ new_count c n
unfolding open_count new_count
counts_agree n rep.closed = refl
counts_agree n (rep.opened e g t) = rw e

-- an accepted piece, in the words of the store over its buffers
record Fine (p : PlainCell) (n : ℕ) (piece : List ℕ) : Type 0 where
  pub small : new_count p.current n ≤ 16777215
  pub is_sharp : sharp n piece ≡ true
  pub named : all_named p.W (length p.S) piece ≡ true

fine : (p : PlainCell) (n : ℕ) (piece : List ℕ)
    → (eqb n 0 || ltb 16777215 (new_count p.current n)) ≡ false
    → not (are_sharp n (starts piece)) ≡ false
    → not (name_sets p.W (length p.S) (map coordinate piece)) ≡ false
    → Fine p n piece
fine p n piece e7 e6 e9 =
    record {
      small = ltb-false 16777215 _ (or_none (eqb n 0) _ e7).1;
      is_sharp = sym (sharp_agrees n piece) ∙ not-false _ e6;
      named = sym (names_agree p.W (length p.S) piece) ∙ not-false _ e9;
    }

-- ---- a cell

module _ {N : ℕ} {p : PlainCell} {c : Cell} {b : CellBufs} (r : CellRep N p c b) (n : ℕ) (back : Bool) (runs : List ℕ) where
  abbrev piece : Unitig
  piece = piece_of n back runs

  abbrev old : List ℕ
  old = take c.opened.used b.opened

  -- what an open unitig and a piece that meets it give
  record Joining (u : Option Unitig) (o : Current) : Type 0 where
    pub good : Good (NamedIn p) (joined u piece)
    pub count : open_count o n ≡ length (joined u piece).coords
    pub tail : take (open_at o c.opened.used) b.opened ++ open_new o old (oriented back n runs) ≡ unitig_runs (joined u piece)
    pub long : open_at o c.opened.used + length (open_new o old (oriented back n runs)) ≡ length (joined u piece).starts

  module _ (f : Fine p n runs) where
    facts : Told (NamedIn p) n (merge (oriented back n runs)) piece
    facts = piece_told p.W (length p.S) n back runs (few_of r.opened f.small) f.is_sharp f.named

    joining : {u : Option Unitig} {o : Current} → OpenRep (NamedIn p) u o c.opened.used b.opened → new_count u n ≤ 16777215 → differs u piece ≡ false → Joining u o
    unfolding new_count joined open_count open_at open_new
    joining rep.closed h e =
        record {
          good = facts.good;
          count = sym facts.long;
          tail = sym facts.runs_are;
          long = zero-add _ ∙ ap length (sym facts.runs_are) ∙ runs_long piece;
        }
    joining (rep.opened {u} {n = m} q g t) h e =
        let k = few_of (rep.opened q g t) h in
        let j = join_told u g n back runs f.is_sharp k piece facts.good (piece_coords n back runs k f.is_sharp) e h in
        let z : old ++ appendix (last_coord old) m (oriented back n runs) ≡ unitig_runs (joined (some u) piece) = rw (t, q) (sym j.runs_are) in
        let y : length old ≡ c.opened.used = length-take-le _ _ r.open_room in
        record {
          good = j.good;
          count = omega (arith, q, facts.long, j.long);
          tail = z;
          long = omega (arith, y, length-append old (appendix (last_coord old) m (oriented back n runs)), ap length z, runs_long (joined (some u) piece));
        }

    -- 5, 8 and 3
    meets : {u : Option Unitig} {o : Current} → OpenRep (NamedIn p) u o c.opened.used b.opened → new_count u n ≤ 16777215 → (rest : Test) (rest' : Verdict) → (Joining u o → as_verdict rest ≡ rest')
        → as_verdict (open_test o old (oriented back n runs) rest) ≡ ◌when◌else◌ (refuse 8) (differs u piece) rest'
    unfolding open_test differs ◌when◌else◌
    meets rep.closed h rest rest' k = k (joining rep.closed h refl)
    meets (rep.opened {u} {n = m} q g t) h rest rest' k =
        let a : sharp m old ≡ true = rw (t, q) (runs_sharp u g) in
        let x : last_coord old ≡ get_or u.coords (length u.coords - 1) 0 = rw t (last_of u g) in
        let y : first_coord (oriented back n runs) ≡ get_or piece.coords 0 0 = piece_first n back runs (few_of (rep.opened q g t) h) f.is_sharp in
        rw (a, x, y) (refuse_both Junction rest rest' refl (λ e. k (joining (rep.opened q g t) h e)))

  pub join_tests_cell : as_verdict (join_test c b.opened n back runs) ≡ join_tests p n back runs
  unfolding as_verdict join_test join_tests open_space
  join_tests_cell =
      refuse_both Vertices _ _ (rw (counts_agree n r.opened)) (λ e7.
      refuse_both Runs _ _ (rw (sharp_agrees n runs)) (λ e6.
      refuse_both Coordinate _ _ (rw (names_agree p.W (length p.S) runs, r.worker, r.filed.many)) (λ e9.
      let f = fine p n runs e7 e6 e9 in
      meets f r.opened f.small _ _ (λ j.
      refuse_both Space _ _ (rw (j.long, r.open_size.told, r.held_size.told)) (λ e3. refl)))))

  module _ (e : join_tests p n back runs ≡ accept) where
    record Fits : Type 0 where
      pub joins : Joining p.current c.current
      pub open_fits : length (joined p.current piece).starts ≤ p.lengths.opened
      pub held_fits : length runs ≤ p.lengths.held

    fits : Fits
    unfolding join_tests
    fits =
        let a7 = refuse_accept _ _ _ e in
        let a6 = refuse_accept _ _ _ a7.1 in
        let a9 = refuse_accept _ _ _ a6.1 in
        let a8 = refuse_accept _ _ _ a9.1 in
        let a3 = refuse_accept _ _ _ a8.1 in
        let f = fine p n runs a7.0 a6.0 a9.0 in
        let s = or_none _ _ a3.0 in
        record {
          joins = joining f r.opened f.small a8.0;
          open_fits = ltb-false _ _ s.0;
          held_fits = ltb-false _ _ s.1;
        }

    pub join_cell_lem : (i : ℕ)
        → CellRep N (cell_after p i (join n back runs) (length (joined p.current piece).coords) p.S (some (joined p.current piece))) (join_filed c i n back runs b.opened b.held).1
        (with_opened b (join_filed c i n back runs b.opened b.held).2 (join_filed c i n back runs b.opened b.held).3)
    unfolding join_filed_at after
    join_cell_lem i =
        let j = fits.joins in
        let x : open_at c.current c.opened.used + length (open_new c.current old (oriented back n runs)) ≤ length b.opened = omega (arith, j.long, fits.open_fits, r.open_size.long) in
        let y : length runs ≤ length b.held = omega (arith, fits.held_fits, r.held_size.long) in
        let lo = put_length (open_at c.current c.opened.used) (open_new c.current old (oriented back n runs)) b.opened x in
        let lh = length_over runs b.held y in
        let to = put_take (open_at c.current c.opened.used) (open_new c.current old (oriented back n runs)) b.opened x in
        record {
          worker = r.worker;
          narrow = r.narrow;
          record_size = r.record_size;
          index_size = r.index_size;
          open_size = size_kept r.open_size lo;
          held_size = size_kept r.held_size lh;
          filed = r.filed;
          open_room = omega (arith, lo);
          opened = rep.opened j.count j.good (to ∙ j.tail);
          held_room = omega (arith, lh);
          last = refl;
          call = rw j.count (rep.joined (over_take runs b.held));
        }

    pub join_count : open_count c.current n ≡ length (joined p.current piece).coords
    join_count = fits.joins.count

-- ---- the store

abbrev pub join_done : Store → Bufs → ℕ → ℕ → Bool → List ℕ → Outcome
join_done s b i n back runs = after_join s b (join_filed s.cell i n back runs b.cell.opened b.cell.held)

module _ {p : Plain} {s : Store} {b : Bufs} (r : Rep p s b) where
  pub join_tests_lem : (n : ℕ) (back : Bool) (runs : List ℕ) → as_verdict (join_test s.cell b.cell.opened n back runs) ≡ tests p (join n back runs)
  unfolding tests
  join_tests_lem n back runs = join_tests_cell r.cell n back runs

  module _ (i n : ℕ) (back : Bool) (runs : List ℕ) (e : tests p (join n back runs) ≡ accept) where
    pub join_kept : Rep (accepted p i (join n back runs) (effect p (join n back runs))) (join_done s b i n back runs).1 (join_done s b i n back runs).2
    unfolding tests accepted effect
    join_kept = record { colors = r.colors; limits = r.limits; cell = join_cell_lem r.cell n back runs e i; shared = r.shared }

    pub join_answer : (join_done s b i n back runs).0 ≡ done ((effect p (join n back runs)).0 ∷ [])
    unfolding tests effect join_filed_at
    join_answer = ap (λ (a : ℕ). done (a ∷ [])) (join_count r.cell n back runs e)
