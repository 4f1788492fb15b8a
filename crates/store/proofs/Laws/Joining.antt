-- The cases of a join, as `search` looks for them.
use Prim.Native.Nat.{ℕ, ◌+◌, ◌-◌, ◌≤◌, ◌<◌}
use mathlib.Core.Path.{◌≡◌, refl, sym, ap, ap₂, ◌∙◌}
use mathlib.Core.Bool.{Bool, true, false, not, ◌&&◌, ◌||◌}
use mathlib.Core.List.{List, [], ◌∷◌, ◌++◌}
use native.Mathlib.Omega.{arith}
use native.Mathlib.Nat.{zero-add}
use lib.ListN.{length, take, drop, length-append}
use lib.Seq.{length-take-le}
use lib.Dec.{ltb, leb, eqb}
use borrow.Author.Tests.{eq-eqb, lt-ltb, le-ltb, ne_eqb, ltb-false, eqb-false, leb-false, leb-true, not-false}
use Rattle.std.proofs.Common.{Option, Result, Ok, Err, Some, None, IsOk}
use Rattle.std.specs.Int.{from_bool}
use Rattle.std.specs.Result.{result_transpose}
use Rattle.std.specs.Cmp.Lexicographic.{pointwise}
use Rattle.std.specs.List.{list_all}
use Rattle.base.specs.Answers.{Answer, done, of_written}
use Rattle.base.specs.Parts.{over}
use Rattle.base.specs.declared.Refusal.{Refusal}
use Rattle.base.specs.Tests.{◌when◌else◌}
use Rattle.base.proofs.Bools.{or_none}
use Rattle.base.proofs.Parts.{over_behind}
use Rattle.base.proofs.Tests.{when_no}
use Rattle.codec.specs.Records.{same}
use Rattle.runs.specs.Append.{append_into, append_runs, appendix, bad_counts, of_appended, result_into}
use Rattle.runs.specs.Merge.{merge, merge_behind, merge_into}
use Rattle.runs.specs.Colours.{first_coord, last_coord}
use Rattle.runs.specs.Orders.{list_into, most_vertices, sharp}
use Rattle.runs.specs.Reverse.{orient_into, oriented}
use Rattle.runs.specs.Words.{coordinate, place_of, worker_of}
use Rattle.runs.specs.declared.append.Appended.{Appended}
use Rattle.runs.specs.Inside.Pieces.{drops_first}
use Rattle.runs.proofs.Laws.Append.{length_shifted}
use Rattle.runs.proofs.Laws.Merge.{behind_drops, merge_oriented_long}
use Rattle.runs.proofs.Laws.Joints.{sharp_joinable}
use Rattle.runs.proofs.Laws.Orders.{steady_sharp}
use Rattle.runs.proofs.Laws.Reverse.{oriented_long}
use Rattle.store.specs.Altered.{bad_current, bad_vertices}
use Rattle.store.specs.Filed.{unnamed}
use Rattle.store.specs.Inside.Fits.{JoinFits, JoinReady, OpenReady, open_after}
use Rattle.store.specs.Join.{alike, all_named, join_cell, join_filed, join_filed_at, join_test, open_at, open_count, open_new, open_space, open_test, same_join}
use Rattle.store.specs.Numbered.{Gate, Test, numbered}
use Rattle.store.specs.State.{after, of_answer, put}
use Rattle.store.specs.declared.state.Cell.{Cell}
use Rattle.store.specs.declared.state.Current.{Current}
use Rattle.store.specs.declared.state.Current.TheVariants.{Nothing, Open}
use Rattle.store.specs.declared.state.Last.{Last}
use Rattle.store.specs.declared.state.Last.TheVariants as last
use Rattle.store.proofs.Laws.Parts.{part_whole, take_whole}
use Rattle.store.proofs.Laws.Tested.{told_written, is_ok_at, gate_goes, gate_told, gate_went, refuse_go, said_go}

-- ---- a repeat

-- the library's equality of two slices
same_slices : (xs ys : List ℕ) → pointwise eqb xs ys ≡ same xs ys
unfolding same
same_slices [] [] = refl
same_slices [] (y ∷ ys) = refl
same_slices (x ∷ xs) [] = refl
same_slices (x ∷ xs) (y ∷ ys) = ap (λ (t : Bool). eqb x y && t) (same_slices xs ys)

-- the library's equality of two slices, of which the first is used whole
pub same_held : (xs ys : List ℕ) → pointwise eqb xs ys ≡ same (take (length xs) xs) ys
same_held xs ys = rw (take_whole (length xs) xs refl) (same_slices xs ys)

-- ---- 9

named_split : (W sets c : ℕ) (t : Bool) → (not (unnamed W sets c) && t) ≡ (eqb (worker_of c) W && ltb (place_of c) sets && t)
unfolding unnamed
named_split W sets c t = go (eqb (worker_of c) W) (leb sets (place_of c)) refl
  where
    go : (a b : Bool) → leb sets (place_of c) ≡ b → (not (not a || b) && t) ≡ (a && ltb (place_of c) sets && t)
    go false b e = refl
    go true true e = rw (le-ltb (place_of c) sets (leb-true _ _ e))
    go true false e = rw (lt-ltb (place_of c) sets (leb-false _ _ e))

pub named_all : (W sets : ℕ) (piece : List ℕ) → list_all (λ (r : ℕ). not (unnamed W sets (coordinate r))) piece ≡ all_named W sets piece
unfolding all_named
named_all W sets [] = refl
named_all W sets (r ∷ rs) = ap (λ (t : Bool). not (unnamed W sets (coordinate r)) && t) (named_all W sets rs) ∙ named_split W sets (coordinate r) (all_named W sets rs)

-- ---- 7, 5, 8, 3

-- the first piece's runs: merged
pub new_first : (n : ℕ) (back : Bool) (old piece : List ℕ) (merged : ℕ) → n ≤ most_vertices → merged ≡ length (merge piece) → length (open_new Nothing old (oriented back n piece)) ≡ merged
unfolding open_new
new_first n back old piece merged few e = merge_oriented_long back n piece (omega arith) ∙ sym e

-- one that meets the open unitig loses its first run
pub new_behind : (m n : ℕ) (back : Bool) (old piece : List ℕ) (merged : ℕ) → n ≤ most_vertices → 0 < length piece → merged ≡ length (merge piece) → last_coord old ≡ first_coord (oriented back n piece)
    → length (open_new (Open m) old (oriented back n piece)) ≡ merged - 1
unfolding open_new appendix
new_behind m n back old piece merged few some e meet =
    let os : List ℕ = oriented back n piece in
    let d = behind_drops (last_coord old) os (omega (arith, oriented_long back n piece)) in
    let t : from_bool (drops_first (last_coord old) os) ≡ 1 = ap from_bool (eq-eqb (last_coord old) (first_coord os) meet) in
    length_shifted (m - 1) (merge_behind (last_coord old) os) ∙ omega (arith, d, t, e, merge_oriented_long back n piece (omega arith))

-- ---- what is known where join may go

open_let : (c : Current) (old op : List ℕ) (rest : Test) → open_test c old op rest ≡ Ok tt → (open_test c old op (Ok tt) ≡ Ok tt) × (rest ≡ Ok tt)
unfolding open_test
open_let Nothing old op rest e = (refl, e)
open_let (Open m) old op rest e =
    let a = refuse_go _ _ _ e in
    let d = refuse_go _ _ _ a.1 in
    (when_no _ _ _ a.0 ∙ when_no _ _ _ d.0, d.1)

join_ready : (c : Cell) (n : ℕ) (back : Bool) (piece opened : List ℕ) (held : ℕ) → JoinFits c (length opened) held → join_test c opened n back piece ≡ Ok tt → JoinReady c n back piece opened held
unfolding join_test open_space
join_ready c n back piece opened held o e =
    let a7 = refuse_go _ _ _ e in
    let a6 = refuse_go _ _ _ a7.1 in
    let a9 = refuse_go _ _ _ a6.1 in
    let a8 = open_let c.current (take c.opened.used opened) (oriented back n piece) _ a9.1 in
    let a3 = refuse_go _ _ _ a8.1 in
    let z : n ≡ 0 → ⊥ = eqb-false n 0 (or_none _ _ a7.0).0 in
    let w : open_count c.current n ≤ 16777215 = ltb-false 16777215 _ (or_none (eqb n 0) _ a7.0).1 in
    let x : open_at c.current c.opened.used + length (open_new c.current (take c.opened.used opened) (oriented back n piece)) ≤ c.opened.length = ltb-false _ _ (or_none _ _ a3.0).0 in
    let y : length piece ≤ c.held.length = ltb-false _ _ (or_none (ltb c.opened.length (open_at c.current c.opened.used + length (open_new c.current (take c.opened.used opened) (oriented back n piece)))) _ a3.0).1 in
    record {
      ready =
          record {
            some = omega arith;
            few = w;
            is_sharp = not-false _ a6.0;
            current = o.current;
            used = o.opened.inside;
            meets = a8.0;
            room = omega (arith, x, o.opened.same);
          };
      room = omega (arith, y, o.held.same);
    }

-- ---- what the gate of a join told

same_part : (used : ℕ) (held : List ℕ) (l : Last) (n : ℕ) (back : Bool) (piece : List ℕ) → used ≤ length held → same_join (length (take used held)) (take used held) l n back piece ≡ same_join used held l n back piece
unfolding same_join
same_part used held last.Fresh n back piece h = refl
same_part used held last.Add n back piece h = refl
same_part used held (last.Join m r) n back piece h = ap (λ (l : List ℕ). eqb m n && alike r back && same l piece) (take_whole (length (take used held)) (take used held) refl)
same_part used held (last.Close v) n back piece h = refl

test_part : (c : Cell) (opened : List ℕ) (n : ℕ) (back : Bool) (piece : List ℕ) → c.opened.used ≤ length opened → join_test c (take c.opened.used opened) n back piece ≡ join_test c opened n back piece
unfolding join_test
test_part c opened n back piece h = rw (part_whole c.opened.used opened h)

module _ (c : Cell) (i n : ℕ) (back : Bool) (piece opened held : List ℕ) (fits : JoinFits c (length opened) (length held)) (g : Gate) (r : Option (Result ℕ Refusal))
    (h : g ≡ numbered c i (same_join (length (take c.held.used held)) (take c.held.used held) c.last n back piece) (join_test c (take c.opened.used opened) n back piece)) (e : r ≡ result_transpose g) where
  gate_is : g ≡ numbered c i (same_join c.held.used held c.last n back piece) (join_test c opened n back piece)
  gate_is = h ∙ ap₂ (λ (t : Bool) (u : Test). numbered c i t u) (same_part c.held.used held c.last n back piece fits.held.inside) (test_part c opened n back piece fits.opened.inside)

  pub join_told : (a : Result ℕ Refusal) → r ≡ Some a → ◌≡◌ {A = Answer × Cell × List ℕ × List ℕ} (of_answer a, c, opened, held) (join_cell c i n back piece opened held)
  unfolding join_cell
  join_told a q = rw (← gate_is) (gate_told g (λ (x : Answer). (x, c, opened, held)) (join_filed c i n back piece opened held) r e a q)

  pub join_goes : r ≡ None → JoinReady c n back piece opened (length held)
  join_goes q = join_ready c n back piece opened _ fits (said_go c i _ _ (sym gate_is ∙ gate_goes g (λ (x : Answer). x) (done []) r e q))

  pub join_done : r ≡ None → (x : Answer × Cell × List ℕ × List ℕ) → x ≡ join_filed c i n back piece opened held → x ≡ join_cell c i n back piece opened held
  unfolding join_cell
  join_done q x k = rw (← gate_is) (gate_went g (λ (x : Answer). (x, c, opened, held)) (join_filed c i n back piece opened held) r e q x k)

-- ---- the open runs are written

room_first : (c : Current) (used : ℕ) (old op : List ℕ) (len : ℕ) → c ≡ Nothing → open_at c used + length (open_new c old op) ≤ len → length (merge op) ≤ len
unfolding open_at open_new
room_first c used old op len e r = let r' : 0 + length (merge op) ≤ len = rw e at r in omega arith

abbrev counted : ℕ → List ℕ → ℕ × List ℕ
counted k l = (k, l)

first_case : (c : Current) (used : ℕ) (old op opened : List ℕ) → c ≡ Nothing → ◌≡◌ {A = ℕ × List ℕ} (open_at c used + length (open_new c old op), put (open_at c used) (open_new c old op) opened) (length (merge op), over (merge op) opened)
unfolding open_at open_new put
first_case c used old op opened e = rw e (ap (λ (k : ℕ). counted k (over (merge op) opened)) (zero-add (length (merge op))))

told_appended : (w : Result Appended Refusal) (k m : ℕ) → of_appended w ≡ done (k ∷ m ∷ []) → w ≡ Ok (record { runs = k; vertices = m })
told_appended (Ok a) k m e =
    let x : a.runs ≡ k = cc in
    let y : a.vertices ≡ m = cc in
    let d : ◌≡◌ {A = Appended} a (record { runs = k; vertices = m }) = ap₂ (λ (u v : ℕ). record { runs = u; vertices = v }) x y in
    ap Ok d
told_appended (Err r) k m e = let z : ◌≡◌ {A = ℕ} 0 1 = cc in absurd (omega arith)

-- what stands behind the first runs of a list
over_put : (used : ℕ) (new old : List ℕ) → used ≤ length old → over (take used old ++ new) old ≡ put used new old
unfolding put
over_put used new old h =
    sym (over_behind (take used old) new old) ∙ ap (λ (k : ℕ). take used old ++ over new (drop k old)) (length-take-le used old h)

module _ (c : Cell) (n : ℕ) (back : Bool) (piece opened : List ℕ) (a : OpenReady c n back piece opened) where
  abbrev old : List ℕ
  old = take c.opened.used opened

  few_first : c.current ≡ Nothing → n ≤ 16777215
  unfolding open_count
  few_first e = rw e at a.few

  oriented_into : (r : Bool) (out : List ℕ) → n ≤ 16777215 → length piece ≤ length out → orient_into piece n r out ≡ (done (length (oriented r n piece) ∷ []), over (oriented r n piece) out)
  unfolding list_into ◌when◌else◌
  oriented_into r out few l =
      let k : length (oriented r n piece) ≤ length out = omega (arith, oriented_long r n piece) in
      rw (le-ltb _ _ few, steady_sharp n piece a.is_sharp, le-ltb _ _ k)

  merged_into : n ≤ 16777215 → length (merge (oriented back n piece)) ≤ length opened → merge_into piece n back opened ≡ (done (length (merge (oriented back n piece)) ∷ []), over (merge (oriented back n piece)) opened)
  unfolding merge_into ◌when◌else◌
  merged_into few l = rw (le-ltb _ _ few, a.is_sharp, le-ltb _ _ l) refl

  module _ (w : Result ℕ Refusal) (out : List ℕ) (e : c.current ≡ Nothing) (q : ◌≡◌ {A = Answer × List ℕ} (of_written w, out) (merge_into piece n back opened)) where
    first_said : ◌≡◌ {A = Answer × List ℕ} (of_written w, out) (done (length (merge (oriented back n piece)) ∷ []), over (merge (oriented back n piece)) opened)
    first_said = q ∙ merged_into (few_first e) (room_first c.current c.opened.used old (oriented back n piece) (length opened) e a.room)

    first_told : w ≡ Ok (length (merge (oriented back n piece)))
    first_told = told_written w _ (ap (λ (y : Answer × List ℕ). y.0) first_said)

    pub first_ok : IsOk w
    first_ok = is_ok_at w _ first_told

    pub first_put : (k : ℕ) → w ≡ Ok k → ◌≡◌ {A = ℕ × List ℕ} (k, out) (open_after c n back piece opened)
    first_put k h =
        let x : ◌≡◌ {A = Result ℕ Refusal} (Ok k) (Ok (length (merge (oriented back n piece)))) = sym h ∙ first_told in
        let z : k ≡ length (merge (oriented back n piece)) = cc in
        ap₂ counted z (ap (λ (y : Answer × List ℕ). y.1) first_said) ∙ sym (first_case c.current c.opened.used old (oriented back n piece) opened e)

  module _ (m : ℕ) (e : c.current ≡ Open m) where
    open_sharp : (o : Current) (k : ℕ) (op : List ℕ) → o ≡ Open k → open_test o old op (Ok tt) ≡ Ok tt → sharp k old ≡ true
    unfolding open_test
    open_sharp o k op q h = let h' = rw q at h in not-false _ (refuse_go _ _ _ h').0

    counts_fine : bad_counts m n ≡ false
    unfolding bad_counts open_count bad_current bad_vertices
    counts_fine =
        let b = rw e at a.current in
        let z : m ≡ 0 → ⊥ = eqb-false m 0 (or_none _ _ b).0 in
        let f : m + n - 1 ≤ 16777215 = rw e at a.few in
        let p = a.some in
        let y : n ≡ 0 → ⊥ = λ q. omega arith in
        rw (ne_eqb m 0 z, ne_eqb n 0 y, le-ltb _ _ f)

    appended_into : append_into opened c.opened.used m piece n back ≡ (done (length (old ++ appendix (last_coord old) m (oriented back n piece)) ∷ (m + n - 1) ∷ []), over (old ++ appendix (last_coord old) m (oriented back n piece)) opened)
    unfolding append_into result_into append_runs open_at open_new ◌when◌else◌
    appended_into =
        let r : c.opened.used + length (appendix (last_coord old) m (oriented back n piece)) ≤ length opened = rw e at a.room in
        let l : length (old ++ appendix (last_coord old) m (oriented back n piece)) ≤ length opened = omega (arith, length-append old (appendix (last_coord old) m (oriented back n piece)), length-take-le c.opened.used opened a.used) in
        rw (le-ltb _ _ a.used, counts_fine, sharp_joinable m old (open_sharp c.current m (oriented back n piece) e a.meets), a.is_sharp, le-ltb _ _ l)

    module _ (w : Result Appended Refusal) (out : List ℕ) (q : ◌≡◌ {A = Answer × List ℕ} (of_appended w, out) (append_into opened c.opened.used m piece n back)) where
      behind_told : w ≡ Ok (record { runs = length (old ++ appendix (last_coord old) m (oriented back n piece)); vertices = m + n - 1 })
      behind_told = told_appended w _ _ (ap (λ (y : Answer × List ℕ). y.0) (q ∙ appended_into))

      pub behind_ok : IsOk w
      behind_ok = is_ok_at w _ behind_told

      pub behind_put : (d : Appended) → w ≡ Ok d → ◌≡◌ {A = ℕ × List ℕ} (d.runs, out) (open_after c n back piece opened)
      unfolding open_at open_new
      behind_put d h =
          let new : List ℕ = appendix (last_coord old) m (oriented back n piece) in
          let l : length (old ++ appendix (last_coord old) m (oriented back n piece)) ≡ c.opened.used + length (appendix (last_coord old) m (oriented back n piece)) = length-append old new ∙ ap (λ (j : ℕ). j + length new) (length-take-le c.opened.used opened a.used) in
          let x : ◌≡◌ {A = Result Appended Refusal} (Ok d) (Ok (record { runs = length (old ++ appendix (last_coord old) m (oriented back n piece)); vertices = m + n - 1 })) = sym h ∙ behind_told in
          let y : d ≡ record { runs = length (old ++ appendix (last_coord old) m (oriented back n piece)); vertices = m + n - 1 } = cc in
          let z : d.runs ≡ length (old ++ appendix (last_coord old) m (oriented back n piece)) = ap (λ (v : Appended). v.runs) y in
          rw e (ap₂ (λ (u : ℕ) (v : List ℕ). (u, v)) (z ∙ l) (ap (λ (v : Answer × List ℕ). v.1) (q ∙ appended_into) ∙ over_put c.opened.used new opened a.used))

-- ---- with the held piece and the state

pub few_piece : (c : Current) (n : ℕ) → bad_current c ≡ false → open_count c n ≤ 16777215 → n ≤ 16777215
unfolding bad_current bad_vertices open_count
few_piece Nothing n b h = h
few_piece (Open m) n b h =
    let z : m ≡ 0 → ⊥ = eqb-false m 0 (or_none _ _ b).0 in
    omega arith

module _ (c : Cell) (n : ℕ) (back : Bool) (piece opened held : List ℕ) (j : JoinReady c n back piece opened (length held)) where
  module _ (w : Result ℕ Refusal) (held' : List ℕ) (e : ◌≡◌ {A = Answer × List ℕ} (of_written w, held') (orient_into piece n false held)) where
    held_said : ◌≡◌ {A = Answer × List ℕ} (of_written w, held') (done (length (oriented false n piece) ∷ []), over (oriented false n piece) held)
    held_said = e ∙ oriented_into c n back piece opened j.ready false held (few_piece c.current n j.ready.current j.ready.few) j.room

    held_told : w ≡ Ok (length (oriented false n piece))
    held_told = told_written w _ (ap (λ (y : Answer × List ℕ). y.0) held_said)

    pub held_ok : IsOk w
    held_ok = is_ok_at w _ held_told

    held_kept : (kept : ℕ) → w ≡ Ok kept → kept ≡ length piece
    held_kept kept h =
        let x : ◌≡◌ {A = Result ℕ Refusal} (Ok kept) (Ok (length (oriented false n piece))) = sym h ∙ held_told in
        let z : kept ≡ length (oriented false n piece) = cc in
        z ∙ oriented_long false n piece

    held_piece : held' ≡ over piece held
    held_piece = ap (λ (y : Answer × List ℕ). y.1) held_said

  pub joined_filed : (i k count kept : ℕ) (w : Result ℕ Refusal) (opened' held' : List ℕ) → ◌≡◌ {A = ℕ × List ℕ} (k, opened') (open_after c n back piece opened) → ◌≡◌ {A = Answer × List ℕ} (of_written w, held') (orient_into piece n false held) → w ≡ Ok kept
      → count ≡ open_count c.current n
      → ◌≡◌ {A = Answer × Cell × List ℕ × List ℕ} (done (count ∷ []), after c c.records.used c.sets k kept (Open count) i (last.Join n back) count, opened', held') (join_filed c i n back piece opened held)
  unfolding join_filed_at
  joined_filed i k count kept w opened' held' p q h m =
      let x : k ≡ open_at c.current c.opened.used + length (open_new c.current (take c.opened.used opened) (oriented back n piece)) = ap (λ (y : ℕ × List ℕ). y.0) p in
      let y : opened' ≡ put (open_at c.current c.opened.used) (open_new c.current (take c.opened.used opened) (oriented back n piece)) opened = ap (λ (y : ℕ × List ℕ). y.1) p in
      rw (m, x, y, held_piece w held' q, held_kept w held' q kept h)
