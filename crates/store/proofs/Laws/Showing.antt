-- The cases of a show, as `search` looks for them.
use Prim.Native.Nat.{ℕ, ◌+◌, ◌-◌, ◌*◌, ◌≤◌, ◌<◌}
use mathlib.Core.Path.{◌≡◌, refl, sym, ap, ap₂, ◌∙◌}
use mathlib.Core.Bool.{Bool, true, false, ◌||◌}
use mathlib.Core.List.{List, [], ◌∷◌}
use mathlib.Core.Option.{Option, none, some}
use native.Mathlib.Omega.{arith}
use lib.ListN.{length, get_or, take, drop}
use lib.Seq.{get_or-take}
use lib.Dec.{leb}
use borrow.Author.Tests.{le-ltb, eq-eqb, ne_eqb, leb-false}
use Rattle.std.proofs.Common.{Result, Ok, Err}
use Rattle.std.specs.Result.{result_ok}
use Rattle.base.specs.Answers.{Answer, done, number_of, of_given}
use Rattle.base.specs.Answers as answer
use Rattle.base.specs.Parts.{over}
use Rattle.base.specs.Tests.{◌when◌else◌}
use Rattle.base.specs.declared.Given.{Given}
use Rattle.base.specs.declared.Refusal.{Refusal}
use Rattle.base.specs.declared.Refusal.TheVariants.{Damaged, Place, Space}
use Rattle.base.proofs.Bools.{or_none, via}
use Rattle.base.proofs.Tests.{when_no, when_yes}
use Rattle.codec.specs.Records.{ReadRecord, bad_colors, read_by, read_into, read_record}
use Rattle.codec.specs.Records as records
use Rattle.runs.specs.Bytes.{of_colored, sharp_colour}
use Rattle.store.specs.Altered.{altered}
use Rattle.store.specs.Filed.{set_at, set_from, set_in}
use Rattle.store.specs.Inside.Places.{option_of}
use Rattle.store.specs.Inside.Showing.{by_seek, damage_or, of_read, place_by, seek_by, seek_of}
use Rattle.store.specs.Plain.{Lengths}
use Rattle.store.specs.Show.{coord_from, no_place, set_by, show_step, shown_by, told_coord, vertex_coord, vertex_set, with_state}
use Rattle.store.specs.State.{Bufs, lengths_of, of_answer}
use Rattle.store.specs.declared.state.Cell.{Cell}
use Rattle.store.specs.declared.state.Shared.{Shared}
use Rattle.store.specs.declared.state.Store.{Store}
use Rattle.store.proofs.Laws.Adding.{set_part, start_within}
use Rattle.store.proofs.Laws.Parts.{part_whole, rest_is}
use Rattle.store.proofs.Laws.Tested.{unaltered}

-- ---- the coordinate of a vertex

colored : (w : Result ℕ Refusal) → option_of (result_ok w) ≡ told_coord (of_colored w)
colored (Ok coord) = refl
colored (Err r) = refl

pub from_there : (s : Shared) (runs : List ℕ) (at n v : ℕ) → length runs ≡ s.runs.used → n ≤ 16777215 → at ≤ s.runs.used → (w : Result ℕ Refusal) → of_colored w ≡ sharp_colour n v (take (length runs - at) (drop at runs)) → option_of (result_ok w) ≡ coord_from s runs at n v
unfolding coord_from ◌when◌else◌
from_there s runs at n v p h k w e = colored w ∙ ap (λ (x : Answer). told_coord x) e ∙ rw (le-ltb _ _ h, le-ltb _ _ k, rest_is s.runs.used runs p at)

-- ---- 14, 5

pub place_counted : (r : Bool) (s : Shared) (table : List ℕ) (u v : ℕ) → r ≡ no_place s table u v → r ≡ false → u < s.unitigs
unfolding no_place
place_counted r s table u v e h = leb-false _ _ (or_none _ _ (via e h)).0

-- a record that is found begins within what is used
start_in : (c : Cell) (index : List ℕ) (o : Option ℕ) (at : ℕ) → place_by c index o ≡ some at → at ≤ c.records.used
unfolding place_by
start_in c index none at e = let z : ◌≡◌ {A = ℕ} 0 1 = cc in absurd (omega arith)
start_in c index (some coord) at e = start_within at c index coord (sym e)

seek_by_lem : (o : Option ℕ) (at : ℕ) → seek_by o ≡ Ok at → o ≡ some at
unfolding seek_by
seek_by_lem none at e = let z : ◌≡◌ {A = ℕ} 0 1 = cc in absurd (omega arith)
seek_by_lem (some x) at e = let z : x ≡ at = cc in ap some z

record_by : (t : Bool) (k : Result ℕ Refusal) (at : ℕ) → ◌when◌else◌ (Err Place) t k ≡ Ok at → (t ≡ false) × (k ≡ Ok at)
unfolding ◌when◌else◌
record_by true k at e = let z : ◌≡◌ {A = ℕ} 0 1 = cc in absurd (omega arith)
record_by false k at e = (refl, e)

pub record_in : (at : ℕ) (c : Cell) (s : Shared) (index runs table : List ℕ) (u v : ℕ) → Ok at ≡ seek_of c s index runs table u v → at ≤ c.records.used
unfolding seek_of
record_in at c s index runs table u v e =
    let d = record_by _ _ at (sym e) in
    start_in c index _ at (seek_by_lem _ at d.1)

-- ---- the record is read

space_is : (r : Refusal) → number_of r ≡ 3 → damage_or r ≡ Space
unfolding damage_or
space_is r e = when_yes _ _ _ (eq-eqb (number_of r) 3 e)

damage_is : (r : Refusal) → (number_of r ≡ 3 → ⊥) → damage_or r ≡ Damaged
unfolding damage_or
damage_is r n = when_no _ _ _ (ne_eqb (number_of r) 3 n)

read_space : (g : Result Given Refusal) → of_given g ≡ answer.refused 3 → of_answer (of_read g) ≡ answer.refused 3
read_space (Ok g) e = let z : ◌≡◌ {A = ℕ} 0 1 = cc in absurd (omega arith)
read_space (Err r) e = let n : number_of r ≡ 3 = cc in ap (λ (x : Refusal). answer.refused (number_of x)) (space_is r n)

read_damage : (g : Result Given Refusal) (k : ℕ) → (k ≡ 3 → ⊥) → of_given g ≡ answer.refused k → of_answer (of_read g) ≡ answer.refused 5
read_damage (Ok g) k n e = let z : ◌≡◌ {A = ℕ} 0 1 = cc in absurd (omega arith)
read_damage (Err r) k n e = let m : number_of r ≡ k = cc in ap (λ (x : Refusal). answer.refused (number_of x)) (damage_is r (λ q. n (sym m ∙ q)))

read_done : (g : Result Given Refusal) (k m : ℕ) → of_given g ≡ done (k ∷ m ∷ []) → of_answer (of_read g) ≡ done (k ∷ [])
read_done (Ok g) k m e = let x : g.items ≡ k = cc in ap (λ (j : ℕ). done (j ∷ [])) x
read_done (Err r) k m e = let z : ◌≡◌ {A = ℕ} 0 1 = cc in absurd (omega arith)

abbrev pair : Answer → List ℕ → Answer × List ℕ
pair a l = (a, l)

found_by : (t : Bool) (g : Result Given Refusal) (out' ids out : List ℕ) (m : ℕ) → pair (of_given g) out' ≡ ◌when◌else◌ (pair (answer.refused 3) out) t (pair (done (length ids ∷ m ∷ [])) (over ids out))
    → pair (of_answer (of_read g)) out' ≡ ◌when◌else◌ (pair (answer.refused 3) out) t (pair (done (length ids ∷ [])) (over ids out))
unfolding ◌when◌else◌
found_by true g out' ids out m e = ap₂ pair (read_space g (ap (λ (x : Answer × List ℕ). x.0) e)) (ap (λ (x : Answer × List ℕ). x.1) e)
found_by false g out' ids out m e = ap₂ pair (read_done g (length ids) m (ap (λ (x : Answer × List ℕ). x.0) e)) (ap (λ (x : Answer × List ℕ). x.1) e)

shown_by_lem : (r : ReadRecord) (g : Result Given Refusal) (total : ℕ) (out' out : List ℕ) → pair (of_given g) out' ≡ read_by r total out → pair (of_answer (of_read g)) out' ≡ shown_by (set_in r) out
unfolding read_by shown_by set_in
shown_by_lem (records.found ids rest) g total out' out e = found_by _ g out' ids out _ e
shown_by_lem records.short g total out' out e =
    let n : ◌≡◌ {A = ℕ} 4 3 → ⊥ = λ z. omega arith in
    ap₂ pair (read_damage g 4 n (ap (λ (x : Answer × List ℕ). x.0) e)) (ap (λ (x : Answer × List ℕ). x.1) e)
shown_by_lem records.damaged g total out' out e =
    let n : ◌≡◌ {A = ℕ} 5 3 → ⊥ = λ z. omega arith in
    ap₂ pair (read_damage g 5 n (ap (λ (x : Answer × List ℕ). x.0) e)) (ap (λ (x : Answer × List ℕ). x.1) e)

pub given_set : (g : Result Given Refusal) (a : Result ℕ Refusal) (N : ℕ) (c : Cell) (file out' out : List ℕ) (at : ℕ) → length file ≡ c.records.used → bad_colors N ≡ false → a ≡ of_read g
    → ◌≡◌ {A = Answer × List ℕ} (of_given g, out') (read_into N (take (length file - at) (drop at file)) out) → ◌≡◌ {A = Answer × List ℕ} (of_answer a, out') (shown_by (set_from N c file (some at)) out)
unfolding read_into set_from
given_set g a N c file out' out at h b k e =
    ap (λ (x : Result ℕ Refusal). pair (of_answer x) out') k
    ∙ shown_by_lem (read_record N (drop at (take c.records.used file))) g (length (take (length file - at) (drop at file))) out' out
    (e ∙ when_no _ _ _ b ∙ ap (λ (l : List ℕ). read_by (read_record N l) (length (take (length file - at) (drop at file))) out) (rest_is c.records.used file h at))

-- ---- the whole call

shown_seek : (N : ℕ) (c : Cell) (file : List ℕ) (o : Option ℕ) (out : List ℕ) → by_seek N c file (seek_by o) out ≡ shown_by (set_from N c file o) out
unfolding by_seek seek_by set_from shown_by
shown_seek N c file none out = refl
shown_seek N c file (some at) out = refl

seek_is : (t : Bool) (N : ℕ) (c : Cell) (file : List ℕ) (o : Option ℕ) (out : List ℕ) → by_seek N c file (◌when◌else◌ (Err Place) t (seek_by o)) out ≡ ◌when◌else◌ (pair (answer.refused 14) out) t (shown_by (set_from N c file o) out)
unfolding ◌when◌else◌ by_seek
seek_is true N c file o out = refl
seek_is false N c file o out = shown_seek N c file o out

set_by_lem : (N : ℕ) (c : Cell) (file index : List ℕ) (o : Option ℕ) → set_from N c file (place_by c index o) ≡ set_by N c file index o
unfolding set_by set_at set_from place_by
set_by_lem N c file index none = refl
set_by_lem N c file index (some coord) = refl

show_is : (s : Store) (b : Bufs) (u v : ℕ) (out : List ℕ) → altered s (lengths_of b) ≡ false → show_step s b u v out ≡ by_seek s.colors s.cell b.cell.records (seek_of s.cell s.shared b.cell.index b.shared.runs b.shared.table u v) out
unfolding show_step seek_of vertex_set
show_is s b u v out e =
    let o : Option ℕ = vertex_coord s.shared b.shared.runs b.shared.table u v in
    when_no _ _ _ e
    ∙ ap (λ (x : Option (List ℕ)). ◌when◌else◌ (pair (answer.refused 14) out) (no_place s.shared b.shared.table u v) (shown_by x out)) (sym (set_by_lem s.colors s.cell b.cell.records b.cell.index o))
    ∙ sym (seek_is (no_place s.shared b.shared.table u v) s.colors s.cell b.cell.records (place_by s.cell b.cell.index o) out)

-- ---- what is shown is read in the used parts

coord_part : (s : Shared) (runs : List ℕ) → s.runs.used ≤ length runs → (at n v : ℕ) → coord_from s (take s.runs.used runs) at n v ≡ coord_from s runs at n v
unfolding coord_from
coord_part s runs h at n v = rw (part_whole s.runs.used runs h)

seek_part : (c : Cell) (s : Shared) (index runs table : List ℕ) (u v : ℕ) → s.runs.used ≤ length runs → seek_of c s index (take s.runs.used runs) (take (2 * s.unitigs) table) u v ≡ seek_of c s index runs table u v
unfolding seek_of no_place ◌when◌else◌
seek_part c s index runs table u v h = go (leb s.unitigs u) refl
  where
    go : (t : Bool) → leb s.unitigs u ≡ t
        → ◌when◌else◌ (Err Place) (t || leb (get_or (take (2 * s.unitigs) table) (2 * u + 1) 0) v) (seek_by (place_by c index (vertex_coord s (take s.runs.used runs) (take (2 * s.unitigs) table) u v)))
        ≡ ◌when◌else◌ (Err Place) (t || leb (get_or table (2 * u + 1) 0) v) (seek_by (place_by c index (vertex_coord s runs table u v)))
    go true e = refl
    go false e =
        let l : u < s.unitigs = leb-false _ _ e in
        let i : 2 * u < 2 * s.unitigs = omega arith in
        let j : 2 * u + 1 < 2 * s.unitigs = omega arith in
        rw (get_or-take (2 * s.unitigs) table (2 * u) 0 i, get_or-take (2 * s.unitigs) table (2 * u + 1) 0 j, coord_part s runs h (get_or table (2 * u) 0) (get_or table (2 * u + 1) 0) v)

read_part : (N : ℕ) (c : Cell) (file : List ℕ) → c.records.used ≤ length file → (k : Result ℕ Refusal) (out : List ℕ) → by_seek N c (take c.records.used file) k out ≡ by_seek N c file k out
unfolding by_seek
read_part N c file h (Err r) out = refl
read_part N c file h (Ok at) out = ap (λ (o : Option (List ℕ)). shown_by o out) (set_part N c file h (some at))

module _ (q : Bool) (s : Store) (b : Bufs) (u v : ℕ) (out : List ℕ) (l : Lengths) (d : l ≡ lengths_of b) (e : q ≡ altered s l) where
  pub show_altered : q ≡ true → ◌≡◌ {A = Answer × Store × List ℕ} (answer.refused 15, s, out) (with_state s (show_step s b u v out))
  unfolding show_step
  show_altered h = ap (λ (x : Answer × List ℕ). with_state s x) (sym (when_yes _ _ _ (ap (λ (m : Lengths). altered s m) (sym d) ∙ via e h)))

  pub shown_whole : q ≡ false → (a : Answer) (out' : List ℕ)
      → ◌≡◌ {A = Answer × List ℕ} (a, out') (by_seek s.colors s.cell (take s.cell.records.used b.cell.records) (seek_of s.cell s.shared b.cell.index (take s.shared.runs.used b.shared.runs) (take (2 * s.shared.unitigs) b.shared.table) u v) out)
      → ◌≡◌ {A = Answer × Store × List ℕ} (a, s, out') (with_state s (show_step s b u v out))
  shown_whole h a out' p =
      let n : altered s (lengths_of b) ≡ false = ap (λ (n : Lengths). altered s n) (sym d) ∙ via e h in
      let f = unaltered s (lengths_of b) n in
      let k : Result ℕ Refusal = seek_of s.cell s.shared b.cell.index (take s.shared.runs.used b.shared.runs) (take (2 * s.shared.unitigs) b.shared.table) u v in
      ap (λ (x : Answer × List ℕ). with_state s x)
      (p ∙ read_part s.colors s.cell b.cell.records f.add.records.inside k out
      ∙ ap (λ (r : Result ℕ Refusal). by_seek s.colors s.cell b.cell.records r out) (seek_part s.cell s.shared b.cell.index b.shared.runs b.shared.table u v f.close.runs.inside)
      ∙ sym (show_is s b u v out n))
