-- Laws of lists of which equal neighbours are merged.
use Prim.Native.Nat.{ℕ, suc, ◌+◌, ◌-◌, ◌≤◌, ◌<◌}
use mathlib.Core.Path.{◌≡◌, refl, sym, ap, ap₂, ◌∙◌, subst}
use mathlib.Core.Bool.{Bool, true, false, not, ◌&&◌}
use mathlib.Core.List.{List, [], ◌∷◌, ◌++◌, append_assoc}
use native.Mathlib.Omega.{arith}
use borrow.Author.Tests.{eq-eqb, eqb-false, eqb-true, ne_eqb}
use Rattle.std.specs.Int.{from_bool}
use Rattle.std.specs.Prelude.{Option, Some, None}
use lib.ListN.{length, drop, get_or, replicate, replicate-append-replicate}
use lib.Seq.{drop-nil}
use lib.Dec.{eqb}
use Rattle.base.specs.Tests.{◌when◌else◌}
use Rattle.base.proofs.Tests.{when_yes, when_no}
use Rattle.base.proofs.Bools.{false_true, and_true, and_both}
use Rattle.runs.specs.Words.{offset, coordinate, pack}
use Rattle.runs.specs.Colours.{next, colours, last_coord}
use Rattle.runs.specs.Orders.{sharp}
use Rattle.runs.specs.Merge.{unless, merge_behind, merge, merged_count, unlike_behind, unlike_neighbours}
use Rattle.runs.specs.Append.{shift, shifted, skip}
use Rattle.runs.specs.Rotate.{merged}
use Rattle.runs.specs.Reverse.{reverse_runs, oriented}
use Rattle.runs.specs.Inside.Lists.{Sharp, Steady}
use Rattle.runs.specs.Inside.Cursor.{begins, merged_from}
use Rattle.runs.specs.Inside.Falls.{alike, fall, framed, mark, never_falls, total}
use Rattle.runs.specs.Inside.Pieces.{drops_first}
use Rattle.runs.proofs.Laws.Words.{coordinate_pack, pack_of}
use Rattle.runs.proofs.Laws.Orders.{Up, UpBy, StrictUp, first_up, tail_up, next_le, last_cons, sharp_yes, strict_offsets}
use Rattle.runs.proofs.Laws.Falls.{alike_few, marks_few, marks_many, sharp_spaced, spaced_framed, spaced_unframed, total_front, total_same}
use Rattle.runs.proofs.Laws.Reverse.{length_reversed, oriented_long}
use Rattle.runs.proofs.Laws.Merged.{begins_later, other_on, runs_merged, same_on}

-- ---- no equal neighbours

pub behind_unlike : (c : ℕ) (ws : List ℕ) → unlike_behind c (merge_behind c ws) ≡ true
unfolding merge_behind unlike_behind
behind_unlike c [] = refl
behind_unlike c (w ∷ ws) = go (eqb c (coordinate w)) refl (behind_unlike (coordinate w) ws)
  where
    go : (t : Bool) → eqb c (coordinate w) ≡ t → unlike_behind (coordinate w) (merge_behind (coordinate w) ws) ≡ true → unlike_behind c (unless t w (merge_behind (coordinate w) ws)) ≡ true
    go true e r = rw (eqb-true c (coordinate w) e) r
    go false e r = rw e r

-- what is merged has none
pub merge_unlike : (ws : List ℕ) → unlike_neighbours (merge ws) ≡ true
unfolding merge unlike_neighbours
merge_unlike [] = refl
merge_unlike (w ∷ ws) = behind_unlike (coordinate w) ws

pub behind_same : (c : ℕ) (ws : List ℕ) → unlike_behind c ws ≡ true → merge_behind c ws ≡ ws
unfolding merge_behind unlike_behind
behind_same c [] e = refl
behind_same c (w ∷ ws) e = let a = and_true _ _ e in go (eqb c (coordinate w)) a.0 (behind_same (coordinate w) ws a.1)
  where
    go : (t : Bool) → not t ≡ true → merge_behind (coordinate w) ws ≡ ws → unless t w (merge_behind (coordinate w) ws) ≡ w ∷ ws
    go true h r = false_true h
    go false h r = ap (λ (l : List ℕ). w ∷ l) r

-- a list that has none stays as it is
pub merge_same : (ws : List ℕ) → unlike_neighbours ws ≡ true → merge ws ≡ ws
unfolding merge unlike_neighbours
merge_same [] e = refl
merge_same (w ∷ ws) e = ap (λ (l : List ℕ). w ∷ l) (behind_same (coordinate w) ws e)

-- merging twice is merging once
pub merge_twice : (ws : List ℕ) → merge (merge ws) ≡ merge ws
merge_twice ws = merge_same (merge ws) (merge_unlike ws)

-- ---- colours

-- from vertex `at` on, behind vertices of colour c
pub behind_colours : (n at c : ℕ) (ws : List ℕ) → Up n ws → at ≤ next n ws
    → (at ≤ next n (merge_behind c ws)) × (replicate (next n (merge_behind c ws) - at) c ++ colours n (merge_behind c ws) ≡ replicate (next n ws - at) c ++ colours n ws)
unfolding merge_behind colours
behind_colours n at c [] u h = (h, refl)
behind_colours n at c (w ∷ ws) u h = go (eqb c (coordinate w)) refl (behind_colours n (offset w) (coordinate w) ws (tail_up n w ws u) (u 0 (omega arith)))
  where
    m : List ℕ
    m = merge_behind (coordinate w) ws

    go : (t : Bool) → eqb c (coordinate w) ≡ t → (offset w ≤ next n m) × (replicate (next n m - offset w) (coordinate w) ++ colours n m ≡ replicate (next n ws - offset w) (coordinate w) ++ colours n ws)
        → (at ≤ next n (unless t w m)) × (replicate (next n (unless t w m) - at) c ++ colours n (unless t w m) ≡ replicate (offset w - at) c ++ (replicate (next n ws - offset w) (coordinate w) ++ colours n ws))
    go true e r =
        let q : c ≡ coordinate w = eqb-true c (coordinate w) e in
        let k : next n m - at ≡ offset w - at + (next n m - offset w) = omega (arith, r.0) in
        let a : replicate (next n m - at) c ≡ replicate (offset w - at) c ++ replicate (next n m - offset w) (coordinate w) = ap (λ (x : ℕ). replicate x c) k ∙ sym (replicate-append-replicate (offset w - at) (next n m - offset w) c) ∙ ap (λ (x : ℕ). replicate (offset w - at) c ++ replicate (next n m - offset w) x) q in (
          omega (arith, r.0),
          ap (λ (l : List ℕ). l ++ colours n m) a ∙ append_assoc (replicate (offset w - at) c) (replicate (next n m - offset w) (coordinate w)) (colours n m) ∙ ap (λ (l : List ℕ). replicate (offset w - at) c ++ l) r.1,
        )
    go false e r = (h, ap (λ (l : List ℕ). replicate (offset w - at) c ++ l) r.1)

-- vertex by vertex, the colours stay
pub merge_colours : (n : ℕ) (ws : List ℕ) → Up n ws → colours n (merge ws) ≡ colours n ws
unfolding merge colours
merge_colours n [] u = refl
merge_colours n (w ∷ ws) u = (behind_colours n (offset w) (coordinate w) ws (tail_up n w ws u) (u 0 (omega arith))).1

pub merge_some : (ws : List ℕ) → 0 < length ws → 0 < length (merge ws)
unfolding merge
merge_some [] h = h
merge_some (w ∷ ws) h = omega arith

-- ---- what is merged of a steady list is steady; of a sharp one sharp, and the runs of its colours

-- a run that is left out moves the end of the one before it on: each begins as far before its end, or further
behind_up : (step n c : ℕ) (ws : List ℕ) → UpBy step n ws → (next n ws ≤ next n (merge_behind c ws)) × UpBy step n (merge_behind c ws)
unfolding merge_behind
behind_up step n c [] u = (omega arith, u)
behind_up step n c (w ∷ ws) u = go (eqb c (coordinate w)) (u 0 (omega arith)) (behind_up step n (coordinate w) ws (λ i l. u (suc i) (omega arith)))
  where
    m : List ℕ
    m = merge_behind (coordinate w) ws

    go : (t : Bool) → offset w + step ≤ next n ws → (next n ws ≤ next n m) × UpBy step n m → (offset w ≤ next n (unless t w m)) × UpBy step n (unless t w m)
    go true h r = (omega (arith, r.0), r.1)
    go false h r = (omega arith, first_up step n w m (omega (arith, r.0)) r.1)

merge_up : (step n : ℕ) (ws : List ℕ) → UpBy step n ws → UpBy step n (merge ws)
unfolding merge
merge_up step n [] u = u
merge_up step n (w ∷ ws) u =
    let r = behind_up step n (coordinate w) ws (λ i l. u (suc i) (omega arith)) in
    let h : offset w + step ≤ next n ws = u 0 (omega arith) in
    first_up step n w (merge_behind (coordinate w) ws) (omega (arith, r.0)) r.1

merge_begins : (ws : List ℕ) → offset (get_or (merge ws) 0 0) ≡ offset (get_or ws 0 0)
unfolding merge
merge_begins [] = refl
merge_begins (w ∷ ws) = refl

pub merge_steady : (n : ℕ) (ws : List ℕ) → Steady n ws → Steady n (merge ws)
merge_steady n ws s = record { first = merge_begins ws ∙ s.first; up = λ i l. omega (arith, merge_up 0 n ws (λ j k. omega (arith, s.up j k)) i l) }

pub merge_sharp : (n : ℕ) (ws : List ℕ) → Sharp n ws → Sharp n (merge ws)
merge_sharp n ws s = record { some = merge_some ws s.some; first = merge_begins ws ∙ s.first; up = λ i l. omega (arith, merge_up 1 n ws (λ j k. omega (arith, s.up j k)) i l) }

pub behind_strict : (n c : ℕ) (ws : List ℕ) → StrictUp n ws → (next n ws ≤ next n (merge_behind c ws)) × StrictUp n (merge_behind c ws)
behind_strict n c ws u = let r = behind_up 1 n c ws (λ i l. omega (arith, u i l)) in (r.0, λ i l. omega (arith, r.1 i l))

behind_merged : (n c : ℕ) (ws : List ℕ) → StrictUp n ws → 0 < next n ws → merged_from (next n ws) c (colours n ws) ≡ merge_behind c ws
unfolding merge_behind merged_from colours
behind_merged n c [] u h = refl
behind_merged n c (w ∷ ws) u h = go (eqb c (coordinate w)) refl (u 0 (omega arith)) (λ g. behind_merged n (coordinate w) ws (λ i l. u (suc i) (omega arith)) g)
  where
    go : (t : Bool) → eqb c (coordinate w) ≡ t → offset w < next n ws → (0 < next n ws → merged_from (next n ws) (coordinate w) (colours n ws) ≡ merge_behind (coordinate w) ws)
        → merged_from (offset w) c (replicate (next n ws - offset w) (coordinate w) ++ colours n ws) ≡ unless t w (merge_behind (coordinate w) ws)
    go true e l r =
        let q : c ≡ coordinate w = eqb-true c (coordinate w) e in
        let k : offset w + (next n ws - offset w) ≡ next n ws = omega arith in
        rw q (same_on (next n ws - offset w) (offset w) (coordinate w) (colours n ws) h ∙ ap (λ (x : ℕ). merged_from x (coordinate w) (colours n ws)) k ∙ r (omega arith))
    go false e l r =
        let j : ℕ = next n ws - offset w - 1 in
        let a : next n ws - offset w ≡ suc j = omega arith in
        let k : offset w + suc j ≡ next n ws = omega arith in
        let b : begins (offset w) c (coordinate w) ≡ true = rw (begins_later (offset w) c (coordinate w) h, e) refl in
        ap (λ (x : ℕ). merged_from (offset w) c (replicate x (coordinate w) ++ colours n ws)) a
        ∙ other_on j (offset w) c (coordinate w) (colours n ws) b
        ∙ ap₂ (λ (x y : ℕ). x ∷ merged_from y (coordinate w) (colours n ws)) (pack_of w) k
        ∙ ap (λ (l : List ℕ). w ∷ l) (r (omega arith))

pub merge_merged : (n : ℕ) (ws : List ℕ) → Sharp n ws → merge ws ≡ merged (colours n ws)
unfolding merge colours begins
merge_merged n [] s = absurd (none s.some)
  where
    none : 0 < 0 → ⊥
    none h = omega arith
merge_merged n (w ∷ ws) s =
    let u : offset w < next n ws = s.up 0 (omega arith) in
    let z : offset w ≡ 0 = s.first in
    let j : ℕ = next n ws - 1 in
    let a : next n ws - offset w ≡ suc j = omega arith in
    let k : 0 + suc j ≡ next n ws = omega arith in
    let p : pack 0 (coordinate w) ≡ w = ap (λ (x : ℕ). pack x (coordinate w)) (sym z) ∙ pack_of w in
    sym
    (sym (runs_merged (replicate (next n ws - offset w) (coordinate w) ++ colours n ws))
    ∙ ap (λ (x : ℕ). merged_from 0 0 (replicate x (coordinate w) ++ colours n ws)) a
    ∙ other_on j 0 0 (coordinate w) (colours n ws) refl
    ∙ ap₂ (λ (x y : ℕ). x ∷ merged_from y (coordinate w) (colours n ws)) p k
    ∙ ap (λ (l : List ℕ). w ∷ l) (behind_merged n (coordinate w) ws (λ i l. s.up (suc i) (omega arith)) (omega arith)))

-- ---- how many runs are left out

unfoldable one_if : Bool → ℕ
one_if true = 1
one_if false = 0

unfoldable repeats_behind : ℕ → List ℕ → ℕ
repeats_behind c [] = 0
repeats_behind c (w ∷ ws) = one_if (eqb c (coordinate w)) + repeats_behind (coordinate w) ws

unfoldable repeats : List ℕ → ℕ
repeats [] = 0
repeats (w ∷ ws) = repeats_behind (coordinate w) ws

behind_count : (c : ℕ) (ws : List ℕ) → length (merge_behind c ws) + repeats_behind c ws ≡ length ws
unfolding merge_behind one_if repeats_behind
behind_count c [] = omega arith
behind_count c (w ∷ ws) = go (eqb c (coordinate w)) (behind_count (coordinate w) ws)
  where
    go : (t : Bool) → length (merge_behind (coordinate w) ws) + repeats_behind (coordinate w) ws ≡ length ws → length (unless t w (merge_behind (coordinate w) ws)) + (one_if t + repeats_behind (coordinate w) ws) ≡ suc (length ws)
    go true r = omega arith
    go false r = omega arith

merge_count : (ws : List ℕ) → length (merge ws) + repeats ws ≡ length ws
unfolding merge repeats
merge_count [] = omega arith
merge_count (w ∷ ws) = omega (arith, behind_count (coordinate w) ws)

alike_first : (w v : ℕ) (vs : List ℕ) → one_if (eqb (coordinate w) (coordinate v)) ≡ alike (w ∷ v ∷ vs) 0
unfolding one_if alike ◌when◌else◌
alike_first w v vs = go (eqb (coordinate w) (coordinate v))
  where
    go : (t : Bool) → one_if t ≡ ◌when◌else◌ {A = ℕ} 1 t 0
    go true = refl
    go false = refl

alike_next : (w : ℕ) (ws : List ℕ) (p : ℕ) → alike ws p ≡ alike (w ∷ ws) (suc p)
unfolding alike
alike_next w ws p =
    let e : suc p + 1 ≡ suc (p + 1) = omega arith in
    ap (λ (k : ℕ). ◌when◌else◌ {A = ℕ} 1 (eqb (coordinate (get_or ws p 0)) (coordinate (get_or (w ∷ ws) k 0))) 0) (sym e)

repeats_total : (ws : List ℕ) → repeats ws ≡ total (alike ws) 0 (length ws - 1)
unfolding total alike repeats repeats_behind
repeats_total [] = let z : 0 ≡ 0 - 1 = omega arith in ap (total (alike []) 0) z
repeats_total (w ∷ []) = let z : 0 ≡ suc 0 - 1 = omega arith in ap (total (alike (w ∷ [])) 0) z
repeats_total (w ∷ v ∷ vs) =
    let k : suc (length vs) - 1 ≡ length vs = omega arith in
    let l : suc (length vs) ≡ suc (suc (length vs)) - 1 = omega arith in
    ap₂ (λ (x y : ℕ). x + y) (alike_first w v vs) (repeats_total (v ∷ vs) ∙ ap (total (alike (v ∷ vs)) 0) k ∙ total_same (alike (v ∷ vs)) (λ (p : ℕ). alike (w ∷ v ∷ vs) (suc p)) (alike_next w (v ∷ vs)) 0 (length vs))
    ∙ sym (total_front (alike (w ∷ v ∷ vs)) (length vs))
    ∙ ap (total (alike (w ∷ v ∷ vs)) 0) l

-- as many as places at which neighbours are alike
pub merge_long : (ws : List ℕ) → length (merge ws) + total (alike ws) 0 (length ws - 1) ≡ length ws
merge_long ws = ap (λ (x : ℕ). length (merge ws) + x) (sym (repeats_total ws)) ∙ merge_count ws

-- ---- from the other end as many

eqb_swap : (a b : ℕ) → eqb a b ≡ eqb b a
eqb_swap a b = go (eqb a b) refl
  where
    go : (t : Bool) → eqb a b ≡ t → t ≡ eqb b a
    go true e = sym (eq-eqb b a (sym (eqb-true a b e)))
    go false e = sym (ne_eqb b a (λ q. eqb-false a b e (sym q)))

behind_last : (c : ℕ) (ys : List ℕ) (v w : ℕ) → repeats_behind c ((ys ++ (v ∷ [])) ++ (w ∷ [])) ≡ repeats_behind c (ys ++ (v ∷ [])) + one_if (eqb (coordinate v) (coordinate w))
unfolding repeats_behind
behind_last c [] v w = omega arith
behind_last c (y ∷ ys) v w = omega (arith, behind_last (coordinate y) ys v w)

repeats_last : (ys : List ℕ) (v w : ℕ) → repeats ((ys ++ (v ∷ [])) ++ (w ∷ [])) ≡ repeats (ys ++ (v ∷ [])) + one_if (eqb (coordinate v) (coordinate w))
unfolding repeats repeats_behind
repeats_last [] v w = omega arith
repeats_last (y ∷ ys) v w = behind_last (coordinate y) ys v w

reversed_repeats : (n : ℕ) (ws : List ℕ) → n < 16777216 → repeats (reverse_runs n ws) ≡ repeats ws
unfolding reverse_runs repeats repeats_behind
reversed_repeats n [] small = refl
reversed_repeats n (w ∷ []) small = refl
reversed_repeats n (w ∷ v ∷ vs) small =
    let x : ℕ = pack (n - next n vs) (coordinate v) in
    let y : ℕ = pack (n - offset v) (coordinate w) in
    let cx : coordinate x ≡ coordinate v = coordinate_pack (n - next n vs) (coordinate v) (omega arith) in
    let cy : coordinate y ≡ coordinate w = coordinate_pack (n - offset v) (coordinate w) (omega arith) in
    repeats_last (reverse_runs n vs) x y
    ∙ ap₂ (λ (k l : ℕ). k + l) (reversed_repeats n (v ∷ vs) small) (ap₂ (λ (a b : ℕ). one_if (eqb a b)) cx cy ∙ ap one_if (eqb_swap (coordinate v) (coordinate w)))
    ∙ omega arith

pub merge_oriented_long : (r : Bool) (n : ℕ) (ws : List ℕ) → n < 16777216 → length (merge (oriented r n ws)) ≡ length (merge ws)
merge_oriented_long true n ws small = omega (arith, merge_count (reverse_runs n ws), merge_count ws, reversed_repeats n ws small, length_reversed n ws)
merge_oriented_long false n ws small = refl

-- ---- whole where there are no equal neighbours, and only there

pub behind_le : (c : ℕ) (ws : List ℕ) → length (merge_behind c ws) ≤ length ws
behind_le c ws = omega (arith, behind_count c ws)

pub merge_le : (ws : List ℕ) → length (merge ws) ≤ length ws
merge_le ws = omega (arith, merge_count ws)

pub behind_whole : (c : ℕ) (ws : List ℕ) → length (merge_behind c ws) ≡ length ws → unlike_behind c ws ≡ true
unfolding merge_behind unlike_behind
behind_whole c [] e = refl
behind_whole c (w ∷ ws) e = go (eqb c (coordinate w)) e (behind_whole (coordinate w) ws)
  where
    go : (t : Bool) → length (unless t w (merge_behind (coordinate w) ws)) ≡ suc (length ws) → (length (merge_behind (coordinate w) ws) ≡ length ws → unlike_behind (coordinate w) ws ≡ true) → (not t && unlike_behind (coordinate w) ws) ≡ true
    go true h r = absurd (omega (arith, h, behind_le (coordinate w) ws))
    go false h r = r (omega (arith, h))

pub merge_whole : (ws : List ℕ) → length (merge ws) ≡ length ws → unlike_neighbours ws ≡ true
unfolding merge unlike_neighbours
merge_whole [] e = refl
merge_whole (w ∷ ws) e = behind_whole (coordinate w) ws (omega (arith, e))

-- from the other end as well
pub oriented_unlike : (r : Bool) (n : ℕ) (ws : List ℕ) → n < 16777216 → unlike_neighbours ws ≡ true → unlike_neighbours (oriented r n ws) ≡ true
oriented_unlike r n ws small e = merge_whole (oriented r n ws) (merge_oriented_long r n ws small ∙ ap length (merge_same ws e) ∙ sym (oriented_long r n ws))

pub unlike_oriented : (r : Bool) (n : ℕ) (ws : List ℕ) → n < 16777216 → unlike_neighbours (oriented r n ws) ≡ true → unlike_neighbours ws ≡ true
unlike_oriented r n ws small e = merge_whole ws (sym (merge_oriented_long r n ws small) ∙ ap length (merge_same (oriented r n ws) e) ∙ oriented_long r n ws)

-- ---- the first run

-- behind a run of coordinate c the merged list's first run is left out where it has the same
pub behind_first : (c : ℕ) (ws : List ℕ) → merge_behind c ws ≡ drop (skip c ws) (merge ws)
unfolding merge_behind merge skip ◌when◌else◌
behind_first c [] = sym (drop-nil (skip c []))
behind_first c (w ∷ ws) = go (eqb c (coordinate w))
  where
    go : (t : Bool) → unless t w (merge_behind (coordinate w) ws) ≡ drop (◌when◌else◌ {A = ℕ} 1 t 0) (w ∷ merge_behind (coordinate w) ws)
    go true = refl
    go false = refl

-- a run of that coordinate is left out
pub behind_own : (w : ℕ) (ws : List ℕ) → merge_behind (coordinate w) (w ∷ ws) ≡ merge_behind (coordinate w) ws
unfolding merge_behind
behind_own w ws = rw (eq-eqb (coordinate w) (coordinate w) refl) refl

pub behind_drops : (c : ℕ) (ws : List ℕ) → 0 < length ws → length (merge_behind c ws) + from_bool (drops_first c ws) ≡ length (merge ws)
unfolding merge_behind merge
behind_drops c [] h = absurd (omega arith)
behind_drops c (w ∷ ws) h = go (eqb c (coordinate w))
  where
    go : (t : Bool) → length (unless t w (merge_behind (coordinate w) ws)) + from_bool t ≡ suc (length (merge_behind (coordinate w) ws))
    go true = omega arith
    go false = omega arith

-- ---- moved, they are merged as they were

pub shift_coordinate : (k w : ℕ) → offset w + k < 16777216 → coordinate (shift k w) ≡ coordinate w
shift_coordinate k w h = coordinate_pack (offset w + k) (coordinate w) h

module _ (n k : ℕ) (small : n + k < 16777216) where
  first_stays : (w : ℕ) (ws : List ℕ) → Up n (w ∷ ws) → coordinate (shift k w) ≡ coordinate w
  first_stays w ws u = shift_coordinate k w (omega (arith, u 0 (omega arith), next_le n ws (tail_up n w ws u)))

  pub merge_shifted : (c : ℕ) (ws : List ℕ) → Up n ws → merge_behind c (shifted k ws) ≡ shifted k (merge_behind c ws)
  unfolding merge_behind shifted
  merge_shifted c [] u = refl
  merge_shifted c (w ∷ ws) u = rw (first_stays w ws u) (go (eqb c (coordinate w)) (merge_shifted (coordinate w) ws (tail_up n w ws u)))
    where
      go : (t : Bool) → merge_behind (coordinate w) (shifted k ws) ≡ shifted k (merge_behind (coordinate w) ws) → unless t (shift k w) (merge_behind (coordinate w) (shifted k ws)) ≡ shifted k (unless t w (merge_behind (coordinate w) ws))
      go true r = r
      go false r = ap (λ (l : List ℕ). shift k w ∷ l) r

  pub unlike_shifted : (c : ℕ) (ws : List ℕ) → Up n ws → unlike_behind c (shifted k ws) ≡ unlike_behind c ws
  unfolding unlike_behind shifted
  unlike_shifted c [] u = refl
  unlike_shifted c (w ∷ ws) u = rw (first_stays w ws u) (ap (λ (t : Bool). not (eqb c (coordinate w)) && t) (unlike_shifted (coordinate w) ws (tail_up n w ws u)))

-- ---- one list behind another

behind_join : (c w : ℕ) (ws ys : List ℕ) → unlike_behind c (w ∷ ws) ≡ true → unlike_behind (last_coord (w ∷ ws)) ys ≡ true → unlike_behind c ((w ∷ ws) ++ ys) ≡ true
unfolding unlike_behind
behind_join c w [] ys e f = let a = and_true _ _ e in and_both _ _ a.0 f
behind_join c w (v ∷ ws) ys e f =
    let a = and_true _ _ e in
    and_both _ _ a.0 (behind_join (coordinate w) v ws ys a.1 (subst (λ (x : ℕ). unlike_behind (coordinate x) ys ≡ true) (last_cons w v ws) f))

pub unlike_join : (xs ys : List ℕ) → 0 < length xs → unlike_neighbours xs ≡ true → unlike_behind (last_coord xs) ys ≡ true → unlike_neighbours (xs ++ ys) ≡ true
unfolding unlike_neighbours unlike_behind
unlike_join [] ys h e f = absurd (omega arith)
unlike_join (w ∷ []) ys h e f = f
unlike_join (w ∷ v ∷ ws) ys h e f = behind_join (coordinate w) v ws ys e (subst (λ (x : ℕ). unlike_behind (coordinate x) ys ≡ true) (last_cons w v ws) f)

-- ---- the count and the test

module _ (n : ℕ) (ws : List ℕ) where
  pub count_none : sharp n ws ≡ false → ◌≡◌ {A = Option ℕ} None (merged_count n ws)
  unfolding merged_count
  count_none e = sym (when_no _ _ _ e)

  pub count_some : (k : ℕ) → sharp n ws ≡ true → k ≡ length (merge ws) → ◌≡◌ {A = Option ℕ} (Some k) (merged_count n ws)
  unfolding merged_count
  count_some k e h = ap Some h ∙ sym (when_yes _ _ _ e)

  -- what its answer tells
  pub none_count : ◌≡◌ {A = Option ℕ} None (merged_count n ws) → sharp n ws ≡ false
  unfolding merged_count ◌when◌else◌
  none_count e = go (sharp n ws) refl e
    where
      go : (t : Bool) → sharp n ws ≡ t → ◌≡◌ {A = Option ℕ} None (◌when◌else◌ (Some (length (merge ws))) t None) → sharp n ws ≡ false
      go true q h = let z : ◌≡◌ {A = ℕ} 0 1 = cc in absurd (omega arith)
      go false q h = q

  pub some_count : (k : ℕ) → ◌≡◌ {A = Option ℕ} (Some k) (merged_count n ws) → (sharp n ws ≡ true) × (k ≡ length (merge ws))
  unfolding merged_count ◌when◌else◌
  some_count k e = go (sharp n ws) refl e
    where
      go : (t : Bool) → sharp n ws ≡ t → ◌≡◌ {A = Option ℕ} (Some k) (◌when◌else◌ (Some (length (merge ws))) t None) → (sharp n ws ≡ true) × (k ≡ length (merge ws))
      go true q h = (q, cc)
      go false q h = let z : ◌≡◌ {A = ℕ} 0 1 = cc in absurd (omega arith)

  -- a list of more runs than there are offsets isn't sharp
  pub too_many : 16777216 < length ws → sharp n ws ≡ false
  too_many h = go ws h (sharp n ws) refl
    where
      go : (ws : List ℕ) → 16777216 < length ws → (t : Bool) → sharp n ws ≡ t → sharp n ws ≡ false
      go [] h t e = absurd (omega arith)
      go (w ∷ ws) h true e = absurd (omega (arith, strict_offsets n w ws (sharp_yes n (w ∷ ws) e).up))
      go (w ∷ ws) h false e = e

  module _ (some : 0 < length ws) where
    pub unframed_count : framed 1 n ws ≡ false → ◌≡◌ {A = Option ℕ} None (merged_count n ws)
    unframed_count e = count_none (sharp_spaced n ws some ∙ sym (spaced_unframed 1 n ws e))

    module _ (frame : framed 1 n ws ≡ true) (few : length ws ≤ 16777216) (marks : ℕ) (are : marks ≡ total (mark 1 1 ws) 0 (length ws - 1)) where
      pub falling_count : 16777216 ≤ marks → ◌≡◌ {A = Option ℕ} None (merged_count n ws)
      unfolding never_falls
      falling_count h = count_none (sharp_spaced n ws some ∙ sym (spaced_framed 1 n ws frame) ∙ ne_eqb _ _ (marks_many 1 ws (length ws - 1) (omega arith) (omega arith)))

      module _ (h : marks < 16777216) where
        told : (total (fall 1 ws) 0 (length ws - 1) ≡ 0) × (total (mark 1 1 ws) 0 (length ws - 1) ≡ total (alike ws) 0 (length ws - 1))
        told = marks_few 1 ws (length ws - 1) (omega arith) (omega arith)

        pub alike_inside : marks ≤ length ws
        alike_inside = omega (arith, told.1, alike_few 1 ws (length ws - 1) (omega arith))

        pub sharp_count : ◌≡◌ {A = Option ℕ} (Some (length ws - marks)) (merged_count n ws)
        unfolding never_falls
        sharp_count = count_some (length ws - marks) (sharp_spaced n ws some ∙ sym (spaced_framed 1 n ws frame) ∙ eq-eqb _ _ told.0) (omega (arith, told.1, merge_long ws))
