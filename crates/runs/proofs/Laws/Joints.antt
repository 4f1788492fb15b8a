-- What append makes of two lists: the list of section 6, its colours, and which lists it can go on from.
use Prim.Native.Nat.{ℕ, zero, suc, ◌+◌, ◌-◌, ◌≤◌, ◌<◌}
use mathlib.Core.Path.{◌≡◌, refl, sym, ap, ap₂, ◌∙◌, subst}
use mathlib.Core.Bool.{Bool, true, false, not, ◌&&◌}
use mathlib.Core.List.{List, [], ◌∷◌, ◌++◌, map, append_assoc, append-nil}
use native.Mathlib.Omega.{arith}
use borrow.Author.Tests.{eqb-true, ne_eqb, lt-ltb}
use lib.ListN.{length, take, drop, get_or, replicate, length-append, length-replicate, replicate-append-replicate, drop_of_length-le, length-map}
use lib.Seq.{take-append-add, ext_get_or}
use lib.Dec.{ltb, eqb}
use Rattle.base.specs.Tests.{◌when◌else◌}
use Rattle.runs.specs.Words.{offset, coordinate, pack}
use Rattle.runs.specs.Colours.{next, end_at, colours, starts, last_run, first_coord, last_coord}
use Rattle.runs.specs.Orders.{most_vertices, steady, sharp}
use Rattle.runs.specs.Inside.Lists.{Steady, Sharp}
use Rattle.runs.specs.Reverse.{oriented}
use Rattle.runs.specs.Rotate.{runs_at}
use Rattle.runs.specs.Merge.{merge, merge_behind, unlike_behind}
use Rattle.runs.specs.Append.{shifted, appendix, append_runs, joinable, bad_counts, skip, unmerged_runs}
use Rattle.runs.proofs.Laws.Words.{offset_pack, coordinate_pack, pack_of}
use Rattle.runs.proofs.Laws.Orders.{Up, StrictUp, up_cons, strict_cons, strict_le, run_begins, tail_up, next_le, end_le, last_cons, sharp_steady, sharp_yes, starts_zero, yes_steady}
use Rattle.runs.proofs.Laws.Colours.{colours_append, steady_at}
use Rattle.runs.proofs.Laws.Reverse.{oriented_sharp}
use Rattle.runs.proofs.Laws.Lists.{get_or_behind}
use Rattle.runs.proofs.Laws.Merge.{behind_colours, behind_first, behind_strict, behind_unlike, unlike_shifted}
use Rattle.runs.proofs.Laws.Append.{skip_yes, skip_no, Counts, counts, Joinable, joinable_is}

-- ---- the junction

-- the merged piece stands behind the output, without its first run where the output ends on its coordinate
pub append_dropped : (out : List ℕ) (count : ℕ) (piece : List ℕ) (n : ℕ) (r : Bool) → last_coord out ≡ first_coord (oriented r n piece)
    → append_runs out count piece n r ≡ out ++ shifted (count - 1) (drop 1 (merge (oriented r n piece)))
unfolding append_runs appendix
append_dropped out count piece n r e =
    ap (λ (ws : List ℕ). out ++ shifted (count - 1) ws) (behind_first (last_coord out) (oriented r n piece) ∙ ap (λ (k : ℕ). drop k (merge (oriented r n piece))) (skip_yes (last_coord out) (oriented r n piece) e))

-- and otherwise whole
pub append_kept : (out : List ℕ) (count : ℕ) (piece : List ℕ) (n : ℕ) (r : Bool) → (last_coord out ≡ first_coord (oriented r n piece) → ⊥)
    → append_runs out count piece n r ≡ out ++ shifted (count - 1) (merge (oriented r n piece))
unfolding append_runs appendix
append_kept out count piece n r e =
    ap (λ (ws : List ℕ). out ++ shifted (count - 1) ws) (behind_first (last_coord out) (oriented r n piece) ∙ ap (λ (k : ℕ). drop k (merge (oriented r n piece))) (skip_no (last_coord out) (oriented r n piece) e))

-- where it begins at the output's count - 1
pub kept_begins : (count n w : ℕ) (ws : List ℕ) → 0 < count → count ≤ most_vertices → offset w ≡ 0 → offset (get_or (shifted (count - 1) (w ∷ ws)) 0 0) ≡ count - 1
unfolding shifted
kept_begins count n w ws h g e = offset_pack (offset w + (count - 1)) (coordinate w) (omega arith) ∙ omega arith

-- ---- colours

-- runs k vertices further on, to an end k further on, give the same colours
colours_shifted : (n k : ℕ) (ws : List ℕ) → Up n ws → n + k < 16777216 → (next (n + k) (shifted k ws) ≡ next n ws + k) × (colours (n + k) (shifted k ws) ≡ colours n ws)
unfolding shifted colours
colours_shifted n k [] u h = (refl, refl)
colours_shifted n k (w ∷ ws) u h =
    let r = colours_shifted n k ws (tail_up n w ws u) h in
    let a : offset w ≤ next n ws = u 0 (omega arith) in
    let b : next n ws ≤ n = next_le n ws (tail_up n w ws u) in
    let o : offset (pack (offset w + k) (coordinate w)) ≡ offset w + k = offset_pack (offset w + k) (coordinate w) (omega arith) in
    let c : coordinate (pack (offset w + k) (coordinate w)) ≡ coordinate w = coordinate_pack (offset w + k) (coordinate w) (omega arith) in
    let d : next (n + k) (shifted k ws) - offset (pack (offset w + k) (coordinate w)) ≡ next n ws - offset w = omega (arith, r.0) in
    (o, ap₂ (λ (x y : ℕ). replicate x y ++ colours (n + k) (shifted k ws)) d c ∙ ap (λ (l : List ℕ). replicate (next n ws - offset w) (coordinate w) ++ l) r.1)

take_same : (k m : ℕ) (c : ℕ) → k ≤ m → take k (replicate m c) ≡ replicate k c
take_same zero m c h = refl
take_same (suc k) zero c h = absurd (omega arith)
take_same (suc k) (suc m) c h = ap (λ (l : List ℕ). c ∷ l) (take_same k m c (omega arith))

-- the same runs up to an earlier end, behind the last run's first vertex: as many of the colours
colours_less : (n k w : ℕ) (ws : List ℕ) → Up n (w ∷ ws) → offset (last_run (w ∷ ws)) ≤ k → k ≤ n → (offset w ≤ k) × (colours k (w ∷ ws) ≡ take (k - offset w) (colours n (w ∷ ws)))
unfolding colours
colours_less n k w [] u l h =
    let a : offset w ≤ k = l in
    (a, append-nil _ ∙ sym (ap (take (k - offset w)) (append-nil (replicate (n - offset w) (coordinate w))) ∙ take_same (k - offset w) (n - offset w) (coordinate w) (omega arith)))
colours_less n k w (v ∷ ws) u l h =
    let r = colours_less n k v ws (tail_up n w (v ∷ ws) u) (subst (λ (x : ℕ). offset x ≤ k) (last_cons w v ws) l) h in
    let a : offset w ≤ offset v = u 0 (omega arith) in
    let m : ℕ = offset v - offset w in
    let p : length (replicate m (coordinate w)) ≡ m = length-replicate m (coordinate w) in
    let e : k - offset w ≡ length (replicate m (coordinate w)) + (k - offset v) = omega (arith, r.0) in
    (omega (arith, r.0), sym (ap (λ (x : ℕ). take x (replicate m (coordinate w) ++ colours n (v ∷ ws))) e ∙ take-append-add (replicate m (coordinate w)) (colours n (v ∷ ws)) (k - offset v) ∙ ap (λ (x : List ℕ). replicate m (coordinate w) ++ x) (sym r.1)))

-- the same runs up to a later end: the last colour goes on
colours_more : (k m w : ℕ) (ws : List ℕ) → offset (last_run (w ∷ ws)) ≤ k → colours (k + m) (w ∷ ws) ≡ colours k (w ∷ ws) ++ replicate m (coordinate (last_run (w ∷ ws)))
unfolding colours
colours_more k m w [] l =
    let e : k + m - offset w ≡ k - offset w + m = omega arith in
    append-nil (replicate (k + m - offset w) (coordinate w)) ∙ ap (λ (x : ℕ). replicate x (coordinate w)) e ∙ sym (replicate-append-replicate (k - offset w) m (coordinate w)) ∙ ap (λ (x : List ℕ). x ++ replicate m (coordinate w)) (sym (append-nil (replicate (k - offset w) (coordinate w))))
colours_more k m w (v ∷ ws) l = ap (λ (x : List ℕ). replicate (offset v - offset w) (coordinate w) ++ x) (colours_more k m v ws (subst (λ (x : ℕ). offset x ≤ k) (last_cons w v ws) l)) ∙ sym (append_assoc (replicate (offset v - offset w) (coordinate w)) (colours k (v ∷ ws)) (replicate m (coordinate (last_run (v ∷ ws))))) ∙ ap (λ (x : ℕ). (replicate (offset v - offset w) (coordinate w) ++ colours k (v ∷ ws)) ++ replicate m (coordinate x)) (sym (last_cons w v ws))

-- runs that behind a run of coordinate c have the colours of os
record Colouring (b c : ℕ) (os ys : List ℕ) : Type 0 where
  pub up : Up b ys
  pub same : replicate (next b ys - 0) c ++ colours b ys ≡ colours b os

-- merged ones, and those without the first where that has coordinate c
merged_colouring : (b c : ℕ) (os : List ℕ) → Sharp b os → Colouring b c os (merge_behind c os)
merged_colouring b c os s =
    let u = strict_le b os s.up in
    let first : next b os - 0 ≡ 0 = omega (arith, starts_zero b os (sharp_steady b os s) s.some) in
    record { up = strict_le b (merge_behind c os) (behind_strict b c os s.up).1; same = (behind_colours b 0 c os u (omega arith)).1 ∙ ap (λ (x : ℕ). replicate x c ++ colours b os) first }

unmerged_colouring : (b c : ℕ) (os : List ℕ) → Sharp b os → Colouring b c os (drop (skip c os) os)
unfolding skip ◌when◌else◌ colours
unmerged_colouring b c [] s = absurd (omega (arith, s.some))
unmerged_colouring b c (o ∷ os) s = go (eqb c (coordinate o)) refl
  where
    up : Up b (o ∷ os)
    up = strict_le b (o ∷ os) s.up

    first : offset o - 0 ≡ 0
    first = omega (arith, s.first)

    go : (t : Bool) → eqb c (coordinate o) ≡ t → Colouring b c (o ∷ os) (drop (◌when◌else◌ {A = ℕ} 1 t 0) (o ∷ os))
    go true e =
        let n : next b os - 0 ≡ next b os - offset o = omega (arith, s.first) in
        record { up = tail_up b o os up; same = ap₂ (λ (x y : ℕ). replicate x y ++ colours b os) n (eqb-true c (coordinate o) e) }
    go false e = record { up = up; same = ap (λ (x : ℕ). replicate x c ++ colours b (o ∷ os)) first }

-- the colours of appended runs: the output's without the last vertex, then the oriented piece's
module _ (a b w : ℕ) (ws os m : List ℕ) (out-steady : Steady a (w ∷ ws)) (last : offset (last_run (w ∷ ws)) < a) (put : Colouring b (last_coord (w ∷ ws)) os m) (small : a + b - 1 < 16777216) where
  less : colours (a - 1) (w ∷ ws) ≡ take (a - 1) (colours a (w ∷ ws))
  less =
      let r = colours_less a (a - 1) w ws out-steady.up (omega arith) (omega arith) in
      let e : a - 1 - offset w ≡ a - 1 = omega (arith, out-steady.first) in
      r.1 ∙ ap (λ (x : ℕ). take x (colours a (w ∷ ws))) e

  abbrev c : ℕ
  c = last_coord (w ∷ ws)

  all : colours (a + b - 1) ((w ∷ ws) ++ shifted (a - 1) m) ≡ take (a - 1) (colours a (w ∷ ws)) ++ colours b os
  all =
      let e : a + b - 1 ≡ b + (a - 1) = omega arith in
      let s = colours_shifted b (a - 1) m put.up (omega arith) in
      let z : next (b + (a - 1)) (shifted (a - 1) m) ≡ a - 1 + (next b m - 0) = s.0 ∙ omega arith in
      ap (λ (x : ℕ). colours x ((w ∷ ws) ++ shifted (a - 1) m)) e
      ∙ colours_append (b + (a - 1)) (w ∷ ws) (shifted (a - 1) m)
      ∙ ap₂ (λ (x y : List ℕ). x ++ y) (ap (λ (x : ℕ). colours x (w ∷ ws)) z ∙ colours_more (a - 1) (next b m - 0) w ws (omega arith) ∙ ap (λ (x : List ℕ). x ++ replicate (next b m - 0) c) less) s.1
      ∙ append_assoc (take (a - 1) (colours a (w ∷ ws))) (replicate (next b m - 0) c) (colours b m)
      ∙ ap (λ (x : List ℕ). take (a - 1) (colours a (w ∷ ws)) ++ x) put.same

-- behind a nonempty output whose last offset is below its count: its colours without the last vertex, then the piece's
colours_joined : (a b : ℕ) (xs os ys : List ℕ) → Steady a xs → 0 < length xs → offset (last_run xs) < a → Colouring b (last_coord xs) os ys → a + b - 1 < 16777216
    → colours (a + b - 1) (xs ++ shifted (a - 1) ys) ≡ take (a - 1) (colours a xs) ++ colours b os
colours_joined a b [] os ys s h l put small = absurd (omega arith)
colours_joined a b (w ∷ ws) os ys s h l put small = all a b w ws os ys s l put small

module _ (out : List ℕ) (a : ℕ) (piece : List ℕ) (b : ℕ) (r : Bool) (s : Steady a out) (h : 0 < length out) (l : offset (last_run out) < a) (p : Sharp b piece) (small : a + b - 1 < 16777216) where
  way : Sharp b (oriented r b piece)
  way = oriented_sharp r b piece (omega arith) p

  pub colours_appended : colours (a + b - 1) (append_runs out a piece b r) ≡ take (a - 1) (colours a out) ++ colours b (oriented r b piece)
  unfolding append_runs appendix
  colours_appended = colours_joined a b out (oriented r b piece) (merge_behind (last_coord out) (oriented r b piece)) s h l (merged_colouring b (last_coord out) (oriented r b piece) way) small

  pub colours_unmerged : colours (a + b - 1) (unmerged_runs out a piece b r) ≡ take (a - 1) (colours a out) ++ colours b (oriented r b piece)
  unfolding unmerged_runs
  colours_unmerged = colours_joined a b out (oriented r b piece) (drop (skip (last_coord out) (oriented r b piece)) (oriented r b piece)) s h l (unmerged_colouring b (last_coord out) (oriented r b piece) way) small

-- ---- the list that append leaves is one that a piece can stand behind

up_end : (n m : ℕ) (ws : List ℕ) → Up n ws → offset (last_run ws) ≤ m → Up m ws
up_end n m [] u h = λ i l. absurd (omega arith)
up_end n m (w ∷ []) u h = up_cons m w [] h (λ i l. absurd (omega arith))
up_end n m (w ∷ v ∷ ws) u h = up_cons m w (v ∷ ws) (u 0 (omega arith)) (up_end n m (v ∷ ws) (tail_up n w (v ∷ ws) u) (subst (λ (x : ℕ). offset x ≤ m) (last_cons w v ws) h))

up_append : (n : ℕ) (xs ys : List ℕ) → Up (next n ys) xs → Up n ys → Up n (xs ++ ys)
up_append n [] ys u v = v
up_append n (w ∷ []) ys u v = up_cons n w ys (u 0 (omega arith)) v
up_append n (w ∷ x ∷ xs) ys u v = up_cons n w ((x ∷ xs) ++ ys) (u 0 (omega arith)) (up_append n (x ∷ xs) ys (tail_up (next n ys) w (x ∷ xs) u) v)

tail_strict : (n w : ℕ) (ws : List ℕ) → StrictUp n (w ∷ ws) → StrictUp n ws
tail_strict n w ws u i l = u (suc i) (omega arith)

strict_later : (a b : ℕ) (ws : List ℕ) → a ≤ b → StrictUp a ws → StrictUp b ws
strict_later a b [] h u = λ i l. absurd (omega arith)
strict_later a b (w ∷ []) h u = strict_cons b w [] (later (u 0 (omega arith))) (λ i l. absurd (omega arith))
  where
    later : offset w < a → offset w < b
    later g = omega arith
strict_later a b (w ∷ v ∷ ws) h u = strict_cons b w (v ∷ ws) (u 0 (omega arith)) (strict_later a b (v ∷ ws) h (tail_strict a w (v ∷ ws) u))

strict_append : (n : ℕ) (xs ys : List ℕ) → StrictUp (next n ys) xs → StrictUp n ys → StrictUp n (xs ++ ys)
strict_append n [] ys u v = v
strict_append n (w ∷ []) ys u v = strict_cons n w ys (u 0 (omega arith)) v
strict_append n (w ∷ x ∷ xs) ys u v = strict_cons n w ((x ∷ xs) ++ ys) (u 0 (omega arith)) (strict_append n (x ∷ xs) ys (tail_strict (next n ys) w (x ∷ xs) u) v)

strict_shifted : (n k : ℕ) (ws : List ℕ) → StrictUp n ws → n + k < 16777216 → (next n ws ≤ n) × (next (n + k) (shifted k ws) ≡ next n ws + k) × StrictUp (n + k) (shifted k ws)
unfolding shifted
strict_shifted n k [] u h = (omega arith, refl, λ i l. absurd (omega arith))
strict_shifted n k (w ∷ ws) u h =
    let r = strict_shifted n k ws (tail_strict n w ws u) h in
    let a : offset w < next n ws = u 0 (omega arith) in
    let o : offset (pack (offset w + k) (coordinate w)) ≡ offset w + k = offset_pack (offset w + k) (coordinate w) (omega (arith, r.0)) in
    (omega (arith, r.0), o, strict_cons (n + k) (pack (offset w + k) (coordinate w)) (shifted k ws) (omega (arith, r.1)) r.2)

-- the last run of a sharp list begins below n
pub last_below : (n : ℕ) (ws : List ℕ) → 0 < length ws → StrictUp n ws → offset (last_run ws) < n
last_below n ws h u =
    let d : drop (suc (length ws - 1)) ws ≡ [] = drop_of_length-le ws {i = suc (length ws - 1)} (omega arith) in
    let e : end_at n ws (length ws - 1) ≡ n = ap (next n) d in
    subst (λ (x : ℕ). offset (last_run ws) < x) e (u (length ws - 1) (omega arith))

last_append : (xs ys : List ℕ) → 0 < length ys → last_run (xs ++ ys) ≡ last_run ys
last_append xs ys h =
    let l : length (xs ++ ys) ≡ length xs + length ys = length-append xs ys in
    let k : length (xs ++ ys) - 1 - length xs ≡ length ys - 1 = omega arith in
    get_or_behind xs ys (length (xs ++ ys) - 1) 0 (omega arith) ∙ ap (λ (i : ℕ). get_or ys i 0) k

pub sharp_joinable : (n : ℕ) (ws : List ℕ) → sharp n ws ≡ true → joinable n ws ≡ true
unfolding joinable
sharp_joinable n ws e =
    let s = sharp_yes n ws e in
    let some : length ws ≡ 0 → ⊥ = λ z. omega (arith, s.some) in
    rw (ne_eqb (length ws) 0 some, yes_steady n ws (sharp_steady n ws s), lt-ltb (offset (last_run ws)) n (last_below n ws s.some s.up))

-- the runs that append puts behind an output of a vertices
record Behind (a b : ℕ) (ys : List ℕ) : Type 0 where
  pub from : a - 1 ≤ next (b + (a - 1)) ys
  pub up : StrictUp (b + (a - 1)) ys

behind : (a b c : ℕ) (os : List ℕ) → b + (a - 1) < 16777216 → Sharp b os → Behind a b (appendix c a os)
unfolding appendix
behind a b c os small s = let r = strict_shifted b (a - 1) (merge_behind c os) (behind_strict b c os s.up).1 small in record { from = omega (arith, r.1); up = r.2 }

joined_up : (a b : ℕ) (xs ys : List ℕ) → Steady a xs → 0 < length xs → offset (last_run xs) < a → Behind a b ys → Steady (b + (a - 1)) (xs ++ ys)
joined_up a b [] ys s h l q = absurd (omega arith)
joined_up a b (w ∷ ws) ys s h l q =
    let below : offset (last_run (w ∷ ws)) ≤ next (b + (a - 1)) ys = omega (arith, q.from) in
    record { first = s.first; up = up_append (b + (a - 1)) (w ∷ ws) ys (up_end a (next (b + (a - 1)) ys) (w ∷ ws) s.up below) (strict_le (b + (a - 1)) ys q.up) }

joined_last : (a b : ℕ) (xs ys : List ℕ) → 0 < a → 0 < b → offset (last_run xs) < a → Behind a b ys → offset (last_run (xs ++ ys)) < b + (a - 1)
joined_last a b xs [] h g l q = subst (λ (x : List ℕ). offset (last_run x) < b + (a - 1)) (sym (append-nil xs)) (omega arith)
joined_last a b xs (y ∷ ys) h g l q = subst (λ (x : ℕ). offset x < b + (a - 1)) (sym (last_append xs (y ∷ ys) (omega arith))) (last_below (b + (a - 1)) (y ∷ ys) (omega arith) q.up)

pub appended_joinable : (out : List ℕ) (a : ℕ) (piece : List ℕ) (b : ℕ) (r : Bool) → bad_counts a b ≡ false → joinable a out ≡ true → sharp b piece ≡ true
    → joinable (a + b - 1) (append_runs out a piece b r) ≡ true
unfolding joinable append_runs
appended_joinable out a piece b r good may sh = go
  where
    c : Counts a b
    c = counts a b good

    j : Joinable a out
    j = joinable_is a out may

    n : a + b - 1 ≡ b + (a - 1)
    n = omega (arith, c.left)

    os : List ℕ
    os = oriented r b piece

    ys : List ℕ
    ys = appendix (last_coord out) a os

    go : not (eqb (length (out ++ ys)) 0) && (steady (a + b - 1) (out ++ ys) && ltb (offset (last_run (out ++ ys))) (a + b - 1)) ≡ true
    go =
        let q = behind a b (last_coord out) os (omega (arith, c.left, c.sum)) (oriented_sharp r b piece (omega (arith, c.left, c.sum)) (sharp_yes b piece sh)) in
        let some : length (out ++ ys) ≡ 0 → ⊥ = λ z. omega (arith, length-append out ys, j.some) in
        let st : steady (a + b - 1) (out ++ ys) ≡ true = rw n (yes_steady (b + (a - 1)) (out ++ ys) (joined_up a b out ys j.list j.some j.last q)) in
        let la : offset (last_run (out ++ ys)) < a + b - 1 = rw n (joined_last a b out ys c.left c.right j.last q) in
        rw (ne_eqb (length (out ++ ys)) 0 some, st, lt-ltb (offset (last_run (out ++ ys))) (a + b - 1) la) refl

-- ---- a join: behind a sharp output that ends on the piece's first coordinate the list is sharp again

pub sharp_joined : (a b w o c : ℕ) (ws os : List ℕ) → Sharp a (w ∷ ws) → Sharp b (o ∷ os) → a + b - 1 < 16777216 → Sharp (a + b - 1) ((w ∷ ws) ++ shifted (a - 1) (merge_behind c os))
sharp_joined a b w o c ws os s t small =
    let p : offset o < next b os = t.up 0 (omega arith) in
    let q : 0 < a = pos in
    let m : List ℕ = merge_behind c os in
    let k = behind_strict b c os (tail_strict b o os t.up) in
    let r = strict_shifted b (a - 1) m k.1 (omega arith) in
    let e : b + (a - 1) ≡ a + b - 1 = omega arith in
    let l : a ≤ next (b + (a - 1)) (shifted (a - 1) m) = omega (arith, r.1, k.0) in
    record { some = omega arith; first = s.first; up = subst (λ (x : ℕ). StrictUp x ((w ∷ ws) ++ shifted (a - 1) m)) e (strict_append (b + (a - 1)) (w ∷ ws) (shifted (a - 1) m) (strict_later a (next (b + (a - 1)) (shifted (a - 1) m)) (w ∷ ws) l s.up) r.2) }
  where
    pos : 0 < a
    pos = let h : end_at a (w ∷ ws) 0 ≤ a = end_le a (w ∷ ws) 0 (sharp_steady a (w ∷ ws) s).up in let g : offset w < end_at a (w ∷ ws) 0 = s.up 0 (omega arith) in omega arith

-- what is put behind a run has no equal neighbours, that run with it
pub unlike_appendix : (c a b : ℕ) (os : List ℕ) → Sharp b os → b + (a - 1) < 16777216 → unlike_behind c (appendix c a os) ≡ true
unfolding appendix
unlike_appendix c a b os s small = unlike_shifted b (a - 1) small c (merge_behind c os) (strict_le b (merge_behind c os) (behind_strict b c os s.up).1) ∙ behind_unlike c os

-- a sharp list is its starts with the colours there
pub rebuild : (n : ℕ) (ws : List ℕ) → Sharp n ws → runs_at (colours n ws) (starts ws) ≡ ws
unfolding runs_at
rebuild n ws s = ext_get_or 0 (map f (map offset ws)) ws (length-map (map offset ws) f ∙ length-map ws offset) (λ i l. same i (subst (λ (x : ℕ). i < x) (length-map (map offset ws) f ∙ length-map ws offset) l))
  where
    f : ℕ → ℕ
    f v = pack v (get_or (colours n ws) v 0)

    place : (xs : List ℕ) (i : ℕ) → i < length xs → get_or (map f (map offset xs)) i 0 ≡ f (offset (get_or xs i 0))
    place [] i h = absurd (omega arith)
    place (x ∷ xs) zero h = refl
    place (x ∷ xs) (suc i) h = place xs i (omega arith)

    same : (i : ℕ) → i < length ws → get_or (map f (map offset ws)) i 0 ≡ get_or ws i 0
    same i h =
        let v : ℕ = offset (get_or ws i 0) in
        let b : next n (drop i ws) ≡ v = run_begins n ws i h in
        let c : get_or (colours n ws) v 0 ≡ coordinate (get_or ws i 0) = steady_at n ws (sharp_steady n ws s) s.some i v h (omega arith) (s.up i h) in
        place ws i h ∙ ap (pack v) c ∙ pack_of (get_or ws i 0)
