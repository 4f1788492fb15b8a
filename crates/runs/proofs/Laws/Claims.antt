-- What the operations make of a list, vertex by vertex: the claims of section 6, over the tests that decide whether a list is admitted.
use Prim.Native.Nat.{ℕ, suc, ◌+◌, ◌-◌, ◌%◌, ◌^◌, ◌≤◌, ◌<◌}
use mathlib.Core.Path.{◌≡◌, refl, sym, ap, ◌∙◌, subst}
use mathlib.Core.Bool.{Bool, true, false}
use mathlib.Core.List.{List, [], ◌∷◌, ◌++◌, append-nil, reverse}
use native.Mathlib.Omega.{arith}
use native.Mathlib.Decide.{dec_lt}
use borrow.Author.Tests.{le-ltb}
use lib.ListN.{length, take, drop, get_or, drop_of_length-le, length-append, length-drop}
use lib.Seq.{take-nil, drop-nil}
use lib.Dec.{ltb}
use Rattle.base.specs.Answers.{Answer, refused, done}
use Rattle.base.specs.Parts.{over}
use Rattle.base.proofs.Tests.{when_no}
use Rattle.runs.specs.Words.{offset, coordinate, AreWords}
use Rattle.runs.specs.Colours.{next, end_at, colours, starts, colour_at, last_run, first_coord, last_coord}
use Rattle.runs.specs.Orders.{most_vertices, steady, sharp, list_into}
use Rattle.runs.specs.Inside.Lists.{Sharp}
use Rattle.runs.specs.Reverse.{reverse_runs, oriented, reverse_into, reverse_in_place}
use Rattle.runs.specs.Merge.{merge, merge_behind, unlike_behind, unlike_neighbours}
use Rattle.runs.specs.Append.{shifted, skip, appendix, append_runs, unmerged_runs, bad_counts, joinable}
use Rattle.runs.specs.Rotate.{turn_left, firsts, runs_at, merged, rotate_runs}
use Rattle.runs.specs.Bytes.{run_bytes, ReadRuns, given_in, read_runs_into}
use Rattle.runs.proofs.Laws.Orders.{steady_yes, yes_steady, sharp_yes, yes_sharp, sharp_steady, sharp_vertices, steady_sharp, run_begins}
use Rattle.runs.proofs.Laws.Colours.{length_colours, steady_long, steady_at, colour_steady}
use Rattle.runs.proofs.Laws.Reverse as back
use Rattle.runs.proofs.Laws.Merged.{colours_merged, merged_sharp, starts_merged}
use Rattle.runs.proofs.Laws.Cursor.{turn_long}
use Rattle.runs.proofs.Laws.Merge.{behind_first, behind_own, merge_colours, merge_merged, merge_same, merge_sharp, merge_some, merge_steady, merge_unlike, merge_whole, oriented_unlike, unlike_join, unlike_oriented}
use Rattle.runs.proofs.Laws.Append.{counts, joinable_is, length_shifted, sharp_counts, skip_le}
use Rattle.runs.proofs.Laws.Joints as joints
use Rattle.runs.proofs.Laws.Joints.{sharp_joinable}
use Rattle.runs.proofs.Laws.Bytes.{read_back}

-- ---- a list by its colours

-- the coordinate of a vertex is its colour
pub colour_of_vertex : (n : ℕ) (ws : List ℕ) (v : ℕ) → steady n ws ≡ true → 0 < length ws → v < n → colour_at v ws ≡ get_or (colours n ws) v 0
colour_of_vertex n ws v s h l = colour_steady n ws v (steady_yes n ws s) h l

-- the first run has the first vertex's colour, the last run the last one's
pub first_colour : (n : ℕ) (ws : List ℕ) → sharp n ws ≡ true → first_coord ws ≡ get_or (colours n ws) 0 0
first_colour n ws e =
    let s = sharp_yes n ws e in
    let b : next n (drop 0 ws) ≡ 0 = run_begins n ws 0 s.some ∙ s.first in
    let u : offset (get_or ws 0 0) < end_at n ws 0 = s.up 0 s.some in
    sym (steady_at n ws (sharp_steady n ws s) s.some 0 0 s.some (omega arith) (omega (arith, s.first)))

pub last_colour : (n : ℕ) (ws : List ℕ) → sharp n ws ≡ true → last_coord ws ≡ get_or (colours n ws) (n - 1) 0
last_colour n ws e =
    let s = sharp_yes n ws e in
    let l : length ws - 1 < length ws = omega (arith, s.some) in
    let d : drop (suc (length ws - 1)) ws ≡ [] = drop_of_length-le ws {i = suc (length ws - 1)} (omega (arith, s.some)) in
    let f : end_at n ws (length ws - 1) ≡ n = ap (next n) d in
    let b : next n (drop (length ws - 1) ws) ≡ offset (last_run ws) = run_begins n ws (length ws - 1) l in
    let u : offset (last_run ws) < end_at n ws (length ws - 1) = s.up (length ws - 1) l in
    sym (steady_at n ws (sharp_steady n ws s) s.some (length ws - 1) (n - 1) l (omega arith) (omega arith))

-- a sharp list is its starts with the colours there: colours and starts tell it
pub sharp_told : (n : ℕ) (ws : List ℕ) → sharp n ws ≡ true → runs_at (colours n ws) (starts ws) ≡ ws
sharp_told n ws e = joints.rebuild n ws (sharp_yes n ws e)

-- ---- reverse

module _ (n : ℕ) (ws : List ℕ) (few : n ≤ most_vertices) (list : steady n ws ≡ true) where
  -- the colours of the reversed list are the colours backwards
  pub reversed_colours : colours n (reverse_runs n ws) ≡ reverse (colours n ws)
  reversed_colours = back.colours_reversed n ws (omega arith) (steady_yes n ws list)

  pub reversed_steady : steady n (reverse_runs n ws) ≡ true
  reversed_steady = yes_steady n (reverse_runs n ws) (back.reversed_steady n ws (omega arith) (steady_yes n ws list))

  -- reversed twice, every steady list is as it was, sharp ones among them
  pub reversed_twice : reverse_runs n (reverse_runs n ws) ≡ ws
  reversed_twice = back.reverse_twice n ws (omega arith) (steady_yes n ws list)

pub reversed_sharp : (n : ℕ) (ws : List ℕ) → n ≤ most_vertices → sharp n ws ≡ true → sharp n (reverse_runs n ws) ≡ true
reversed_sharp n ws few list = yes_sharp n (reverse_runs n ws) (back.sharp_reversed n ws (omega arith) (sharp_yes n ws list))

pub oriented_is_sharp : (r : Bool) (n : ℕ) (ws : List ℕ) → n ≤ most_vertices → sharp n ws ≡ true → sharp n (oriented r n ws) ≡ true
oriented_is_sharp true n ws few list = reversed_sharp n ws few list
oriented_is_sharp false n ws few list = list

-- in place answers and leaves what reverse does with an output that is the list itself
pub in_place_agrees : (ws : List ℕ) (n : ℕ) → reverse_into ws n ws ≡ reverse_in_place ws n
unfolding list_into reverse_in_place over
in_place_agrees ws n =
    let l : length (reverse_runs n ws) ≡ length ws = back.length_reversed n ws in
    let d : drop (length (reverse_runs n ws)) ws ≡ [] = drop_of_length-le ws {i = length (reverse_runs n ws)} (omega arith) in
    let e : ltb (length ws) (length (reverse_runs n ws)) ≡ false = le-ltb (length ws) (length (reverse_runs n ws)) (omega arith) in
    rw (when_no {A = Answer × List ℕ} (refused 3, ws) (ltb (length ws) (length (reverse_runs n ws))) (done (length (reverse_runs n ws) ∷ []), reverse_runs n ws ++ drop (length (reverse_runs n ws)) ws) e, d, append-nil (reverse_runs n ws), l)

-- ---- merge

-- of any list no neighbours are equal then, and merging twice is merging once: Laws/Merge, `merge_unlike` and `merge_twice`

-- of a steady list: vertex by vertex the colours stay, and the list is steady again
module _ (n : ℕ) (ws : List ℕ) (list : steady n ws ≡ true) where
  pub merged_colours : colours n (merge ws) ≡ colours n ws
  merged_colours = merge_colours n ws (steady_yes n ws list).up

  pub merged_vertex : (v : ℕ) → 0 < length ws → v < n → colour_at v (merge ws) ≡ colour_at v ws
  merged_vertex v some h =
      let s = steady_yes n ws list in
      colour_steady n (merge ws) v (merge_steady n ws s) (merge_some ws some) h ∙ ap (λ (cs : List ℕ). get_or cs v 0) merged_colours ∙ sym (colour_steady n ws v s some h)

  pub merged_is_steady : steady n (merge ws) ≡ true
  merged_is_steady = yes_steady n (merge ws) (merge_steady n ws (steady_yes n ws list))

-- of a sharp one: it is sharp again, and it is the runs of its colours
module _ (n : ℕ) (ws : List ℕ) (list : sharp n ws ≡ true) where
  pub merged_is_sharp : sharp n (merge ws) ≡ true
  merged_is_sharp = yes_sharp n (merge ws) (merge_sharp n ws (sharp_yes n ws list))

  pub merged_is : merge ws ≡ merged (colours n ws)
  merged_is = merge_merged n ws (sharp_yes n ws list)

  -- from either end the same list, whether it is merged first or turned round first
  module _ (few : n ≤ most_vertices) where
    turned : (xs : List ℕ) → sharp n xs ≡ true → merge (reverse_runs n xs) ≡ merged (reverse (colours n xs))
    turned xs e =
        let s = sharp_yes n xs e in
        merge_merged n (reverse_runs n xs) (back.oriented_sharp true n xs (omega (arith, few)) s) ∙ ap merged (back.colours_reversed n xs (omega (arith, few)) (sharp_steady n xs s))

    pub merged_oriented : (r : Bool) → merge (oriented r n ws) ≡ oriented r n (merge ws)
    merged_oriented false = refl
    merged_oriented true =
        turned ws list
        ∙ ap (λ (cs : List ℕ). merged (reverse cs)) (sym (merged_colours n ws (steady_sharp n ws list)))
        ∙ sym (turned (merge ws) merged_is_sharp)
        ∙ merge_same (reverse_runs n (merge ws)) (oriented_unlike true n (merge ws) (omega (arith, few)) (merge_unlike ws))

-- colours merged into runs leave no equal neighbours
pub merged_runs_unlike : (cs : List ℕ) → 0 < length cs → length cs ≤ most_vertices → unlike_neighbours (merged cs) ≡ true
merged_runs_unlike cs h few =
    let e = merge_merged (length cs) (merged cs) (merged_sharp cs h (omega (arith, few))) ∙ ap merged (colours_merged cs (omega (arith, few))) in
    subst (λ (ws : List ℕ). unlike_neighbours ws ≡ true) e (merge_unlike (merged cs))

-- ---- append

module _ (out : List ℕ) (a : ℕ) (piece : List ℕ) (b : ℕ) (r : Bool) (good : bad_counts a b ≡ false) (may : joinable a out ≡ true) (list : sharp b piece ≡ true) where
  -- the output's colours without the last vertex, then the oriented piece's
  pub appended_colours : colours (a + b - 1) (append_runs out a piece b r) ≡ take (a - 1) (colours a out) ++ colours b (oriented r b piece)
  appended_colours =
      let j = joinable_is a out may in
      let c = counts a b good in
      joints.colours_appended out a piece b r j.list j.some j.last (sharp_yes b piece list) (omega (arith, c.sum))

  -- the same that 01's own append, which the reference has, gives
  pub as_reference_colours : colours (a + b - 1) (append_runs out a piece b r) ≡ colours (a + b - 1) (unmerged_runs out a piece b r)
  as_reference_colours =
      let j = joinable_is a out may in
      let c = counts a b good in
      appended_colours ∙ sym (joints.colours_unmerged out a piece b r j.list j.some j.last (sharp_yes b piece list) (omega (arith, c.sum)))

  -- what is put behind the output has no equal neighbours, nor is its first run like the output's last; so the whole list has none where the output has none
  pub appendix_unlike : unlike_behind (last_coord out) (appendix (last_coord out) a (oriented r b piece)) ≡ true
  appendix_unlike =
      let c = counts a b good in
      joints.unlike_appendix (last_coord out) a b (oriented r b piece) (back.oriented_sharp r b piece (omega (arith, c.sum, c.left, c.right)) (sharp_yes b piece list)) (omega (arith, c.sum, c.left, c.right))

  pub appended_unlike : unlike_neighbours out ≡ true → unlike_neighbours (append_runs out a piece b r) ≡ true
  unfolding append_runs
  appended_unlike e = unlike_join out (appendix (last_coord out) a (oriented r b piece)) (joinable_is a out may).some e appendix_unlike

  -- and a piece can stand behind the result
  pub appended_joinable : joinable (a + b - 1) (append_runs out a piece b r) ≡ true
  appended_joinable = joints.appended_joinable out a piece b r good may list

-- it is 01's append of the merged piece: so the runs are the reference's where the piece has no equal neighbours, and only there
pub append_merges : (out : List ℕ) (a : ℕ) (piece : List ℕ) (b : ℕ) (r : Bool) → append_runs out a piece b r ≡ out ++ shifted (a - 1) (drop (skip (last_coord out) (oriented r b piece)) (merge (oriented r b piece)))
unfolding append_runs appendix
append_merges out a piece b r = ap (λ (ws : List ℕ). out ++ shifted (a - 1) ws) (behind_first (last_coord out) (oriented r b piece))

module _ (out : List ℕ) (a : ℕ) (piece : List ℕ) (b : ℕ) (r : Bool) (small : b ≤ most_vertices) where
  pub append_as_reference : unlike_neighbours piece ≡ true → append_runs out a piece b r ≡ unmerged_runs out a piece b r
  unfolding unmerged_runs
  append_as_reference e =
      let os : List ℕ = oriented r b piece in
      append_merges out a piece b r ∙ ap (λ (ws : List ℕ). out ++ shifted (a - 1) (drop (skip (last_coord out) os) ws)) (merge_same os (oriented_unlike r b piece (omega arith) e))

  pub reference_as_append : append_runs out a piece b r ≡ unmerged_runs out a piece b r → unlike_neighbours piece ≡ true
  unfolding unmerged_runs merge
  reference_as_append e = unlike_oriented r b piece (omega arith) (merge_whole (oriented r b piece) (long (skip (last_coord out) (oriented r b piece)) (oriented r b piece) (skip_le (last_coord out) (oriented r b piece)) (sym (append_merges out a piece b r) ∙ e)))
    where
      behind : (xs : List ℕ) → length (out ++ shifted (a - 1) xs) ≡ length out + length xs
      behind xs = length-append out (shifted (a - 1) xs) ∙ ap (λ (k : ℕ). length out + k) (length_shifted (a - 1) xs)

      long : (k : ℕ) (os : List ℕ) → k ≤ 1 → out ++ shifted (a - 1) (drop k (merge os)) ≡ out ++ shifted (a - 1) (drop k os) → length (merge os) ≡ length os
      long k [] h q = refl
      long k (w ∷ ws) h q = omega (arith, ap length q, behind (drop k (merge (w ∷ ws))), behind (drop k (w ∷ ws)), length-drop k (merge (w ∷ ws)), length-drop k (w ∷ ws), merge_some (w ∷ ws) (omega arith))

module _ (out : List ℕ) (a : ℕ) (piece : List ℕ) (b : ℕ) (r : Bool) (one : sharp a out ≡ true) (two : sharp b piece ≡ true) (few : a + b - 1 ≤ most_vertices) (meet : last_coord out ≡ first_coord (oriented r b piece)) where
  -- behind a sharp output that ends on the piece's first coordinate the list is sharp again
  pub joined_sharp : sharp (a + b - 1) (append_runs out a piece b r) ≡ true
  unfolding append_runs appendix
  joined_sharp = go out (oriented r b piece) meet (sharp_yes a out one) (back.oriented_sharp r b piece (omega (arith, sharp_vertices a out one)) (sharp_yes b piece two))
    where
      none : 0 < 0 → ⊥
      none k = omega arith

      go : (xs os : List ℕ) → last_coord xs ≡ first_coord os → Sharp a xs → Sharp b os → sharp (a + b - 1) (xs ++ shifted (a - 1) (merge_behind (last_coord xs) os)) ≡ true
      go [] os e s t = absurd (none s.some)
      go (w ∷ ws) [] e s t = absurd (none t.some)
      go (w ∷ ws) (o ∷ os) e s t =
          rw (ap (λ (c : ℕ). merge_behind c (o ∷ os)) e, behind_own o os) (yes_sharp (a + b - 1) ((w ∷ ws) ++ shifted (a - 1) (merge_behind (coordinate o) os)) (joints.sharp_joined a b w o (coordinate o) ws os s t (omega arith)))

  -- and if the output has no equal neighbours, the list is the runs of all the colours
  pub joined_merged : unlike_neighbours out ≡ true → append_runs out a piece b r ≡ merged (take (a - 1) (colours a out) ++ colours b (oriented r b piece))
  joined_merged e =
      let good = sharp_counts a b out piece one two few in
      let may = sharp_joinable a out one in
      sym (merge_same (append_runs out a piece b r) (appended_unlike out a piece b r good may two e))
      ∙ merged_is (a + b - 1) (append_runs out a piece b r) joined_sharp
      ∙ ap merged (appended_colours out a piece b r good may two)

-- ---- rotate

module _ (n pivot : ℕ) (r : Bool) (ws : List ℕ) (few : n ≤ most_vertices) (list : steady n ws ≡ true) where
  long : length (colours n (oriented r n ws)) ≤ n
  long = omega (arith, length_colours n (oriented r n ws) (back.oriented_steady r n ws (omega arith) (steady_yes n ws list)).up)

  full : 0 < length ws → length (turn_left (pivot % n) (colours n (oriented r n ws))) ≡ n
  full h = turn_long (pivot % n) (colours n (oriented r n ws)) ∙ steady_long n (oriented r n ws) (back.oriented_steady r n ws (omega arith) (steady_yes n ws list)) (subst (λ (x : ℕ). 0 < x) (sym (back.oriented_long r n ws)) h)

  -- the colours of the turned list are the turned colours
  pub rotated_colours : 0 < length ws → colours n (rotate_runs n pivot r ws) ≡ turn_left (pivot % n) (colours n (oriented r n ws))
  unfolding rotate_runs
  rotated_colours h =
      let k : length (turn_left (pivot % n) (colours n (oriented r n ws))) ≡ n = full h in
      ap (λ (x : ℕ). colours x (merged (turn_left (pivot % n) (colours n (oriented r n ws))))) (sym k) ∙ colours_merged (turn_left (pivot % n) (colours n (oriented r n ws))) (omega arith)

  -- its runs start at vertex 0 and at each vertex unlike the one before
  pub rotated_starts : starts (rotate_runs n pivot r ws) ≡ firsts (turn_left (pivot % n) (colours n (oriented r n ws)))
  unfolding rotate_runs
  rotated_starts = starts_merged (turn_left (pivot % n) (colours n (oriented r n ws))) (omega (arith, turn_long (pivot % n) (colours n (oriented r n ws)), long))

  -- it has runs where there are vertices and runs
  rotated_some : 0 < n → 0 < length ws → Sharp n (rotate_runs n pivot r ws)
  unfolding rotate_runs
  rotated_some h g =
      let k : length (turn_left (pivot % n) (colours n (oriented r n ws))) ≡ n = full g in
      subst (λ (x : ℕ). Sharp x (merged (turn_left (pivot % n) (colours n (oriented r n ws))))) k (merged_sharp (turn_left (pivot % n) (colours n (oriented r n ws))) (omega arith) (omega arith))

-- and is empty for no vertices or no runs
pub rotated_empty : (n pivot : ℕ) (r : Bool) (ws : List ℕ) → n ≡ 0 → steady n ws ≡ true → rotate_runs n pivot r ws ≡ []
unfolding rotate_runs merged runs_at firsts
rotated_empty n pivot r ws z list =
    let s = back.oriented_steady r n ws (omega arith) (steady_yes n ws list) in
    let l : length (colours n (oriented r n ws)) ≡ 0 = length_colours n (oriented r n ws) s.up ∙ omega arith in
    none (turn_left (pivot % n) (colours n (oriented r n ws))) (turn_long (pivot % n) (colours n (oriented r n ws)) ∙ l)
  where
    none : (cs : List ℕ) → length cs ≡ 0 → merged cs ≡ []
    none [] e = refl
    none (c ∷ cs) e = absurd (omega arith)

pub rotated_none : (n pivot : ℕ) (r : Bool) (ws : List ℕ) → length ws ≡ 0 → rotate_runs n pivot r ws ≡ []
unfolding rotate_runs reverse_runs colours merged runs_at firsts
rotated_none n pivot true [] e = rw (drop-nil (pivot % n), take-nil (pivot % n))
rotated_none n pivot false [] e = rw (drop-nil (pivot % n), take-nil (pivot % n))
rotated_none n pivot r (w ∷ ws) e = absurd (omega arith)

-- the turned list is sharp when nonempty
pub rotated_sharp : (n pivot : ℕ) (r : Bool) (ws : List ℕ) → n ≤ most_vertices → steady n ws ≡ true → 0 < length (rotate_runs n pivot r ws) → sharp n (rotate_runs n pivot r ws) ≡ true
rotated_sharp n pivot r ws few list h = yes_sharp n (rotate_runs n pivot r ws) (go (dec_lt 0 n) (dec_lt 0 (length ws)))
  where
    go : Dec (0 < n) → Dec (0 < length ws) → Sharp n (rotate_runs n pivot r ws)
    go (yes a) (yes b) = rotated_some n pivot r ws few list a b
    go (yes a) (no b) = absurd (omega (arith, ap length (rotated_none n pivot r ws (omega arith))))
    go (no a) d = absurd (omega (arith, ap length (rotated_empty n pivot r ws (omega arith) list)))

-- ---- run bytes

-- the bytes that a list is written as are read as that list, whatever stands behind them
pub written_read : (ws rest out : List ℕ) → length ws < 2 ^ 32 → AreWords ws → length ws ≤ length out
    → ◌≡◌ {A = Answer × List ℕ} (read_runs_into (run_bytes ws ++ rest) out) (done (length ws ∷ length (run_bytes ws) ∷ []), over ws out)
unfolding given_in
written_read ws rest out h a l =
    let k : length (run_bytes ws ++ rest) - length rest ≡ length (run_bytes ws) = omega (arith, length-append (run_bytes ws) rest) in
    ap (λ (x : ReadRuns). given_in (length (run_bytes ws ++ rest)) x out) (read_back ws rest h a)
    ∙ when_no _ _ _ (le-ltb (length out) (length ws) l)
    ∙ ap (λ (x : ℕ). (done (length ws ∷ x ∷ []), over ws out)) k
