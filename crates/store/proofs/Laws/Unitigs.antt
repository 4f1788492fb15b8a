-- A unitig by its coordinates and its runs: what a piece, a join and a turned cycle make of it.
use Prim.Native.Nat.{ℕ, zero, suc, ◌+◌, ◌-◌, ◌%◌, ◌≤◌, ◌<◌}
use mathlib.Core.Path.{◌≡◌, refl, sym, ap, ap₂, ◌∙◌, subst}
use mathlib.Core.Bool.{Bool, true, false, not}
use mathlib.Core.List.{List, [], ◌∷◌, ◌++◌, map, reverse}
use mathlib.Core.Option.{some}
use native.Mathlib.Omega.{arith}
use lib.ListN.{length, get_or, take, drop, replicate, length-map, length-append, length-drop, drop_of_length-le}
use lib.Seq.{append_snoc, drop-cons, length-take-le, take-length, take-nil, take-suc}
use lib.Dec.{eqb, ltb}
use borrow.Author.Tests.{eqb-true, le-ltb, lt-ltb, ltb-true, not-false}
use Rattle.std.specs.Prelude.{filter}
use Rattle.base.proofs.All.{All, all_append, all_at, all_drop, all_less, all_replicate, all_reverse, all_take}
use Rattle.base.proofs.Bools.{and_true}
use Rattle.runs.specs.Append.{append_runs, appendix}
use Rattle.runs.specs.Bytes.{found, read_runs}
use Rattle.runs.specs.Colours.{colour_at, colours, first_coord, last_coord, next, starts}
use Rattle.runs.specs.Merge.{merge, merge_behind, unless, unlike_neighbours}
use Rattle.runs.specs.Orders.{climbs, sharp}
use Rattle.runs.specs.Reverse.{oriented, reverse_runs}
use Rattle.runs.specs.Rotate.{changes, firsts, merged, runs_at, turn_left}
use Rattle.runs.specs.Words.{coordinate, offset}
use Rattle.runs.specs.Inside.Lists.{Sharp}
use Rattle.runs.proofs.Laws.Bytes.{read_back}
use Rattle.runs.proofs.Laws.Claims.{colour_of_vertex, first_colour, joined_merged, last_colour, merged_is, merged_runs_unlike, oriented_is_sharp, reversed_colours, reversed_sharp}
use Rattle.runs.proofs.Laws.Colours.{steady_at, steady_long}
use Rattle.runs.proofs.Laws.Cursor.{turn_long}
use Rattle.runs.proofs.Laws.Lists.{all_turn}
use Rattle.runs.proofs.Laws.Merged.{colours_merged, merged_sharp, starts_merged}
use Rattle.runs.proofs.Laws.Orders.{run_begins, sharp_steady, sharp_vertices, sharp_yes, steady_sharp, strict_few, yes_sharp}
use Rattle.runs.proofs.Laws.Starts.{starts_reversed}
use Rattle.runs.proofs.Laws.Widths.{Narrow, coloured_words}
use Rattle.runs.proofs.Laws.Shorter.{colours_shorter, sharp_last}
use Rattle.store.specs.Join.{all_named}
use Rattle.store.specs.Plain.{Unitig, bytes_of, differs, expanded, inner_starts, joined, like_before, neighbours_merged, piece_of, turned_by, turned_round, without_last}
use Rattle.store.proofs.Laws.Names.{named_one}
use Rattle.store.proofs.Laws.Rep.{Good, Named, unitig_runs}

-- ---- what its runs say of a unitig

pub runs_long : (u : Unitig) → length (unitig_runs u) ≡ length u.starts
unfolding runs_at
runs_long u = length-map u.starts _

module _ {names : ℕ → Type 0} (u : Unitig) (g : Good names u) where
  abbrev n : ℕ
  n = length u.coords

  -- they are its coordinates as runs, equal neighbours merged
  pub runs_merged : unitig_runs u ≡ merged u.coords
  unfolding merged
  runs_merged = ap (runs_at u.coords) g.begin

  pub runs_sharp : sharp n (unitig_runs u) ≡ true
  runs_sharp = rw runs_merged (yes_sharp n (merged u.coords) (merged_sharp u.coords g.vertices (omega (arith, g.few))))

  pub runs_unlike : unlike_neighbours (unitig_runs u) ≡ true
  runs_unlike = rw runs_merged (merged_runs_unlike u.coords g.vertices g.few)

  -- and tell it whole
  pub runs_tell : colours n (unitig_runs u) ≡ u.coords
  runs_tell = ap (colours n) runs_merged ∙ colours_merged u.coords (omega (arith, g.few))

  pub runs_start : starts (unitig_runs u) ≡ u.starts
  runs_start = ap (λ (ws : List ℕ). starts ws) runs_merged ∙ starts_merged u.coords (omega (arith, g.few)) ∙ sym g.begin

  -- the first and the last colour, and the colour of a vertex
  pub first_of : first_coord (unitig_runs u) ≡ get_or u.coords 0 0
  first_of = first_colour n (unitig_runs u) runs_sharp ∙ ap (λ (l : List ℕ). get_or l 0 0) runs_tell

  pub last_of : last_coord (unitig_runs u) ≡ get_or u.coords (n - 1) 0
  last_of = last_colour n (unitig_runs u) runs_sharp ∙ ap (λ (l : List ℕ). get_or l (n - 1) 0) runs_tell

  pub colour_of : (v : ℕ) → v < n → colour_at v (unitig_runs u) ≡ get_or u.coords v 0
  colour_of v h = colour_of_vertex n (unitig_runs u) v (steady_sharp n (unitig_runs u) runs_sharp) (sharp_yes n (unitig_runs u) runs_sharp).some h ∙ ap (λ (l : List ℕ). get_or l v 0) runs_tell

  pub name_of : (v : ℕ) → v < n → names (get_or u.coords v 0)
  name_of v h = all_at names u.coords v 0 h g.named

-- run bytes read back, where no coordinate is wider than 40 bits
pub read_of : {names : ℕ → Type 0} → ((c : ℕ) → names c → Narrow c) → (u : Unitig) → Good names u → (rest : List ℕ) → read_runs (bytes_of u ++ rest) ≡ found (unitig_runs u) rest
unfolding bytes_of
read_of {names} slim u g rest =
    let n : ℕ = length u.coords in
    let narrow : All Narrow u.coords = all_less {P = names} {Q = Narrow} slim u.coords g.named in
    let few : length (unitig_runs u) ≤ n = omega (arith, strict_few n (unitig_runs u) (sharp_yes n (unitig_runs u) (runs_sharp u g)).up) in
    read_back (unitig_runs u) rest (omega (arith, g.few)) (coloured_words n (unitig_runs u) (runs_sharp u g) (rw (runs_tell u g) narrow))

-- what is named stays named
pub good_more : {P Q : ℕ → Type 0} {u : Unitig} → ((c : ℕ) → P c → Q c) → Good P u → Good Q u
good_more {P} {Q} {u} h g =
    record {
      vertices = g.vertices;
      few = g.few;
      begin = g.begin;
      named = all_less {P = P} {Q = Q} h u.coords g.named;
    }

-- ---- the starts but 0

inner_up : (n at : ℕ) (ws : List ℕ) → climbs n at ws ≡ true → inner_starts (starts ws) ≡ starts ws
unfolding climbs inner_starts
inner_up n at [] e = refl
inner_up n at (w ∷ ws) e = let a = and_true _ _ e in go (offset w) (ltb-true at (offset w) a.0) (inner_up n (offset w) ws a.1)
  where
    go : (x : ℕ) → at < x → inner_starts (starts ws) ≡ starts ws → inner_starts (x ∷ starts ws) ≡ x ∷ starts ws
    go zero h r = absurd (omega arith)
    go (suc x) h r = ap (λ (l : List ℕ). suc x ∷ l) r

inner_sharp : (n : ℕ) (ws : List ℕ) → sharp n ws ≡ true → inner_starts (starts ws) ≡ drop 1 (starts ws)
unfolding sharp inner_starts
inner_sharp n [] e = refl
inner_sharp n (w ∷ ws) e = let a = and_true _ _ e in ap (λ (x : ℕ). inner_starts (x ∷ starts ws)) (eqb-true (offset w) 0 a.0) ∙ inner_up n 0 ws a.1

-- ---- a sharp list whose coordinates name sets tells a unitig, once its equal neighbours are merged

pub record Told (names : ℕ → Type 0) (n : ℕ) (runs : List ℕ) (u : Unitig) : Type 0 where
  pub good : Good names u
  pub runs_are : unitig_runs u ≡ runs
  pub long : length u.coords ≡ n

-- the start of a run vanishes where its vertex has the coordinate of the one before, which is where the run has that of the one before
module _ (n : ℕ) (all : List ℕ) (s : Sharp n all) where
  abbrev cs : List ℕ
  cs = colours n all

  abbrev stays : ℕ → Bool
  stays v = not (like_before cs v)

  like_run : (i : ℕ) → suc i < length all → like_before cs (offset (get_or all (suc i) 0)) ≡ eqb (coordinate (get_or all i 0)) (coordinate (get_or all (suc i) 0))
  unfolding like_before
  like_run i h = go (offset (get_or all (suc i) 0)) refl
    where
      go : (v : ℕ) → offset (get_or all (suc i) 0) ≡ v → like_before cs v ≡ eqb (coordinate (get_or all i 0)) (coordinate (get_or all (suc i) 0))
      go zero e = absurd (omega (arith, e, s.up i (omega arith), run_begins n all (suc i) h))
      go (suc v) e =
          let t = sharp_steady n all s in
          let b : next n (drop (suc i) all) ≡ suc v = run_begins n all (suc i) h ∙ e in
          let a : next n (drop i all) ≡ offset (get_or all i 0) = run_begins n all i (omega arith) in
          let x : get_or cs v 0 ≡ coordinate (get_or all i 0) = steady_at n all t s.some i v (omega arith) (omega (arith, a, b, s.up i (omega arith))) (omega (arith, b)) in
          let y : get_or cs (suc v) 0 ≡ coordinate (get_or all (suc i) 0) = steady_at n all t s.some (suc i) (suc v) h (omega (arith, b)) (omega (arith, e, s.up (suc i) h)) in
          ap₂ eqb x y

  behind_stay : (k i : ℕ) → suc i + k ≡ length all → filter stays (starts (drop (suc i) all)) ≡ starts (merge_behind (coordinate (get_or all i 0)) (drop (suc i) all))
  unfolding merge_behind
  behind_stay zero i e = rw (drop_of_length-le all {i = suc i} (omega (arith, e))) refl
  behind_stay (suc k) i e = rw (drop-cons all (suc i) 0 (omega (arith, e))) (go (eqb (coordinate (get_or all i 0)) (coordinate (get_or all (suc i) 0))) (like_run i (omega (arith, e))) (behind_stay k (suc i) (omega (arith, e))))
    where
      v : ℕ
      v = get_or all (suc i) 0

      rest : List ℕ
      rest = drop (suc (suc i)) all

      go : (t : Bool) → like_before cs (offset v) ≡ t → filter stays (starts rest) ≡ starts (merge_behind (coordinate v) rest) → filter stays (offset v ∷ starts rest) ≡ starts (unless t v (merge_behind (coordinate v) rest))
      go true h r = rw h r
      go false h r = rw h (ap (λ (l : List ℕ). offset v ∷ l) r)

  pub vanish : n ≤ 16777215 → filter stays (starts all) ≡ firsts cs
  unfolding merge like_before
  vanish few =
      let some : 0 < length all = s.some in
      let l : length cs ≡ n = steady_long n all (sharp_steady n all s) s.some in
      first (drop-cons all 0 0 s.some) s.first
      ∙ ap (λ (ws : List ℕ). starts ws) (merged_is n all (yes_sharp n all s))
      ∙ starts_merged cs (omega arith)
    where
      first : all ≡ get_or all 0 0 ∷ drop 1 all → offset (get_or all 0 0) ≡ 0 → filter stays (starts all) ≡ starts (merge all)
      first e z =
          let r = behind_stay (length all - 1) 0 (omega (arith, s.some)) in
          let k : filter stays (starts (get_or all 0 0 ∷ drop 1 all)) ≡ starts (merge (get_or all 0 0 ∷ drop 1 all)) = rw z (ap (λ (l : List ℕ). 0 ∷ l) r) in
          subst (λ (ws : List ℕ). filter stays (starts ws) ≡ starts (merge ws)) (sym e) k

told : (names : ℕ → Type 0) (n : ℕ) (runs : List ℕ) → n ≤ 16777215 → sharp n runs ≡ true → All names (colours n runs) → Told names n (merge runs) (neighbours_merged (expanded n runs))
unfolding neighbours_merged expanded merged
told names n runs few e named =
    let s = sharp_yes n runs e in
    let l : length (colours n runs) ≡ n = steady_long n runs (sharp_steady n runs s) s.some in
    let v = vanish n runs s few in
    record {
      good = record { vertices = omega (arith, sharp_vertices n runs e); few = omega arith; begin = v; named = named };
      runs_are = ap (runs_at (colours n runs)) v ∙ sym (merged_is n runs e);
      long = l;
    }

named_colours : (W k n : ℕ) (ws : List ℕ) → all_named W k ws ≡ true → All (Named W k) (colours n ws)
unfolding all_named colours
named_colours W k n [] e = tt
named_colours W k n (w ∷ ws) e =
    let a = and_true _ _ e in
    let here : Named W k (coordinate w) = named_one W k (coordinate w) a.0 in
    all_append (Named W k) (replicate (next n ws - offset w) (coordinate w)) (colours n ws) (all_replicate (Named W k) (next n ws - offset w) (coordinate w) here) (named_colours W k n ws a.1)

-- ---- a piece

abbrev unitig : List ℕ → List ℕ → Unitig
unitig x y = record { coords = x; starts = y }

round : (n : ℕ) (runs : List ℕ) → n ≤ 16777215 → sharp n runs ≡ true → turned_round n (expanded n runs) ≡ expanded n (reverse_runs n runs)
unfolding turned_round expanded
round n runs few e =
    ap₂ (λ (x y : List ℕ). unitig x y) (sym (reversed_colours n runs few (steady_sharp n runs e)))
    (ap (λ (l : List ℕ). 0 ∷ reverse (map (λ (s : ℕ). n - s) l)) (inner_sharp n runs e) ∙ sym (starts_reversed n runs few (sharp_yes n runs e).some))

-- expanded, and turned round where wished, it is told by the oriented runs, merged
pub piece_told : (W k n : ℕ) (back : Bool) (runs : List ℕ) → n ≤ 16777215 → sharp n runs ≡ true → all_named W k runs ≡ true → Told (Named W k) n (merge (oriented back n runs)) (piece_of n back runs)
unfolding piece_of
piece_told W k n true runs few e m =
    rw (round n runs few e)
    (told (Named W k) n (reverse_runs n runs) few (reversed_sharp n runs few e) (rw (reversed_colours n runs few (steady_sharp n runs e)) (all_reverse (Named W k) (colours n runs) (named_colours W k n runs m))))
piece_told W k n false runs few e m = told (Named W k) n runs few e (named_colours W k n runs m)

-- its coordinates are the oriented runs' colours
pub piece_coords : (n : ℕ) (back : Bool) (runs : List ℕ) → n ≤ 16777215 → sharp n runs ≡ true → (piece_of n back runs).coords ≡ colours n (oriented back n runs)
unfolding piece_of neighbours_merged turned_round expanded
piece_coords n true runs few e = sym (reversed_colours n runs few (steady_sharp n runs e))
piece_coords n false runs few e = refl

pub piece_first : (n : ℕ) (back : Bool) (runs : List ℕ) → n ≤ 16777215 → sharp n runs ≡ true → first_coord (oriented back n runs) ≡ get_or (piece_of n back runs).coords 0 0
piece_first n back runs few e = first_colour n (oriented back n runs) (oriented_is_sharp back n runs few e) ∙ ap (λ (l : List ℕ). get_or l 0 0) (sym (piece_coords n back runs few e))

-- ---- a join

-- two lists, where the second begins with the first's last element
seam : (xs ys : List ℕ) → 0 < length xs → 0 < length ys → get_or xs (length xs - 1) 0 ≡ get_or ys 0 0 → take (length xs - 1) xs ++ ys ≡ xs ++ drop 1 ys
seam xs [] h g e = absurd (none g)
  where
    none : 0 < 0 → ⊥
    none h = omega arith
seam xs (y ∷ ys) h g e =
    let k : length xs - 1 < length xs = omega arith in
    let l : suc (length xs - 1) ≡ length xs = omega arith in
    sym (append_snoc (take (length xs - 1) xs) y ys)
    ∙ ap (λ (z : List ℕ). z ++ ys) (ap (λ (z : ℕ). take (length xs - 1) xs ++ (z ∷ [])) (sym e) ∙ sym (take-suc xs (length xs - 1) 0 k) ∙ ap (λ (j : ℕ). take j xs) l ∙ take-length xs)

-- vertices unlike the one before: of two lists, one behind the other
changes_append : (c at : ℕ) (xs ys : List ℕ) → changes c at (xs ++ ys) ≡ changes c at xs ++ changes (get_or (c ∷ xs) (length xs) 0) (at + length xs) ys
unfolding changes
changes_append c at [] ys = ap (λ (k : ℕ). changes c k ys) (omega arith)
changes_append c at (x ∷ xs) ys = go (eqb c x) (changes_append x (at + 1) xs ys ∙ ap (λ (k : ℕ). changes x (at + 1) xs ++ changes (get_or (x ∷ xs) (length xs) 0) k ys) (omega arith))
  where
    more : List ℕ
    more = changes (get_or (x ∷ xs) (length xs) 0) (at + suc (length xs)) ys

    go : (t : Bool) → changes x (at + 1) (xs ++ ys) ≡ changes x (at + 1) xs ++ more → unless t at (changes x (at + 1) (xs ++ ys)) ≡ unless t at (changes x (at + 1) xs) ++ more
    go true r = r
    go false r = ap (λ (l : List ℕ). at ∷ l) r

-- and moved
changes_moved : (c at k : ℕ) (xs : List ℕ) → map (λ (s : ℕ). s + k) (changes c at xs) ≡ changes c (at + k) xs
unfolding changes
changes_moved c at k [] = refl
changes_moved c at k (x ∷ xs) = go (eqb c x) (changes_moved x (at + 1) k xs ∙ ap (λ (j : ℕ). changes x j xs) (omega arith))
  where
    go : (t : Bool) → map (λ (s : ℕ). s + k) (changes x (at + 1) xs) ≡ changes x (at + k + 1) xs → map (λ (s : ℕ). s + k) (unless t at (changes x (at + 1) xs)) ≡ unless t (at + k) (changes x (at + k + 1) xs)
    go true r = r
    go false r = ap (λ (l : List ℕ). (at + k) ∷ l) r

inner_changes : (c at : ℕ) (xs : List ℕ) → 0 < at → inner_starts (changes c at xs) ≡ changes c at xs
unfolding changes inner_starts
inner_changes c at [] h = refl
inner_changes c zero (x ∷ xs) h = absurd (omega arith)
inner_changes c (suc at) (x ∷ xs) h = go (eqb c x) (inner_changes x (suc at + 1) xs (omega arith))
  where
    go : (t : Bool) → inner_starts (changes x (suc at + 1) xs) ≡ changes x (suc at + 1) xs → inner_starts (unless t (suc at) (changes x (suc at + 1) xs)) ≡ unless t (suc at) (changes x (suc at + 1) xs)
    go true r = r
    go false r = ap (λ (l : List ℕ). suc at ∷ l) r

firsts_joined : (xs ys : List ℕ) → 0 < length xs → 0 < length ys → get_or xs (length xs - 1) 0 ≡ get_or ys 0 0 → firsts xs ++ map (λ (s : ℕ). s + (length xs - 1)) (inner_starts (firsts ys)) ≡ firsts (xs ++ drop 1 ys)
unfolding firsts inner_starts
firsts_joined [] ys h g e = absurd (omega arith)
firsts_joined (x ∷ xs) [] h g e = absurd (omega arith)
firsts_joined (x ∷ xs) (y ∷ ys) h g e =
    let k : suc (length xs) - 1 ≡ length xs = omega arith in
    let q : get_or (x ∷ xs) (length xs) 0 ≡ y = ap (λ (j : ℕ). get_or (x ∷ xs) j 0) (sym k) ∙ e in
    ap (λ (l : List ℕ). 0 ∷ (changes x 1 xs ++ l))
    (ap (map (λ (s : ℕ). s + (suc (length xs) - 1))) (inner_changes y 1 ys (omega arith)) ∙ ap (λ (j : ℕ). map (λ (s : ℕ). s + j) (changes y 1 ys)) k ∙ changes_moved y 1 (length xs) ys ∙ ap (λ (c : ℕ). changes c (1 + length xs) ys) (sym q))
    ∙ ap (λ (l : List ℕ). 0 ∷ l) (sym (changes_append x 1 xs ys))

module _ {names : ℕ → Type 0} (u : Unitig) (g : Good names u) (n : ℕ) (back : Bool) (runs : List ℕ) (list : sharp n runs ≡ true) (small : n ≤ 16777215) (v : Unitig) (h : Good names v) (coords_are : v.coords ≡ colours n (oriented back n runs))
    (e : differs (some u) v ≡ false) (few : length u.coords + n - 1 ≤ 16777215) where
  abbrev both : List ℕ
  both = unitig_runs u ++ appendix (last_coord (unitig_runs u)) (length u.coords) (oriented back n runs)

  ends : get_or u.coords (length u.coords - 1) 0 ≡ get_or v.coords 0 0
  unfolding differs
  ends = eqb-true _ _ (not-false _ e)

  meet : last_coord (unitig_runs u) ≡ first_coord (oriented back n runs)
  meet = last_of u g ∙ ends ∙ ap (λ (l : List ℕ). get_or l 0 0) coords_are ∙ sym (first_colour n (oriented back n runs) (oriented_is_sharp back n runs small list))

  long : length v.coords ≡ n
  long = let s = sharp_yes n (oriented back n runs) (oriented_is_sharp back n runs small list) in ap length coords_are ∙ steady_long n (oriented back n runs) (sharp_steady n (oriented back n runs) s) s.some

  both_merged : both ≡ merged (u.coords ++ drop 1 v.coords)
  unfolding append_runs
  both_merged =
      joined_merged (unitig_runs u) (length u.coords) runs n back (runs_sharp u g) list few meet (runs_unlike u g)
      ∙ ap merged (ap₂ (λ (x y : List ℕ). take (length u.coords - 1) x ++ y) (runs_tell u g) (sym coords_are) ∙ seam u.coords v.coords g.vertices h.vertices ends)

  joined_begin : (joined (some u) v).starts ≡ firsts (joined (some u) v).coords
  unfolding joined
  joined_begin = ap₂ (λ (x y : List ℕ). x ++ map (λ (s : ℕ). s + (length u.coords - 1)) (inner_starts y)) g.begin h.begin ∙ firsts_joined u.coords v.coords g.vertices h.vertices ends

  joined_long : length (joined (some u) v).coords ≡ length u.coords + n - 1
  unfolding joined
  joined_long = length-append u.coords (drop 1 v.coords) ∙ omega (arith, length-drop 1 v.coords, long, h.vertices)

  -- a piece that meets the open unitig: append's runs tell the joined one
  pub join_told : Told names (length u.coords + n - 1) both (joined (some u) v)
  unfolding merged joined
  join_told =
      record {
        good =
            record {
              vertices = omega (arith, joined_long, g.vertices, h.vertices, long);
              few = omega (arith, joined_long);
              begin = joined_begin;
              named = all_append names u.coords (drop 1 v.coords) g.named (all_drop names 1 v.coords h.named);
            };
        runs_are = ap (runs_at (joined (some u) v).coords) joined_begin ∙ sym both_merged;
        long = joined_long;
      }

-- ---- a cycle

-- the starts that are still vertices
none_below : (c at k : ℕ) (xs : List ℕ) → k ≤ at → filter (λ (s : ℕ). ltb s k) (changes c at xs) ≡ []
unfolding changes
none_below c at k [] h = refl
none_below c at k (x ∷ xs) h = go (eqb c x) (none_below x (at + 1) k xs (omega arith))
  where
    go : (t : Bool) → filter (λ (s : ℕ). ltb s k) (changes x (at + 1) xs) ≡ [] → filter (λ (s : ℕ). ltb s k) (unless t at (changes x (at + 1) xs)) ≡ []
    go true r = r
    go false r = rw (le-ltb at k h) r

changes_take : (c at m k : ℕ) (xs : List ℕ) → k ≡ at + m → filter (λ (s : ℕ). ltb s k) (changes c at xs) ≡ changes c at (take m xs)
unfolding changes
changes_take c at m k [] e = ap (changes c at) (sym (take-nil m))
changes_take c at zero k (x ∷ xs) e = none_below c at k (x ∷ xs) (omega (arith, e))
changes_take c at (suc m) k (x ∷ xs) e = go (eqb c x) (changes_take x (at + 1) m k xs (omega (arith, e)))
  where
    go : (t : Bool) → filter (λ (s : ℕ). ltb s k) (changes x (at + 1) xs) ≡ changes x (at + 1) (take m xs) → filter (λ (s : ℕ). ltb s k) (unless t at (changes x (at + 1) xs)) ≡ unless t at (changes x (at + 1) (take m xs))
    go true r = r
    go false r = rw (lt-ltb at k (omega (arith, e))) (ap (λ (l : List ℕ). at ∷ l) r)

firsts_take : (m : ℕ) (xs : List ℕ) → 0 < m → filter (λ (s : ℕ). ltb s m) (firsts xs) ≡ firsts (take m xs)
unfolding firsts
firsts_take zero xs h = absurd (omega arith)
firsts_take (suc m) [] h = refl
firsts_take (suc m) (x ∷ xs) h = rw (lt-ltb 0 (suc m) h) (ap (λ (l : List ℕ). 0 ∷ l) (changes_take x 1 m (suc m) xs (omega arith)))

module _ {names : ℕ → Type 0} (u : Unitig) (g : Good names u) where
  abbrev less : ℕ
  less = length u.coords - 1

  -- its runs colour all its vertices but the last
  pub but_last : colours less (unitig_runs u) ≡ (without_last u).coords
  unfolding without_last
  but_last =
      let l : suc less ≡ length u.coords = omega (arith, g.vertices) in
      colours_shorter less (unitig_runs u) (sharp_last (length u.coords) (unitig_runs u) (runs_sharp u g)) ∙ ap (take less) (ap (λ (m : ℕ). colours m (unitig_runs u)) l ∙ runs_tell u g)

  pub shorter_long : length (without_last u).coords ≡ less
  unfolding without_last
  shorter_long = length-take-le less u.coords (omega arith)

  -- without its last vertex it is a unitig, if a vertex is left
  pub shorter_good : 2 ≤ length u.coords → Good names (without_last u)
  unfolding without_last
  shorter_good two =
      record {
        vertices = omega (arith, length-take-le less u.coords (omega arith), two);
        few = omega (arith, length-take-le less u.coords (omega arith), g.few);
        begin = ap (filter (λ (s : ℕ). ltb s less)) g.begin ∙ firsts_take less u.coords (omega (arith, two));
        named = all_take names less u.coords g.named;
      }

pub turn_good : {names : ℕ → Type 0} (pivot : ℕ) (u : Unitig) → Good names u → Good names (turned_by pivot u) × (length (turned_by pivot u).coords ≡ length u.coords)
unfolding turned_by
turn_good {names} pivot u g =
    let l : length (turn_left (pivot % length u.coords) u.coords) ≡ length u.coords = turn_long (pivot % length u.coords) u.coords in (
      record { vertices = omega (arith, g.vertices); few = omega (arith, g.few); begin = refl; named = all_turn names (pivot % length u.coords) u.coords g.named },
      l,
    )
