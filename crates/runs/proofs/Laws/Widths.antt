-- Every word that an operation writes has its offset below 2^24 and keeps its 40-bit coordinate.
use Prim.Native.Nat.{ℕ, zero, suc, ◌+◌, ◌-◌, ◌%◌, ◌^◌, ◌≤◌, ◌<◌}
use mathlib.Core.Path.{◌≡◌, refl, sym, ap, ◌∙◌, subst}
use mathlib.Core.Bool.{Bool, true, false}
use mathlib.Core.List.{List, [], ◌∷◌, ◌++◌}
use native.Mathlib.Omega.{arith}
use native.Mathlib.Decide.{dec_lt}
use lib.ListN.{length, drop, get_or, replicate, length-map, get_or-append, get_or-eq_default}
use lib.Dec.{eqb}
use Rattle.base.proofs.All.{All, all_at, all_append, all_replicate}
use Rattle.runs.specs.Words.{offset, coordinate, pack, AreWords}
use Rattle.runs.specs.Colours.{next, end_at, colours, last_coord}
use Rattle.runs.specs.Orders.{most_vertices, sharp}
use Rattle.runs.specs.Inside.Lists.{Steady, Sharp, Taken}
use Rattle.runs.specs.Reverse.{reverse_runs, oriented}
use Rattle.runs.specs.Merge.{merge_behind, unless}
use Rattle.runs.specs.Append.{shifted, appendix, append_runs}
use Rattle.runs.specs.Rotate.{turn_left, changes, firsts, runs_at, merged, rotate_runs}
use Rattle.runs.proofs.Laws.Lists.{get_or_behind, all_turn}
use Rattle.runs.proofs.Laws.Words.{offset_pack, coordinate_pack, pack_of, coordinate_small, pack_small}
use Rattle.runs.proofs.Laws.Orders.{end_le, run_begins, sharp_yes, sharp_steady, strict_le}
use Rattle.runs.proofs.Laws.Colours.{length_colours, steady_long, steady_at}
use Rattle.runs.proofs.Laws.Reverse.{reversed_at, length_reversed, oriented_sharp, oriented_steady}
use Rattle.runs.proofs.Laws.Merge.{behind_strict}
use Rattle.runs.proofs.Laws.Append.{shifted_at, length_shifted}
use Rattle.runs.proofs.Laws.Cursor.{turn_long}

-- a word with this offset and coordinate
pub record Packed (o c w : ℕ) : Type 0 where
  pub word : w ≡ pack o c
  pub small : o < 16777216
  pub narrow : c < 1099511627776

pub packed_offset : (o c w : ℕ) → Packed o c w → offset w ≡ o
packed_offset o c w p = ap offset p.word ∙ offset_pack o c p.small

pub packed_coordinate : (o c w : ℕ) → Packed o c w → coordinate w ≡ c
packed_coordinate o c w p = ap coordinate p.word ∙ coordinate_pack o c p.small

packed_word : (o c w : ℕ) → Packed o c w → w < 2 ^ 64
packed_word o c w p = subst (λ (x : ℕ). x < 2 ^ 64) (sym p.word) (pack_small o c p.small p.narrow)

narrow_at : (ws : List ℕ) (i : ℕ) → AreWords ws → coordinate (get_or ws i 0) < 1099511627776
narrow_at ws i a = coordinate_small (get_or ws i 0) (a i)

words_of : (xs : List ℕ) → ((i : ℕ) → i < length xs → get_or xs i 0 < 2 ^ 64) → AreWords xs
words_of xs h i = go (dec_lt i (length xs))
  where
    go : Dec (i < length xs) → get_or xs i 0 < 2 ^ 64
    go (yes l) = h i l
    go (no l) = subst (λ (x : ℕ). x < 2 ^ 64) (sym (get_or-eq_default xs 0 {n = i} (omega arith))) (omega arith)

-- ---- reverse

pub reversed_packed : (n : ℕ) (ws : List ℕ) (i k : ℕ) → n ≤ most_vertices → AreWords ws → i + k + 1 ≡ length ws → Packed (n - end_at n ws k) (coordinate (get_or ws k 0)) (get_or (reverse_runs n ws) i 0)
reversed_packed n ws i k h a e = record { word = reversed_at n ws i k e; small = omega arith; narrow = narrow_at ws k a }

pub reversed_words : (n : ℕ) (ws : List ℕ) → n ≤ most_vertices → AreWords ws → AreWords (reverse_runs n ws)
reversed_words n ws h a =
    words_of (reverse_runs n ws) (λ i l. packed_word _ _ _ (reversed_packed n ws i (length ws - 1 - i) h a (omega (arith, length_reversed n ws))))

oriented_words : (r : Bool) (n : ℕ) (ws : List ℕ) → n ≤ most_vertices → AreWords ws → AreWords (oriented r n ws)
oriented_words true n ws h a = reversed_words n ws h a
oriented_words false n ws h a = a

-- ---- append

pub shifted_packed : (k : ℕ) (ws : List ℕ) (i : ℕ) → AreWords ws → i < length ws → offset (get_or ws i 0) + k ≤ most_vertices → Packed (offset (get_or ws i 0) + k) (coordinate (get_or ws i 0)) (get_or (shifted k ws) i 0)
shifted_packed k ws i a l h = record { word = shifted_at k ws i l; small = omega arith; narrow = narrow_at ws i a }

words_append : (xs ys : List ℕ) → AreWords xs → AreWords ys → AreWords (xs ++ ys)
words_append xs ys a b i = go (dec_lt i (length xs))
  where
    go : Dec (i < length xs) → get_or (xs ++ ys) i 0 < 2 ^ 64
    go (yes l) = subst (λ (x : ℕ). x < 2 ^ 64) (sym (get_or-append xs ys 0 i l)) (a i)
    go (no l) = subst (λ (x : ℕ). x < 2 ^ 64) (sym (get_or_behind xs ys i 0 (omega arith))) (b (i - length xs))

words_cons : (w : ℕ) (ws : List ℕ) → w < 2 ^ 64 → AreWords ws → AreWords (w ∷ ws)
words_cons w ws h a zero = h
words_cons w ws h a (suc i) = a i

words_merge : (c : ℕ) (ws : List ℕ) → AreWords ws → AreWords (merge_behind c ws)
unfolding merge_behind
words_merge c [] a = a
words_merge c (w ∷ ws) a = go (eqb c (coordinate w)) (words_merge (coordinate w) ws (λ i. a (suc i)))
  where
    go : (t : Bool) → AreWords (merge_behind (coordinate w) ws) → AreWords (unless t w (merge_behind (coordinate w) ws))
    go true m = m
    go false m = words_cons w (merge_behind (coordinate w) ws) (a 0) m

-- what append puts behind an output of a vertices, of a piece that is sharp for b
pub appendix_packed : (a b c : ℕ) (os : List ℕ) (i : ℕ) → a + b - 1 ≤ most_vertices → Sharp b os → AreWords os → i < length (merge_behind c os)
    → Packed (offset (get_or (merge_behind c os) i 0) + (a - 1)) (coordinate (get_or (merge_behind c os) i 0)) (get_or (appendix c a os) i 0)
unfolding appendix
appendix_packed a b c os i h s w l =
    let m : List ℕ = merge_behind c os in
    let u = (behind_strict b c os s.up).1 in
    let o : offset (get_or m i 0) < end_at b m i = u i l in
    let n : end_at b m i ≤ b = end_le b m i (strict_le b m u) in
    shifted_packed (a - 1) m i (words_merge c os w) l (omega arith)

pub appended_words : (out : List ℕ) (a : ℕ) (piece : List ℕ) (b : ℕ) (r : Bool) → 0 < a → a + b - 1 ≤ most_vertices → Sharp b piece → AreWords out → AreWords piece → AreWords (append_runs out a piece b r)
unfolding append_runs appendix
appended_words out a piece b r q h s u v =
    let os : List ℕ = oriented r b piece in
    let c : ℕ = last_coord out in
    let t = oriented_sharp r b piece (omega arith) s in
    words_append out (appendix c a os) u (words_of (appendix c a os) (λ i l. packed_word _ _ _ (appendix_packed a b c os i h t (oriented_words r b piece (omega arith) v) (subst (λ (x : ℕ). i < x) (long c os) l))))
  where
    long : (c : ℕ) (os : List ℕ) → length (appendix c a os) ≡ length (merge_behind c os)
    long c os = length_shifted (a - 1) (merge_behind c os)

-- ---- rotate

-- a coordinate of 40 bits
abbrev pub Narrow : ℕ → Type 0
Narrow c = c < 1099511627776

narrow_colours : (n : ℕ) (ws : List ℕ) → AreWords ws → All Narrow (colours n ws)
unfolding colours
narrow_colours n [] a = tt
narrow_colours n (w ∷ ws) a =
    all_append Narrow (replicate (next n ws - offset w) (coordinate w)) (colours n ws) (all_replicate Narrow (next n ws - offset w) (coordinate w) (coordinate_small w (a 0))) (narrow_colours n ws (λ i. a (suc i)))

-- a sharp list is one of words where its colours are coordinates of 40 bits
pub coloured_words : (n : ℕ) (ws : List ℕ) → sharp n ws ≡ true → All Narrow (colours n ws) → AreWords ws
coloured_words n ws e a = words_of ws word
  where
    s : Sharp n ws
    s = sharp_yes n ws e

    t : Steady n ws
    t = sharp_steady n ws s

    word : (i : ℕ) → i < length ws → get_or ws i 0 < 2 ^ 64
    word i l =
        let v : ℕ = offset (get_or ws i 0) in
        let b : next n (drop i ws) ≡ v = run_begins n ws i l in
        let c : get_or (colours n ws) v 0 ≡ coordinate (get_or ws i 0) = steady_at n ws t s.some i v l (omega arith) (s.up i l) in
        let h : v < length (colours n ws) = omega (arith, s.up i l, end_le n ws i t.up, steady_long n ws t s.some) in
        packed_word v (coordinate (get_or ws i 0)) (get_or ws i 0) (record { word = sym (pack_of (get_or ws i 0)); small = omega arith; narrow = subst Narrow c (all_at Narrow (colours n ws) v 0 h a) })

-- a start is a vertex
changes_below : (c at : ℕ) (cs : List ℕ) (i : ℕ) → i < length (changes c at cs) → get_or (changes c at cs) i 0 < at + length cs
unfolding changes
changes_below c at [] i l = absurd (none l)
  where
    none : i < 0 → ⊥
    none h = omega arith
changes_below c at (d ∷ cs) i l = go (eqb c d) i l (changes_below d (at + 1) cs)
  where
    go : (t : Bool) (i : ℕ) → i < length (unless t at (changes d (at + 1) cs)) → ((j : ℕ) → j < length (changes d (at + 1) cs) → get_or (changes d (at + 1) cs) j 0 < at + 1 + length cs)
        → get_or (unless t at (changes d (at + 1) cs)) i 0 < at + suc (length cs)
    go true i l h = omega (arith, h i l)
    go false zero l h = omega arith
    go false (suc i) l h = omega (arith, h i (omega arith))

firsts_below : (cs : List ℕ) (i : ℕ) → i < length (firsts cs) → get_or (firsts cs) i 0 < length cs
unfolding firsts
firsts_below [] i l = absurd (none l)
  where
    none : i < 0 → ⊥
    none h = omega arith
firsts_below (c ∷ cs) zero l = omega arith
firsts_below (c ∷ cs) (suc i) l = omega (arith, changes_below c 1 cs i (omega arith))

runs_at_lem : (cs ss : List ℕ) (i : ℕ) → i < length ss → get_or (runs_at cs ss) i 0 ≡ pack (get_or ss i 0) (get_or cs (get_or ss i 0) 0)
unfolding runs_at
runs_at_lem cs [] i l = absurd (none l)
  where
    none : i < 0 → ⊥
    none h = omega arith
runs_at_lem cs (s ∷ ss) zero l = refl
runs_at_lem cs (s ∷ ss) (suc i) l = runs_at_lem cs ss i (omega arith)

merged_packed : (cs : List ℕ) (i : ℕ) → length cs ≤ most_vertices → All Narrow cs → i < length (merged cs) → Packed (get_or (firsts cs) i 0) (get_or cs (get_or (firsts cs) i 0) 0) (get_or (merged cs) i 0)
unfolding merged runs_at
merged_packed cs i h a l =
    let m : i < length (firsts cs) = subst (λ (x : ℕ). i < x) (length-map (firsts cs) (λ (s : ℕ). pack s (get_or cs s 0))) l in
    let b : get_or (firsts cs) i 0 < length cs = firsts_below cs i m in
    record { word = runs_at_lem cs (firsts cs) i m; small = omega arith; narrow = all_at Narrow cs (get_or (firsts cs) i 0) 0 b a }

-- run i of the turned list begins at the i-th of the turned colours' starts and has the colour there
pub rotated_packed : (n pivot : ℕ) (r : Bool) (ws : List ℕ) (i : ℕ) → Taken n ws → AreWords ws → i < length (rotate_runs n pivot r ws)
    → Packed (get_or (firsts (turn_left (pivot % n) (colours n (oriented r n ws)))) i 0) (get_or (turn_left (pivot % n) (colours n (oriented r n ws))) (get_or (firsts (turn_left (pivot % n) (colours n (oriented r n ws)))) i 0) 0) (get_or (rotate_runs n pivot r ws) i 0)
unfolding rotate_runs
rotated_packed n pivot r ws i t a l =
    let cs : List ℕ = colours n (oriented r n ws) in
    let q : ℕ = pivot % n in
    let k : length (turn_left q cs) ≤ most_vertices = omega (arith, turn_long q cs, length_colours n (oriented r n ws) (oriented_steady r n ws t.small t.list).up, t.small) in
    merged_packed (turn_left q cs) i k (all_turn Narrow q cs (narrow_colours n (oriented r n ws) (oriented_words r n ws (omega (arith, t.small)) a))) l

pub rotated_words : (n pivot : ℕ) (r : Bool) (ws : List ℕ) → Taken n ws → AreWords ws → AreWords (rotate_runs n pivot r ws)
rotated_words n pivot r ws t a = words_of (rotate_runs n pivot r ws) (λ i l. packed_word _ _ _ (rotated_packed n pivot r ws i t a l))
