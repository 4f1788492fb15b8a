-- Laws of colours merged into runs.
use Prim.Native.Nat.{ℕ, zero, suc, ◌+◌, ◌-◌, ◌≤◌, ◌<◌}
use mathlib.Core.Path.{◌≡◌, refl, sym, ap, ap₂, ◌∙◌}
use mathlib.Core.Bool.{Bool, true, false, not, ◌||◌}
use mathlib.Core.List.{List, [], ◌∷◌, ◌++◌, append_assoc}
use native.Mathlib.Omega.{arith}
use native.Mathlib.Nat.{add-zero}
use borrow.Author.Tests.{eq-eqb, ne_eqb, eqb-true, eqb-false}
use lib.ListN.{length, drop, get_or, replicate, length-append}
use lib.Seq.{get_or-append_seam}
use lib.Dec.{eqb}
use Rattle.base.proofs.Bools.{false_true}
use Rattle.runs.specs.Words.{offset, pack}
use Rattle.runs.specs.Colours.{next, colours, starts}
use Rattle.runs.specs.Inside.Lists.{Sharp}
use Rattle.runs.specs.Merge.{unless}
use Rattle.runs.specs.Rotate.{changes, firsts, runs_at, merged}
use Rattle.runs.specs.Inside.Cursor.{begins, begun, merged_from}
use Rattle.runs.proofs.Laws.Words.{offset_pack, coordinate_pack}
use Rattle.runs.proofs.Laws.Orders.{StrictUp, strict_cons}

begins_no : (at c : ℕ) → 0 < at → begins at c c ≡ false
unfolding begins
begins_no at c h = rw (ne_eqb at 0 (λ e. omega arith), eq-eqb c c refl)

pub begins_same : (at c d : ℕ) → begins at c d ≡ false → (0 < at) × (c ≡ d)
unfolding begins
begins_same at c d e = go (eqb at 0) refl (eqb c d) refl e
  where
    go : (t : Bool) → eqb at 0 ≡ t → (u : Bool) → eqb c d ≡ u → t || not u ≡ false → (0 < at) × (c ≡ d)
    go true p u q r = false_true (sym r)
    go false p true q r = (pos (eqb-false at 0 p), eqb-true c d q)
      where
        pos : (at ≡ 0 → ⊥) → 0 < at
        pos h = omega (arith, h)
    go false p false q r = false_true (sym r)

-- ---- vertices of one colour

pub same_on : (k at c : ℕ) (rest : List ℕ) → 0 < at → merged_from at c (replicate k c ++ rest) ≡ merged_from (at + k) c rest
unfolding merged_from
same_on zero at c rest h = ap (λ (x : ℕ). merged_from x c rest) (sym (add-zero at))
same_on (suc k) at c rest h =
    let e : at + 1 + k ≡ at + suc k = omega arith in
    rw (begins_no at c h) (same_on k (at + 1) c rest (omega arith) ∙ ap (λ (x : ℕ). merged_from x c rest) e)

pub other_on : (k at c d : ℕ) (rest : List ℕ) → begins at c d ≡ true → merged_from at c (replicate (suc k) d ++ rest) ≡ pack at d ∷ merged_from (at + suc k) d rest
unfolding merged_from
other_on k at c d rest h =
    let e : at + 1 + k ≡ at + suc k = omega arith in
    rw h (ap (λ (l : List ℕ). pack at d ∷ l) (same_on k (at + 1) d rest (omega arith) ∙ ap (λ (x : ℕ). merged_from x d rest) e))

module _ (xs : List ℕ) (at end c d : ℕ) (up : at ≤ end) (vertices : drop at xs ≡ replicate (end - at) d ++ drop end xs) where
  pub goes_on : begins at c d ≡ false → merged_from at c (drop at xs) ≡ merged_from end c (drop end xs)
  goes_on b =
      let f = begins_same at c d b in
      let k : at + (end - at) ≡ end = omega arith in
      ap (merged_from at c) (vertices ∙ ap (λ (x : ℕ). replicate (end - at) x ++ drop end xs) (sym f.1)) ∙ same_on (end - at) at c (drop end xs) f.0 ∙ ap (λ (x : ℕ). merged_from x c (drop end xs)) k

  pub gives : at < end → begins at c d ≡ true → merged_from at c (drop at xs) ≡ pack at d ∷ merged_from end d (drop end xs)
  gives h b =
      let k : end - at ≡ suc (end - at - 1) = omega arith in
      let e : at + suc (end - at - 1) ≡ end = omega arith in
      ap (merged_from at c) (vertices ∙ ap (λ (x : ℕ). replicate x d ++ drop end xs) k) ∙ other_on (end - at - 1) at c d (drop end xs) b ∙ ap (λ (x : ℕ). pack at d ∷ merged_from x d (drop end xs)) e

-- ---- run by run, and by the vertices where a run starts

pub begins_later : (at c d : ℕ) → 0 < at → begins at c d ≡ not (eqb c d)
unfolding begins
begins_later at c d h = rw (ne_eqb at 0 (λ e. omega arith))

runs_changes : (all pre cs : List ℕ) (c at : ℕ) → at ≡ length pre → 0 < at → all ≡ pre ++ cs → merged_from at c cs ≡ runs_at all (changes c at cs)
unfolding merged_from changes runs_at
runs_changes all pre [] c at l h e = refl
runs_changes all pre (d ∷ cs) c at l h e =
    rw (begins_later at c d h) (go (eqb c d) (runs_changes all (pre ++ (d ∷ [])) cs d (at + 1) (longer ∙ sym (length-append pre (d ∷ []))) (omega arith) (e ∙ sym (append_assoc pre (d ∷ []) cs))))
  where
    longer : at + 1 ≡ length pre + length (d ∷ [])
    longer = omega (arith, l)

    here : get_or all at 0 ≡ d
    here = ap₂ (λ (x : List ℕ) (i : ℕ). get_or x i 0) e l ∙ get_or-append_seam pre d cs 0

    go : (t : Bool) → merged_from (at + 1) d cs ≡ runs_at all (changes d (at + 1) cs)
        → begun (not t) (pack at d) (merged_from (at + 1) d cs) ≡ runs_at all (unless t at (changes d (at + 1) cs))
    go true r = r
    go false r = ap₂ (λ (x : ℕ) (l : List ℕ). x ∷ l) (ap (pack at) (sym here)) r

pub runs_merged : (cs : List ℕ) → merged_from 0 0 cs ≡ merged cs
unfolding merged_from begins merged runs_at firsts
runs_merged [] = refl
runs_merged (c ∷ cs) = ap (λ (l : List ℕ). pack 0 c ∷ l) (runs_changes (c ∷ cs) (c ∷ []) cs c 1 refl (omega arith) refl)

-- ---- the colours of merged colours are the colours

-- the runs xs from vertex `at` on, behind a vertex of colour c, give the colours cs
Gives : ℕ → ℕ → ℕ → List ℕ → List ℕ → Type 0
Gives n at c xs cs = (at ≤ next n xs) × (replicate (next n xs - at) c ++ colours n xs ≡ cs)

new_run : (n at d : ℕ) (ys cs : List ℕ) → at < 16777216 → Gives n (at + 1) d ys cs → colours n (pack at d ∷ ys) ≡ d ∷ cs
unfolding Gives colours
new_run n at d ys cs small g =
    let o : offset (pack at d) ≡ at = offset_pack at d small in
    let k : next n ys - offset (pack at d) ≡ suc (next n ys - (at + 1)) = omega (arith, g.0) in
    ap₂ (λ (x y : ℕ). replicate x y ++ colours n ys) k (coordinate_pack at d small) ∙ ap (λ (l : List ℕ). d ∷ l) g.1

after_colours : (n at c : ℕ) (cs : List ℕ) → 0 < at → at + length cs ≡ n → n < 16777216 → Gives n at c (merged_from at c cs) cs
unfolding merged_from colours Gives
after_colours n at c [] h e small = let z : n - at ≡ 0 = omega arith in (omega arith, rw z)
after_colours n at c (d ∷ cs) h e small = go (begins at c d) refl (after_colours n (at + 1) d cs (omega arith) (omega arith) small)
  where
    go : (t : Bool) → begins at c d ≡ t → Gives n (at + 1) d (merged_from (at + 1) d cs) cs → Gives n at c (begun t (pack at d) (merged_from (at + 1) d cs)) (d ∷ cs)
    go true b f =
        let o : offset (pack at d) ≡ at = offset_pack at d (omega arith) in
        let z : offset (pack at d) - at ≡ 0 = omega arith in
        (omega arith, ap (λ (k : ℕ). replicate k c ++ colours n (pack at d ∷ merged_from (at + 1) d cs)) z ∙ new_run n at d (merged_from (at + 1) d cs) cs (omega arith) f)
    go false b f =
        let q : c ≡ d = (begins_same at c d b).1 in
        let k : next n (merged_from (at + 1) d cs) - at ≡ suc (next n (merged_from (at + 1) d cs) - (at + 1)) = omega (arith, f.0) in
        (omega (arith, f.0), ap₂ (λ (x y : ℕ). replicate x y ++ colours n (merged_from (at + 1) d cs)) k q ∙ ap (λ (l : List ℕ). d ∷ l) f.1)

colours_from : (cs : List ℕ) → length cs < 16777216 → colours (length cs) (merged_from 0 0 cs) ≡ cs
unfolding merged_from colours begins
colours_from [] h = refl
colours_from (c ∷ cs) h = new_run (length (c ∷ cs)) 0 c (merged_from 1 c cs) cs (omega arith) (after_colours (length (c ∷ cs)) 1 c cs (omega arith) (omega arith) h)

pub colours_merged : (cs : List ℕ) → length cs < 16777216 → colours (length cs) (merged cs) ≡ cs
colours_merged cs h = ap (colours (length cs)) (sym (runs_merged cs)) ∙ colours_from cs h

-- ---- merged colours are sharp

after_strict : (n at c : ℕ) (cs : List ℕ) → at + length cs ≡ n → n < 16777216 → (at ≤ next n (merged_from at c cs)) × StrictUp n (merged_from at c cs)
unfolding merged_from
after_strict n at c [] e small = (omega arith, λ i l. absurd (omega arith))
after_strict n at c (d ∷ cs) e small = go (begins at c d) (after_strict n (at + 1) d cs (omega arith) small)
  where
    go : (t : Bool) → (at + 1 ≤ next n (merged_from (at + 1) d cs)) × StrictUp n (merged_from (at + 1) d cs)
        → (at ≤ next n (begun t (pack at d) (merged_from (at + 1) d cs))) × StrictUp n (begun t (pack at d) (merged_from (at + 1) d cs))
    go true f =
        let o : offset (pack at d) ≡ at = offset_pack at d (omega arith) in
        (omega arith, strict_cons n (pack at d) (merged_from (at + 1) d cs) (omega (arith, f.0)) f.1)
    go false f = (omega (arith, f.0), f.1)

from_sharp : (c : ℕ) (cs : List ℕ) → length (c ∷ cs) < 16777216 → Sharp (length (c ∷ cs)) (merged_from 0 0 (c ∷ cs))
unfolding merged_from begins
from_sharp c cs h = record { some = omega arith; first = offset_pack 0 c (omega arith); up = (after_strict (length (c ∷ cs)) 0 0 (c ∷ cs) (omega arith) h).1 }

pub merged_sharp : (cs : List ℕ) → 0 < length cs → length cs < 16777216 → Sharp (length cs) (merged cs)
merged_sharp [] h small = absurd (omega arith)
merged_sharp (c ∷ cs) h small = rw (← runs_merged (c ∷ cs)) (from_sharp c cs small)

-- ---- how many runs, and where they start

from_long : (at c : ℕ) (cs : List ℕ) → length (merged_from at c cs) ≤ length cs
unfolding merged_from
from_long at c [] = omega arith
from_long at c (d ∷ cs) = go (begins at c d) (from_long (at + 1) d cs)
  where
    go : (t : Bool) → length (merged_from (at + 1) d cs) ≤ length cs → length (begun t (pack at d) (merged_from (at + 1) d cs)) ≤ suc (length cs)
    go true h = omega arith
    go false h = omega arith

pub length_merged : (cs : List ℕ) → length (merged cs) ≤ length cs
length_merged cs = rw (← runs_merged cs) (from_long 0 0 cs)

starts_changes : (all : List ℕ) (c at : ℕ) (cs : List ℕ) → at + length cs < 16777216 → starts (runs_at all (changes c at cs)) ≡ changes c at cs
unfolding changes runs_at
starts_changes all c at [] h = refl
starts_changes all c at (d ∷ cs) h = go (eqb c d) (starts_changes all d (at + 1) cs (omega arith))
  where
    go : (t : Bool) → starts (runs_at all (changes d (at + 1) cs)) ≡ changes d (at + 1) cs → starts (runs_at all (unless t at (changes d (at + 1) cs))) ≡ unless t at (changes d (at + 1) cs)
    go true r = r
    go false r = ap₂ (λ (x : ℕ) (l : List ℕ). x ∷ l) (offset_pack at (get_or all at 0) (omega arith)) r

-- merged colours start at vertex 0 and at each vertex unlike the one before
pub starts_merged : (cs : List ℕ) → length cs < 16777216 → starts (merged cs) ≡ firsts cs
unfolding merged runs_at firsts
starts_merged [] h = refl
starts_merged (c ∷ cs) h = ap₂ (λ (x : ℕ) (l : List ℕ). x ∷ l) (offset_pack 0 c (omega arith)) (starts_changes (c ∷ cs) c 1 cs (omega arith))

-- the runs ahead are no more than the vertices ahead
pub length_from : (at c : ℕ) (cs : List ℕ) → length (merged_from at c cs) ≤ length cs
unfolding merged_from
length_from at c [] = omega arith
length_from at c (d ∷ cs) = go (begins at c d) (length_from (at + 1) d cs)
  where
    go : (t : Bool) → length (merged_from (at + 1) d cs) ≤ length cs → length (begun t (pack at d) (merged_from (at + 1) d cs)) ≤ suc (length cs)
    go true h = omega arith
    go false h = omega arith
