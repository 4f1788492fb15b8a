-- Laws of steady and sharp lists.
use Prim.Native.Nat.{ℕ, zero, suc, ◌+◌, ◌-◌, ◌≤◌, ◌<◌}
use mathlib.Core.Path.{◌≡◌, refl, ap, ◌∙◌}
use mathlib.Core.Bool.{true, false}
use mathlib.Core.List.{List, [], ◌∷◌}
use native.Mathlib.Omega.{arith}
use borrow.Author.Tests.{leb-true, ltb-true, eqb-true, le-leb, lt-ltb, eq-eqb}
use lib.ListN.{length, drop, get_or}
use lib.Seq.{drop-cons}
use Rattle.base.proofs.Bools.{and_true, and_both, false_true}
use Rattle.runs.specs.Words.{offset}
use Rattle.runs.specs.Colours.{next, end_at, last_run}
use Rattle.runs.specs.Orders.{rises, steady, climbs, sharp, most_vertices}
use Rattle.runs.specs.Inside.Lists.{Steady, Sharp, Taken}

-- each run begins at least `step` vertices before it ends
abbrev pub UpBy : ℕ → ℕ → List ℕ → Type 0
UpBy step n ws = (i : ℕ) → i < length ws → offset (get_or ws i 0) + step ≤ end_at n ws i

-- and so no later than it ends, or before
abbrev pub Up : ℕ → List ℕ → Type 0
Up n ws = (i : ℕ) → i < length ws → offset (get_or ws i 0) ≤ end_at n ws i

abbrev pub StrictUp : ℕ → List ℕ → Type 0
StrictUp n ws = (i : ℕ) → i < length ws → offset (get_or ws i 0) < end_at n ws i

pub first_up : (step n w : ℕ) (ws : List ℕ) → offset w + step ≤ next n ws → UpBy step n ws → UpBy step n (w ∷ ws)
first_up step n w ws h u zero l = h
first_up step n w ws h u (suc i) l = u i (omega arith)

pub up_cons : (n w : ℕ) (ws : List ℕ) → offset w ≤ next n ws → Up n ws → Up n (w ∷ ws)
up_cons n w ws h u zero l = h
up_cons n w ws h u (suc i) l = u i (omega arith)

pub strict_cons : (n w : ℕ) (ws : List ℕ) → offset w < next n ws → StrictUp n ws → StrictUp n (w ∷ ws)
strict_cons n w ws h u zero l = h
strict_cons n w ws h u (suc i) l = u i (omega arith)

rising_up : (n at : ℕ) (ws : List ℕ) → rises n at ws ≡ true → (at ≤ next n ws) × Up n ws
unfolding rises
rising_up n at [] e = (leb-true at n e, λ i l. absurd (omega arith))
rising_up n at (w ∷ ws) e =
    let a = and_true _ _ e in
    let r = rising_up n (offset w) ws a.1 in
    (leb-true at (offset w) a.0, up_cons n w ws r.0 r.1)

up_rising : (n at : ℕ) (ws : List ℕ) → at ≤ next n ws → Up n ws → rises n at ws ≡ true
unfolding rises
up_rising n at [] h u = le-leb at n h
up_rising n at (w ∷ ws) h u = and_both _ _ (le-leb at (offset w) h) (up_rising n (offset w) ws (u 0 (omega arith)) (λ i l. u (suc i) (omega arith)))

strict_up : (n at : ℕ) (ws : List ℕ) → climbs n at ws ≡ true → (at < next n ws) × StrictUp n ws
unfolding climbs
strict_up n at [] e = (ltb-true at n e, λ i l. absurd (omega arith))
strict_up n at (w ∷ ws) e =
    let a = and_true _ _ e in
    let r = strict_up n (offset w) ws a.1 in
    (ltb-true at (offset w) a.0, strict_cons n w ws r.0 r.1)

up_strict : (n at : ℕ) (ws : List ℕ) → at < next n ws → StrictUp n ws → climbs n at ws ≡ true
unfolding climbs
up_strict n at [] h u = lt-ltb at n h
up_strict n at (w ∷ ws) h u = and_both _ _ (lt-ltb at (offset w) h) (up_strict n (offset w) ws (u 0 (omega arith)) (λ i l. u (suc i) (omega arith)))

-- the tests say what is to be read
pub steady_yes : (n : ℕ) (ws : List ℕ) → steady n ws ≡ true → Steady n ws
unfolding steady
steady_yes n [] e = record { first = refl; up = λ i l. absurd (omega arith) }
steady_yes n (w ∷ ws) e =
    let a = and_true _ _ e in
    let r = rising_up n 0 ws a.1 in
    let z : offset w ≡ 0 = eqb-true (offset w) 0 a.0 in
    record { first = z; up = up_cons n w ws (omega (arith, r.0)) r.1 }

pub yes_steady : (n : ℕ) (ws : List ℕ) → Steady n ws → steady n ws ≡ true
unfolding steady
yes_steady n [] s = refl
yes_steady n (w ∷ ws) s = and_both _ _ (eq-eqb (offset w) 0 s.first) (up_rising n 0 ws (omega arith) (λ i l. s.up (suc i) (omega arith)))

pub sharp_yes : (n : ℕ) (ws : List ℕ) → sharp n ws ≡ true → Sharp n ws
unfolding sharp
sharp_yes n [] e = false_true e
sharp_yes n (w ∷ ws) e =
    let a = and_true _ _ e in
    let r = strict_up n 0 ws a.1 in
    let z : offset w ≡ 0 = eqb-true (offset w) 0 a.0 in
    record { some = omega arith; first = z; up = strict_cons n w ws (omega (arith, r.0)) r.1 }

pub yes_sharp : (n : ℕ) (ws : List ℕ) → Sharp n ws → sharp n ws ≡ true
unfolding sharp
yes_sharp n [] s = absurd (none s.some)
  where
    none : 0 < 0 → ⊥
    none h = omega arith
yes_sharp n (w ∷ ws) s = and_both _ _ (eq-eqb (offset w) 0 s.first) (up_strict n 0 ws (above s.first (s.up 0 (omega arith))) (λ i l. s.up (suc i) (omega arith)))
  where
    above : offset w ≡ 0 → offset w < next n ws → 0 < next n ws
    above z h = omega arith

pub climbs_below : (n at : ℕ) (ws : List ℕ) → climbs n at ws ≡ true → at < n
unfolding climbs
climbs_below n at [] e = ltb-true at n e
climbs_below n at (w ∷ ws) e =
    let a = and_true _ _ e in
    let h : at < offset w = ltb-true at (offset w) a.0 in
    omega (arith, climbs_below n (offset w) ws a.1)

-- a sharp list is one of some vertices
pub sharp_vertices : (n : ℕ) (ws : List ℕ) → sharp n ws ≡ true → 0 < n
unfolding sharp
sharp_vertices n [] e = false_true e
sharp_vertices n (w ∷ ws) e = climbs_below n 0 ws (and_true _ _ e).1

pub strict_le : (n : ℕ) (ws : List ℕ) → StrictUp n ws → Up n ws
strict_le n ws u i l = le (u i l)
  where
    le : offset (get_or ws i 0) < end_at n ws i → offset (get_or ws i 0) ≤ end_at n ws i
    le h = omega arith

pub sharp_steady : (n : ℕ) (ws : List ℕ) → Sharp n ws → Steady n ws
sharp_steady n ws s = record { first = s.first; up = strict_le n ws s.up }

pub steady_sharp : (n : ℕ) (ws : List ℕ) → sharp n ws ≡ true → steady n ws ≡ true
steady_sharp n ws e = yes_steady n ws (sharp_steady n ws (sharp_yes n ws e))

pub taken : (n : ℕ) (ws : List ℕ) → n ≤ most_vertices → steady n ws ≡ true → Taken n ws
taken n ws h s = record { small = omega arith; list = steady_yes n ws s }

-- ---- where runs begin and end

pub tail_up : (n w : ℕ) (ws : List ℕ) → Up n (w ∷ ws) → Up n ws
tail_up n w ws u i l = u (suc i) (omega arith)

pub next_le : (n : ℕ) (ws : List ℕ) → Up n ws → next n ws ≤ n
next_le n [] u = omega arith
next_le n (w ∷ ws) u = let a : offset w ≤ next n ws = u 0 (omega arith) in let b : next n ws ≤ n = next_le n ws (tail_up n w ws u) in omega arith

pub next_up : (n : ℕ) (ws : List ℕ) (i : ℕ) → i ≤ length ws → Up n ws → next n ws ≤ next n (drop i ws)
next_up n ws zero l u = omega arith
next_up n [] (suc i) l u = omega arith
next_up n (w ∷ ws) (suc i) l u = let a : offset w ≤ next n ws = u 0 (omega arith) in let b : next n ws ≤ next n (drop i ws) = next_up n ws i (omega arith) (tail_up n w ws u) in omega arith

pub run_begins : (n : ℕ) (ws : List ℕ) (i : ℕ) → i < length ws → next n (drop i ws) ≡ offset (get_or ws i 0)
run_begins n ws i l = ap (next n) (drop-cons ws i 0 l)

pub drop_up : (n : ℕ) (ws : List ℕ) (i : ℕ) → Up n ws → Up n (drop i ws)
drop_up n ws zero u = u
drop_up n [] (suc i) u = λ k l. absurd (omega arith)
drop_up n (w ∷ ws) (suc i) u = drop_up n ws i (tail_up n w ws u)

pub end_le : (n : ℕ) (ws : List ℕ) (i : ℕ) → Up n ws → end_at n ws i ≤ n
end_le n ws i u = next_le n (drop (suc i) ws) (drop_up n ws (suc i) u)

-- an offset is no further than n
pub offset_le : (n : ℕ) (ws : List ℕ) (i : ℕ) → i < length ws → Up n ws → offset (get_or ws i 0) ≤ n
offset_le n ws i h u = let a : offset (get_or ws i 0) ≤ end_at n ws i = u i h in let b : end_at n ws i ≤ n = end_le n ws i u in omega arith

-- a list that climbs has no more runs than vertices
pub strict_few : (n : ℕ) (ws : List ℕ) → StrictUp n ws → next n ws + length ws ≤ n
strict_few n [] u = omega arith
strict_few n (w ∷ ws) u =
    let a : offset w < next n ws = u 0 (omega arith) in
    let b : next n ws + length ws ≤ n = strict_few n ws (λ i l. u (suc i) (omega arith)) in
    omega arith

-- nor than there are offsets
pub strict_offsets : (n w : ℕ) (ws : List ℕ) → StrictUp n (w ∷ ws) → offset w + length (w ∷ ws) ≤ 16777216
strict_offsets n w [] u = omega arith
strict_offsets n w (v ∷ ws) u =
    let a : offset w < offset v = u 0 (omega arith) in
    let b : offset v + length (v ∷ ws) ≤ 16777216 = strict_offsets n v ws (λ i l. u (suc i) (omega arith)) in
    omega arith

pub last_cons : (w v : ℕ) (ws : List ℕ) → last_run (w ∷ v ∷ ws) ≡ last_run (v ∷ ws)
last_cons w v ws = let e : suc (suc (length ws)) - 1 ≡ suc (suc (length ws) - 1) = omega arith in ap (λ (i : ℕ). get_or (w ∷ v ∷ ws) i 0) e

pub starts_zero : (n : ℕ) (ws : List ℕ) → Steady n ws → 0 < length ws → next n ws ≡ 0
starts_zero n ws s some = run_begins n ws 0 some ∙ s.first

-- ---- the tests, run by run

pub steady_none : (n : ℕ) (ws : List ℕ) → length ws ≡ 0 → steady n ws ≡ true
unfolding steady
steady_none n [] e = refl
steady_none n (w ∷ ws) e = absurd (omega arith)

pub sharp_none : (n : ℕ) (ws : List ℕ) → length ws ≡ 0 → sharp n ws ≡ false
unfolding sharp
sharp_none n [] e = refl
sharp_none n (w ∷ ws) e = absurd (omega arith)
