-- A sharp list without its last vertex: what it colours, and that rotate drops a run that this leaves without a vertex.
use Prim.Native.Nat.{ℕ, zero, suc, ◌+◌, ◌-◌, ◌%◌, ◌≤◌, ◌<◌}
use mathlib.Core.Path.{ap, refl, subst, sym, ◌∙◌, ◌≡◌}
use mathlib.Core.Bool.{Bool, true, false}
use mathlib.Core.List.{List, [], ◌∷◌, ◌++◌, append-nil, reverse}
use native.Mathlib.Omega.{arith}
use lib.Dec.{ltb}
use lib.ListN.{length-replicate, replicate, take}
use lib.Seq.{take-append-add}
use borrow.Author.Tests.{eqb-true, le-leb, lt-ltb, ltb-false, ltb-true}
use Rattle.std.specs.Prelude.{cond, filter}
use Rattle.base.proofs.Bools.{and_both, and_true, false_true}
use Rattle.runs.specs.Words.{coordinate, offset}
use Rattle.runs.specs.Colours.{colours, next, starts}
use Rattle.runs.specs.Inside.Lists.{cut_to}
use Rattle.runs.specs.Orders.{climbs, most_vertices, rises, sharp, steady}
use Rattle.runs.specs.Rotate.{merged, rotate_runs, turn_left}
use Rattle.runs.proofs.Laws.Claims.{reversed_colours, rotated_colours}
use Rattle.runs.proofs.Laws.Orders.{climbs_below, sharp_vertices, sharp_yes, steady_sharp}

-- its vertices are the last one and those before it
pub sharp_last : (n : ℕ) (ws : List ℕ) → sharp n ws ≡ true → sharp (suc (n - 1)) ws ≡ true
sharp_last n ws e =
    let l : n ≡ suc (n - 1) = omega (arith, sharp_vertices n ws e) in
    subst (λ (m : ℕ). sharp m ws ≡ true) l e

-- a run at the last vertex is the last run
climbs_ends : (n at : ℕ) (ws : List ℕ) → climbs (suc n) at ws ≡ true → n ≤ at → ws ≡ []
unfolding climbs
climbs_ends n at [] e h = refl
climbs_ends n at (w ∷ ws) e h =
    let a = and_true _ _ e in
    let b : at < offset w = ltb-true at (offset w) a.0 in
    absurd (omega (arith, climbs_below (suc n) (offset w) ws a.1))

-- ---- it is steady for a vertex less

climbs_rises : (n at : ℕ) (ws : List ℕ) → climbs (suc n) at ws ≡ true → rises n at ws ≡ true
unfolding climbs rises
climbs_rises n at [] e = let h : at < suc n = ltb-true at (suc n) e in le-leb at n (omega arith)
climbs_rises n at (w ∷ ws) e =
    let a = and_true _ _ e in
    let h : at < offset w = ltb-true at (offset w) a.0 in
    and_both _ _ (le-leb at (offset w) (omega arith)) (climbs_rises n (offset w) ws a.1)

pub steady_shorter : (n : ℕ) (ws : List ℕ) → sharp (suc n) ws ≡ true → steady n ws ≡ true
unfolding sharp steady
steady_shorter n [] e = refl
steady_shorter n (w ∷ ws) e = let a = and_true _ _ e in and_both _ _ a.0 (climbs_rises n 0 ws a.1)

-- ---- it colours all vertices but the last as before

take_replicate : (k m c : ℕ) → k ≤ m → take k (replicate m c) ≡ replicate k c
take_replicate zero m c h = refl
take_replicate (suc k) zero c h = absurd (omega arith)
take_replicate (suc k) (suc m) c h = ap (λ (l : List ℕ). c ∷ l) (take_replicate k m c (omega arith))

take_behind : (k m c : ℕ) (cs : List ℕ) → take (k + m) (replicate k c ++ cs) ≡ replicate k c ++ take m cs
take_behind k m c cs = ap (λ (j : ℕ). take (j + m) (replicate k c ++ cs)) (sym (length-replicate k c)) ∙ take-append-add (replicate k c) cs m

colours_from : (n w : ℕ) (ws : List ℕ) → climbs (suc n) (offset w) ws ≡ true → colours n (w ∷ ws) ≡ take (n - offset w) (colours (suc n) (w ∷ ws))
unfolding climbs colours
colours_from n w [] e =
    let c : ℕ = coordinate w in
    rw (append-nil (replicate (n - offset w) c), append-nil (replicate (suc n - offset w) c)) (sym (take_replicate (n - offset w) (suc n - offset w) c (omega arith)))
colours_from n w (v ∷ vs) e =
    let c : ℕ = coordinate w in
    let a = and_true _ _ e in
    let h : offset w < offset v = ltb-true (offset w) (offset v) a.0 in
    let g : offset v < suc n = climbs_below (suc n) (offset v) vs a.1 in
    let k : n - offset w ≡ offset v - offset w + (n - offset v) = omega arith in
    ap (λ (l : List ℕ). replicate (offset v - offset w) c ++ l) (colours_from n v vs a.1)
    ∙ sym (take_behind (offset v - offset w) (n - offset v) c (colours (suc n) (v ∷ vs)))
    ∙ ap (λ (j : ℕ). take j (replicate (offset v - offset w) c ++ colours (suc n) (v ∷ vs))) (sym k)

pub colours_shorter : (n : ℕ) (ws : List ℕ) → sharp (suc n) ws ≡ true → colours n ws ≡ take n (colours (suc n) ws)
unfolding sharp
colours_shorter n [] e = false_true e
colours_shorter n (w ∷ ws) e =
    let a = and_true _ _ e in
    let z : offset w ≡ 0 = eqb-true (offset w) 0 a.0 in
    let k : n - offset w ≡ n = omega arith in
    colours_from n w ws (rw z a.1) ∙ ap (λ (j : ℕ). take j (colours (suc n) (w ∷ ws))) k

-- ---- the run that has no vertex left is dropped

cut_one : (n w : ℕ) (ws : List ℕ) (t : Bool) → ltb (offset w) n ≡ t → cut_to n (w ∷ ws) ≡ cond t (w ∷ cut_to n ws) (cut_to n ws)
unfolding cut_to
cut_one n w ws t e = rw e refl

next_cut : (n at : ℕ) (ws : List ℕ) → climbs (suc n) at ws ≡ true → next n (cut_to n ws) ≡ next n ws
unfolding climbs cut_to
next_cut n at [] e = refl
next_cut n at (w ∷ ws) e = go (ltb (offset w) n) refl (and_true _ _ e).1
  where
    go : (t : Bool) → ltb (offset w) n ≡ t → climbs (suc n) (offset w) ws ≡ true → next n (cut_to n (w ∷ ws)) ≡ offset w
    go true h k = rw (cut_one n w ws true h) refl
    go false h k =
        let l : n ≤ offset w = ltb-false (offset w) n h in
        let z : n ≡ offset w = omega (arith, climbs_below (suc n) (offset w) ws k) in
        rw (cut_one n w ws false h, climbs_ends n (offset w) ws k l) z

cut_more : (n w : ℕ) (ws : List ℕ) → climbs (suc n) (offset w) ws ≡ true → colours n (cut_to n ws) ≡ colours n ws → colours n (cut_to n (w ∷ ws)) ≡ colours n (w ∷ ws)
unfolding colours
cut_more n w ws e r = go (ltb (offset w) n) refl (next_cut n (offset w) ws e)
  where
    go : (t : Bool) → ltb (offset w) n ≡ t → next n (cut_to n ws) ≡ next n ws → colours n (cut_to n (w ∷ ws)) ≡ colours n (w ∷ ws)
    go true h p = rw (cut_one n w ws true h, p, r) refl
    go false h p =
        let z : n - offset w ≡ 0 = omega (arith, ltb-false (offset w) n h) in
        rw (cut_one n w ws false h) (r ∙ rw (climbs_ends n (offset w) ws e (ltb-false _ _ h), z) refl)

colours_cut : (n w : ℕ) (ws : List ℕ) → climbs (suc n) (offset w) ws ≡ true → colours n (cut_to n (w ∷ ws)) ≡ colours n (w ∷ ws)
unfolding climbs cut_to
colours_cut n w [] e = cut_more n w [] e refl
colours_cut n w (v ∷ vs) e = let a = and_true _ _ e in cut_more n w (v ∷ vs) e (colours_cut n v vs a.1)

climbs_cut : (n at : ℕ) (ws : List ℕ) → climbs (suc n) at ws ≡ true → at < n → climbs n at (cut_to n ws) ≡ true
unfolding climbs cut_to
climbs_cut n at [] e k = lt-ltb at n k
climbs_cut n at (w ∷ ws) e k = let a = and_true _ _ e in go (ltb (offset w) n) refl (climbs_cut n (offset w) ws a.1)
  where
    go : (t : Bool) → ltb (offset w) n ≡ t → (offset w < n → climbs n (offset w) (cut_to n ws) ≡ true) → climbs n at (cut_to n (w ∷ ws)) ≡ true
    go true h r = let a = and_true _ _ e in rw (cut_one n w ws true h) (and_both _ _ a.0 (r (ltb-true _ _ h)))
    go false h r =
        let a = and_true _ _ e in
        rw (cut_one n w ws false h, climbs_ends n (offset w) ws a.1 (ltb-false _ _ h)) (lt-ltb at n k)

module _ (n : ℕ) (ws : List ℕ) (list : sharp (suc n) ws ≡ true) where
  -- the cut list is sharp, and colours all vertices but the last as before
  pub sharp_cut : 0 < n → sharp n (cut_to n ws) ≡ true
  unfolding sharp
  sharp_cut h = go ws list
    where
      go : (ws : List ℕ) → sharp (suc n) ws ≡ true → sharp n (cut_to n ws) ≡ true
      go [] e = false_true e
      go (w ∷ ws) e =
          let a = and_true _ _ e in
          let z : offset w ≡ 0 = eqb-true (offset w) 0 a.0 in
          rw (cut_one n w ws true (lt-ltb (offset w) n (omega arith))) (and_both _ _ a.0 (climbs_cut n 0 ws a.1 h))

  pub cut_colours : colours n (cut_to n ws) ≡ colours n ws
  unfolding sharp
  cut_colours = go ws list
    where
      go : (ws : List ℕ) → sharp (suc n) ws ≡ true → colours n (cut_to n ws) ≡ colours n ws
      go [] e = false_true e
      go (w ∷ ws) e =
          let a = and_true _ _ e in
          let z : offset w ≡ 0 = eqb-true (offset w) 0 a.0 in
          colours_cut n w ws (rw z a.1)

  -- so that rotate makes the same of both: it drops the run itself
  pub rotate_cut : (pivot : ℕ) (reversed : Bool) → 0 < n → n ≤ most_vertices → rotate_runs n pivot reversed (cut_to n ws) ≡ rotate_runs n pivot reversed ws
  unfolding rotate_runs
  rotate_cut pivot true some few =
      ap (λ (cs : List ℕ). merged (turn_left (pivot % n) cs))
      (reversed_colours n (cut_to n ws) few (steady_sharp n (cut_to n ws) (sharp_cut some)) ∙ ap reverse cut_colours ∙ sym (reversed_colours n ws few (steady_shorter n ws list)))
  rotate_cut pivot false some few = ap (λ (cs : List ℕ). merged (turn_left (pivot % n) cs)) cut_colours

-- turned over the smaller count, it colours all vertices but the last, backwards where reversed
pub rotate_shorter : (n pivot : ℕ) (ws : List ℕ) → sharp (suc n) ws ≡ true → n ≤ most_vertices → colours n (rotate_runs n pivot false ws) ≡ turn_left (pivot % n) (take n (colours (suc n) ws))
rotate_shorter n pivot ws list few = rotated_colours n pivot false ws few (steady_shorter n ws list) (sharp_yes (suc n) ws list).some ∙ ap (turn_left (pivot % n)) (colours_shorter n ws list)

pub rotate_shorter_back : (n pivot : ℕ) (ws : List ℕ) → sharp (suc n) ws ≡ true → n ≤ most_vertices → colours n (rotate_runs n pivot true ws) ≡ turn_left (pivot % n) (reverse (take n (colours (suc n) ws)))
rotate_shorter_back n pivot ws list few =
    rotated_colours n pivot true ws few (steady_shorter n ws list) (sharp_yes (suc n) ws list).some
    ∙ ap (turn_left (pivot % n)) (reversed_colours n ws few (steady_shorter n ws list) ∙ ap reverse (colours_shorter n ws list))

-- its starts are those that are still vertices
pub starts_cut : (n : ℕ) (ws : List ℕ) → starts (cut_to n ws) ≡ filter (λ (s : ℕ). ltb s n) (starts ws)
unfolding cut_to
starts_cut n [] = refl
starts_cut n (w ∷ ws) = go (ltb (offset w) n) refl (starts_cut n ws)
  where
    go : (t : Bool) → ltb (offset w) n ≡ t → starts (cut_to n ws) ≡ filter (λ (s : ℕ). ltb s n) (starts ws) → starts (cut_to n (w ∷ ws)) ≡ filter (λ (s : ℕ). ltb s n) (starts (w ∷ ws))
    go true h r = rw h (ap (λ (l : List ℕ). offset w ∷ l) r)
    go false h r = rw h r
