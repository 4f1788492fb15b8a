-- Laws of the colours that a list gives.
use Prim.Native.Nat.{ℕ, zero, suc, ◌+◌, ◌-◌, ◌≤◌, ◌<◌}
use mathlib.Core.Path.{◌≡◌, refl, sym, ap, ◌∙◌}
use mathlib.Core.Bool.{Bool, true, false}
use mathlib.Core.List.{List, [], ◌∷◌, ◌++◌, append-nil, append_assoc}
use native.Mathlib.Omega.{arith}
use native.Mathlib.Decide.{dec_lt}
use borrow.Author.Tests.{le-leb, leb-true, leb-false}
use lib.Dec.{leb}
use lib.ListN.{length, drop, get_or, replicate, length-append, length-replicate, get_or-replicate, get_or-append, drop_of_length-le}
use Rattle.runs.specs.Words.{offset, coordinate}
use Rattle.base.specs.Tests.{◌when◌else◌}
use Rattle.base.proofs.Tests.{when_yes, when_no}
use Rattle.runs.specs.Colours.{next, end_at, colours, colour_from, colour_at}
use Rattle.runs.specs.Inside.Lists.{Steady, Between, IsSharpBeyond}
use Rattle.runs.proofs.Laws.Lists.{get_or_behind}
use Rattle.runs.proofs.Laws.Orders.{Up, tail_up, next_le, next_up, run_begins, sharp_steady, starts_zero}

pub length_colours : (n : ℕ) (ws : List ℕ) → Up n ws → length (colours n ws) ≡ n - next n ws
unfolding colours
length_colours n [] u = omega arith
length_colours n (w ∷ ws) u =
    let a : offset w ≤ next n ws = u 0 (omega arith) in
    let b : next n ws ≤ n = next_le n ws (tail_up n w ws u) in
    let r : length (colours n ws) ≡ n - next n ws = length_colours n ws (tail_up n w ws u) in
    simp (length-append, length-replicate) (omega arith)

-- the colour of a vertex of run i
pub colour_at_lem : (n : ℕ) (ws : List ℕ) (i v : ℕ) → Up n ws → i < length ws → next n (drop i ws) ≤ v → v < end_at n ws i → get_or (colours n ws) (v - next n ws) 0 ≡ coordinate (get_or ws i 0)
unfolding colours
colour_at_lem n [] i v u l b e = absurd (none l)
  where
    none : i < 0 → ⊥
    none h = omega arith
colour_at_lem n (w ∷ ws) zero v u l b e =
    let k : v - offset w < next n ws - offset w = omega arith in
    let g : v - offset w < length (replicate (next n ws - offset w) (coordinate w)) = simp length-replicate k in
    get_or-append (replicate (next n ws - offset w) (coordinate w)) (colours n ws) 0 (v - offset w) g ∙ get_or-replicate (next n ws - offset w) (v - offset w) (coordinate w) 0 k
colour_at_lem n (w ∷ ws) (suc i) v u l b e =
    let a : offset w ≤ next n ws = u 0 (omega arith) in
    let c : next n ws ≤ next n (drop i ws) = next_up n ws i (omega arith) (tail_up n w ws u) in
    let q : length (replicate (next n ws - offset w) (coordinate w)) ≡ next n ws - offset w = length-replicate (next n ws - offset w) (coordinate w) in
    let d : v - offset w - length (replicate (next n ws - offset w) (coordinate w)) ≡ v - next n ws = omega arith in
    get_or_behind (replicate (next n ws - offset w) (coordinate w)) (colours n ws) (v - offset w) 0 (omega arith) ∙ ap (λ (k : ℕ). get_or (colours n ws) k 0) d ∙ colour_at_lem n ws i v (tail_up n w ws u) (omega arith) b e

-- of a steady list
module _ (n : ℕ) (ws : List ℕ) (s : Steady n ws) (some : 0 < length ws) where
  pub steady_long : length (colours n ws) ≡ n
  steady_long = omega (arith, length_colours n ws s.up, starts_zero n ws s some)

  pub steady_at : (i v : ℕ) → i < length ws → next n (drop i ws) ≤ v → v < end_at n ws i → get_or (colours n ws) v 0 ≡ coordinate (get_or ws i 0)
  steady_at i v l b e =
      let z : v ≡ v - next n ws = omega (arith, starts_zero n ws s some) in
      ap (λ (k : ℕ). get_or (colours n ws) k 0) z ∙ colour_at_lem n ws i v s.up l b e

pub colours_append : (n : ℕ) (xs ys : List ℕ) → colours n (xs ++ ys) ≡ colours (next n ys) xs ++ colours n ys
unfolding colours
colours_append n [] ys = refl
colours_append n (w ∷ []) ys = simp append-nil
colours_append n (w ∷ v ∷ xs) ys =
    ap (λ (l : List ℕ). replicate (offset v - offset w) (coordinate w) ++ l) (colours_append n (v ∷ xs) ys) ∙ sym (append_assoc (replicate (offset v - offset w) (coordinate w)) (colours (next n ys) (v ∷ xs)) (colours n ys))

-- ---- the coordinate of a vertex is its colour

in_block : (m c v : ℕ) (rest : List ℕ) → v < m → get_or (replicate m c ++ rest) v 0 ≡ c
in_block m c v rest h =
    let l : v < length (replicate m c) = omega (arith, length-replicate m c) in
    get_or-append (replicate m c) rest 0 v l ∙ get_or-replicate m v c 0 h

colour_in : (n w : ℕ) (ws : List ℕ) (v : ℕ) → Up n (w ∷ ws) → offset w ≤ v → v < n → colour_from (coordinate w) v ws ≡ get_or (colours n (w ∷ ws)) (v - offset w) 0
unfolding colour_from colours
colour_in n w [] v u h l = sym (in_block (n - offset w) (coordinate w) (v - offset w) [] (omega arith))
colour_in n w (q ∷ qs) v u h l = go (leb (offset q) v) refl (colour_in n q qs v (tail_up n w (q ∷ qs) u))
  where
    up : offset w ≤ offset q
    up = u 0 (omega arith)

    go : (t : Bool) → leb (offset q) v ≡ t → (offset q ≤ v → v < n → colour_from (coordinate q) v qs ≡ get_or (colours n (q ∷ qs)) (v - offset q) 0)
        → (colour_from (coordinate q) v qs when t else coordinate w) ≡ get_or (replicate (offset q - offset w) (coordinate w) ++ colours n (q ∷ qs)) (v - offset w) 0
    go true e ih =
        let a : offset q ≤ v = leb-true _ _ e in
        let k : length (replicate (offset q - offset w) (coordinate w)) ≡ offset q - offset w = length-replicate (offset q - offset w) (coordinate w) in
        let i : v - offset w - length (replicate (offset q - offset w) (coordinate w)) ≡ v - offset q = omega (arith, up) in
        when_yes _ _ _ refl ∙ ih a l ∙ sym (get_or_behind (replicate (offset q - offset w) (coordinate w)) (colours n (q ∷ qs)) (v - offset w) 0 (omega (arith, up)) ∙ ap (λ (x : ℕ). get_or (colours n (q ∷ qs)) x 0) i)
    go false e ih =
        let a : v < offset q = leb-false _ _ e in
        when_no _ _ _ refl ∙ sym (in_block (offset q - offset w) (coordinate w) (v - offset w) (colours n (q ∷ qs)) (omega arith))

pub colour_steady : (n : ℕ) (ws : List ℕ) (v : ℕ) → Steady n ws → 0 < length ws → v < n → colour_from 0 v ws ≡ get_or (colours n ws) v 0
unfolding colour_from
colour_steady n [] v s h l = absurd (omega arith)
colour_steady n (w ∷ ws) v s h l =
    let a : offset w ≤ v = omega (arith, s.first) in
    let i : v - offset w ≡ v = omega (arith, s.first) in
    when_yes _ _ _ (le-leb (offset w) v a) ∙ colour_in n w ws v s.up a l ∙ ap (λ (x : ℕ). get_or (colours n (w ∷ ws)) x 0) i

-- of the runs of a list that is sharp for more vertices, the one that begins at or before the vertex and is the last to
pub colour_between : (v : ℕ) (ws : List ℕ) (low high : ℕ) → IsSharpBeyond v ws → Between v ws low high → high ≤ low + 1 → coordinate (get_or ws low 0) ≡ colour_at v ws
colour_between v ws low high s b one =
    let n = s.vertices in
    let t = sharp_steady n ws s.list in
    let l : low < length ws = omega (arith, b.apart, b.inside) in
    let f : next n (drop low ws) ≤ v = omega (arith, b.begun, run_begins n ws low l) in
    sym (colour_steady n ws v t s.list.some s.inside ∙ steady_at n ws t s.list.some low v l f (ends (dec_lt high (length ws))))
  where
    ends : Dec (high < length ws) → v < end_at s.vertices ws low
    ends (yes h) =
        let q : high ≡ suc low = omega (arith, b.apart) in
        let e : end_at s.vertices ws low ≡ offset (get_or ws high 0) = ap (λ (k : ℕ). next s.vertices (drop k ws)) (sym q) ∙ run_begins s.vertices ws high h in
        omega (arith, b.behind h)
    ends (no h) =
        let e : end_at s.vertices ws low ≡ s.vertices = ap (next s.vertices) (drop_of_length-le ws {i = suc low} (omega (arith, b.apart))) in
        omega (arith, s.inside)
