-- Laws of reversed runs.
use Prim.Native.Nat.{ℕ, zero, suc, ◌+◌, ◌-◌, ◌≤◌, ◌<◌}
use mathlib.Core.Path.{◌≡◌, refl, sym, ap, ap₂, ◌∙◌, subst}
use mathlib.Core.Bool.{Bool, true, false}
use mathlib.Core.List.{List, [], ◌∷◌, ◌++◌, append-nil, reverse, reverse-append}
use native.Mathlib.Omega.{arith}
use lib.ListN.{length, drop, get_or, replicate, length-append, get_or-append, drop_of_length-le}
use lib.Seq.{get_or_at, ext_get_or}
use Rattle.runs.specs.Words.{offset, coordinate, pack}
use Rattle.runs.specs.Colours.{next, end_at, colours, first_coord, last_coord}
use Rattle.runs.specs.Inside.Lists.{Steady, Sharp}
use Rattle.runs.specs.Reverse.{reverse_runs, oriented}
use Rattle.runs.proofs.Laws.Lists.{reverse_replicate}
use Rattle.runs.proofs.Laws.Words.{offset_pack, coordinate_pack, pack_of}
use Rattle.runs.proofs.Laws.Orders.{Up, StrictUp, tail_up, next_le, run_begins, end_le, sharp_steady}
use Rattle.runs.proofs.Laws.Colours.{colours_append}

pub length_reversed : (n : ℕ) (ws : List ℕ) → length (reverse_runs n ws) ≡ length ws
unfolding reverse_runs
length_reversed n [] = refl
length_reversed n (w ∷ ws) = let r : length (reverse_runs n ws) ≡ length ws = length_reversed n ws in simp length-append (omega arith)

-- run i of the reversed list is run k of the list, where i + k + 1 is their number
pub reversed_at : (n : ℕ) (ws : List ℕ) (i k : ℕ) → i + k + 1 ≡ length ws → get_or (reverse_runs n ws) i 0 ≡ pack (n - end_at n ws k) (coordinate (get_or ws k 0))
unfolding reverse_runs
reversed_at n [] i k e = absurd (omega arith)
reversed_at n (w ∷ ws) i zero e = get_or_at (reverse_runs n ws) (pack (n - next n ws) (coordinate w)) [] 0 i (length_reversed n ws ∙ omega arith)
reversed_at n (w ∷ ws) i (suc k) e =
    let l : i < length (reverse_runs n ws) = omega (arith, length_reversed n ws) in
    get_or-append (reverse_runs n ws) (pack (n - next n ws) (coordinate w) ∷ []) 0 i l ∙ reversed_at n ws i k (omega arith)

module _ (n : ℕ) (ws : List ℕ) (small : n < 16777216) (s : Steady n ws) where
  pub reversed_end : (i k : ℕ) → i + k + 1 ≡ length ws → end_at n (reverse_runs n ws) i ≡ n - offset (get_or ws k 0)
  reversed_end i zero e =
      let d : drop (suc i) (reverse_runs n ws) ≡ [] = drop_of_length-le (reverse_runs n ws) {i = suc i} (omega (arith, length_reversed n ws)) in
      let z : n ≡ n - offset (get_or ws 0 0) = omega (arith, s.first) in
      ap (next n) d ∙ z
  reversed_end i (suc k) e =
      let b : next n (drop (suc i) (reverse_runs n ws)) ≡ offset (get_or (reverse_runs n ws) (suc i) 0) = run_begins n (reverse_runs n ws) (suc i) (omega (arith, length_reversed n ws)) in
      let r : get_or (reverse_runs n ws) (suc i) 0 ≡ pack (n - end_at n ws k) (coordinate (get_or ws k 0)) = reversed_at n ws (suc i) k (omega arith) in
      let o : end_at n ws k ≡ offset (get_or ws (suc k) 0) = run_begins n ws (suc k) (omega arith) in
      b ∙ ap offset r ∙ offset_pack (n - end_at n ws k) (coordinate (get_or ws k 0)) (omega arith) ∙ ap (λ (x : ℕ). n - x) o

  pub reversed_steady : Steady n (reverse_runs n ws)
  reversed_steady = record { first = first (length ws) refl; up = up }
    where
      first : (m : ℕ) → length ws ≡ m → offset (get_or (reverse_runs n ws) 0 0) ≡ 0
      first zero e = none (reverse_runs n ws) (length_reversed n ws ∙ e)
        where
          none : (l : List ℕ) → length l ≡ 0 → offset (get_or l 0 0) ≡ 0
          none [] q = refl
          none (x ∷ l) q = absurd (omega arith)
      first (suc m) e =
          let d : drop (suc m) ws ≡ [] = drop_of_length-le ws {i = suc m} (omega arith) in
          let g : end_at n ws m ≡ n = ap (next n) d in
          ap offset (reversed_at n ws 0 m (omega arith)) ∙ offset_pack (n - end_at n ws m) (coordinate (get_or ws m 0)) (omega arith) ∙ omega (arith, g)

      up : Up n (reverse_runs n ws)
      up i l =
          let k : ℕ = length ws - 1 - i in
          let e : i + k + 1 ≡ length ws = omega (arith, length_reversed n ws) in
          let a : offset (get_or (reverse_runs n ws) i 0) ≡ n - end_at n ws k = ap offset (reversed_at n ws i k e) ∙ offset_pack (n - end_at n ws k) (coordinate (get_or ws k 0)) (omega arith) in
          let b : end_at n (reverse_runs n ws) i ≡ n - offset (get_or ws k 0) = reversed_end i k e in
          let c : offset (get_or ws k 0) ≤ end_at n ws k = s.up k (omega arith) in
          omega arith

-- ---- colours

-- the vertices from the first run on, backwards
reversed_from : (n : ℕ) (ws : List ℕ) → n < 16777216 → Up n ws → colours (n - next n ws) (reverse_runs n ws) ≡ reverse (colours n ws)
unfolding colours reverse_runs
reversed_from n [] small u = refl
reversed_from n (w ∷ ws) small u =
    let a : offset w ≤ next n ws = u 0 (omega arith) in
    let b : next n ws ≤ n = next_le n ws (tail_up n w ws u) in
    let x : ℕ = pack (n - next n ws) (coordinate w) in
    let o : offset x ≡ n - next n ws = offset_pack (n - next n ws) (coordinate w) (omega arith) in
    let c : coordinate x ≡ coordinate w = coordinate_pack (n - next n ws) (coordinate w) (omega arith) in
    let k : n - offset w - offset x ≡ next n ws - offset w = omega arith in
    colours_append (n - offset w) (reverse_runs n ws) (x ∷ [])
    ∙ ap₂ (λ (p q : List ℕ). p ++ q) (ap (λ (t : ℕ). colours t (reverse_runs n ws)) o ∙ reversed_from n ws small (tail_up n w ws u)) (append-nil _ ∙ ap₂ (λ (t d : ℕ). replicate t d) k c)
    ∙ ap (λ (l : List ℕ). reverse (colours n ws) ++ l) (sym (reverse_replicate (next n ws - offset w) (coordinate w)))
    ∙ sym (reverse-append (replicate (next n ws - offset w) (coordinate w)) (colours n ws))

-- the colours of the reversed list are the colours backwards
pub colours_reversed : (n : ℕ) (ws : List ℕ) → n < 16777216 → Steady n ws → colours n (reverse_runs n ws) ≡ reverse (colours n ws)
unfolding colours reverse_runs
colours_reversed n [] small s = refl
colours_reversed n (w ∷ ws) small s =
    let z : n ≡ n - offset w = omega (arith, s.first) in
    ap (λ (t : ℕ). colours t (reverse_runs n (w ∷ ws))) z ∙ reversed_from n (w ∷ ws) small s.up

pub reverse_twice : (n : ℕ) (ws : List ℕ) → n < 16777216 → Steady n ws → reverse_runs n (reverse_runs n ws) ≡ ws
reverse_twice n ws small s = ext_get_or 0 (reverse_runs n (reverse_runs n ws)) ws (length_reversed n (reverse_runs n ws) ∙ length_reversed n ws) (λ i l. same i l)
  where
    same : (i : ℕ) → i < length (reverse_runs n (reverse_runs n ws)) → get_or (reverse_runs n (reverse_runs n ws)) i 0 ≡ get_or ws i 0
    same i l =
        let g : i < length ws = omega (arith, length_reversed n (reverse_runs n ws), length_reversed n ws) in
        let k : ℕ = length ws - 1 - i in
        let e : i + k + 1 ≡ length (reverse_runs n ws) = omega (arith, length_reversed n ws) in
        let f : k + i + 1 ≡ length ws = omega arith in
        let c : coordinate (get_or (reverse_runs n ws) k 0) ≡ coordinate (get_or ws i 0) = ap coordinate (reversed_at n ws k i f) ∙ coordinate_pack (n - end_at n ws i) (coordinate (get_or ws i 0)) (omega arith) in
        let h : offset (get_or ws i 0) ≤ end_at n ws i = s.up i g in
        let m : end_at n ws i ≤ n = end_le n ws i s.up in
        let o : n - end_at n (reverse_runs n ws) k ≡ offset (get_or ws i 0) = ap (λ (x : ℕ). n - x) (reversed_end n ws small s k i f) ∙ omega arith in
        reversed_at n (reverse_runs n ws) i k e ∙ ap₂ pack o c ∙ pack_of (get_or ws i 0)

-- ---- a list in either direction

pub oriented_yes : (r : Bool) (n : ℕ) (ws : List ℕ) → r ≡ true → oriented r n ws ≡ reverse_runs n ws
oriented_yes r n ws e = rw e

pub oriented_no : (r : Bool) (n : ℕ) (ws : List ℕ) → r ≡ false → oriented r n ws ≡ ws
oriented_no r n ws e = rw e

pub oriented_long : (r : Bool) (n : ℕ) (ws : List ℕ) → length (oriented r n ws) ≡ length ws
oriented_long true n ws = length_reversed n ws
oriented_long false n ws = refl

pub oriented_steady : (r : Bool) (n : ℕ) (ws : List ℕ) → n < 16777216 → Steady n ws → Steady n (oriented r n ws)
oriented_steady true n ws small s = reversed_steady n ws small s
oriented_steady false n ws small s = s

module _ (r : Bool) (n : ℕ) (ws : List ℕ) (i : ℕ) (inside : i < length ws) where
  pub oriented_at_yes : r ≡ true → get_or (oriented r n ws) i 0 ≡ pack (n - end_at n ws (length ws - 1 - i)) (coordinate (get_or ws (length ws - 1 - i) 0))
  oriented_at_yes e = ap (λ (l : List ℕ). get_or l i 0) (oriented_yes r n ws e) ∙ reversed_at n ws i (length ws - 1 - i) (omega arith)

  pub oriented_at_no : r ≡ false → get_or (oriented r n ws) i 0 ≡ get_or ws i 0
  oriented_at_no e = ap (λ (l : List ℕ). get_or l i 0) (oriented_no r n ws e)

  pub oriented_end_yes : n < 16777216 → Steady n ws → r ≡ true → end_at n (oriented r n ws) i ≡ n - offset (get_or ws (length ws - 1 - i) 0)
  oriented_end_yes small s e = ap (λ (l : List ℕ). end_at n l i) (oriented_yes r n ws e) ∙ reversed_end n ws small s i (length ws - 1 - i) (omega arith)

  pub oriented_end_no : r ≡ false → end_at n (oriented r n ws) i ≡ end_at n ws i
  oriented_end_no e = ap (λ (l : List ℕ). end_at n l i) (oriented_no r n ws e)

-- a sharp list reversed is sharp
pub sharp_reversed : (n : ℕ) (ws : List ℕ) → n < 16777216 → Sharp n ws → Sharp n (reverse_runs n ws)
sharp_reversed n ws small s = record { some = subst (λ (x : ℕ). 0 < x) (sym (length_reversed n ws)) s.some; first = (reversed_steady n ws small steady).first; up = up }
  where
    steady : Steady n ws
    steady = sharp_steady n ws s

    up : StrictUp n (reverse_runs n ws)
    up i l =
        let k : ℕ = length ws - 1 - i in
        let e : i + k + 1 ≡ length ws = omega (arith, length_reversed n ws) in
        let a : offset (get_or (reverse_runs n ws) i 0) ≡ n - end_at n ws k = ap offset (reversed_at n ws i k e) ∙ offset_pack (n - end_at n ws k) (coordinate (get_or ws k 0)) (omega arith) in
        let b : end_at n (reverse_runs n ws) i ≡ n - offset (get_or ws k 0) = reversed_end n ws small steady i k e in
        let c : offset (get_or ws k 0) < end_at n ws k = s.up k (omega arith) in
        let d : end_at n ws k ≤ n = end_le n ws k steady.up in
        omega arith

pub oriented_sharp : (r : Bool) (n : ℕ) (ws : List ℕ) → n < 16777216 → Sharp n ws → Sharp n (oriented r n ws)
oriented_sharp true n ws small s = sharp_reversed n ws small s
oriented_sharp false n ws small s = s

-- ---- the coordinate of the first run

pub first_back : (n : ℕ) (ws : List ℕ) → 0 < length ws → first_coord (reverse_runs n ws) ≡ last_coord ws
first_back n ws h =
    let k : ℕ = length ws - 1 in
    let d : drop (suc (length ws - 1)) ws ≡ [] = drop_of_length-le ws {i = suc (length ws - 1)} (omega arith) in
    let e : end_at n ws (length ws - 1) ≡ n = ap (next n) d in
    ap coordinate (reversed_at n ws 0 (length ws - 1) (omega arith)) ∙ coordinate_pack (n - end_at n ws (length ws - 1)) (last_coord ws) (omega arith)

reversed_first : (n : ℕ) (ws : List ℕ) → first_coord (reverse_runs n ws) ≡ last_coord ws
unfolding reverse_runs
reversed_first n [] = refl
reversed_first n (w ∷ ws) = first_back n (w ∷ ws) (omega arith)

pub first_yes : (r : Bool) (n : ℕ) (ws : List ℕ) → r ≡ true → first_coord (oriented r n ws) ≡ last_coord ws
first_yes r n ws e = ap first_coord (oriented_yes r n ws e) ∙ reversed_first n ws

pub first_no : (r : Bool) (n : ℕ) (ws : List ℕ) → r ≡ false → first_coord (oriented r n ws) ≡ first_coord ws
first_no r n ws e = ap first_coord (oriented_no r n ws e)
