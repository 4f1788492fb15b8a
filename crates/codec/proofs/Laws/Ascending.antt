-- Ascending ids, by neighbours and by the last.
use Prim.Native.Nat.{ℕ, suc, ◌+◌, ◌-◌, ◌≤◌, ◌<◌}
use mathlib.Core.Path.{◌≡◌, refl, sym, ap, ◌∙◌}
use mathlib.Core.Bool.{Bool, true, false, not, ◌||◌, ◌&&◌, and_comm}
use mathlib.Core.List.{List, [], ◌∷◌}
use native.Mathlib.Omega.{arith}
use native.Mathlib.Decide.{dec_le, dec_lt}
use lib.ListN.{length, drop, get_or}
use lib.Dec.{leb, ltb}
use Rattle.std.specs.Prelude.{Option, Some, None, slice_get}
use Rattle.std.proofs.lemmas.Option.{slice_get_within, get_or_from_slice_get, slice_get-get_or}
use borrow.Author.Tests.{lt-ltb, le-ltb, le-leb, lt-leb}
use Rattle.base.proofs.Bools.{and_right_no}
use Rattle.codec.specs.Sets.{within}
use Rattle.codec.specs.Inside.Payloads.{has_fall}

and_true : (t : Bool) → t && true ≡ t
and_true true = refl
and_true false = refl

abbrev last_id : ℕ → List ℕ → ℕ
last_id x [] = x
last_id x (y ∷ ys) = last_id y ys

rise : (x : ℕ) (xs : List ℕ) → has_fall x xs ≡ false → x ≤ last_id x xs
unfolding has_fall
rise x [] e = omega arith
rise x (y ∷ ys) e = go (dec_le y x) e (rise y ys)
  where
    go : Dec (y ≤ x) → (leb y x || has_fall y ys) ≡ false → (has_fall y ys ≡ false → y ≤ last_id y ys) → x ≤ last_id y ys
    go (yes h) e ih = let z : ◌≡◌ {A = ℕ} 0 1 = cc (le-leb y x h) in absurd (omega arith)
    go (no h) e ih = omega (arith, ih (rw (lt-leb y x (omega arith)) at e))

-- no fall, and the last below n
by_last : (x : ℕ) (xs : List ℕ) (from n : ℕ) → from ≤ x → within from n (x ∷ xs) ≡ not (has_fall x xs) && ltb (last_id x xs) n
unfolding within has_fall
by_last x [] from n h = rw (le-leb from x h) (and_true (ltb x n))
by_last x (y ∷ ys) from n h = rw (le-leb from x h) (go (dec_le y x) (dec_lt x n) (has_fall y ys) refl (by_last y ys (x + 1) n))
  where
    go : Dec (y ≤ x) → Dec (x < n) → (f : Bool) → has_fall y ys ≡ f → (x + 1 ≤ y → within (x + 1) n (y ∷ ys) ≡ not (has_fall y ys) && ltb (last_id y ys) n)
        → ltb x n && within (x + 1) n (y ∷ ys) ≡ not (leb y x || has_fall y ys) && ltb (last_id y ys) n
    go (yes l) b f e ih = rw (le-leb y x l, lt-leb (x + 1) y (omega arith)) (and_right_no (ltb x n) false refl)
    go (no l) (yes b) f e ih = rw (lt-leb y x (omega arith), lt-ltb x n b) (ih (omega arith))
    go (no l) (no b) true e ih = rw (lt-leb y x (omega arith), le-ltb x n (omega arith), e)
    go (no l) (no b) false e ih = rw (lt-leb y x (omega arith), le-ltb x n (omega arith), e, le-ltb (last_id y ys) n (omega (arith, rise y ys e)))

last_at : (x : ℕ) (xs : List ℕ) → get_or (x ∷ xs) (length xs) 0 ≡ last_id x xs
last_at x [] = refl
last_at x (y ∷ ys) = last_at y ys

-- the last id tells for all
pub within_last : (ids : List ℕ) (n last : ℕ) → Some last ≡ slice_get ids (length ids - 1) → within 0 n ids ≡ (ltb last n && not (has_fall (get_or ids 0 0) (drop 1 ids)))
within_last ids n last e = go ids (slice_get_within ids (length ids - 1) last (sym e)) (get_or_from_slice_get ids (length ids - 1) last 0 (sym e))
  where
    go : (ids : List ℕ) → length ids - 1 < length ids → get_or ids (length ids - 1) 0 ≡ last → within 0 n ids ≡ (ltb last n && not (has_fall (get_or ids 0 0) (drop 1 ids)))
    go [] h e = absurd (omega arith)
    go (x ∷ xs) h e =
        let m : suc (length xs) - 1 ≡ length xs = omega arith in
        let l : last_id x xs ≡ last = sym (last_at x xs) ∙ ap (λ (k : ℕ). get_or (x ∷ xs) k 0) (sym m) ∙ e in
        by_last x xs 0 n (omega arith) ∙ and_comm (not (has_fall x xs)) (ltb (last_id x xs) n) ∙ ap (λ (k : ℕ). ltb k n && not (has_fall x xs)) l

pub within_none : (ids : List ℕ) (n : ℕ) → None ≡ slice_get ids (length ids - 1) → within 0 n ids ≡ true
unfolding within
within_none [] n e = refl
within_none (x ∷ xs) n e = let z : ◌≡◌ {A = Option ℕ} None (Some (get_or (x ∷ xs) (suc (length xs) - 1) 0)) = e ∙ slice_get-get_or (x ∷ xs) (suc (length xs) - 1) 0 (omega arith) in absurd cc

-- ---- each id beside the one behind it: what was found, or a fall among those ahead

pub record Falling (ids : List ℕ) (found : Bool) (before next : List ℕ) : Type 0 where
  pub some : 0 < length before
  pub behind : next ≡ drop 1 before
  pub same : has_fall (get_or ids 0 0) (drop 1 ids) ≡ (found || has_fall (get_or before 0 0) next)

pub falling_none : (ids : List ℕ) → 0 < length ids → Falling ids false ids (drop 1 ids)
falling_none ids h = record { some = h; behind = refl; same = refl }

or_or : (a b c : Bool) → (a || (b || c)) ≡ ((a || b) || c)
or_or true b c = refl
or_or false b c = refl

or_none : (a : Bool) → (a || false) ≡ a
or_none true = refl
or_none false = refl

pub falling_more : (ids : List ℕ) (found : Bool) (x y : ℕ) (before next : List ℕ) → Falling ids found (x ∷ before) (y ∷ next) → Falling ids (found || leb y x) before next
unfolding has_fall
falling_more ids found x y [] next f = let z : ◌≡◌ {A = ℕ} 0 1 = cc f.behind in absurd (omega arith)
falling_more ids found x y (b ∷ before) next f =
    let e : y ≡ b = cc f.behind in
    let d : next ≡ before = cc f.behind in
    record { some = omega arith; behind = d; same = rw (← e) (f.same ∙ or_or found (leb y x) (has_fall y next)) }

pub falling_end : (ids : List ℕ) (found : Bool) (before next : List ℕ) → Falling ids found before next → length next ≡ 0 → found ≡ has_fall (get_or ids 0 0) (drop 1 ids)
unfolding has_fall
falling_end ids found before [] f e = sym (f.same ∙ or_none found)
falling_end ids found before (y ∷ next) f e = absurd (omega arith)
