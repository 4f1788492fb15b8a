-- The plain store's tests are those of the store over its buffers.
use Prim.Native.Nat.{ℕ, ◌+◌}
use mathlib.Core.Path.{◌≡◌, refl}
use mathlib.Core.Bool.{Bool, true, false, ◌&&◌}
use mathlib.Core.List.{List, [], ◌∷◌, map}
use native.Mathlib.Omega.{arith}
use lib.Dec.{eqb, leb, ltb}
use borrow.Author.Tests.{eqb-true, le-leb, le-ltb, leb-false, leb-true, lt-ltb, ltb-true}
use Rattle.base.proofs.Bools.{and_right_no}
use Rattle.codec.specs.Records.{same}
use Rattle.codec.specs.Sets.{within}
use Rattle.runs.specs.Colours.{starts}
use Rattle.runs.specs.Orders.{climbs, sharp}
use Rattle.runs.specs.Words.{coordinate, offset}
use Rattle.store.specs.Close.{same_way}
use Rattle.store.specs.Demand.{way_of}
use Rattle.store.specs.Join.{alike, all_named}
use Rattle.store.specs.Plain.{Way, all_below, are_sharp, ascends, ascends_from, both_or_neither, cycle, equal, equal_ways, is_empty, is_set, line, name_sets}

-- ---- sets

-- above x: from x + 1 on
above : (x y : ℕ) → ltb x y ≡ leb (x + 1) y
above x y = go (leb (x + 1) y) refl
  where
    go : (t : Bool) → leb (x + 1) y ≡ t → ltb x y ≡ t
    go true e = lt-ltb x y (omega (arith, leb-true (x + 1) y e))
    go false e = le-ltb x y (omega (arith, leb-false (x + 1) y e))

shuffle : (a b c d : Bool) → (a && b) && (c && d) ≡ (a && c) && (b && d)
shuffle true true c d = refl
shuffle true false true d = refl
shuffle true false false d = refl
shuffle false b c d = refl

ids_from_lem : (N x : ℕ) (ys : List ℕ) → ascends_from x ys && all_below N ys ≡ within (x + 1) N ys
unfolding ascends_from all_below within
ids_from_lem N x [] = refl
ids_from_lem N x (y ∷ ys) = rw (← above x y, ← ids_from_lem N y ys) (shuffle (ltb x y) (ascends_from y ys) (ltb y N) (all_below N ys))

pub set_within : (N : ℕ) (ids : List ℕ) → is_set N ids ≡ within 0 N ids
unfolding is_set ascends all_below within
set_within N [] = refl
set_within N (x ∷ xs) = rw (le-leb 0 x (omega arith), ← ids_from_lem N x xs) (shuffle true (ascends_from x xs) (ltb x N) (all_below N xs))

-- ---- runs

between : (a b c d e : Bool) → (b ≡ true → c ≡ true → a ≡ true) → a && ((b && d) && (c && e)) ≡ b && (c && (d && e))
between a true true d e h = rw (h refl refl)
between a true false d e h = and_right_no a _ (and_right_no d false refl)
between a false c d e h = and_right_no a false refl

swap : (a b c : Bool) → a && (b && c) ≡ b && (a && c)
swap true b c = refl
swap false true c = refl
swap false false c = refl

climbs_from : (n at : ℕ) (ws : List ℕ) → ltb at n && (ascends_from at (starts ws) && all_below n (starts ws)) ≡ climbs n at ws
unfolding climbs ascends_from all_below
climbs_from n at [] = go (ltb at n)
  where
    go : (t : Bool) → t && true ≡ t
    go true = refl
    go false = refl
climbs_from n at (w ∷ ws) =
    rw (← climbs_from n (offset w) ws)
    (between (ltb at n) (ltb at (offset w)) (ltb (offset w) n) (ascends_from (offset w) (starts ws)) (all_below n (starts ws))
    (λ x y. lt-ltb at n (omega (arith, ltb-true at (offset w) x, ltb-true (offset w) n y))))

pub sharp_agrees : (n : ℕ) (ws : List ℕ) → are_sharp n (starts ws) ≡ sharp n ws
unfolding are_sharp sharp is_empty ascends all_below
sharp_agrees n [] = refl
sharp_agrees n (w ∷ ws) = go (offset w) (eqb (offset w) 0) refl
  where
    go : (o : ℕ) (t : Bool) → eqb o 0 ≡ t → are_sharp n (o ∷ starts ws) ≡ t && climbs n 0 ws
    go o true e = rw (are_sharp, eqb-true o 0 e, ← climbs_from n 0 ws) (swap (ascends_from 0 (starts ws)) (ltb 0 n) (all_below n (starts ws)))
    go o false e = rw (are_sharp, e)

pub names_agree : (W k : ℕ) (ws : List ℕ) → name_sets W k (map coordinate ws) ≡ all_named W k ws
unfolding name_sets all_named
names_agree W k [] = refl
names_agree W k (w ∷ ws) = rw (names_agree W k ws)

-- ---- repeats

pub equal_agrees : (xs ys : List ℕ) → equal xs ys ≡ same xs ys
unfolding equal same
equal_agrees [] [] = refl
equal_agrees [] (y ∷ ys) = refl
equal_agrees (x ∷ xs) [] = refl
equal_agrees (x ∷ xs) (y ∷ ys) = rw (equal_agrees xs ys)

pub alike_agrees : (d e : Bool) → both_or_neither d e ≡ alike d e
unfolding both_or_neither alike
alike_agrees true e = refl
alike_agrees false e = refl

pub ways_agree : (v w : Way) → equal_ways v w ≡ same_way (way_of v) (way_of w)
unfolding equal_ways same_way way_of
ways_agree line line = refl
ways_agree line (cycle q) = refl
ways_agree (cycle p) line = refl
ways_agree (cycle p) (cycle q) = refl
