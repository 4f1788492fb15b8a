-- What coordinates name: the plain store's test finds it, and it stays named when there are more sets.
use Prim.Native.Nat.{ℕ, ◌≤◌}
use mathlib.Core.Bool.{true, ◌&&◌}
use mathlib.Core.List.{List, [], ◌∷◌}
use mathlib.Core.Path.{◌≡◌, refl}
use native.Mathlib.Omega.{arith}
use lib.Dec.{eqb, ltb}
use borrow.Author.Tests.{eq-eqb, eqb-true, lt-ltb, ltb-true}
use Rattle.base.proofs.All.{All, all_less}
use Rattle.base.proofs.Bools.{and_both, and_true}
use Rattle.runs.specs.Words.{place_of, worker_of}
use Rattle.store.specs.Plain.{name_sets}
use Rattle.store.proofs.Laws.Rep.{Named}

pub named_one : (W k c : ℕ) → eqb (worker_of c) W && ltb (place_of c) k ≡ true → Named W k c
named_one W k c e =
    let a = and_true _ _ e in
    record { own = eqb-true _ _ a.0; low = ltb-true _ _ a.1 }

-- the test of a list
pub names_told : (W k : ℕ) (cs : List ℕ) → name_sets W k cs ≡ true → All (Named W k) cs
unfolding name_sets
names_told W k [] e = tt
names_told W k (c ∷ cs) e =
    let a = and_true _ _ e in
    (named_one W k c a.0, names_told W k cs a.1)

pub told_names : (W k : ℕ) (cs : List ℕ) → All (Named W k) cs → name_sets W k cs ≡ true
unfolding name_sets
told_names W k [] a = refl
told_names W k (c ∷ cs) a = and_both _ _ (and_both _ _ (eq-eqb _ _ a.0.own) (lt-ltb _ _ a.0.low)) (told_names W k cs a.1)

-- more sets: what is named stays named
pub named_more : {W k m : ℕ} → k ≤ m → (c : ℕ) → Named W k c → Named W m c
named_more h c a = record { own = a.own; low = omega (arith, a.low) }

pub names_more : (W k m : ℕ) (cs : List ℕ) → k ≤ m → name_sets W k cs ≡ true → name_sets W m cs ≡ true
names_more W k m cs h e = told_names W m cs (all_less {P = Named W k} {Q = Named W m} (named_more h) cs (names_told W k cs e))
