-- Laws of loops over an iterator that numbers what it gives.
use Prim.Native.Nat.{ℕ, ◌+◌, ◌<◌}
use mathlib.Core.Path.{◌≡◌, ap, ◌∙◌}
use mathlib.Core.List.{List, [], ◌∷◌, ◌++◌}
use native.Mathlib.Omega.{arith}
use native.Mathlib.Nat.{zero-add}
use lib.ListN.{length, get_or, set}
use Rattle.std.specs.Prelude.{Option, Some, None}
use Rattle.std.specs.List.{enumerate_from}
use Rattle.std.specs.Iterator.{Yields}
use Rattle.std.specs.Iterator.Adapters.{enumerate_source, enumerate_count, enumerate_steps}
use Rattle.std.specs.declared.iter.Enumerate.{Enumerate}
use Rattle.std.proofs.lemmas.Iterator.{YieldsList}
use Rattle.std.proofs.lemmas.Iterator.Consumers.{YieldsList-from_enumerate, YieldsList-turn, YieldsList-end}
use Rattle.std.proofs.lemmas.List.{length_push}
use Rattle.std.proofs.lemmas.List.FromFn.{length-enumerate_from, get_or-enumerate_from}
use Rattle.runs.proofs.Laws.Lists.{Filled, fill_more}

-- the iterator gives all, and what it gave so far are xs
module _ {S : Type 0} {steps : S → Option ℕ → S → Type 0} {s : Enumerate S} (all : List ℕ) (source : YieldsList steps (λ x. x) (enumerate_source s) all) (first : enumerate_count s ≡ 0)
    (xs : List (ℕ × ℕ)) (t : Enumerate S) (so-far : Yields (enumerate_steps steps) s xs t) (r : Option (ℕ × ℕ)) (u : Enumerate S) (now : enumerate_steps steps t r u) where
  road : YieldsList {B = ℕ × ℕ} (enumerate_steps steps) (λ p. (p.0, p.1)) s (enumerate_from 0 all)
  road = YieldsList-from_enumerate source first

  -- the next is the element at the next place
  pub numbered : (i x : ℕ) → r ≡ Some (i, x) → (i ≡ length xs) × (length xs < length all) × (x ≡ get_or all (length xs) x)
  numbered i x e =
      let a = YieldsList-turn road xs t so-far r u (i, x) e now in
      let l : length xs < length all = omega (arith, a.0, length-enumerate_from 0 all) in
      let p : ◌≡◌ {A = ℕ × ℕ} (i, x) (0 + length xs, get_or all (length xs) x) = a.1 ∙ get_or-enumerate_from 0 all (length xs) (i, x) l in
      (ap (λ (q : ℕ × ℕ). q.0) p ∙ zero-add (length xs), l, ap (λ (q : ℕ × ℕ). q.1) p)

  -- at the end they are all
  pub numbered_end : r ≡ None → length xs ≡ length all
  numbered_end e = (YieldsList-end road xs t so-far r u e now).1 ∙ length-enumerate_from 0 all

-- an element put at its number
pub fill_next : (all from out : List ℕ) (xs : List (ℕ × ℕ)) (i x : ℕ) → (i ≡ length xs) × (length xs < length all) × (x ≡ get_or all (length xs) x) → i < length out
    → Filled all from out (length xs) → Filled all from (set out i x) (length (xs ++ ((i, x) ∷ [])))
fill_next all from out xs i x h room f = rw (length_push xs (i, x), h.0) (fill_more all from out (length xs) x x h.1 (omega (arith, h.0)) h.2 f)
