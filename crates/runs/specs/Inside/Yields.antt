-- An iterator that gives a list of runs.
use Rattle.std.specs.Prelude.{ℕ, ◌≤◌, Option, List, length}
use Rattle.std.specs.Iterator.{Count, UpTo}
use Rattle.std.proofs.lemmas.Iterator.{YieldsList}

-- it gives all of the list, one after another, and then ends
abbrev pub YieldsAll : {S : Type 0} → (S → Option ℕ → S → Type 0) → S → List ℕ → Type 0
YieldsAll steps s all = YieldsList steps (λ x. x) s all

-- it may be asked, and gives no more than m runs
pub record YieldsUpTo {S : Type 0} (can : S → Type 0) (steps : S → Option ℕ → S → Type 0) (left : S → Count) (s : S) (m : ℕ) : Type 0 where
  pub asked : can s
  pub ends : UpTo (left s) m
  pub all : List ℕ
  pub gives : YieldsAll steps s all
  pub few : length all ≤ m
