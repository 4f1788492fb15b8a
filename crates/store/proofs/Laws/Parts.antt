-- The used part of a buffer, whole and from a place on.
use Prim.Native.Nat.{ℕ, ◌-◌, ◌≤◌}
use mathlib.Core.Path.{◌≡◌, sym, ap, ◌∙◌}
use mathlib.Core.List.{List}
use native.Mathlib.Omega.{arith}
use lib.ListN.{length, take, drop}
use lib.Seq.{take_all, length-take-le}
use Rattle.base.proofs.Parts.{tail_is}

module _ (used : ℕ) (part : List ℕ) (e : length part ≡ used) where
  pub take_whole : take used part ≡ part
  take_whole = take_all used part (omega arith)

  pub rest_is : (at : ℕ) → take (length part - at) (drop at part) ≡ drop at (take used part)
  rest_is at = tail_is at part ∙ ap (λ (l : List ℕ). drop at l) (sym take_whole)

-- the used part of a buffer is used whole
pub part_whole : (used : ℕ) (file : List ℕ) → used ≤ length file → take used (take used file) ≡ take used file
part_whole used file h = take_whole used (take used file) (length-take-le used file h)
