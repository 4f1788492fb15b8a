-- What is written over a list from a place on.
use Prim.Native.Nat.{ℕ, ◌+◌, ◌-◌, ◌≤◌}
use mathlib.Core.Path.{◌≡◌, refl, sym, ap, ◌∙◌}
use mathlib.Core.List.{List, ◌++◌, append_assoc}
use native.Mathlib.Omega.{arith}
use lib.ListN.{length, take, drop, length-append, length-drop}
use lib.Seq.{take_at, length-take-le}
use Rattle.base.specs.Parts.{over}
use Rattle.base.proofs.Parts.{length_over}
use Rattle.store.specs.State.{put}

pub over_take : (new old : List ℕ) → take (length new) (over new old) ≡ new
unfolding over
over_take new old = take_at new (drop (length new) old) (length new) refl

module _ (at : ℕ) (new old : List ℕ) (fits : at + length new ≤ length old) where
  head_long : length (take at old ++ new) ≡ at + length new
  head_long =
      let h : length (take at old) ≡ at = length-take-le at old (omega arith) in
      omega (arith, length-append (take at old) new)

  pub put_take : take (at + length new) (put at new old) ≡ take at old ++ new
  unfolding put over
  put_take =
      ap (take (at + length new)) (sym (append_assoc (take at old) new (drop (length new) (drop at old))))
      ∙ take_at (take at old ++ new) (drop (length new) (drop at old)) (at + length new) head_long

  pub put_length : length (put at new old) ≡ length old
  unfolding put
  put_length =
      let d : length (drop at old) ≡ length old - at = length-drop at old in
      let h : length (take at old) ≡ at = length-take-le at old (omega arith) in
      let r : length new ≤ length (drop at old) = omega arith in
      length-append (take at old) (over new (drop at old)) ∙ omega (arith, length_over new (drop at old) r)
