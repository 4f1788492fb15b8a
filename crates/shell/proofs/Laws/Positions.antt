-- The first place at which a test passes, found or not.
use Rattle.std.proofs.Common.{◌≡◌, ℕ, ◌≤◌, ◌<◌, Bool, true, false, nat_lt, List, length, take, drop, ◌-◌, refl, arith}
use Rattle.std.specs.Prelude.{Some, None}
use Rattle.std.specs.List.{position, position_or_len}
use Rattle.std.specs.Option.{unwrap_or}
use Rattle.std.proofs.lemmas.List.Sums.{prefix_len-le-length}
use Rattle.std.proofs.Math.ListN.{length-drop}
use Rattle.std.proofs.Math.Seq.{take_all}
use borrow.Author.Tests.{ltb-true, ltb-false}

module _ (p : ℕ → Bool) (xs : List ℕ) where
  pub found : (k : ℕ) → position p xs ≡ Some k → (position_or_len p xs ≡ k) × (k < length xs)
  found k e = go (nat_lt (position_or_len p xs) (length xs)) refl
    where
      go : (t : Bool) → nat_lt (position_or_len p xs) (length xs) ≡ t → (position_or_len p xs ≡ k) × (k < length xs)
      go true h = let same : position_or_len p xs ≡ k = cc (h, e) in let l = ltb-true _ _ h in (same, omega arith)
      go false h = absurd (cc (h, e))

  pub missed : position p xs ≡ None → length xs ≤ position_or_len p xs
  missed e = go (nat_lt (position_or_len p xs) (length xs)) refl
    where
      go : (t : Bool) → nat_lt (position_or_len p xs) (length xs) ≡ t → length xs ≤ position_or_len p xs
      go true h = absurd (cc (h, e))
      go false h = ltb-false _ _ h

  pub or_length : unwrap_or (position p xs) (length xs) ≡ position_or_len p xs
  or_length = go (nat_lt (position_or_len p xs) (length xs)) refl
    where
      go : (t : Bool) → nat_lt (position_or_len p xs) (length xs) ≡ t → unwrap_or (position p xs) (length xs) ≡ position_or_len p xs
      go true h = rw h refl
      go false h = let l = ltb-false _ _ h in rw h (omega (arith, prefix_len-le-length))

pub rest_whole : (xs : List ℕ) (a : ℕ) → take (length xs - a) (drop a xs) ≡ drop a xs
rest_whole xs a = take_all _ _ (simp length-drop (omega arith))
