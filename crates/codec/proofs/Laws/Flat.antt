-- Laws of items one after another.
use Prim.Native.Nat.{ℕ}
use mathlib.Core.Path.{◌≡◌, refl, sym}
use mathlib.Core.List.{List, [], ◌∷◌, ◌++◌, append_assoc}
use Rattle.codec.specs.Flat.{flat}

module _ {A : Type 0} (enc : A → List ℕ) where
  pub flat_append : (xs ys : List A) → flat enc (xs ++ ys) ≡ flat enc xs ++ flat enc ys
  unfolding flat
  flat_append [] ys = refl
  flat_append (x ∷ xs) ys = rw (flat_append xs ys) (sym (append_assoc (enc x) (flat enc xs) (flat enc ys)))
