-- What `get` tells of a byte string, and of one that is refused where no byte is.
use Prim.Native.Nat.{ℕ, ◌≤◌, ◌<◌}
use mathlib.Core.Path.{◌≡◌, ap, ◌∙◌, subst}
use mathlib.Core.List.{List}
use native.Mathlib.Omega.{arith}
use lib.ListN.{length, get_or}
use denote.Bor.{Bor}
use Rattle.base.specs.declared.Refusal.{Refusal}
use Rattle.std.specs.Prelude.{Option, Some, None, Result, Err}
use Rattle.std.specs.Option.{ok_or}
use Rattle.std.specs.Slice.{IsItemAt}

module _ (xs : List ℕ) (i : ℕ) (o : Option (Bor ℕ)) (is : IsItemAt xs i o) where
  pub item_there : (x : Bor ℕ) → o ≡ Some x → (i < length xs) × (x.now ≡ get_or xs i 0)
  item_there x e = let h = subst (IsItemAt xs i) e is in (h.3.0, h.4 (omega arith) 0)

  pub item_past : o ≡ None → length xs ≤ i
  item_past e = (subst (IsItemAt xs i) e is).3

-- the refusal that is asked for
pub refused_as : (o : Option (Bor ℕ)) (r e : Refusal) → o ≡ None → Err r ≡ ok_or o e → r ≡ e
refused_as o r e none told =
    let both : ◌≡◌ {A = Result (Bor ℕ) Refusal} (Err r) (Err e) = told ∙ ap (λ (p : Option (Bor ℕ)). ok_or p e) none in
    cc
