-- Decimal numbers: one turn of the loop over the digits.
use Prim.Native.Nat.{ℕ, suc, ◌+◌, ◌*◌, ◌≤◌, ◌<◌}
use mathlib.Core.Path.{◌≡◌, refl, sym, ap, ◌∙◌}
use mathlib.Core.List.{List, [], ◌∷◌}
use Rattle.std.specs.Prelude.{true, false, ◌==◌}
use native.Mathlib.Omega.{arith}
use native.Mathlib.Numerals.{add-one}
use lib.ListN.{length, drop, get_or, drop_of_length-le}
use lib.Seq.{drop-cons}
use borrow.Author.Tests.{lt-ltb, le-ltb, eqb-true}
use Rattle.base.proofs.Tests.{when_yes, when_no}
use Rattle.shell.specs.declared.numbers.NumberError.TheVariants.{Bad, Large}
use Rattle.std.specs.Prelude.{Option, Some, None, Ok, Err}
use Rattle.std.specs.Char.{digit_value}
use Rattle.std.specs.Option.{SomeIff}
use Rattle.std.proofs.lemmas.Bool.Decides.{nat_tests}
use Rattle.shell.specs.Numbers.{digit_of, digit_into, number_from, decimal_of}

pub number_none : (most : ℕ) (xs : List ℕ) → true ≡ (length xs == 0) → Err Bad ≡ decimal_of most xs
unfolding decimal_of
number_none most [] e = refl
number_none most (x ∷ xs) e = absurd (omega (arith, eqb-true _ _ (sym e)))

pub number_start : (most : ℕ) (xs : List ℕ) → false ≡ (length xs == 0) → decimal_of most xs ≡ number_from most 0 xs
unfolding decimal_of
number_start most [] e = cc e
number_start most (x ∷ xs) e = refl

pub from_none : (most v : ℕ) → number_from most v [] ≡ Ok v
unfolding number_from
from_none most v = refl

pub from_cons : (most v b : ℕ) (bs : List ℕ) → number_from most v (b ∷ bs) ≡ digit_into most v (digit_of b) (λ w. number_from most w bs)
unfolding number_from
from_cons most v b bs = refl

-- std's digit of base 10 is the specification's
pub digit_is : (b x : ℕ) (r : Option ℕ) → x ≡ b → SomeIff r (digit_value x < 10) (digit_value x) → r ≡ digit_of b
unfolding digit_of
digit_is b x None e h = grind (arith, nat_tests)
digit_is b x (Some d) e h = grind (arith, nat_tests)

module _ (most : ℕ) (xs : List ℕ) (v i : ℕ) (k : decimal_of most xs ≡ number_from most v (drop i xs)) where
  module _ (h : i < length xs) (r : Option ℕ) (e : r ≡ digit_of (get_or xs i 0)) where
    opens : decimal_of most xs ≡ digit_into most v r (λ w. number_from most w (drop (i + 1) xs))
    opens =
        k ∙ ap (number_from most v) (drop-cons xs i 0 h) ∙ from_cons most v _ _
        ∙ ap (λ d. digit_into most v d (λ w. number_from most w (drop (suc i) xs))) (sym e)
        ∙ ap (λ j. digit_into most v r (λ w. number_from most w (drop j xs))) (sym (add-one i))

    pub number_bad : r ≡ None → Err Bad ≡ decimal_of most xs
    number_bad n = sym (opens ∙ rw n refl)

    module _ (d : ℕ) (s : r ≡ Some d) (u : ℕ) (w : u ≡ d) where
      pub number_large : most < v * 10 + u → Err Large ≡ decimal_of most xs
      number_large m = sym (opens ∙ rw (s, sym w) (when_yes _ _ _ (lt-ltb _ _ m)))

      pub number_next : v * 10 + u ≤ most → decimal_of most xs ≡ number_from most (v * 10 + u) (drop (i + 1) xs)
      number_next m = opens ∙ rw (s, sym w) (when_no _ _ _ (le-ltb _ _ m))

  pub number_end : length xs ≤ i → Ok v ≡ decimal_of most xs
  number_end h = sym (k ∙ ap (number_from most v) (drop_of_length-le xs h) ∙ from_none most v)
