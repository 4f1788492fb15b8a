-- Hexadecimal digits: one turn of the loop over the pairs.
use Rattle.std.proofs.Common.{◌≡◌, ℕ, ◌+◌, ◌*◌, ◌≤◌, ◌<◌, List, [], ◌∷◌, ◌++◌, length, get_or, set, arith, refl, sym, ap, ◌∙◌}
use Rattle.std.specs.Prelude.{Option, Some, None, Result, Ok, Err}
use borrow.Author.Tests.{le-leb, lt-leb}
use Rattle.base.proofs.Tests.{when_yes, when_no}
use Rattle.shell.specs.declared.reasons.Fault.{Fault}
use Rattle.shell.specs.declared.reasons.Fault.TheVariants.{Hex, Many}
use Rattle.std.specs.Char.{digit_value}
use Rattle.std.specs.Option.{SomeIff}
use Rattle.std.proofs.lemmas.Bool.Decides.{nat_tests}
use Rattle.shell.specs.Hexes.{digit_of, byte_into, unhex_at}

pub none : (k : ℕ) (out : List ℕ) → unhex_at [] k out ≡ (Ok k, out)
unfolding unhex_at
none k out = refl

pub single : (x k : ℕ) (out : List ℕ) → unhex_at (x ∷ []) k out ≡ (Err Hex, out)
unfolding unhex_at
single x k out = refl

pub double : (x y : ℕ) (rest : List ℕ) (k : ℕ) (out : List ℕ) → unhex_at (x ∷ y ∷ rest) k out ≡ byte_into (digit_of x) (digit_of y) k out (unhex_at rest)
unfolding unhex_at
double x y rest k out = refl

-- std's digit of base 16 is the specification's
pub digit_is : (b x : ℕ) (r : Option ℕ) → x ≡ b → SomeIff r (digit_value x < 16) (digit_value x) → r ≡ digit_of b
unfolding digit_of
digit_is b x None e h = grind (arith, nat_tests)
digit_is b x (Some d) e h = grind (arith, nat_tests)

-- one turn: two digits in front of the rest
two : (ds rest : List ℕ) (k : ℕ) (out : List ℕ) → length ds ≡ 2 → unhex_at (ds ++ rest) k out ≡ byte_into (digit_of (get_or ds 0 0)) (digit_of (get_or ds 1 0)) k out (unhex_at rest)
two [] rest k out h = absurd (omega arith)
two (x ∷ []) rest k out h = absurd (omega arith)
two (x ∷ y ∷ []) rest k out h = double x y rest k out
two (x ∷ y ∷ z ∷ more) rest k out h = absurd (omega arith)

module _ (whole : Result ℕ Fault × List ℕ) (xs : List ℕ) (k : ℕ) (out : List ℕ) (inv : whole ≡ unhex_at xs k out) where
  pub hex_single : length xs ≡ 1 → ◌≡◌ {A = Result ℕ Fault × List ℕ} (Err Hex, out) whole
  hex_single h = sym (inv ∙ one xs h)
    where
      one : (l : List ℕ) → length l ≡ 1 → unhex_at l k out ≡ (Err Hex, out)
      one [] e = absurd (omega arith)
      one (x ∷ []) e = single x k out
      one (x ∷ y ∷ more) e = absurd (omega arith)

  pub hex_end : length xs ≡ 0 → (n : ℕ) → n ≡ k → ◌≡◌ {A = Result ℕ Fault × List ℕ} (Ok n, out) whole
  hex_end h n e = sym (inv ∙ nothing xs h)
    where
      nothing : (l : List ℕ) → length l ≡ 0 → unhex_at l k out ≡ (Ok n, out)
      nothing [] z = none k out ∙ ap (λ (m : ℕ). (Ok m, out)) (sym e)
      nothing (x ∷ more) z = absurd (omega arith)

  module _ (ds rest : List ℕ) (is : xs ≡ ds ++ rest) (l : length ds ≡ 2) (h : Option ℕ) (eh : h ≡ digit_of (get_or ds 0 0)) where
    turn : whole ≡ byte_into h (digit_of (get_or ds 1 0)) k out (unhex_at rest)
    turn = inv ∙ ap (λ (l : List ℕ). unhex_at l k out) is ∙ two ds rest k out l ∙ rw (sym eh) refl

    pub hex_high : h ≡ None → ◌≡◌ {A = Result ℕ Fault × List ℕ} (Err Hex, out) whole
    hex_high e = sym (turn ∙ rw e refl)

    module _ (a : ℕ) (ea : h ≡ Some a) (d : Option ℕ) (ed : d ≡ digit_of (get_or ds 1 0)) where
      opens : whole ≡ byte_into (Some a) d k out (unhex_at rest)
      opens = turn ∙ rw (ea, sym ed) refl

      pub hex_low : d ≡ None → ◌≡◌ {A = Result ℕ Fault × List ℕ} (Err Hex, out) whole
      hex_low e = sym (opens ∙ rw e refl)

      module _ (b : ℕ) (eb : d ≡ Some b) where
        pub hex_many : length out ≤ k → ◌≡◌ {A = Result ℕ Fault × List ℕ} (Err Many, out) whole
        hex_many f = sym (opens ∙ rw eb (when_yes _ _ _ (le-leb _ _ f)))

        pub hex_next : (at : ℕ) → at ≡ k → (next : ℕ) → next ≡ k + 1 → at < length out → whole ≡ unhex_at rest next (set out at (a * 16 + b))
        hex_next at e next n f = rw (n, e) (opens ∙ rw eb (when_no _ _ _ (lt-leb _ _ (rw (sym e) f))))
