-- A run as OFFSET:COORDINATE: its cases.
use Rattle.std.proofs.Common.{◌≡◌, ℕ, ◌+◌, ◌-◌, ◌*◌, ◌≤◌, List, length, take, drop, refl, sym, ap, ◌∙◌}
use Rattle.std.specs.Prelude.{Some, None, Ok, Err, ◌==◌, ◌==◌}
use Rattle.std.specs.List.{position}
use borrow.Author.Tests.{le-leb, lt-leb, le-ltb}
use Rattle.base.proofs.Tests.{when_yes, when_no}
use Rattle.shell.specs.declared.numbers.NumberError.{NumberError}
use Rattle.shell.specs.declared.numbers.NumberError.TheVariants.{Bad}
use Rattle.shell.specs.Numbers.{decimal_of}
use Rattle.shell.specs.Pairs.{pack, packed, halves, pair_of}
use Rattle.shell.proofs.Laws.Positions.{found, missed, rest_whole}

packs : (low high : ℕ) → low ≤ 16777215 → high ≤ 1099511627775 → pack low high ≡ Ok (low + 16777216 * high)
unfolding pack
packs low high l h = when_no _ _ _ (le-ltb _ _ l) ∙ when_no _ _ _ (le-ltb _ _ h)

module _ (xs : List ℕ) where
  pub pair_none : position (λ b. b == 58) xs ≡ None → Err Bad ≡ pair_of xs
  unfolding pair_of halves
  pair_none e = sym (when_yes _ _ _ (le-leb _ _ (missed (λ b. b == 58) xs e)))

  module _ (k : ℕ) (e : position (λ b. b == 58) xs ≡ Some k) where
    opens : pair_of xs ≡ packed (decimal_of 16777215 (take k xs)) (decimal_of 1099511627775 (take (length xs - (k + 1)) (drop (k + 1) xs)))
    unfolding pair_of halves
    opens =
        let f = found (λ b. b == 58) xs k e in
        ap (λ (j : ℕ). halves j xs) f.0 ∙ when_no _ _ _ (lt-leb _ _ f.1) ∙ ap (λ (l : List ℕ). packed (decimal_of 16777215 (take k xs)) (decimal_of 1099511627775 l)) (sym (rest_whole xs (k + 1)))

    pub pair_offset : (f : NumberError) → decimal_of 16777215 (take k xs) ≡ Err f → Err f ≡ pair_of xs
    pair_offset f o = sym (opens ∙ rw o refl)

    module _ (low : ℕ) (o : decimal_of 16777215 (take k xs) ≡ Ok low) where
      pub pair_coordinate : (f : NumberError) → decimal_of 1099511627775 (take (length xs - (k + 1)) (drop (k + 1) xs)) ≡ Err f → Err f ≡ pair_of xs
      pair_coordinate f c = sym (opens ∙ rw (o, c) refl)

      pub pair_both : (high : ℕ) → decimal_of 1099511627775 (take (length xs - (k + 1)) (drop (k + 1) xs)) ≡ Ok high → low ≤ 16777215 → high ≤ 1099511627775 → Ok (low + 16777216 * high) ≡ pair_of xs
      pair_both high c l h = sym (opens ∙ rw (o, c) (packs low high l h))
