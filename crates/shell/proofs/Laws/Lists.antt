-- What the words of a line say: one word, and one turn of the loop over them.
use Rattle.std.proofs.Common.{◌≡◌, ℕ, zero, suc, ◌+◌, ◌-◌, ◌≤◌, ◌<◌, List, length, set, sym, ap, ◌∙◌, arith}
use Rattle.std.specs.Prelude.{Option, Some, None, Result, Ok, Err}
use borrow.Author.Tests.{le-leb, lt-leb}
use Rattle.base.proofs.Tests.{when_yes, when_no}
use Rattle.shell.specs.declared.lists.Item.{Item}
use Rattle.shell.specs.declared.reasons.Fault.{Fault}
use Rattle.shell.specs.declared.reasons.Fault.TheVariants.{Many}
use Rattle.shell.specs.Lists.{item_at, item_into, list_from}

module _ {T : Type 0} (said : List ℕ → Result T Fault) (whole : Result ℕ Fault × List T) (line : List ℕ) (left at k : ℕ) (out : List T) (inv : whole ≡ list_from said left line at k out) where
  module _ (h : 0 < left) (r : Result (Option (Item T)) Fault) (e : r ≡ item_at said line at) where
    opens : whole ≡ item_into r k out (list_from said (left - 1) line)
    unfolding list_from
    opens =
        let s : left ≡ suc (left - 1) = omega arith in
        inv ∙ ap (λ (n : ℕ). list_from said n line at k out) s ∙ ap (λ i. item_into i k out (list_from said (left - 1) line)) (sym e)

    pub list_none : r ≡ Ok None → ◌≡◌ {A = Result ℕ Fault × List T} (Ok k, out) whole
    list_none g = sym (opens ∙ ap (λ i. item_into i k out (list_from said (left - 1) line)) g)

    pub list_wrong : (f : Fault) → r ≡ Err f → ◌≡◌ {A = Result ℕ Fault × List T} (Err f, out) whole
    list_wrong f g = sym (opens ∙ ap (λ i. item_into i k out (list_from said (left - 1) line)) g)

    module _ (i : Item T) (g : r ≡ Ok (Some i)) where
      pub list_many : length out ≤ k → ◌≡◌ {A = Result ℕ Fault × List T} (Err Many, out) whole
      list_many f = sym (opens ∙ ap (λ j. item_into j k out (list_from said (left - 1) line)) g ∙ when_yes _ _ _ (le-leb _ _ f))

      pub list_next : k < length out → (fewer : ℕ) → fewer ≡ left - 1 → whole ≡ list_from said fewer line i.next (k + 1) (set out k i.value)
      list_next f fewer d = rw d (opens ∙ ap (λ j. item_into j k out (list_from said (left - 1) line)) g ∙ when_no _ _ _ (lt-leb _ _ f))

  pub list_end : left ≤ 0 → (n : ℕ) → n ≡ k → ◌≡◌ {A = Result ℕ Fault × List T} (Ok n, out) whole
  unfolding list_from
  list_end h n e =
      let z : left ≡ zero = omega arith in
      rw e (sym (inv ∙ ap (λ (m : ℕ). list_from said m line at k out) z))
