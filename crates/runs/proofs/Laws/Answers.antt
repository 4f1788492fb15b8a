-- What a function that turns a list down, or takes it, answers: by the tests that it makes.
use Prim.Native.Nat.{ℕ, ◌≤◌, ◌<◌}
use mathlib.Core.Path.{◌≡◌, refl, sym, ap, ap₂, ◌∙◌}
use mathlib.Core.Bool.{Bool, true, false, not}
use mathlib.Core.List.{List, [], ◌∷◌}
use native.Mathlib.Omega.{arith}
use borrow.Author.Tests.{lt-ltb, le-ltb}
use lib.ListN.{length}
use lib.Dec.{ltb}
use Rattle.base.specs.Tests.{◌when◌else◌}
use Rattle.base.specs.Answers.{Answer, refused, done, number_of}
use Rattle.base.specs.declared.Refusal.{Refusal}
use Rattle.base.specs.declared.Refusal.TheVariants.{Vertices, Runs}
use Rattle.base.specs.Parts.{over}
use Rattle.base.proofs.Tests.{when_yes, when_no}
use Rattle.base.proofs.Bools.{not_no, not_yes}
use Rattle.runs.specs.Orders.{most_vertices, sharp, steady, list_into}
use Rattle.runs.specs.Reverse.{oriented, reverse_runs, reverse_in_place}
use Rattle.runs.specs.Merge.{merge, merge_into}
use Rattle.runs.specs.Rotate.{rotate_runs}
use Rattle.runs.specs.Bytes.{write_runs, write_rotated}
use Rattle.runs.specs.Inside.Lists.{Taken}
use Rattle.runs.specs.Inside.Refusals.{IsTurnedDown}
use Rattle.runs.proofs.Laws.Orders.{yes_steady}
use Rattle.runs.proofs.Laws.Merge.{merge_oriented_long}
use Rattle.runs.proofs.Laws.Reverse.{length_reversed}

-- the two tests that all of them make first
module _ (n : ℕ) (ws : List ℕ) {A : Type 0} (seven six rest : A) where
  turned_down : (r : Refusal) (f : ℕ → A) → f 7 ≡ seven → f 6 ≡ six → IsTurnedDown n ws r → f (number_of r) ≡ (seven when ltb most_vertices n else (six when not (steady n ws) else rest))
  turned_down Vertices f e g h = e ∙ sym (when_yes _ _ _ (lt-ltb most_vertices n h))
  turned_down Runs f e g h = g ∙ sym (when_no _ _ _ (le-ltb most_vertices n h.0) ∙ when_yes _ _ _ (not_yes _ h.1))
  turned_down _ f e g h = absurd h

  let_through : Taken n ws → (seven when ltb most_vertices n else (six when not (steady n ws) else rest)) ≡ rest
  let_through t =
      let small : n ≤ most_vertices = omega (arith, t.small) in
      when_no _ _ _ (le-ltb most_vertices n small) ∙ when_no _ _ _ (not_no _ (yes_steady n ws t.list))

module _ (n : ℕ) (ws result out : List ℕ) where
  pub list_refused : (r : Refusal) → IsTurnedDown n ws r → ◌≡◌ {A = Answer × List ℕ} (refused (number_of r), out) (list_into n ws result out)
  unfolding list_into
  list_refused r h = turned_down n ws (refused 7, out) (refused 6, out) _ r (λ (k : ℕ). (refused k, out)) refl refl h

  module _ (t : Taken n ws) where
    pub list_3 : length out < length result → ◌≡◌ {A = Answer × List ℕ} (refused 3, out) (list_into n ws result out)
    unfolding list_into
    list_3 l = sym (let_through n ws _ _ _ t ∙ when_yes _ _ _ (lt-ltb (length out) (length result) l))

    pub list_done : (k : ℕ) (after : List ℕ) → k ≡ length result → k ≤ length out → after ≡ over result out → ◌≡◌ {A = Answer × List ℕ} (done (k ∷ []), after) (list_into n ws result out)
    unfolding list_into
    list_done k after e l a =
        let z : length result ≤ length out = omega arith in
        ap₂ (λ (x : ℕ) (y : List ℕ). (done (x ∷ []), y)) e a ∙ sym (let_through n ws _ _ _ t ∙ when_no _ _ _ (le-ltb (length out) (length result) z))

module _ (ws : List ℕ) (n : ℕ) where
  pub place_refused : (r : Refusal) → IsTurnedDown n ws r → ◌≡◌ {A = Answer × List ℕ} (refused (number_of r), ws) (reverse_in_place ws n)
  unfolding reverse_in_place
  place_refused r h = turned_down n ws (refused 7, ws) (refused 6, ws) _ r (λ (k : ℕ). (refused k, ws)) refl refl h

  pub place_done : (after : List ℕ) → Taken n ws → after ≡ reverse_runs n ws → ◌≡◌ {A = Answer × List ℕ} (done (length after ∷ []), after) (reverse_in_place ws n)
  unfolding reverse_in_place
  place_done after t e = ap₂ (λ (k : ℕ) (l : List ℕ). (done (k ∷ []), l)) (ap length e ∙ length_reversed n ws) e ∙ sym (let_through n ws _ _ _ t)

module _ (ws : List ℕ) (n pivot : ℕ) (r : Bool) (out : List ℕ) where
  pub rotated_refused : (x : Refusal) → IsTurnedDown n ws x → ◌≡◌ {A = Answer × List ℕ} (refused (number_of x), out) (write_rotated ws n pivot r out)
  unfolding write_rotated
  rotated_refused x h = turned_down n ws (refused 7, out) (refused 6, out) _ x (λ (k : ℕ). (refused k, out)) refl refl h

  pub rotated_written : Taken n ws → write_runs (rotate_runs n pivot r ws) out ≡ write_rotated ws n pivot r out
  unfolding write_rotated
  rotated_written t = sym (let_through n ws _ _ _ t)

module _ (ws : List ℕ) (n : ℕ) (r : Bool) (out : List ℕ) where
  pub merged_7 : most_vertices < n → ◌≡◌ {A = Answer × List ℕ} (refused 7, out) (merge_into ws n r out)
  unfolding merge_into
  merged_7 h = sym (when_yes _ _ _ (lt-ltb most_vertices n h))

  module _ (small : n ≤ most_vertices) where
    pub merged_6 : sharp n ws ≡ false → ◌≡◌ {A = Answer × List ℕ} (refused 6, out) (merge_into ws n r out)
    unfolding merge_into
    merged_6 e = sym (when_no _ _ _ (le-ltb most_vertices n small) ∙ when_yes _ _ _ (not_yes _ e))

    module _ (list : sharp n ws ≡ true) (k : ℕ) (count : k ≡ length (merge ws)) where
      long : k ≡ length (merge (oriented r n ws))
      long = count ∙ sym (merge_oriented_long r n ws (omega (arith, small)))

      pub merged_3 : length out < k → ◌≡◌ {A = Answer × List ℕ} (refused 3, out) (merge_into ws n r out)
      unfolding merge_into
      merged_3 l = sym (when_no _ _ _ (le-ltb most_vertices n small) ∙ when_no _ _ _ (not_no _ list) ∙ when_yes _ _ _ (lt-ltb _ _ (omega (arith, l, long))))

      pub merged_done : (after : List ℕ) → k ≤ length out → after ≡ over (merge (oriented r n ws)) out → ◌≡◌ {A = Answer × List ℕ} (done (k ∷ []), after) (merge_into ws n r out)
      unfolding merge_into
      merged_done after l e =
          ap₂ (λ (x : ℕ) (y : List ℕ). (done (x ∷ []), y)) long e
          ∙ sym (when_no _ _ _ (le-ltb most_vertices n small) ∙ when_no _ _ _ (not_no _ list) ∙ when_no _ _ _ (le-ltb _ _ (omega (arith, l, long))))
