-- Laws of a colour count and the ids of a set: what the operations answer where these are turned down, and where they are taken.
use Prim.Native.Nat.{ℕ, ◌^◌, ◌≤◌, ◌<◌}
use mathlib.Core.Path.{◌≡◌, refl, sym, ap, ◌∙◌}
use mathlib.Core.Bool.{Bool, true, false, not}
use mathlib.Core.List.{List, [], ◌∷◌}
use Rattle.std.proofs.Common.{⊎_elim, Result, Ok, Err}
use lib.ListN.{length}
use borrow.Author.Tests.{lt-ltb, le-ltb}
use Rattle.base.specs.Answers.{Answer, refused, done, number_of}
use Rattle.base.specs.Parts.{over}
use Rattle.base.specs.Tests.{◌when◌else◌}
use Rattle.base.specs.declared.Refusal.{Refusal}
use Rattle.base.specs.declared.Refusal.TheVariants.{Colors, Ids}
use Rattle.base.proofs.Bools.{not_yes, not_no}
use Rattle.base.proofs.Tests.{when_yes, when_no}
use Rattle.codec.specs.Bits.{AreBytes}
use Rattle.codec.specs.Sets.{Within, within}
use Rattle.codec.specs.Inside.Colors.{Turned}
use Rattle.codec.specs.Records.{bad_colors, record_of, read_record, measured, write_record, record_length, gives_ids, is_record}
use Rattle.codec.proofs.Laws.Reading.{in_limits}
use Rattle.codec.proofs.Laws.Compared.{within_all, gives_none}

-- ---- the length of a record, by what measuring finds

abbrev pub length_of : Result (ℕ × List ℕ) Refusal → Answer
length_of (Ok m) = done (length (record_of m.0 m.1) ∷ [])
length_of (Err r) = refused (number_of r)

pub length_measured : (N : ℕ) (ids : List ℕ) → record_length N ids ≡ length_of (measured N ids)
unfolding record_length measured ◌when◌else◌
length_measured N ids = go (bad_colors N) (within 0 N ids)
  where
    found : Bool → Bool → Result (ℕ × List ℕ) Refusal
    found b w = ◌when◌else◌ (Err Colors) b (◌when◌else◌ (Err Ids) (not w) (Ok (N, ids)))

    go : (b w : Bool) → ◌when◌else◌ (refused 1) b (◌when◌else◌ (refused 2) (not w) (done (length (record_of N ids) ∷ []))) ≡ length_of (found b w)
    go true w = refl
    go false true = refl
    go false false = refl

-- ---- a set that is turned down, and one that is taken

module _ (N : ℕ) (ids : List ℕ) (r : Refusal) (t : Turned N ids r) where
  pub turned_measured : measured N ids ≡ Err r
  unfolding measured
  turned_measured = ⊎_elim (λ c. when_yes _ _ _ c.0 ∙ ap Err (sym c.1)) (λ c. when_no _ _ _ c.0 ∙ when_yes _ _ _ (not_yes _ c.1) ∙ ap Err (sym c.2)) t

  pub turned_write : (out : List ℕ) → write_record N ids out ≡ (refused (number_of r), out)
  unfolding write_record
  turned_write out = ⊎_elim (λ c. when_yes _ _ _ c.0 ∙ ap (λ (e : Refusal). (refused (number_of e), out)) (sym c.1)) (λ c. when_no _ _ _ c.0 ∙ when_yes _ _ _ (not_yes _ c.1) ∙ ap (λ (e : Refusal). (refused (number_of e), out)) (sym c.2)) t

  pub turned_is : (input : List ℕ) → AreBytes input → is_record N ids input ≡ false
  unfolding is_record
  turned_is input h = ⊎_elim (λ c. when_yes _ _ _ c.0) (λ c. when_no _ _ _ c.0 ∙ gives_none N ids input h c.1) t

module _ (N : ℕ) (ids : List ℕ) (some : 1 ≤ N) (few : N ≤ 2 ^ 20) (w : Within 0 N ids) where
  pub taken_measured : measured N ids ≡ Ok (N, ids)
  unfolding measured
  taken_measured = when_no _ _ _ (in_limits N some few) ∙ when_no _ _ _ (not_no _ (within_all 0 N ids w))

  pub taken_short : (out : List ℕ) → length out < length (record_of N ids) → write_record N ids out ≡ (refused 3, out)
  unfolding write_record
  taken_short out h = when_no _ _ _ (in_limits N some few) ∙ when_no _ _ _ (not_no _ (within_all 0 N ids w)) ∙ when_yes _ _ _ (lt-ltb _ _ h)

  pub taken_write : (out : List ℕ) → length (record_of N ids) ≤ length out → write_record N ids out ≡ (done (length (record_of N ids) ∷ []), over (record_of N ids) out)
  unfolding write_record
  taken_write out h = when_no _ _ _ (in_limits N some few) ∙ when_no _ _ _ (not_no _ (within_all 0 N ids w)) ∙ when_no _ _ _ (le-ltb _ _ h)

  pub taken_is : (input : List ℕ) → is_record N ids input ≡ gives_ids (read_record N input) ids
  unfolding is_record
  taken_is input = when_no _ _ _ (in_limits N some few)
