-- Text behind text: as much of it as there is space for.
use Prim.Native.Nat.{ℕ, zero, suc, min, ◌+◌, ◌-◌, ◌≤◌, ◌<◌}
use mathlib.Core.Path.{◌≡◌, refl, sym, ap, ap₂, ◌∙◌}
use mathlib.Core.List.{List, [], ◌∷◌, ◌++◌, append_assoc}
use native.Mathlib.Omega.{arith}
use native.Mathlib.Nat.{add-zero}
use lib.ListN.{length, take, drop, set, length-append, length-drop, take-append-drop}
use lib.Seq.{set-append_seam, length-take-le}
use lib.Dec.{leb}
use borrow.Rule.Slice.PartMut.{put_mid}
use Rattle.base.specs.Parts.{over}
use borrow.Author.Tests.{le-leb, lt-leb}
use Rattle.base.specs.Tests.{◌when◌else◌}
use Rattle.base.proofs.Tests.{when_yes, when_no}
use Rattle.shell.specs.Digits.{last_digits, IsDigitCount}
use Rattle.shell.specs.Texts.{put_at, Printed}

pub none : (at : ℕ) (out : List ℕ) → put_at [] at out ≡ (at, out)
unfolding put_at
none at out = refl

pub cons : (b : ℕ) (bs : List ℕ) (at : ℕ) (out : List ℕ) → put_at (b ∷ bs) at out ≡ ((at, out) when leb (length out) at else put_at bs (at + 1) (set out at b))
unfolding put_at
cons b bs at out = refl

-- As much as there is space for stands behind what was there.
pub put_in : (done xs old : List ℕ) (n : ℕ) → n ≡ min (length xs) (length old) → put_at xs (length done) (done ++ old) ≡ (length done + n, done ++ over (take n xs) old)
unfolding over
put_in done [] old n e =
    let z : n ≡ 0 = omega arith in
    rw z (none _ _ ∙ ap (λ (m : ℕ). (m, done ++ old)) (sym (add-zero (length done))))
put_in done (x ∷ xs) [] n e =
    let z : n ≡ 0 = omega arith in
    let full : length (done ++ []) ≤ length done = simp length-append (omega arith) in
    rw z (cons x xs _ _ ∙ when_yes _ _ _ (le-leb _ _ full) ∙ ap (λ (m : ℕ). (m, done ++ [])) (sym (add-zero (length done))))
put_in done (x ∷ xs) (o ∷ os) zero e = absurd (omega arith)
put_in done (x ∷ xs) (o ∷ os) (suc n) e =
    let fits : length done < length (done ++ (o ∷ os)) = simp length-append (omega arith) in
    let rest : n ≡ min (length xs) (length os) = omega arith in
    let place : length done + 1 ≡ length (done ++ (x ∷ [])) = simp length-append in
    let end : length (done ++ (x ∷ [])) + n ≡ length done + suc n = simp length-append (omega arith) in
    cons x xs (length done) (done ++ (o ∷ os)) ∙ when_no _ _ _ (lt-leb _ _ fits)
    ∙ ap₂ (λ (at : ℕ) (out : List ℕ). put_at xs at out) place (set-append_seam done o os x ∙ sym (append_assoc done (x ∷ []) os))
    ∙ put_in (done ++ (x ∷ [])) xs os n rest
    ∙ ap₂ (λ (m : ℕ) (l : List ℕ). (m, l)) end (append_assoc done (x ∷ []) (over (take n xs) os))

pub put_full : (xs : List ℕ) (at : ℕ) (out : List ℕ) → length out ≤ at → ◌≡◌ {A = ℕ × List ℕ} (at, out) (put_at xs at out)
put_full [] at out h = sym (none at out)
put_full (x ∷ xs) at out h = sym (cons x xs at out ∙ when_yes _ _ _ (le-leb _ _ h))

module _ (xs : List ℕ) (at : ℕ) (out : List ℕ) (room : at < length out) (n : ℕ) (e : n ≡ min (length xs) (length out - at)) where
  pub put_at_seam : put_at xs at out ≡ (at + n, take at out ++ over (take n xs) (drop at out))
  put_at_seam =
      let front : length (take at out) ≡ at = length-take-le at out (omega arith) in
      let left : n ≡ min (length xs) (length (drop at out)) = simp length-drop e in
      ap₂ (λ (m : ℕ) (l : List ℕ). put_at xs m l) (sym front) (sym (take-append-drop at out)) ∙ put_in (take at out) xs (drop at out) n left
      ∙ ap (λ (m : ℕ). (m + n, take at out ++ over (take n xs) (drop at out))) front

  pub put_done : (part : List ℕ) → part ≡ take n xs → (k : ℕ) → k ≡ n → ◌≡◌ {A = ℕ × List ℕ} (at + n, put_mid at k out part) (put_at xs at out)
  unfolding over
  put_done part is k same =
      let len : k ≡ length (take n xs) = same ∙ sym (length-take-le n xs (omega arith)) in
      ap₂ (λ (l : List ℕ) (m : ℕ). (at + n, take at out ++ (l ++ drop m (drop at out)))) is len ∙ sym put_at_seam

pub printed : (n at k end : ℕ) (before after text : List ℕ) → ◌≡◌ {A = ℕ × List ℕ} (end, after) (put_at (take k text) at before) → take k text ≡ last_digits 10 k n → IsDigitCount 10 1 n k → Printed n at before end after
printed n at k end before after text e g f = record { count = k; fewest = f; text = e ∙ ap (λ (l : List ℕ). put_at l at before) g }
