-- A number as decimal digits: powers of ten, and one turn of the loop that writes.
use Prim.Native.Nat.{ℕ, zero, suc, ◌-◌, ◌/◌, ◌%◌, ◌^◌, ◌≤◌, ◌<◌}
use mathlib.Core.Path.{◌≡◌, refl, sym, ap, subst, ◌∙◌}
use mathlib.Core.List.{List, [], ◌∷◌, ◌++◌, append-nil}
use native.Mathlib.Omega.{arith}
use native.Mathlib.Nat.{le_of_suc-le-suc, not-suc-le-zero, pow-le-pow_right, lt_of_not-le}
use native.Mathlib.Numerals.{sub-one}
use lib.ListN.{length, take, drop, set}
use lib.Seq.{slice, slice_empty, take_all, length-take-le, take-set-lt, append_snoc}
use Rattle.shell.specs.Digits.{hex_digit_ascii, last_digits, IsDigitCount}

too_many : (n k most : ℕ) → IsDigitCount 10 1 n k → n < 10 ^ most → 1 ≤ most → most < k → ⊥
too_many n k most fewest holds some over =
    let p : 10 ^ (k - 1) ≤ n = fewest.2 (omega arith) in
    let q : 10 ^ most ≤ 10 ^ (k - 1) = pow-le-pow_right {n = 10} (omega arith) (omega arith) in
    omega arith

-- Twenty digits hold a number of 64 bits.
pub count_fits : (n k : ℕ) → IsDigitCount 10 1 n k → n < 2 ^ 64 → k ≤ 20
count_fits n k fewest small = le_of_suc-le-suc (lt_of_not-le (too_many n k 20 fewest (omega arith) (omega arith)))

-- Behind a place that was written stands what was written, and then what stood there.
drop_set : (t : List ℕ) (j g : ℕ) → j < length t → drop j (set t j g) ≡ g ∷ drop (suc j) t
drop_set [] j g h = absurd (not-suc-le-zero h)
drop_set (x ∷ xs) zero g h = refl
drop_set (x ∷ xs) (suc j) g h = drop_set xs j g (le_of_suc-le-suc h)

-- A turn moves the last of the digits that are to be written to the front of those that are.
pub digit_step : (i k rest g : ℕ) (out : List ℕ) → 0 < i → i ≤ k → k ≤ length out → g ≡ hex_digit_ascii (rest % 10) → last_digits 10 (i - 1) (rest / 10) ++ slice (i - 1) k (set out (i - 1) g) ≡ last_digits 10 i rest ++ slice i k out
digit_step zero k rest g out some h room e = absurd (not-suc-le-zero some)
digit_step (suc j) k rest g out some h room e =
    let todo = last_digits 10 j (rest / 10) in
    let done = slice (suc j) k out in
    let within : j < length (take k out) = subst (λ (n : ℕ). j < n) (sym (length-take-le k out room)) h in
    ap (λ (m : ℕ). last_digits 10 m (rest / 10) ++ slice m k (set out m g)) (sub-one (suc j))
    ∙ ap (λ (l : List ℕ). todo ++ drop j l) (take-set-lt k out j g h)
    ∙ ap (λ (l : List ℕ). todo ++ l) (drop_set (take k out) j g within)
    ∙ ap (λ (x : ℕ). todo ++ x ∷ done) e
    ∙ sym (append_snoc todo (hex_digit_ascii (rest % 10)) done)

pub digits_begin : (n : ℕ) (out : List ℕ) → last_digits 10 (length out) n ++ slice (length out) (length out) out ≡ last_digits 10 (length out) n
digits_begin n out = ap (λ (l : List ℕ). last_digits 10 (length out) n ++ l) (slice_empty (length out) out) ∙ append-nil (last_digits 10 (length out) n)

pub digits_end : (n i rest k : ℕ) (out : List ℕ) → i ≤ 0 → length out ≡ k → last_digits 10 i rest ++ slice i k out ≡ last_digits 10 k n → out ≡ last_digits 10 k n
digits_end n zero rest k out h l e = let all : length out ≤ k = omega arith in sym (take_all k out all) ∙ e
digits_end n (suc i) rest k out h l e = absurd (omega arith)
