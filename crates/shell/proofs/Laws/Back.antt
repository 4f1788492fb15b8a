-- What was printed reads back: a number from its decimal digits, bytes from their hexadecimal ones.
use Prim.Native.Nat.{ℕ, zero, suc, ◌+◌, ◌-◌, ◌*◌, ◌/◌, ◌%◌, ◌^◌, ◌≤◌, ◌<◌}
use mathlib.Core.Path.{◌≡◌, sym, ap, ap₂, ◌∙◌}
use mathlib.Core.Bool.{false}
use Rattle.std.specs.Prelude.{◌==◌}
use mathlib.Core.List.{List, [], ◌∷◌, ◌++◌, append_assoc, append-nil}
use native.Mathlib.Omega.{arith}
use native.Mathlib.Nat.{pow-suc, add-zero, zero-add}
use lib.ListN.{length, take, drop, get_or, set, length-append, length-drop, take-append-drop}
use lib.Seq.{drop_at, take_all, take-append_seam, set-append_seam, length-take-le}
use borrow.Author.Tests.{le-ltb, lt-leb, ne_eqb}
use Rattle.std.proofs.lemmas.Bool.Decides.{nat_tests}
use Rattle.base.specs.Parts.{over}
use Rattle.base.proofs.Tests.{when_no}
use Rattle.shell.specs.Digits.{last_digits, IsDigitCount, hex_digit_ascii}
use Rattle.std.specs.Prelude.{Option, Some, Ok}
use Rattle.shell.specs.Numbers.{digit_of as decimal_digit, digit_into, number_from, decimal_of}
use Rattle.shell.specs.Hexes.{digit_of, byte_into, unhex_at, hex_of}
use Rattle.shell.specs.Texts.{put_at, Printed}
use Rattle.shell.proofs.Laws.Numbers.{number_start, from_none, from_cons}
use Rattle.shell.proofs.Laws.Hexes as hexes
use Rattle.shell.proofs.Laws.Texts.{put_in}

-- Decimal: one digit more.
digit_said : (d : ℕ) → d < 10 → decimal_digit (hex_digit_ascii d) ≡ Some d
unfolding decimal_digit
digit_said d h = grind (arith, nat_tests)

one_digit : (most v d : ℕ) (rest : List ℕ) → d < 10 → v * 10 + d ≤ most → number_from most v (hex_digit_ascii d ∷ rest) ≡ number_from most (v * 10 + d) rest
one_digit most v d rest h l =
    from_cons most v (hex_digit_ascii d) rest ∙ ap (λ r. digit_into most v r (λ w. number_from most w rest)) (digit_said d h) ∙ when_no _ _ _ (le-ltb _ _ l)

all_digits : (most k n : ℕ) (rest : List ℕ) → n ≤ most → n < 10 ^ k → number_from most 0 (last_digits 10 k n ++ rest) ≡ number_from most n rest
all_digits most zero n rest l h =
    let e : 0 ≡ n = omega arith in
    ap (λ (m : ℕ). number_from most m rest) e
all_digits most (suc k) n rest l h =
    let p : n < 10 ^ k * 10 = rw pow-suc at h in
    let a : n / 10 ≤ most = omega arith in
    let b : n / 10 < 10 ^ k = omega arith in
    let c : n % 10 < 10 = omega arith in
    let e : n / 10 * 10 + n % 10 ≡ n = omega arith in
    let d : n / 10 * 10 + n % 10 ≤ most = omega arith in
    ap (number_from most 0) (append_assoc (last_digits 10 k (n / 10)) (hex_digit_ascii (n % 10) ∷ []) rest)
    ∙ all_digits most k (n / 10) (hex_digit_ascii (n % 10) ∷ rest) a b ∙ one_digit most (n / 10) (n % 10) rest c d
    ∙ ap (λ (m : ℕ). number_from most m rest) e

some : (xs : List ℕ) (x : ℕ) → false ≡ (length (xs ++ (x ∷ [])) == 0)
some xs x = sym (ne_eqb _ _ (λ e. omega (arith, length-append xs (x ∷ []))))

-- The law: the digits of a number say the number, where it is at most `most`.
pub number_back : (most k n : ℕ) → n ≤ most → IsDigitCount 10 1 n k → decimal_of most (last_digits 10 k n) ≡ Ok n
number_back most zero n l f = absurd (omega (arith, f.0))
number_back most (suc k) n l f =
    number_start most (last_digits 10 (suc k) n) (some (last_digits 10 k (n / 10)) (hex_digit_ascii (n % 10)))
    ∙ ap (number_from most 0) (sym (append-nil (last_digits 10 (suc k) n)))
    ∙ all_digits most (suc k) n [] l f.1 ∙ from_none most n

-- Text that found its space stands where it was put.
put_back : (xs : List ℕ) (at : ℕ) (out : List ℕ) → at + length xs ≤ length out → (end : ℕ) (after : List ℕ) → ◌≡◌ {A = ℕ × List ℕ} (end, after) (put_at xs at out) → take (end - at) (drop at after) ≡ xs
unfolding over
put_back xs at out h end after e =
    let front : length (take at out) ≡ at = length-take-le at out (omega arith) in
    let p = e ∙ ap₂ (λ (n : ℕ) (l : List ℕ). put_at xs n l) (sym front) (sym (take-append-drop at out)) ∙ put_in (take at out) xs (drop at out) (length xs) (simp length-drop (omega arith)) in
    let n : length xs ≡ end - at = omega (arith, ap (λ (q : ℕ × List ℕ). q.0) p) in
    ap₂ (λ (k : ℕ) (l : List ℕ). take k (drop at l)) (sym n) (ap (λ (q : ℕ × List ℕ). q.1) p)
    ∙ ap (take (length xs)) (drop_at (take at out) (over (take (length xs) xs) (drop at out)) at front)
    ∙ ap (λ (l : List ℕ). take (length xs) (over l (drop at out))) (take_all (length xs) xs (omega arith))
    ∙ take-append_seam xs (drop (length xs) (drop at out))

-- The same of memory: where the print found its space, reading what it wrote gives the number.
pub printed_back : (most n at : ℕ) (before : List ℕ) (end : ℕ) (after : List ℕ) (p : Printed n at before end after) → n ≤ most → at + length (last_digits 10 p.count n) ≤ length before → decimal_of most (take (end - at) (drop at after)) ≡ Ok n
printed_back most n at before end after p l h =
    ap (decimal_of most) (put_back (last_digits 10 p.count n) at before h end after p.text) ∙ number_back most p.count n l p.fewest

-- Hexadecimal: one digit.
digit_back : (d : ℕ) → d < 16 → digit_of (hex_digit_ascii d) ≡ Some d
unfolding digit_of
digit_back d h = grind (arith, nat_tests)

-- One byte: two digits put it at its place.
byte_back : (b k : ℕ) (rest out : List ℕ) → b < 256 → k < length out → unhex_at (hex_digit_ascii (b / 16) ∷ hex_digit_ascii (b % 16) ∷ rest) k out ≡ unhex_at rest (k + 1) (set out k b)
byte_back b k rest out h f =
    let p : b / 16 < 16 = omega arith in
    let q : b % 16 < 16 = omega arith in
    let e : b / 16 * 16 + b % 16 ≡ b = omega arith in
    hexes.double (hex_digit_ascii (b / 16)) (hex_digit_ascii (b % 16)) rest k out
    ∙ ap₂ (λ (x y : Option ℕ). byte_into x y k out (unhex_at rest)) (digit_back (b / 16) p) (digit_back (b % 16) q)
    ∙ when_no _ _ _ (lt-leb _ _ f)
    ∙ ap (λ (x : ℕ). unhex_at rest (k + 1) (set out k x)) e

hex_in : (done bs old : List ℕ) → ((i : ℕ) → i < length bs → get_or bs i 0 < 256) → length bs ≤ length old → unhex_at (hex_of bs) (length done) (done ++ old) ≡ (Ok (length done + length bs), done ++ over bs old)
unfolding over hex_of
hex_in done [] old w h = hexes.none _ _ ∙ ap (λ (n : ℕ). (Ok n, done ++ old)) (sym (add-zero (length done)))
hex_in done (b ∷ bs) [] w h = absurd (omega arith)
hex_in done (b ∷ bs) (o ∷ os) w h =
    let fits : length done < length (done ++ (o ∷ os)) = simp length-append (omega arith) in
    let rest : length bs ≤ length os = omega arith in
    let place : length done + 1 ≡ length (done ++ (b ∷ [])) = simp length-append in
    let end : length (done ++ (b ∷ [])) + length bs ≡ length done + suc (length bs) = simp length-append (omega arith) in
    byte_back b (length done) (hex_of bs) (done ++ (o ∷ os)) (w 0 (omega arith)) fits
    ∙ ap₂ (λ (at : ℕ) (out : List ℕ). unhex_at (hex_of bs) at out) place (set-append_seam done o os b ∙ sym (append_assoc done (b ∷ []) os))
    ∙ hex_in (done ++ (b ∷ [])) bs os (λ i l. w (suc i) (omega arith)) rest
    ∙ ap₂ (λ (n : ℕ) (l : List ℕ). (Ok n, l)) end (append_assoc done (b ∷ []) (over bs os))

-- The law: the digits of some bytes say the bytes, where the output has space for them.
pub hex_back : (bs out : List ℕ) → ((i : ℕ) → i < length bs → get_or bs i 0 < 256) → length bs ≤ length out → unhex_at (hex_of bs) 0 out ≡ (Ok (length bs), over bs out)
hex_back bs out w h = hex_in [] bs out w h ∙ ap (λ (n : ℕ). (Ok n, over bs out)) (zero-add (length bs))
