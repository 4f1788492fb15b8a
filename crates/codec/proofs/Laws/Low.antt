-- Laws of low bits and packed bytes, for every width.
use Prim.Native.Nat.{ℕ, zero, suc, ◌+◌, ◌-◌, ◌*◌, ◌/◌, ◌%◌, ◌^◌, ◌≤◌, ◌<◌}
use mathlib.Core.Path.{◌≡◌, refl, sym, ap, ap₂, ◌∙◌}
use mathlib.Core.Bool.{Bool, true, false}
use mathlib.Core.List.{List, [], ◌∷◌, ◌++◌}
use native.Mathlib.Nat.{pow-suc, mod-one, div-div-eq-div-mul, mul_comm, zero-lt-suc, suc-add, zero-add, div-one, add-mul-div_right, add-mul-mod_self_right, mod-eq_of_lt, div-eq_of_lt, one-mul, lt_of_lt_of_le}
use native.Mathlib.Decide.{dec_lt}
use native.Mathlib.Omega.{arith}
use lib.ListN.{length, take, drop, get_or, length-append, length-take, get_or-append}
use lib.Seq.{get_or-append-add}
use lib.Pow.{pow_pos, pow_mono, pow-lt, mod-mod-pow}
use lib.Arith.{mod-mul}
use lib.Dec.{eqb}
use Rattle.std.specs.Prelude.{Option, Some, None, slice_get}
use Rattle.std.proofs.lemmas.Option.{slice_get-get_or, slice_get_past, slice_get_within, get_or_from_slice_get}
use Rattle.codec.specs.Bits.{is_one, digit, low_bits, value_of, bits_of}

pub length_low : (k n : ℕ) → length (low_bits k n) ≡ k
unfolding low_bits
length_low zero n = refl
length_low (suc k) n = ap suc (length_low k (n / 2))

pub digit_is_one : (d : ℕ) → d < 2 → digit (is_one d) ≡ d
digit_is_one zero h = refl
digit_is_one (suc d) h = omega arith

is_one_digit : (b : Bool) (m : ℕ) → is_one ((digit b + 2 * m) % 2) ≡ b
is_one_digit false m = let e : (0 + 2 * m) % 2 ≡ 0 = omega arith in rw e
is_one_digit true m = let e : (1 + 2 * m) % 2 ≡ 1 = omega arith in rw e

half_digit : (b : Bool) (m : ℕ) → (digit b + 2 * m) / 2 ≡ m
half_digit false m = omega arith
half_digit true m = omega arith

-- reading the low k bits of n as a number gives n modulo 2 ^ k
pub value_low : (k n : ℕ) → value_of (low_bits k n) ≡ n % 2 ^ k
unfolding low_bits value_of
value_low zero n = sym (mod-one n)
value_low (suc k) n =
    let d : digit (is_one (n % 2)) ≡ n % 2 = digit_is_one (n % 2) (omega arith) in
    let s : n % 2 ^ suc k ≡ n / 2 % 2 ^ k * 2 + n % 2 = ap (λ (x : ℕ). n % x) (pow-suc 2 k) ∙ mod-mul n (pow_pos k) (zero-lt-suc 1) in
    omega (arith, d, s, value_low k (n / 2))

-- and the other way round
pub low_value : (bs : List Bool) → low_bits (length bs) (value_of bs) ≡ bs
unfolding low_bits value_of
low_value [] = refl
low_value (b ∷ bs) = rw (is_one_digit, half_digit) (ap (λ (l : List Bool). b ∷ l) (low_value bs))

pub value_lt : (bs : List Bool) → value_of bs < 2 ^ length bs
unfolding value_of
value_lt [] = zero-lt-suc zero
value_lt (false ∷ bs) = omega (arith, value_lt bs, pow-suc 2 (length bs))
value_lt (true ∷ bs) = omega (arith, value_lt bs, pow-suc 2 (length bs))

pub low_mod : (k n : ℕ) → low_bits k (n % 2 ^ k) ≡ low_bits k n
low_mod k n = rw (← value_low) (ap (λ (i : ℕ). low_bits i (value_of (low_bits k n))) (sym (length_low k n)) ∙ low_value (low_bits k n))

pub low_below : (j k n : ℕ) → low_bits k (n % 2 ^ (j + k)) ≡ low_bits k n
low_below j k n = sym (low_mod k (n % 2 ^ (j + k))) ∙ ap (low_bits k) (mod-mod-pow n j k) ∙ low_mod k n

pub low_add : (j k n : ℕ) → low_bits (j + k) n ≡ low_bits j n ++ low_bits k (n / 2 ^ j)
unfolding low_bits
low_add zero k n = rw (zero-add, div-one)
low_add (suc j) k n = rw suc-add (ap (λ (l : List Bool). is_one (n % 2) ∷ l) (low_add j k (n / 2) ∙ ap (λ (x : ℕ). low_bits j (n / 2) ++ low_bits k x) (div-div-eq-div-mul n 2 (2 ^ j) ∙ ap (λ (x : ℕ). n / x) (mul_comm 2 (2 ^ j) ∙ sym (pow-suc 2 j)))))

-- the low bits of a sum of a short number and a shifted one
pub low_join : (p c a v : ℕ) → a < 2 ^ p → low_bits (p + c) (a + v * 2 ^ p) ≡ low_bits p a ++ low_bits c v
low_join p c a v h =
    let q : (a + v * 2 ^ p) / 2 ^ p ≡ v = add-mul-div_right a v (pow_pos p) ∙ ap (λ (x : ℕ). x + v) (div-eq_of_lt h) ∙ zero-add v in
    let r : (a + v * 2 ^ p) % 2 ^ p ≡ a = add-mul-mod_self_right a v (2 ^ p) ∙ mod-eq_of_lt h in
    low_add p c (a + v * 2 ^ p) ∙ ap₂ (λ (l m : List Bool). l ++ m) (sym (low_mod p (a + v * 2 ^ p)) ∙ ap (low_bits p) r) (ap (low_bits c) q)

-- bit i of n
pub get_or_low : (k n i : ℕ) → i < k → get_or (low_bits k n) i false ≡ is_one (n / 2 ^ i % 2)
unfolding low_bits
get_or_low zero n i h = absurd (omega arith)
get_or_low (suc k) n zero h = rw div-one
get_or_low (suc k) n (suc i) h =
    get_or_low k (n / 2) i (omega arith) ∙ ap (λ (x : ℕ). is_one (x % 2)) (div-div-eq-div-mul n 2 (2 ^ i) ∙ ap (λ (x : ℕ). n / x) (mul_comm 2 (2 ^ i) ∙ sym (pow-suc 2 i)))

pub length_bits : (xs : List ℕ) → length (bits_of xs) ≡ 8 * length xs
unfolding bits_of
length_bits [] = refl
length_bits (x ∷ xs) = length-append (low_bits 8 x) (bits_of xs) ∙ ap₂ (λ (m n : ℕ). m + n) (length_low 8 x) (length_bits xs) ∙ omega arith

-- bit i of a stream is bit i mod 8 of byte i div 8
pub bit_of : (xs : List ℕ) (i : ℕ) → i / 8 < length xs → get_or (bits_of xs) i false ≡ is_one (get_or xs (i / 8) 0 / 2 ^ (i % 8) % 2)
unfolding bits_of
bit_of [] i h = absurd (omega arith)
bit_of (x ∷ xs) i h = go (dec_lt i 8) (bit_of xs (i - 8))
  where
    go : Dec (i < 8) → ((i - 8) / 8 < length xs → get_or (bits_of xs) (i - 8) false ≡ is_one (get_or xs ((i - 8) / 8) 0 / 2 ^ ((i - 8) % 8) % 2))
        → get_or (low_bits 8 x ++ bits_of xs) i false ≡ is_one (get_or (x ∷ xs) (i / 8) 0 / 2 ^ (i % 8) % 2)
    go (yes l) ih =
        let q : i / 8 ≡ 0 = omega arith in
        let r : i % 8 ≡ i = omega arith in
        rw (q, r, get_or-append (low_bits 8 x) (bits_of xs) false i (rw length_low l)) (get_or_low 8 x i l)
    go (no g) ih =
        let q : i / 8 ≡ suc ((i - 8) / 8) = omega arith in
        let r : i % 8 ≡ (i - 8) % 8 = omega arith in
        let e : i ≡ length (low_bits 8 x) + (i - 8) = omega (arith, length_low 8 x) in
        let t : get_or (low_bits 8 x ++ bits_of xs) i false ≡ get_or (bits_of xs) (i - 8) false =
        ap (λ (n : ℕ). get_or (low_bits 8 x ++ bits_of xs) n false) e ∙ get_or-append-add (low_bits 8 x) (bits_of xs) (i - 8) false
        in
        rw (q, r) (t ∙ ih (omega (arith, h)))

pub value_take_lt : (bits : List Bool) (at i : ℕ) → value_of (take i (drop at bits)) < 2 ^ i
value_take_lt bits at i = lt_of_lt_of_le (value_lt (take i (drop at bits))) (pow_mono (simp length-take (omega arith)))

-- a one shifted within 64 bits
pub one_shl : (b : ℕ) → b < 64 → 1 * 2 ^ b % 2 ^ 64 ≡ 2 ^ b
one_shl b h = rw one-mul (mod-eq_of_lt (pow-lt {j = 64} h))

-- the bit at a place, if there is one
pub bit_past : (xs : List ℕ) (at : ℕ) → length xs ≤ at / 8 → slice_get (bits_of xs) at ≡ None
bit_past xs at h = slice_get_past (bits_of xs) at (rw length_bits (omega arith))

one_or_none : (d : ℕ) → d < 2 → is_one d ≡ eqb d 1
one_or_none zero h = refl
one_or_none (suc zero) h = refl
one_or_none (suc (suc d)) h = absurd (omega arith)

pub bit_there : (xs : List ℕ) (at b : ℕ) → at / 8 < length xs → b ≡ get_or xs (at / 8) 0 → slice_get (bits_of xs) at ≡ Some (eqb (b / 2 ^ (at % 8) % 2) 1)
bit_there xs at b h e =
    let inside : at < length (bits_of xs) = rw length_bits (omega arith) in
    rw e (slice_get-get_or (bits_of xs) at false inside ∙ ap Some (bit_of xs at h ∙ one_or_none (get_or xs (at / 8) 0 / 2 ^ (at % 8) % 2) (omega arith)))

-- a bit that is there, by its place
pub bit_is : (xs : List ℕ) (at : ℕ) (b : Bool) → Some b ≡ slice_get (bits_of xs) at → (at < 8 * length xs) × (get_or (bits_of xs) at false ≡ b)
bit_is xs at b e =
    (rw (← length_bits) (slice_get_within (bits_of xs) at b (sym e)), get_or_from_slice_get (bits_of xs) at b false (sym e))

pub bits_end : (xs : List ℕ) (at : ℕ) → None ≡ slice_get (bits_of xs) at → length (bits_of xs) ≤ at
bits_end xs at e = go (dec_lt at (length (bits_of xs)))
  where
    go : Dec (at < length (bits_of xs)) → length (bits_of xs) ≤ at
    go (no h) = omega arith
    go (yes h) = let q = slice_get-get_or (bits_of xs) at false h in let x : ◌≡◌ {A = Option Bool} None (Some (get_or (bits_of xs) at false)) = e ∙ q in absurd cc
