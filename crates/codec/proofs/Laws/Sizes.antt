-- A set's payload has at most 4 * (N + 1) bytes, for N up to 2 ^ 20.
use Prim.Native.Nat.{ℕ, zero, suc, ◌+◌, ◌-◌, ◌*◌, ◌/◌, ◌^◌, ◌≤◌, ◌<◌}
use mathlib.Core.Path.{◌≡◌, refl, ap}
use mathlib.Core.Bool.{Bool, true, false, cond}
use mathlib.Core.List.{List, [], ◌∷◌}
use native.Mathlib.Omega.{arith}
use lib.ListN.{length, length-append}
use lib.Dec.{ltb}
use borrow.Author.Tests.{ltb-true, ltb-false}
use Rattle.codec.specs.Bits.{pack_bits, pack_bytes, bytes_for}
use Rattle.codec.specs.Codes.{delta}
use Rattle.codec.specs.Sets.{Within, absent, gap_bits, Regime, empty, sparse, bitmap, dense, regime, body_bits, set_bits, encode_set}
use Rattle.codec.proofs.Laws.Bits.{delta_short}
use Rattle.codec.proofs.Laws.Sets.{length_map_bits, absent_within, absent_count}

length_gaps : (xs : List ℕ) (from top : ℕ) → top ≤ 2 ^ 20 → Within from top xs → length (gap_bits from xs) ≤ 29 * length xs
unfolding gap_bits
length_gaps [] from top h w = omega arith
length_gaps (x ∷ xs) from top h w =
    omega (arith, length-append (delta (x - from)) (gap_bits (x + 1) xs), delta_short (x - from) (omega (arith, w.1)), length_gaps xs (x + 1) top h w.2)

-- what a regime says of the length
abbrev Says : Regime → ℕ → ℕ → Type 0
Says empty N n = n ≡ 0
Says sparse N n = n < N / 4
Says bitmap N n = Unit {0}
Says dense N n = 3 * N / 4 ≤ n

says : (N n : ℕ) → Says (regime N n) N n
unfolding regime
says N zero = refl
says N (suc n) = go (ltb (suc n) (N / 4)) (ltb (suc n) (3 * N / 4)) refl refl
  where
    go : (a b : Bool) → ltb (suc n) (N / 4) ≡ a → ltb (suc n) (3 * N / 4) ≡ b → Says (cond a sparse (cond b bitmap dense)) N (suc n)
    go true b p q = ltb-true (suc n) (N / 4) p
    go false true p q = tt
    go false false p q = ltb-false (suc n) (3 * N / 4) q

length_body : (r : Regime) (N : ℕ) (xs : List ℕ) → N ≤ 2 ^ 20 → Within 0 N xs → Says r N (length xs) → length (body_bits r N xs) ≤ 29 + 29 * (N / 4)
length_body empty N xs h w s = omega arith
length_body sparse N xs h w s = omega (arith, length_gaps xs 0 N h w)
length_body bitmap N xs h w s = omega (arith, length_map_bits N 0 xs)
length_body dense N xs h w s = omega (arith, length_gaps (absent N xs) 0 N h (absent_within N xs w), absent_count N xs w)

pub length_pack : (n : ℕ) (bits : List Bool) → length (pack_bytes n bits) ≡ n
unfolding pack_bytes
length_pack zero bits = refl
length_pack (suc n) bits = ap suc (length_pack n _)

pub set_size : (N : ℕ) (xs : List ℕ) → N ≤ 2 ^ 20 → Within 0 N xs → length (set_bits N xs) ≤ 58 + 29 * (N / 4)
unfolding set_bits
set_size N xs h w =
    let m : length xs + length (absent N xs) ≡ N = absent_count N xs w in
    omega (arith, length-append (delta (length xs)) (body_bits (regime N (length xs)) N xs), delta_short (length xs) (omega (arith, m)), length_body (regime N (length xs)) N xs h w (says N (length xs)))

pub length_payload : (N : ℕ) (xs : List ℕ) → length (encode_set N xs) ≡ bytes_for (length (set_bits N xs))
unfolding encode_set pack_bits
length_payload N xs = length_pack (bytes_for (length (set_bits N xs))) (set_bits N xs)

pub payload_size : (N : ℕ) (xs : List ℕ) → 1 ≤ N → N ≤ 2 ^ 20 → Within 0 N xs → length (encode_set N xs) ≤ 4 * (N + 1)
payload_size N xs p h w = omega (arith, set_size N xs h w, length_payload N xs)

pub payload_short : (N : ℕ) (xs : List ℕ) → N < 136 → Within 0 N xs → length (encode_set N xs) < 128
payload_short N xs h w = omega (arith, set_size N xs (omega arith) w, length_payload N xs)
