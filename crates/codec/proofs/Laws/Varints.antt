-- The written form, by how large the number is.
use Prim.Native.Nat.{ℕ, zero, suc, ◌+◌, ◌-◌, ◌*◌, ◌/◌, ◌%◌, ◌^◌, ◌≤◌, ◌<◌, max}
use mathlib.Core.Path.{◌≡◌, refl, sym, ap, ◌∙◌, subst}
use mathlib.Core.List.{List, [], ◌∷◌, ◌++◌, append_assoc}
use native.Mathlib.Omega.{arith}
use native.Mathlib.Decide.{dec_lt}
use native.Mathlib.Nat.{pow-suc, div-lt_iff_lt-mul, suc-add}
use borrow.Author.Tests.{lt-ltb, le-ltb}
use lib.Dec.{lit<}
use lib.ListN.{length, length-append}
use Rattle.codec.specs.Prefix.{leb_in, prefix_of}

leb_last : (k n : ℕ) → n < 128 → leb_in (suc k) n ≡ n ∷ []
unfolding leb_in
leb_last k n h = rw (lt-ltb n 128 h)

leb_more : (k n : ℕ) → 128 ≤ n → leb_in (suc k) n ≡ (n % 128 + 128) ∷ leb_in k (n / 128)
unfolding leb_in
leb_more k n h = rw (le-ltb n 128 h)

leb_some : (k n : ℕ) → 1 ≤ length (leb_in (suc k) n)
leb_some k n = go (dec_lt n 128)
  where
    go : Dec (n < 128) → 1 ≤ length (leb_in (suc k) n)
    go (yes h) = rw (leb_last k n h) (omega arith)
    go (no h) = rw (leb_more k n (omega arith)) (omega arith)

pub prefix_1 : (n : ℕ) → n < 128 → prefix_of n ≡ n ∷ []
unfolding prefix_of
prefix_1 n h = leb_last 4 n h

-- how many groups there are, by the powers of 128 about n
leb_size : (k more n : ℕ) → 128 ^ k ≤ max n 1 → n < 128 ^ suc k → length (leb_in (suc (k + more)) n) ≡ suc k
leb_size zero more n low high = ap length (leb_last (zero + more) n high)
leb_size (suc k) more n low high =
    let step : suc k + more ≡ suc (k + more) = suc-add k more in
    let low' : 128 ^ k * 128 ≤ max n 1 = subst (λ (x : ℕ). x ≤ max n 1) (pow-suc 128 k) low in
    let one : 1 ≤ 128 ^ k = pow_some k in
    let h : 128 ≤ n = omega arith in
    let high' : n / 128 < 128 ^ suc k = (div-lt_iff_lt-mul (lit< tt)).1 (subst (λ (x : ℕ). n < x) (pow-suc 128 (suc k)) high) in
    rw step (ap length (leb_more (suc (k + more)) n h) ∙ ap suc (leb_size k more (n / 128) (omega arith) high'))
  where
    pow_some : (k : ℕ) → 1 ≤ 128 ^ k
    pow_some zero = omega arith
    pow_some (suc k) = omega (arith, pow-suc 128 k, pow_some k)

pub prefix_size : (k more n : ℕ) → suc (k + more) ≡ 5 → 128 ^ k ≤ max n 1 → n < 128 ^ suc k → suc k ≡ length (prefix_of n)
unfolding prefix_of
prefix_size k more n all low high = sym (ap (λ (i : ℕ). length (leb_in i n)) (sym all) ∙ leb_size k more n low high)

-- the i groups in front of n's written form are passed, and the others are those of `rest`
pub record Passed (n i rest : ℕ) (front : List ℕ) : Type 0 where
  pub few : i ≤ 4
  pub small : rest < 128 ^ (5 - i)
  pub size : length front ≡ i
  pub groups : prefix_of n ≡ front ++ leb_in (5 - i) rest

pub passed_none : (n : ℕ) → n < 2 ^ 32 → Passed n 0 n []
unfolding prefix_of
passed_none n h = record { few = omega arith; small = omega arith; size = refl; groups = refl }

module _ (n i rest : ℕ) (front : List ℕ) (p : Passed n i rest front) where
  one_less : 5 - i ≡ suc (5 - (i + 1))
  one_less = omega (arith, p.few)

  groups_of : prefix_of n ≡ front ++ leb_in (suc (5 - (i + 1))) rest
  groups_of = p.groups ∙ ap (λ (k : ℕ). front ++ leb_in k rest) one_less

  -- the last group
  pub passed_last : rest < 128 → prefix_of n ≡ front ++ (rest ∷ [])
  passed_last h = groups_of ∙ ap (λ (l : List ℕ). front ++ l) (leb_last (5 - (i + 1)) rest h)

  pub passed_some : i < length (prefix_of n)
  passed_some = rw groups_of (omega (arith, length-append front (leb_in (suc (5 - (i + 1))) rest), p.size, leb_some (5 - (i + 1)) rest))

  -- one group more
  module _ (h : 128 ≤ rest) where
    not_last : i < 4
    not_last = go (dec_lt i 4)
      where
        go : Dec (i < 4) → i < 4
        go (yes l) = l
        go (no l) = let k : 5 - i ≡ 1 = omega (arith, p.few) in let small : rest < 128 ^ 1 = subst (λ (m : ℕ). rest < 128 ^ m) k p.small in absurd (omega arith)

    pub passed_more : Passed n (i + 1) (rest / 128) (front ++ ((rest % 128 + 128) ∷ []))
    passed_more = record {
      few = omega (arith, not_last);
      small = (div-lt_iff_lt-mul (lit< tt)).1 (subst (λ (x : ℕ). rest < x) (ap (λ (k : ℕ). 128 ^ k) one_less ∙ pow-suc 128 (5 - (i + 1))) p.small);
      size = length-append front ((rest % 128 + 128) ∷ []) ∙ ap (λ (k : ℕ). k + 1) p.size;
      groups = groups_of ∙ ap (λ (l : List ℕ). front ++ l) (leb_more (5 - (i + 1)) rest h) ∙ sym (append_assoc front ((rest % 128 + 128) ∷ []) (leb_in (5 - (i + 1)) (rest / 128)));
    }
