-- The tables: a rule of a small one is a test, computed entry by entry; that of the codes by nine bits is a law.
use mathlib.Core.Path.{◌≡◌, refl, ap, ap₂, ◌∙◌, subst, sym}
use mathlib.Core.Bool.{Bool, true, false, cond, ◌&&◌}
use mathlib.Core.List.{List, [], ◌∷◌}
use Prim.Native.Nat.{ℕ, zero, suc, ◌+◌, ◌-◌, ◌*◌, ◌/◌, ◌%◌, ◌^◌, ◌<◌, ◌≤◌}
use native.Mathlib.Nat.{add-zero, zero-add, add-suc, suc-add, le_of_suc-le-suc, not-suc-le-zero}
use native.Mathlib.Omega.{arith}
use lib.ListN.{length, get_or}
use lib.Pow.{pow_pos}
use lib.Dec.{ltb, leb, eqb}
use borrow.Author.Tests.{ltb-true, leb-true, eqb-true}
use Rattle.base.proofs.Bools.{and_true, false_true}
use Rattle.codec.specs.Bits.{low_bits}
use Rattle.codec.specs.Codes.{high_bit, high_in, gamma}
use Rattle.codec.specs.Sets.{ids_of}
use Rattle.codec.specs.Inside.Windows.{Head, IsEntry}
use Rattle.codec.specs.Inside.Writers.{ShortOf}
use Rattle.codec.proofs.Laws.Low.{low_below}

-- the test passes at each entry and its place, counted from i
abbrev every : (ℕ → ℕ → Bool) → ℕ → List ℕ → Bool
every f i [] = true
every f i (x ∷ xs) = f i x && every f (suc i) xs

from : (f : ℕ → ℕ → Bool) (xs : List ℕ) (i : ℕ) → every f i xs ≡ true → (k : ℕ) → k < length xs → f (i + k) (get_or xs k 0) ≡ true
from f [] i t k h = absurd (not-suc-le-zero h)
from f (x ∷ xs) i t zero h = rw add-zero (and_true (f i x) (every f (suc i) xs) t).0
from f (x ∷ xs) i t (suc k) h =
    subst (λ (m : ℕ). f m (get_or xs k 0) ≡ true) (suc-add i k ∙ sym (add-suc i k)) (from f xs (suc i) (and_true (f i x) (every f (suc i) xs) t).1 k (le_of_suc-le-suc h))

at : (f : ℕ → ℕ → Bool) (xs : List ℕ) → every f 0 xs ≡ true → (k : ℕ) → k < length xs → f k (get_or xs k 0) ≡ true
at f xs t k h = rw zero-add at (from f xs 0 t k h)

-- ---- the tables of codes

abbrev pub lens : List ℕ
lens = 1 ∷ 4 ∷ 5 ∷ 8 ∷ 9 ∷ 10 ∷ 11 ∷ 14 ∷ 15 ∷ 16 ∷ 17 ∷ 18 ∷ 19 ∷ 20 ∷ 21 ∷ 24 ∷ 25 ∷ 26 ∷ 27 ∷ 28 ∷ 29 ∷ []

abbrev pub shorts : List ℕ
shorts =
    1 ∷ 14 ∷ 26 ∷ 252 ∷ 500 ∷ 1004 ∷ 2020 ∷ 16376 ∷ 32744 ∷ 65496 ∷ 131016 ∷ 262072 ∷ 524200 ∷ 1048472 ∷ 2097032 ∷ 16777200 ∷ 33554384 ∷ 67108784 ∷ 134217616 ∷ 268435312 ∷ 536870736 ∷ []

unfoldable long_is : ℕ → ℕ → Bool
long_is k x = eqb x (2 * high_bit (k + 1) + 1 + k) && ltb x 30

pub len_is : (k : ℕ) → k < 21 → (get_or lens k 0 ≡ 2 * high_bit (k + 1) + 1 + k) × (get_or lens k 0 < 30)
unfolding long_is high_bit high_in
len_is k h =
    let t = and_true (eqb (get_or lens k 0) (2 * high_bit (k + 1) + 1 + k)) (ltb (get_or lens k 0) 30) (at long_is lens refl k h) in
    (eqb-true (get_or lens k 0) (2 * high_bit (k + 1) + 1 + k) t.0, ltb-true (get_or lens k 0) 30 t.1)

unfoldable pub alike : List Bool → List Bool → Bool
alike [] [] = true
alike [] (b ∷ bs) = false
alike (a ∷ cs) [] = false
alike (true ∷ cs) (true ∷ bs) = alike cs bs
alike (true ∷ cs) (false ∷ bs) = false
alike (false ∷ cs) (true ∷ bs) = false
alike (false ∷ cs) (false ∷ bs) = alike cs bs

alike_same : (cs bs : List Bool) → alike cs bs ≡ true → cs ≡ bs
unfolding alike
alike_same [] [] e = refl
alike_same [] (b ∷ bs) e = false_true e
alike_same (a ∷ cs) [] e = false_true e
alike_same (true ∷ cs) (true ∷ bs) e = ap (λ (l : List Bool). true ∷ l) (alike_same cs bs e)
alike_same (true ∷ cs) (false ∷ bs) e = false_true e
alike_same (false ∷ cs) (true ∷ bs) e = false_true e
alike_same (false ∷ cs) (false ∷ bs) e = ap (λ (l : List Bool). false ∷ l) (alike_same cs bs e)

-- the gamma code that an entry is short of
abbrev code_at : ℕ → ℕ → ℕ
code_at k x = 2 ^ (2 * high_bit (k + 1) + 1 + k) - x

unfoldable codes : ℕ → ℕ → Bool
codes k x = alike (low_bits (2 * high_bit (k + 1) + 1) (code_at k x)) (gamma k) && ltb (code_at k x) (2 ^ (2 * high_bit (k + 1) + 1)) && leb x (2 ^ (2 * high_bit (k + 1) + 1 + k))

pub short_is : (k : ℕ) → k < 21 → ShortOf k (get_or shorts k 0)
unfolding codes alike low_bits gamma high_bit high_in
short_is k h =
    let x : ℕ = get_or shorts k 0 in
    let n : ℕ = 2 * high_bit (k + 1) + 1 in
    let t = and_true _ (leb x (2 ^ (n + k))) (at codes shorts refl k h) in
    let u = and_true (alike (low_bits n (code_at k x)) (gamma k)) (ltb (code_at k x) (2 ^ n)) t.0 in
    record {
      code = code_at k x;
      is = alike_same (low_bits n (code_at k x)) (gamma k) u.0;
      small = ltb-true (code_at k x) (2 ^ n) u.1;
      sum = omega (arith, leb-true x (2 ^ (n + k)) t.1);
    }

-- ---- the codes by their first nine bits

-- the entry at place j: by the b below k, the highest first, whose gamma code begins the bits of j
unfoldable pub entry : ℕ → ℕ → ℕ
entry zero j = 0
entry (suc b) j = let n = 2 * high_bit (b + 1) + 1 in cond (leb n 9 && alike (low_bits n j) (gamma b)) (n + b + 64 * n + 4096 * (2 ^ b - 1)) (entry b j)

abbrev entries : ℕ → ℕ → List ℕ
entries zero j = []
entries (suc n) j = entry 20 j ∷ entries n (suc j)

abbrev pub code_entries : List ℕ
code_entries = entries 512 0

entries_at : (n j i : ℕ) → i < n → get_or (entries n j) i 0 ≡ entry 20 (j + i)
entries_at zero j i h = absurd (omega arith)
entries_at (suc n) j zero h = let z : j ≡ j + 0 = omega arith in ap (entry 20) z
entries_at (suc n) j (suc i) h = let s : suc j + i ≡ j + suc i = omega arith in entries_at n (suc j) i (omega arith) ∙ ap (entry 20) s

-- what an entry other than 0 tells, since its parts don't meet
head_of : (j n b p : ℕ) → b ≤ 19 → n ≤ 9 → 2 ^ b ≡ suc p → low_bits n j ≡ gamma b → Head j (n + b + 64 * n + 4096 * (2 ^ b - 1))
head_of j n b p few short power code =
    let m : 2 ^ b - 1 ≡ p = omega (arith, power) in
    let low : (n + b + 64 * n + 4096 * (2 ^ b - 1)) / 64 % 64 ≡ n = omega (arith, m) in
    record {
      b = b;
      few = few;
      short = omega (arith, low);
      count = omega (arith, m);
      mask = omega (arith, m);
      code = ap (λ (i : ℕ). low_bits i j) low ∙ code;
    }

entry_head : (k j : ℕ) → k ≤ 20 → IsEntry j (entry k j)
unfolding entry
entry_head zero j h some = absurd (omega (arith, some))
entry_head (suc b) j h some = go (leb n 9 && alike (low_bits n j) (gamma b)) refl (entry_head b j (omega arith)) some
  where
    n : ℕ
    n = 2 * high_bit (b + 1) + 1

    go : (t : Bool) → leb n 9 && alike (low_bits n j) (gamma b) ≡ t → IsEntry j (entry b j) → IsEntry j (cond t (n + b + 64 * n + 4096 * (2 ^ b - 1)) (entry b j))
    go true e later some =
        let u = and_true (leb n 9) (alike (low_bits n j) (gamma b)) e in
        head_of j n b (2 ^ b - 1) (omega arith) (leb-true n 9 u.0) (omega (arith, pow_pos b)) (alike_same (low_bits n j) (gamma b) u.1)
    go false e later some = later some

-- the entry at a number's low nine bits tells of the number
pub code_is : (w e : ℕ) → e ≡ get_or code_entries (w % 512) 0 → IsEntry w e
code_is w e is some =
    let j : ℕ = w % 512 in
    let z : 0 + j ≡ j = omega arith in
    let head : Head j e = subst (IsEntry j) (sym (is ∙ entries_at 512 0 j (omega arith) ∙ ap (entry 20) z)) (entry_head 20 j (omega arith)) some in
    let k : ℕ = e / 64 % 64 in
    let nine : 9 ≡ (9 - k) + k = omega (arith, head.short) in
    record { b = head.b; few = head.few; short = head.short; count = head.count; mask = head.mask; code = sym (low_below (9 - k) k w) ∙ ap (λ (i : ℕ). low_bits k (w % 2 ^ i)) (sym nine) ∙ head.code }

-- ---- the table of ones among four bits

abbrev pub places : List ℕ
places = 0 ∷ 0 ∷ 0 ∷ 0 ∷ 0 ∷ 0 ∷ 0 ∷ 0 ∷ 1 ∷ 0 ∷ 0 ∷ 0 ∷ 0 ∷ 1 ∷ 0 ∷ 0 ∷ 2 ∷ 0 ∷ 0 ∷ 0 ∷ 0 ∷ 2 ∷ 0 ∷ 0 ∷ 1 ∷ 2 ∷ 0 ∷ 0 ∷ 0 ∷ 1 ∷ 2 ∷ 0
    ∷ 3 ∷ 0 ∷ 0 ∷ 0 ∷ 0 ∷ 3 ∷ 0 ∷ 0 ∷ 1 ∷ 3 ∷ 0 ∷ 0 ∷ 0 ∷ 1 ∷ 3 ∷ 0 ∷ 2 ∷ 3 ∷ 0 ∷ 0 ∷ 0 ∷ 2 ∷ 3 ∷ 0 ∷ 1 ∷ 2 ∷ 3 ∷ 0 ∷ 0 ∷ 1 ∷ 2 ∷ 3 ∷ []

abbrev pub counts : List ℕ
counts = 0 ∷ 1 ∷ 1 ∷ 2 ∷ 1 ∷ 2 ∷ 2 ∷ 3 ∷ 1 ∷ 2 ∷ 2 ∷ 3 ∷ 2 ∷ 3 ∷ 3 ∷ 4 ∷ []

unfoldable place_of : ℕ → ℕ → Bool
place_of k x = eqb x (get_or (ids_of 0 (low_bits 4 (k / 4))) (k % 4) 0) && ltb x 4

pub place_is : (four j : ℕ) → four < 16 → j < 4 → (get_or places (4 * four + j) 0 ≡ get_or (ids_of 0 (low_bits 4 four)) j 0) × (get_or places (4 * four + j) 0 < 4)
unfolding place_of ids_of low_bits
place_is four j h l =
    let k : ℕ = 4 * four + j in
    let q : k / 4 ≡ four = omega arith in
    let r : k % 4 ≡ j = omega arith in
    let t = and_true (eqb (get_or places k 0) (get_or (ids_of 0 (low_bits 4 (k / 4))) (k % 4) 0)) (ltb (get_or places k 0) 4) (at place_of places refl k (omega arith)) in
    (eqb-true (get_or places k 0) (get_or (ids_of 0 (low_bits 4 (k / 4))) (k % 4) 0) t.0 ∙ ap₂ (λ (a b : ℕ). get_or (ids_of 0 (low_bits 4 a)) b 0) q r, ltb-true (get_or places k 0) 4 t.1)

unfoldable count_of : ℕ → ℕ → Bool
count_of k x = eqb x (length (ids_of 0 (low_bits 4 k))) && ltb x 5

pub count_is : (four : ℕ) → four < 16 → (get_or counts four 0 ≡ length (ids_of 0 (low_bits 4 four))) × (get_or counts four 0 < 5)
unfolding count_of ids_of low_bits
count_is four h =
    let t = and_true (eqb (get_or counts four 0) (length (ids_of 0 (low_bits 4 four)))) (ltb (get_or counts four 0) 5) (at count_of counts refl four h) in
    (eqb-true (get_or counts four 0) (length (ids_of 0 (low_bits 4 four))) t.0, ltb-true (get_or counts four 0) 5 t.1)
