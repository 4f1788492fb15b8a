-- Laws of codes at the low end of a number, and of a number read from eight bytes.
use Prim.Native.Nat.{ℕ, zero, suc, ◌+◌, ◌-◌, ◌*◌, ◌/◌, ◌%◌, ◌^◌, ◌≤◌, ◌<◌}
use mathlib.Core.Path.{◌≡◌, refl, sym, ap, ap₂, ◌∙◌, subst}
use mathlib.Core.Bool.{Bool, false}
use mathlib.Core.List.{List, [], ◌∷◌, ◌++◌, append_assoc, append-nil}
use native.Mathlib.Nat.{pow-suc, mod-lt, lt_of_lt_of_le}
use native.Mathlib.Numerals.{add-one}
use native.Mathlib.Omega.{arith}
use lib.ListN.{length, take, drop, get_or, replicate, length-append, length-drop, take-append-drop, replicate-append-replicate}
use lib.Seq.{get_or-append-add, drop-cons, drop_at, take_at, drop-drop, take-append-le, drop-append-le}
use lib.Pow.{pow_pos, pow_mono}
use Rattle.codec.specs.Bits.{low_bits, value_of, bits_of, AreBytes}
use Rattle.codec.specs.Codes.{high_bit, gamma, delta}
use Rattle.codec.specs.Inside.Windows.{Window}
use Rattle.std.specs.Int.{w64, from_le_bytes}
use Rattle.codec.proofs.Laws.Low.{length_low, low_add, low_mod, low_join, value_low, length_bits}
use Rattle.codec.proofs.Laws.Codes.{high_unique}
use Rattle.codec.proofs.Laws.Bits.{low_top, low_more, joined_lt}

-- ---- codes

record Topped (x b v : ℕ) : Type 0 where
  pub high : high_bit (v + 1) ≡ b
  pub low : low_bits b (v + 1) ≡ low_bits b x

topped_of : (x b v : ℕ) → v ≡ x % 2 ^ b + 2 ^ b - 1 → Topped x b v
topped_of x b v e =
    let m : x % 2 ^ b < 2 ^ b = mod-lt x (pow_pos b) in
    let s : v + 1 ≡ x % 2 ^ b + 2 ^ b = omega (arith, pow_pos b) in
    record {
      high = high_unique (v + 1) b (omega arith) (omega (arith, pow-suc 2 b));
      low = ap (low_bits b) s ∙ low_top b (x % 2 ^ b) m ∙ low_mod b x;
    }

-- a gamma code and the low bits behind it
pub delta_of_lem : (w k b v : ℕ) → low_bits k w ≡ gamma b → v ≡ w / 2 ^ k % 2 ^ b + 2 ^ b - 1 → low_bits (k + b) w ≡ delta v
unfolding delta
delta_of_lem w k b v head e =
    let t = topped_of (w / 2 ^ k) b v e in
    rw (t.high, t.low, low_add k b w, head)

-- ---- eight bytes as a number

pub byte_more : (xs : List ℕ) (k next n v : ℕ) (b : ℕ) (tail : List Bool) → k < length xs → next ≡ k + 1 → b ≡ get_or xs k 0 → b < 256
    → bits_of (drop next xs) ≡ low_bits n v ++ tail → bits_of (drop k xs) ≡ low_bits (8 + n) (b + 256 * v) ++ tail
unfolding bits_of
byte_more xs k next n v b tail h e d l t =
    let m : 256 * v ≡ v * 2 ^ 8 = omega arith in
    let u : bits_of (drop (suc k) xs) ≡ low_bits n v ++ tail = subst (λ (i : ℕ). bits_of (drop i xs) ≡ low_bits n v ++ tail) (e ∙ add-one k) t in
    rw (m, low_join 8 n b v l, drop-cons xs k 0 h, ← d, u) (sym (append_assoc (low_bits 8 b) (low_bits n v) tail))

pub byte_last : (xs : List ℕ) (k next : ℕ) (b : ℕ) → k < length xs → next ≡ k + 1 → b ≡ get_or xs k 0 → bits_of (drop k xs) ≡ low_bits 8 b ++ bits_of (drop next xs)
unfolding bits_of
byte_last xs k next b h e d = let s : next ≡ suc k = e ∙ add-one k in rw (s, drop-cons xs k 0 h, ← d)

first : (n at next : ℕ) (xs : List ℕ) → at < length xs → next ≡ at + 1 → take (suc n) (drop at xs) ≡ get_or xs at 0 ∷ take n (drop next xs)
first n at next xs h e = ap (take (suc n)) (drop-cons xs at 0 h) ∙ ap (λ (i : ℕ). get_or xs at 0 ∷ take n (drop i xs)) (sym (e ∙ add-one at))

-- the eight bytes from a place, one by one
eight : (xs : List ℕ) (k : ℕ) → k + 8 ≤ length xs
    → take 8 (drop k xs) ≡ get_or xs k 0 ∷ get_or xs (k + 1) 0 ∷ get_or xs (k + 2) 0 ∷ get_or xs (k + 3) 0 ∷ get_or xs (k + 4) 0 ∷ get_or xs (k + 5) 0 ∷ get_or xs (k + 6) 0 ∷ get_or xs (k + 7) 0 ∷ []
eight xs k h =
    rw (
      first 7 k (k + 1) xs (omega arith) refl,
      first 6 (k + 1) (k + 2) xs (omega arith) (omega arith),
      first 5 (k + 2) (k + 3) xs (omega arith) (omega arith),
      first 4 (k + 3) (k + 4) xs (omega arith) (omega arith),
      first 3 (k + 4) (k + 5) xs (omega arith) (omega arith),
      first 2 (k + 5) (k + 6) xs (omega arith) (omega arith),
      first 1 (k + 6) (k + 7) xs (omega arith) (omega arith),
      first 0 (k + 7) (k + 8) xs (omega arith) (omega arith),
    )

joined : (b0 b1 b2 b3 b4 b5 b6 b7 : ℕ) → from_le_bytes w64 (b0 ∷ b1 ∷ b2 ∷ b3 ∷ b4 ∷ b5 ∷ b6 ∷ b7 ∷ []) ≡ b0 + 256 * (b1 + 256 * (b2 + 256 * (b3 + 256 * (b4 + 256 * (b5 + 256 * (b6 + 256 * b7))))))
joined b0 b1 b2 b3 b4 b5 b6 b7 = omega arith

-- eight bytes, lowest first, as one number
pub word_of : (xs : List ℕ) (k r : ℕ) → AreBytes xs → k + 8 ≤ length xs → r ≡ from_le_bytes w64 (take 8 (drop k xs)) → bits_of (drop k xs) ≡ low_bits 64 r ++ bits_of (drop (k + 8) xs)
word_of xs k r are h e =
    rw (e, eight xs k h, joined)
    (byte_more xs k (k + 1) _ _ _ _ (omega arith) refl refl (are k)
    (byte_more xs (k + 1) (k + 2) _ _ _ _ (omega arith) (omega arith) refl (are (k + 1))
    (byte_more xs (k + 2) (k + 3) _ _ _ _ (omega arith) (omega arith) refl (are (k + 2))
    (byte_more xs (k + 3) (k + 4) _ _ _ _ (omega arith) (omega arith) refl (are (k + 3))
    (byte_more xs (k + 4) (k + 5) _ _ _ _ (omega arith) (omega arith) refl (are (k + 4))
    (byte_more xs (k + 5) (k + 6) _ _ _ _ (omega arith) (omega arith) refl (are (k + 5))
    (byte_more xs (k + 6) (k + 7) _ _ _ _ (omega arith) (omega arith) refl (are (k + 6))
    (byte_last xs (k + 7) (k + 8) _ (omega arith) (omega arith) refl))))))))

-- bytes as a number, built from the last: those ahead are `left`
pub record Tail (all left : List ℕ) (v : ℕ) : Type 0 where
  pub behind : List ℕ
  pub parts : all ≡ left ++ behind
  pub bits : bits_of behind ≡ low_bits (8 * length behind) v
  pub small : v < 2 ^ (8 * length behind)

pub tail_none : (all : List ℕ) → Tail all all 0
unfolding bits_of low_bits
tail_none all = record { behind = []; parts = sym (append-nil all); bits = refl; small = omega arith }

pub tail_more : (all left : List ℕ) (b v : ℕ) → AreBytes all → Tail all (left ++ b ∷ []) v → Tail all left (b + 256 * v)
unfolding bits_of
tail_more all left b v are t =
    let n : ℕ = 8 * length t.behind in
    let parts : all ≡ left ++ (b ∷ t.behind) = t.parts ∙ append_assoc left (b ∷ []) t.behind in
    let here : get_or all (length left + 0) 0 ≡ b = ap (λ (l : List ℕ). get_or l (length left + 0) 0) parts ∙ get_or-append-add left (b ∷ t.behind) 0 0 in
    let l : b < 256 = subst (λ (x : ℕ). x < 256) here (are (length left + 0)) in
    let m : 8 * suc (length t.behind) ≡ 8 + n = omega arith in
    let c : 256 * v ≡ v * 2 ^ 8 = omega arith in
    record {
      behind = b ∷ t.behind;
      parts = parts;
      bits = rw (m, c, low_join 8 n b v l) (ap (λ (bs : List Bool). low_bits 8 b ++ bs) t.bits);
      small = rw (m, c) (joined_lt 8 n b v l t.small);
    }

pub tail_fits : (all left : List ℕ) (v : ℕ) → Tail all left v → length all ≤ 8 → v < 2 ^ 64
tail_fits all left v t h = lt_of_lt_of_le t.small (pow_mono {j = 64} (omega (arith, ap length t.parts, length-append left t.behind)))

pub tail_end : (all left : List ℕ) (v : ℕ) → Tail all left v → length left ≡ 0 → (bits_of all ≡ low_bits (8 * length all) v) × (v < 2 ^ (8 * length all))
tail_end all [] v t e = rw t.parts (t.bits, t.small)
tail_end all (b ∷ left) v t e = absurd (omega arith)

pub drop_bits : (xs : List ℕ) (k : ℕ) → drop (8 * k) (bits_of xs) ≡ bits_of (drop k xs)
unfolding bits_of
drop_bits xs zero = refl
drop_bits [] (suc k) = lib.Seq.drop-nil (8 * suc k)
drop_bits (x ∷ xs) (suc k) =
    let n : 8 * suc k ≡ 8 + 8 * k = omega arith in
    rw n (sym (drop-drop (8 * k) 8 (low_bits 8 x ++ bits_of xs)) ∙ ap (drop (8 * k)) (drop_at (low_bits 8 x) (bits_of xs) 8 (length_low 8 x)) ∙ drop_bits xs k)

-- a window, as the bits it shows and those behind it
pub behind : (bits : List Bool) (r : ℕ) → take 64 bits ≡ low_bits 64 r → bits ≡ low_bits 64 r ++ drop 64 bits
behind bits r e = sym (take-append-drop 64 bits) ∙ ap (λ (l : List Bool). l ++ drop 64 bits) e

pub window_from : (bits tail : List Bool) (r : ℕ) → bits ≡ low_bits 64 r ++ tail → take 64 bits ≡ low_bits 64 r
window_from bits tail r e = ap (take 64) e ∙ take_at (low_bits 64 r) tail 64 (length_low 64 r)

-- the bits from a place with zeros behind them, as the low bits of the shifted number and what follows
pub window : (xs : List ℕ) (at r : ℕ) → Window xs (at / 8) r → at ≤ 8 * length xs
    → (more : List Bool) × (drop at (bits_of xs) ++ replicate 64 false ≡ low_bits 57 (r / 2 ^ (at % 8)) ++ more)
window xs at r shown h =
    let e = behind (bits_of (drop (at / 8) xs) ++ replicate 64 false) r shown in
    let tail : List Bool = drop 64 (bits_of (drop (at / 8) xs) ++ replicate 64 false) in
    let j : ℕ = at % 8 in
    let p : at ≡ 8 * (at / 8) + j = omega arith in
    let q : 64 ≡ j + (57 + (7 - j)) = omega arith in
    let x : ℕ = r / 2 ^ j in
    let here : List Bool = bits_of (drop (at / 8) xs) in
    let inside : j ≤ length here = rw (length_bits (drop (at / 8) xs), length-drop (at / 8) xs) (omega arith) in
    let s : drop at (bits_of xs) ++ replicate 64 false ≡ drop j (low_bits 64 r ++ tail) =
    ap (λ (n : ℕ). drop n (bits_of xs) ++ replicate 64 false) p ∙ ap (λ (l : List Bool). l ++ replicate 64 false) (sym (drop-drop j (8 * (at / 8)) (bits_of xs)) ∙ ap (drop j) (drop_bits xs (at / 8)))
    ∙ sym (drop-append-le j here (replicate 64 false) inside) ∙ ap (drop j) e
    in
    let u : low_bits 64 r ++ tail ≡ low_bits j r ++ (low_bits (57 + (7 - j)) x ++ tail) =
    ap (λ (n : ℕ). low_bits n r ++ tail) q ∙ ap (λ (l : List Bool). l ++ tail) (low_add j (57 + (7 - j)) r) ∙ append_assoc (low_bits j r) (low_bits (57 + (7 - j)) x) tail
    in (
      low_bits (7 - j) (x / 2 ^ 57) ++ tail,
      s ∙ ap (drop j) u ∙ drop_at (low_bits j r) (low_bits (57 + (7 - j)) x ++ tail) j (length_low j r)
          ∙ ap (λ (l : List Bool). l ++ tail) (low_add 57 (7 - j) x) ∙ append_assoc (low_bits 57 x) (low_bits (7 - j) (x / 2 ^ 57)) tail,
    )

-- bits that a window shows, as many as there are
module _ (bits : List Bool) (w n : ℕ) (more : List Bool) (e : bits ++ replicate 64 false ≡ low_bits 57 w ++ more) (few : n ≤ 57) (are : n ≤ length bits) where
  pub window_take : take n bits ≡ low_bits n w
  window_take =
      let k : 57 ≡ n + (57 - n) = omega arith in
      let s : low_bits 57 w ++ more ≡ low_bits n w ++ (low_bits (57 - n) (w / 2 ^ n) ++ more) =
      ap (λ (i : ℕ). low_bits i w ++ more) k ∙ ap (λ (l : List Bool). l ++ more) (low_add n (57 - n) w) ∙ append_assoc (low_bits n w) (low_bits (57 - n) (w / 2 ^ n)) more
      in
      sym (take-append-le n bits (replicate 64 false) are) ∙ ap (take n) (e ∙ s) ∙ take_at (low_bits n w) (low_bits (57 - n) (w / 2 ^ n) ++ more) n (length_low n w)

  -- as a number
  pub window_value : value_of (take n bits) ≡ w % 2 ^ n
  window_value = ap value_of window_take ∙ value_low n w

-- fewer than eight bytes, with zeros behind them
pub tail_window : (bits : List Bool) (n r : ℕ) → bits ≡ low_bits n r → r < 2 ^ n → n ≤ 64 → take 64 (bits ++ replicate 64 false) ≡ low_bits 64 r
tail_window bits n r e small h =
    let k : 64 ≡ n + (64 - n) = omega arith in
    let z : 64 ≡ (64 - n) + n = omega arith in
    window_from (bits ++ replicate 64 false) (replicate n false) r
    (
    ap₂ (λ (l : List Bool) (m : ℕ). l ++ replicate m false) e z ∙ ap (λ (l : List Bool). low_bits n r ++ l) (sym (replicate-append-replicate (64 - n) n false))
    ∙ sym (append_assoc (low_bits n r) (replicate (64 - n) false) (replicate n false)) ∙ ap (λ (l : List Bool). l ++ replicate n false) (sym (low_more n (64 - n) r small) ∙ ap (λ (m : ℕ). low_bits m r) (sym k))
    )

-- eight bytes, with zeros behind all
pub word_window : (bits : List Bool) (r : ℕ) (rest : List Bool) → bits ≡ low_bits 64 r ++ rest → take 64 (bits ++ replicate 64 false) ≡ low_bits 64 r
word_window bits r rest e = window_from (bits ++ replicate 64 false) _ r (ap (λ (l : List Bool). l ++ replicate 64 false) e ∙ append_assoc (low_bits 64 r) rest (replicate 64 false))

-- the bits from a place on that the window at byte k shows
pub window_bits : (xs : List ℕ) (k at r n : ℕ) → Window xs k r → 8 * k ≤ at → at + n ≤ 8 * k + 64 → at + n ≤ 8 * length xs → take n (drop at (bits_of xs)) ≡ low_bits n (r / 2 ^ (at - 8 * k))
window_bits xs k at r n shown low high h =
    let w = behind (bits_of (drop k xs) ++ replicate 64 false) r shown in
    let after : List Bool = drop 64 (bits_of (drop k xs) ++ replicate 64 false) in
    let past : ℕ = at - 8 * k in
    let here : List Bool = bits_of (drop k xs) in
    let bits : List Bool = drop at (bits_of xs) in
    let rest : ℕ = 64 - (past + n) in
    let q : 64 ≡ past + (n + rest) = omega arith in
    let p : at ≡ 8 * k + past = omega arith in
    let x : ℕ = r / 2 ^ past in
    let inside : past ≤ length here = rw (length_bits (drop k xs), length-drop k xs) (omega arith) in
    let are : n ≤ length bits = rw (length-drop at (bits_of xs), length_bits xs) (omega arith) in
    let same : bits ≡ drop past here = ap (λ (i : ℕ). drop i (bits_of xs)) p ∙ sym (drop-drop past (8 * k) (bits_of xs)) ∙ ap (drop past) (drop_bits xs k) in
    let u : low_bits 64 r ++ after ≡ low_bits past r ++ (low_bits (n + rest) x ++ after) =
    ap (λ (m : ℕ). low_bits m r ++ after) q ∙ ap (λ (l : List Bool). l ++ after) (low_add past (n + rest) r) ∙ append_assoc (low_bits past r) (low_bits (n + rest) x) after
    in
    let s : bits ++ replicate 64 false ≡ low_bits n x ++ (low_bits rest (x / 2 ^ n) ++ after) =
    ap (λ (l : List Bool). l ++ replicate 64 false) same ∙ sym (drop-append-le past here (replicate 64 false) inside) ∙ ap (drop past) (w ∙ u) ∙ drop_at (low_bits past r) (low_bits (n + rest) x ++ after) past (length_low past r)
    ∙ ap (λ (l : List Bool). l ++ after) (low_add n rest x) ∙ append_assoc (low_bits n x) (low_bits rest (x / 2 ^ n)) after
    in
    sym (take-append-le n bits (replicate 64 false) are) ∙ ap (take n) s ∙ take_at (low_bits n x) (low_bits rest (x / 2 ^ n) ++ after) n (length_low n x)
