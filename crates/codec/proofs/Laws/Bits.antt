-- Laws of the bits that a writer holds, and of packing.
use Prim.Native.Nat.{ℕ, zero, suc, ◌+◌, ◌-◌, ◌*◌, ◌/◌, ◌%◌, ◌^◌, ◌≤◌, ◌<◌}
use mathlib.Core.Path.{◌≡◌, refl, sym, ap, ap₂, ◌∙◌, subst}
use mathlib.Core.Bool.{Bool, true, false}
use mathlib.Core.List.{List, [], ◌∷◌, ◌++◌, append_assoc}
use native.Mathlib.Nat.{div-one, pow-suc, div-div-eq-div-mul, add_comm, add-mod_right, mod-eq_of_lt, div-eq_of_lt, lt_of_not-le, not-le_of_lt, lt_of_lt_of_le}
use native.Mathlib.Decide.{dec_le}
use native.Mathlib.Omega.{arith}
use lib.ListN.{get_or, length, take, drop, replicate, length-append, length-replicate, length-drop, take-append-drop, drop_of_length-le, replicate-append-replicate}
use lib.Seq.{get_or-drop, take_at, drop_at, take_all, take-take, take-append-add, length-take-le}
use lib.Arith.{digits_lt}
use lib.Pow.{pow-add, pow_mono, shl_exact}
use borrow.Rule.Slice.PartMut.{put_mid}
use Rattle.std.specs.Int.{w64, byte_at, bytes_low_first, to_le_bytes}
use Rattle.std.proofs.lemmas.Slice.{take-put_mid}
use Rattle.codec.specs.Bits.{low_bits, value_of, bits_of, pack_bytes, pack_bits, bytes_for, AreBytes}
use Rattle.codec.specs.Codes.{high_bit, gamma, delta}
use Rattle.codec.specs.Inside.Buffers.{low_bytes, Placed}
use Rattle.codec.proofs.Laws.Codes.{high_top}
use Rattle.codec.proofs.Laws.Low.{length_low, low_add, low_mod, low_join, value_low, low_value, value_lt, length_bits}

pub bits_append : (xs ys : List ℕ) → bits_of (xs ++ ys) ≡ bits_of xs ++ bits_of ys
unfolding bits_of
bits_append [] ys = refl
bits_append (x ∷ xs) ys = ap (λ (l : List Bool). low_bits 8 x ++ l) (bits_append xs ys) ∙ sym (append_assoc (low_bits 8 x) (bits_of xs) (bits_of ys))

-- a short number and a shifted one, as the machine adds them
pub joined_lt : (p c a v : ℕ) → a < 2 ^ p → v < 2 ^ c → a + v * 2 ^ p < 2 ^ (p + c)
joined_lt p c a v h k = rw (add_comm a (v * 2 ^ p), add_comm p c, pow-add 2 c p) (digits_lt k h)

pub shift_fits : (p c v : ℕ) → v < 2 ^ c → c + p ≤ 64 → v * 2 ^ p % 2 ^ 64 ≡ v * 2 ^ p
shift_fits p c v k h = shl_exact c p 64 k h

pub put_bits : (xs : List ℕ) (p c a v : ℕ) → a < 2 ^ p → bits_of xs ++ low_bits (p + c) (a + v * 2 ^ p) ≡ (bits_of xs ++ low_bits p a) ++ low_bits c v
put_bits xs p c a v h = rw (low_join p c a v h, append_assoc)

-- ---- codes as numbers

-- the low b bits do not see bit b
pub low_top : (b n : ℕ) → n < 2 ^ b → low_bits b (n + 2 ^ b) ≡ low_bits b n
low_top b n h =
    let m : (n + 2 ^ b) % 2 ^ b ≡ n = add-mod_right n (2 ^ b) ∙ mod-eq_of_lt h in
    sym (low_mod b (n + 2 ^ b)) ∙ ap (low_bits b) m

pub low_zero : (b : ℕ) → low_bits b 0 ≡ replicate b false
unfolding low_bits
low_zero zero = refl
low_zero (suc b) = ap (λ (l : List Bool). false ∷ l) (low_zero b)

pub delta_low : (v b n k g : ℕ) → b ≡ high_bit (v + 1) → n + 2 ^ b ≡ v + 1 → n < 2 ^ b → g < 2 ^ k → low_bits k g ≡ gamma b → low_bits (k + b) (g + n * 2 ^ k) ≡ delta v
unfolding delta
delta_low v b n k g e s h l c = rw (low_join k b g n l, c, ← e, ← s, low_top b n h)

pub high_lt : (n k : ℕ) → 0 < n → n < 2 ^ k → high_bit n < k
high_lt n k p h = lt_of_not-le (λ (g : k ≤ high_bit n). not-le_of_lt (lt_of_lt_of_le h (pow_mono g)) (high_top n p).low)

-- ---- packing

value_zeros : (n k : ℕ) → value_of (take n (replicate k false)) ≡ 0
unfolding value_of
value_zeros zero k = refl
value_zeros (suc n) zero = refl
value_zeros (suc n) (suc k) = omega (arith, value_zeros n k)

value_pad : (n : ℕ) (bs : List Bool) (k : ℕ) → value_of (take n (bs ++ replicate k false)) ≡ value_of (take n bs)
unfolding value_of
value_pad zero bs k = refl
value_pad (suc n) [] k = value_zeros (suc n) k
value_pad (suc n) (b ∷ bs) k = rw (value_pad n bs k)

drop_zeros : (n k : ℕ) → (m : ℕ) × (drop n (replicate k false) ≡ replicate m false)
drop_zeros zero k = (k, refl)
drop_zeros (suc n) zero = (0, refl)
drop_zeros (suc n) (suc k) = drop_zeros n k

drop_pad : (n : ℕ) (bs : List Bool) (k : ℕ) → (m : ℕ) × (drop n (bs ++ replicate k false) ≡ drop n bs ++ replicate m false)
drop_pad zero bs k = (k, refl)
drop_pad (suc n) [] k = drop_zeros (suc n) k
drop_pad (suc n) (b ∷ bs) k = drop_pad n bs k

-- zeros behind the bits change nothing
pack_pad : (n : ℕ) (bs : List Bool) (k : ℕ) → pack_bytes n (bs ++ replicate k false) ≡ pack_bytes n bs
unfolding pack_bytes
pack_pad zero bs k = refl
pack_pad (suc n) bs k =
    let d = drop_pad 8 bs k in
    ap₂ (λ (x : ℕ) (l : List ℕ). x ∷ l) (value_pad 8 bs k) (ap (pack_bytes n) d.1 ∙ pack_pad n (drop 8 bs) d.0)

pack_of : (xs : List ℕ) → AreBytes xs → pack_bytes (length xs) (bits_of xs) ≡ xs
unfolding pack_bytes bits_of
pack_of [] h = refl
pack_of (x ∷ xs) h =
    let v : x % 2 ^ 8 ≡ x = mod-eq_of_lt (h 0) in
    rw (take_at (low_bits 8 x) (bits_of xs) 8 (length_low 8 x), drop_at (low_bits 8 x) (bits_of xs) 8 (length_low 8 x), value_low 8 x, v)
    (ap (λ (l : List ℕ). x ∷ l) (pack_of xs (λ i. h (suc i))))

-- bytes whose bits are these, and fewer than eight zeros behind them
pub packed : (xs : List ℕ) (bits : List Bool) (k : ℕ) → AreBytes xs → bits_of xs ≡ bits ++ replicate k false → k < 8 → pack_bits bits ≡ xs
unfolding pack_bits
packed xs bits k h e l =
    let n : length (bits_of xs) ≡ length bits + k = ap length e ∙ length-append bits (replicate k false) ∙ ap (λ (m : ℕ). length bits + m) (length-replicate k false) in
    let m : bytes_for (length bits) ≡ length xs = omega (arith, n, length_bits xs) in
    rw m (sym (pack_pad (length xs) bits k) ∙ ap (pack_bytes (length xs)) (sym e) ∙ pack_of xs h)

-- and packed bits are such bytes
pub low_more : (p k n : ℕ) → n < 2 ^ p → low_bits (p + k) n ≡ low_bits p n ++ replicate k false
low_more p k n h = low_add p k n ∙ ap (λ (m : ℕ). low_bits p n ++ low_bits k m) (div-eq_of_lt h) ∙ ap (λ (l : List Bool). low_bits p n ++ l) (low_zero k)

-- parts of bytes, and bytes behind bytes
pub bytes_take : (n : ℕ) (xs : List ℕ) → AreBytes xs → AreBytes (take n xs)
bytes_take zero xs h = λ i. omega arith
bytes_take (suc n) [] h = h
bytes_take (suc n) (x ∷ xs) h = λ i. elim i as (λ i. get_or (take (suc n) (x ∷ xs)) i 0 < 256) [ zero ↦ h 0 | suc j ↦ bytes_take n xs (λ k. h (suc k)) j ]

bytes_drop : (n : ℕ) (xs : List ℕ) → AreBytes xs → AreBytes (drop n xs)
bytes_drop n xs h = λ i. rw (get_or-drop n xs i 0) (h (n + i))

bytes_append : (xs ys : List ℕ) → AreBytes xs → AreBytes ys → AreBytes (xs ++ ys)
bytes_append [] ys h k = k
bytes_append (x ∷ xs) ys h k = λ i. elim i as (λ i. get_or ((x ∷ xs) ++ ys) i 0 < 256) [ zero ↦ h 0 | suc j ↦ bytes_append xs ys (λ m. h (suc m)) k j ]

-- ---- the low bytes of a number, put into a buffer

byte_is : (i x : ℕ) → byte_at i x ≡ x / 256 ^ i % 256
byte_is zero x = rw div-one refl
byte_is (suc i) x = refl

low_first : (n x i : ℕ) → bytes_low_first i n x ≡ low_bytes n (x / 256 ^ i)
unfolding low_bytes
low_first zero x i = refl
low_first (suc n) x i =
    let e : x / 256 ^ suc i ≡ x / 256 ^ i / 256 = ap (λ (m : ℕ). x / m) (pow-suc 256 i) ∙ sym (div-div-eq-div-mul x (256 ^ i) 256) in
    ap₂ (λ (b : ℕ) (l : List ℕ). b ∷ l) (byte_is i x) (low_first n x (suc i) ∙ ap (low_bytes n) e)

take_low : (n m x : ℕ) → n ≤ m → take n (low_bytes m x) ≡ low_bytes n x
unfolding low_bytes
take_low zero m x h = refl
take_low (suc n) zero x h = absurd (omega arith)
take_low (suc n) (suc m) x h = ap (λ (l : List ℕ). x % 256 ∷ l) (take_low n m (x / 256) (omega arith))

-- by std's word
pub low_of : (n x : ℕ) → n ≤ 8 → take n (to_le_bytes w64 x) ≡ low_bytes n x
low_of n x h = ap (take n) (low_first 8 x 0 ∙ ap (low_bytes 8) (div-one x)) ∙ take_low n 8 x h

length_low_bytes : (n x : ℕ) → length (low_bytes n x) ≡ n
unfolding low_bytes
length_low_bytes zero x = refl
length_low_bytes (suc n) x = ap suc (length_low_bytes n (x / 256))

low_none : (x : ℕ) → low_bits 0 x ≡ []
unfolding low_bits
low_none x = refl

bits_low_bytes : (n x : ℕ) → bits_of (low_bytes n x) ≡ low_bits (8 * n) x
unfolding low_bytes bits_of
bits_low_bytes zero x = sym (low_none x)
bits_low_bytes (suc n) x =
    let m : 8 * suc n ≡ 8 + 8 * n = omega arith in
    rw (m, low_add 8 (8 * n) x, bits_low_bytes n (x / 256), low_mod 8 x)

bytes_low_bytes : (n x : ℕ) → AreBytes (low_bytes n x)
unfolding low_bytes
bytes_low_bytes zero x = λ i. omega arith
bytes_low_bytes (suc n) x = λ i. elim i as (λ i. get_or (x % 256 ∷ low_bytes n (x / 256)) i 0 < 256) [ zero ↦ omega arith | suc j ↦ bytes_low_bytes n (x / 256) j ]

-- k low bytes of x, put at a place of a buffer: the first n of them stand there
pub placed : (out ys : List ℕ) (at n k m x : ℕ) → m ≡ k → n ≤ k → at + k ≤ length out → ys ≡ low_bytes k x → Placed out (put_mid at m out ys) at n x
placed out ys at n k m x e less inside low =
    let l : length ys ≡ k = ap length low ∙ length_low_bytes k x in
    let new = put_mid at m out ys in
    let all : take (at + k) new ≡ take at out ++ ys = take-put_mid at m out ys (at + k) (omega arith) (omega arith) in
    let before : length (take at out) ≡ at = length-take-le at out (omega arith) in
    let front : take (at + n) new ≡ take at out ++ low_bytes n x =
    sym (take-take (at + n) (at + k) new (omega arith)) ∙ ap (take (at + n)) all ∙ ap (λ (i : ℕ). take (i + n) (take at out ++ ys)) (sym before) ∙ take-append-add (take at out) ys n
    ∙ ap (λ (l : List ℕ). take at out ++ l) (ap (take n) low ∙ take_low n k x less)
    in
    record {
      bits = ap bits_of front ∙ bits_append (take at out) (low_bytes n x) ∙ ap (λ (bs : List Bool). bits_of (take at out) ++ bs) (bits_low_bytes n x);
      size = omega (arith, length-append (take at out) (ys ++ drop m (drop at out)), length-append ys (drop m (drop at out)), before, length-drop m (drop at out), length-drop at out);
      bytes = λ h. bytes_append (take at out) (ys ++ drop m (drop at out)) (bytes_take at out h) (bytes_append ys (drop m (drop at out)) (subst AreBytes (sym low) (bytes_low_bytes k x)) (bytes_drop m (drop at out) (bytes_drop at out h)));
    }

-- the last bits with them
pub packed_end : (out new : List ℕ) (at n acc left : ℕ) → Placed out new at n acc → AreBytes out → acc < 2 ^ left → left ≤ 8 * n → 8 * n < left + 8 → pack_bits (bits_of (take at out) ++ low_bits left acc) ≡ take (at + n) new
packed_end out new at n acc left put are small few all =
    let k : ℕ = 8 * n - left in
    let e : 8 * n ≡ left + k = omega arith in
    packed (take (at + n) new) (bits_of (take at out) ++ low_bits left acc) k (bytes_take (at + n) new (put.bytes are))
    (put.bits ∙ ap (λ (bs : List Bool). bits_of (take at out) ++ bs) (ap (λ (m : ℕ). low_bits m acc) e ∙ low_more left k acc small) ∙ sym (append_assoc (bits_of (take at out)) (low_bits left acc) (replicate k false)))
    (omega arith)

-- the bits of packed bytes: the bits, and zeros up to a byte
pack_bits_lem : (n : ℕ) (bits : List Bool) → length bits ≤ 8 * n → (k : ℕ) × (bits_of (pack_bytes n bits) ≡ bits ++ replicate k false) × (length bits + k ≡ 8 * n)
unfolding bits_of pack_bytes
pack_bits_lem zero [] h = (0, refl, refl)
pack_bits_lem zero (b ∷ bits) h = absurd (omega arith)
pack_bits_lem (suc n) bits h = go (dec_le 8 (length bits)) (pack_bits_lem n (drop 8 bits) (simp length-drop (omega arith)))
  where
    go : Dec (8 ≤ length bits) → (k : ℕ) × (bits_of (pack_bytes n (drop 8 bits)) ≡ drop 8 bits ++ replicate k false) × (length (drop 8 bits) + k ≡ 8 * n)
        → (k : ℕ) × (low_bits 8 (value_of (take 8 bits)) ++ bits_of (pack_bytes n (drop 8 bits)) ≡ bits ++ replicate k false) × (length bits + k ≡ 8 * suc n)
    go (yes l) r =
        let t : low_bits 8 (value_of (take 8 bits)) ≡ take 8 bits = subst (λ (m : ℕ). low_bits m (value_of (take 8 bits)) ≡ take 8 bits) (length-take-le 8 bits l) (low_value (take 8 bits)) in
        (r.0, rw (t, r.1, ← append_assoc (take 8 bits) (drop 8 bits) (replicate r.0 false), take-append-drop 8 bits), omega (arith, r.2, length-drop 8 bits))
    go (no g) r =
        let a : take 8 bits ≡ bits = take_all 8 bits (omega arith) in
        let d : drop 8 bits ≡ [] = drop_of_length-le bits {i = 8} (omega arith) in
        let s : ℕ = 8 - length bits in
        let e : length bits + s ≡ 8 = omega arith in
        let t : low_bits 8 (value_of bits) ≡ bits ++ replicate s false =
        subst (λ (m : ℕ). low_bits m (value_of bits) ≡ bits ++ replicate s false) e (low_more (length bits) s (value_of bits) (value_lt bits) ∙ ap (λ (l : List Bool). l ++ replicate s false) (low_value bits))
        in (
          s + r.0,
          rw (a, t, r.1, d) (append_assoc bits (replicate s false) (replicate r.0 false) ∙ ap (λ (l : List Bool). bits ++ l) (replicate-append-replicate s r.0 false)),
          omega (arith, r.2, length-drop 8 bits),
        )

pub bits_of_pack : (bits : List Bool) → (k : ℕ) × (bits_of (pack_bits bits) ≡ bits ++ replicate k false) × (k < 8)
unfolding pack_bits
bits_of_pack bits = let p = pack_bits_lem (bytes_for (length bits)) bits (omega arith) in (p.0, p.1, omega (arith, p.2))

-- ---- lengths of codes

pub length_gamma : (v : ℕ) → length (gamma v) ≡ 2 * high_bit (v + 1) + 1
unfolding gamma
length_gamma v =
    let b : ℕ = high_bit (v + 1) in
    length-append (replicate b false) (true ∷ low_bits b (v + 1)) ∙ ap₂ (λ (m n : ℕ). m + suc n) (length-replicate b false) (length_low b (v + 1)) ∙ double b
  where
    double : (b : ℕ) → b + suc b ≡ 2 * b + 1
    double b = omega arith

pub length_delta : (v : ℕ) → length (delta v) ≡ 2 * high_bit (high_bit (v + 1) + 1) + 1 + high_bit (v + 1)
unfolding delta
length_delta v = length-append (gamma (high_bit (v + 1))) (low_bits (high_bit (v + 1)) (v + 1)) ∙ ap₂ (λ (m n : ℕ). m + n) (length_gamma (high_bit (v + 1))) (length_low (high_bit (v + 1)) (v + 1))

pub delta_short : (v : ℕ) → v ≤ 2 ^ 20 → length (delta v) ≤ 29
delta_short v h =
    let a : high_bit (v + 1) < 21 = high_lt (v + 1) 21 (omega arith) (omega arith) in
    omega (arith, length_delta v, a, high_lt (high_bit (v + 1) + 1) 5 (omega arith) (omega (arith, a)))
