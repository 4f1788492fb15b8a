-- Laws of the gamma and delta codes, for every natural number.
use Prim.Native.Nat.{ℕ, zero, suc, ◌+◌, ◌-◌, ◌*◌, ◌/◌, ◌%◌, ◌^◌, ◌≤◌, ◌<◌}
use mathlib.Core.Path.{◌≡◌, refl, sym, ap, ap₂, ◌∙◌, subst}
use mathlib.Core.Bool.{Bool, true, false, cond}
use mathlib.Core.List.{List, [], ◌∷◌, ◌++◌, append_assoc}
use native.Mathlib.Nat.{pow-suc, zero-lt-suc, zero-add, add-zero, le_refl, mod-eq_of_lt, mod-eq-sub-mod, le_antisymm, lt_of_not-le, not-le_of_lt, le_of_suc-le-suc, le_trans}
use native.Mathlib.Numerals.{add-one}
use native.Mathlib.Omega.{arith}
use lib.ListN.{length, take, drop, get_or, replicate, length-append, take-append-drop, drop_of_length-le}
use lib.Seq.{take_at, drop_at, length-take-le, drop-cons}
use lib.Dec.{leb}
use lib.Pow.{pow_pos, pow_mono}
use lib.Arith.{half_le}
use borrow.Author.Tests.{le-leb, lt-leb, leb-true}
use Rattle.codec.specs.Bits.{low_bits, value_of}
use Rattle.codec.specs.Codes.{above, high_in, high_bit, gamma, delta, Read, got, end, and_then, read_zeros, read_low, read_gamma, read_delta}
use Rattle.codec.proofs.Laws.Low.{length_low, value_low, low_value, value_lt, low_mod}

-- ---- the highest set bit

pub record Top (n b : ℕ) : Type 0 where
  pub low : 2 ^ b ≤ n
  pub high : n < 2 ^ suc b

top_above : (n h b : ℕ) → 0 < n → n / 2 ≡ h → (0 < h → Top h b) → Top n (above h b)
top_above n zero b p e t = record { low = p; high = omega arith }
top_above n (suc h) b p e t =
    let i = t (zero-lt-suc h) in
    record { low = omega (arith, i.low, pow-suc 2 b); high = omega (arith, i.high, pow-suc 2 (suc b)) }

top_in : (k n : ℕ) → 0 < n → n ≤ k → Top n (high_in k n)
unfolding high_in
top_in zero n p h = absurd (omega arith)
top_in (suc k) n p h = top_above n (n / 2) (high_in k (n / 2)) p refl (λ q. top_in k (n / 2) q (half_le h))

pub high_top : (n : ℕ) → 0 < n → Top n (high_bit n)
unfolding high_bit
high_top n p = top_in n n p (le_refl n)

-- a number has one highest set bit
top_le : (n b c : ℕ) → Top n b → Top n c → b ≤ c
top_le n b c s t = le_of_suc-le-suc (lt_of_not-le (λ (g : suc c ≤ b). not-le_of_lt t.high (le_trans (pow_mono g) s.low)))

pub high_unique : (n b : ℕ) → 2 ^ b ≤ n → n < 2 ^ suc b → high_bit n ≡ b
high_unique n b l h =
    let t : Top n b = record { low = l; high = h } in
    let s : Top n (high_bit n) = high_top n (le_trans (pow_pos b) l) in
    le_antisymm (top_le n (high_bit n) b s t) (top_le n b (high_bit n) t s)

-- the highest set bit, as the logarithm
pub high_log : (n b : ℕ) → 2 ^ b ≤ n → n < 2 * 2 ^ b → b ≡ high_bit n
high_log n b l h = sym (high_unique n b l (omega (arith, h, pow-suc 2 b)))

-- ---- the readers

zeros_read : (b z : ℕ) (rest : List Bool) → read_zeros z (replicate b false ++ true ∷ rest) ≡ got (b + z) rest
unfolding read_zeros
zeros_read zero z rest = rw zero-add
zeros_read (suc b) z rest = zeros_read b (z + 1) rest ∙ ap (λ (n : ℕ). got n rest) (omega arith)

-- the low bits of s, where b is the place of its highest
low_read : (s b : ℕ) (rest : List Bool) → Top s b → read_low b (low_bits b s ++ rest) ≡ got (s - 1) rest
unfolding read_low
low_read s b rest t =
    let m : s % 2 ^ b ≡ s - 2 ^ b = mod-eq-sub-mod t.low ∙ mod-eq_of_lt (omega (arith, t.low, t.high, pow-suc 2 b)) in
    let v : s % 2 ^ b + 2 ^ b - 1 ≡ s - 1 = omega (arith, t.low) in
    rw (le-leb b (length (low_bits b s ++ rest)) (simp (length-append, length_low) (omega arith)), take_at (low_bits b s) rest b (length_low b s), drop_at (low_bits b s) rest b (length_low b s), value_low b s, v)

pub gamma_read : (v : ℕ) (rest : List Bool) → read_gamma (gamma v ++ rest) ≡ got v rest
unfolding gamma read_gamma
gamma_read v rest =
    let b : ℕ = high_bit (v + 1) in
    let low : List Bool = low_bits b (v + 1) in
    rw (append_assoc (replicate b false) (true ∷ low) rest, zeros_read b 0 (low ++ rest), add-zero b, low_read (v + 1) b rest (high_top (v + 1) (omega arith)))
    (ap (λ (n : ℕ). got n rest) (omega arith))

pub delta_read : (v : ℕ) (rest : List Bool) → read_delta (delta v ++ rest) ≡ got v rest
unfolding delta read_delta
delta_read v rest =
    let b : ℕ = high_bit (v + 1) in
    let low : List Bool = low_bits b (v + 1) in
    rw (append_assoc (gamma b) low rest, gamma_read b (low ++ rest), low_read (v + 1) b rest (high_top (v + 1) (omega arith)))
    (ap (λ (n : ℕ). got n rest) (omega arith))

-- ---- what a reader accepts is the code of what it answers

pub zeros_only : (bits : List Bool) (z b : ℕ) (rest : List Bool) → read_zeros z bits ≡ got b rest → (n : ℕ) × (b ≡ n + z) × (bits ≡ replicate n false ++ true ∷ rest)
unfolding read_zeros
zeros_only [] z b rest e = let x : ◌≡◌ {A = ℕ} 0 1 = cc in absurd (omega arith)
zeros_only (true ∷ bits) z b rest e = let p : z ≡ b = cc in let q : bits ≡ rest = cc in (0, omega arith, ap (λ (l : List Bool). true ∷ l) q)
zeros_only (false ∷ bits) z b rest e =
    let t = zeros_only bits (z + 1) b rest e in
    (suc t.0, omega (arith, t.1), ap (λ (l : List Bool). false ∷ l) t.2)

-- what `read_low` accepts: the low b bits of a number whose highest is at b
pub low_only : (b v : ℕ) (bits rest : List Bool) → read_low b bits ≡ got v rest → Top (v + 1) b × (bits ≡ low_bits b (v + 1) ++ rest)
unfolding read_low
low_only b v bits rest e = go (leb b (length bits)) refl e
  where
    go : (t : Bool) → leb b (length bits) ≡ t → cond t (got (value_of (take b bits) + 2 ^ b - 1) (drop b bits)) end ≡ got v rest → Top (v + 1) b × (bits ≡ low_bits b (v + 1) ++ rest)
    go false h e = let x : ◌≡◌ {A = ℕ} 0 1 = cc in absurd (omega arith)
    go true h e =
        let n : ℕ = value_of (take b bits) in
        let w : n + 2 ^ b - 1 ≡ v = cc in
        let r : drop b bits ≡ rest = cc in
        let k : length (take b bits) ≡ b = length-take-le b bits (leb-true b (length bits) h) in
        let s : n < 2 ^ b = subst (λ (x : ℕ). n < 2 ^ x) k (value_lt (take b bits)) in
        let q : v + 1 ≡ n + 1 * 2 ^ b = omega (arith, w, pow_pos b) in
        let m : low_bits b (v + 1) ≡ take b bits =
        sym (low_mod b (v + 1)) ∙ ap (low_bits b) (ap (λ (x : ℕ). x % 2 ^ b) q ∙ native.Mathlib.Nat.add-mul-mod_self_right n 1 (2 ^ b) ∙ mod-eq_of_lt s) ∙ subst (λ (x : ℕ). low_bits x n ≡ take b bits) k (low_value (take b bits))
        in
        (record { low = omega (arith, q); high = omega (arith, q, s, pow-suc 2 b) }, sym (take-append-drop b bits) ∙ ap₂ (λ (l m : List Bool). l ++ m) (sym m) r)

pub then_got : (r : Read) (f : ℕ → List Bool → Read) (v : ℕ) (rest : List Bool) → and_then r f ≡ got v rest → (n : ℕ) × (mid : List Bool) × (r ≡ got n mid) × (f n mid ≡ got v rest)
then_got (got n mid) f v rest e = (n, mid, refl, e)
then_got end f v rest e = let x : ◌≡◌ {A = ℕ} 0 1 = cc in absurd (omega arith)

pub gamma_only : (v : ℕ) (bits rest : List Bool) → read_gamma bits ≡ got v rest → bits ≡ gamma v ++ rest
unfolding gamma read_gamma
gamma_only v bits rest e =
    let t = then_got (read_zeros 0 bits) read_low v rest e in
    let z = zeros_only bits 0 t.0 t.1 t.2 in
    let l = low_only t.0 v t.1 rest t.3 in
    let n : z.0 ≡ t.0 = omega (arith, z.1) in
    let h : high_bit (v + 1) ≡ t.0 = high_unique (v + 1) t.0 l.0.low l.0.high in
    rw (h, append_assoc) (z.2 ∙ ap₂ (λ (k : ℕ) (m : List Bool). replicate k false ++ true ∷ m) n l.1)

pub delta_only : (v : ℕ) (bits rest : List Bool) → read_delta bits ≡ got v rest → bits ≡ delta v ++ rest
unfolding delta read_delta
delta_only v bits rest e =
    let t = then_got (read_gamma bits) read_low v rest e in
    let g = gamma_only t.0 bits t.1 t.2 in
    let l = low_only t.0 v t.1 rest t.3 in
    let h : high_bit (v + 1) ≡ t.0 = high_unique (v + 1) t.0 l.0.low l.0.high in
    rw (h, append_assoc) (g ∙ ap (λ (m : List Bool). gamma t.0 ++ m) l.1)

-- ---- no code is the beginning of another

pub delta_free : (v w : ℕ) (r s : List Bool) → delta v ++ r ≡ delta w ++ s → (v ≡ w) × (r ≡ s)
delta_free v w r s e =
    let q : got v r ≡ got w s = sym (delta_read v r) ∙ ap read_delta e ∙ delta_read w s in
    (cc, cc)

-- ---- the readers at a place

pub low_got : (b : ℕ) (bits : List Bool) → b ≤ length bits → read_low b bits ≡ got (value_of (take b bits) + 2 ^ b - 1) (drop b bits)
unfolding read_low
low_got b bits h = rw (le-leb b (length bits) h)

pub low_end : (b : ℕ) (bits : List Bool) → length bits < b → read_low b bits ≡ end
unfolding read_low
low_end b bits h = rw (lt-leb b (length bits) h)

pub low_large : (b v : ℕ) (bits rest : List Bool) → 20 < b → read_low b bits ≡ got v rest → 2 ^ 20 < v
low_large b v bits rest h e = omega (arith, (low_only b v bits rest e).0.low, pow_mono {i = 21} {j = b} h)

pub end_got : {A : Type 0} {r : Read} {v : ℕ} {rest : List Bool} → r ≡ end → r ≡ got v rest → A
end_got {r = r} {v = v} {rest = rest} p q = let x : ◌≡◌ {A = ℕ} 0 1 = cc in absurd (omega arith)

pub zeros_more : (bits : List Bool) (z place : ℕ) → place < length bits → get_or bits place false ≡ false → read_zeros z (drop place bits) ≡ read_zeros (z + 1) (drop (place + 1) bits)
unfolding read_zeros
zeros_more bits z place h e = rw (add-one place, drop-cons bits place false h, e)

pub zeros_stop : (bits : List Bool) (z place : ℕ) → place < length bits → get_or bits place false ≡ true → read_zeros z (drop place bits) ≡ got z (drop (place + 1) bits)
unfolding read_zeros
zeros_stop bits z place h e = rw (add-one place, drop-cons bits place false h, e)

pub zeros_end : (bits : List Bool) (z place : ℕ) → length bits ≤ place → read_zeros z (drop place bits) ≡ end
unfolding read_zeros
zeros_end bits z place h = rw (drop_of_length-le bits h)

pub gamma_end : (bits : List Bool) → read_zeros 0 bits ≡ end → read_gamma bits ≡ end
unfolding read_gamma
gamma_end bits e = rw e

pub gamma_from : (bits rest : List Bool) (n : ℕ) → read_zeros 0 bits ≡ got n rest → read_gamma bits ≡ read_low n rest
unfolding read_gamma
gamma_from bits rest n e = rw e

pub delta_from : (bits rest : List Bool) (n : ℕ) → read_gamma bits ≡ got n rest → read_delta bits ≡ read_low n rest
unfolding read_delta
delta_from bits rest n e = rw e

-- a length above 20 codes only large values
pub delta_large : (bits : List Bool) → ((n : ℕ) (mid : List Bool) → read_gamma bits ≡ got n mid → 20 < n) → (v : ℕ) (rest : List Bool) → read_delta bits ≡ got v rest → 2 ^ 20 < v
unfolding read_delta
delta_large bits h v rest e =
    let t = then_got (read_gamma bits) read_low v rest e in
    low_large t.0 v t.1 rest (h t.0 t.1 t.2) t.3
