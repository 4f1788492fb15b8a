-- Laws of a number that shows the bits at a place.
use Prim.Native.Nat.{ℕ, zero, suc, ◌+◌, ◌-◌, ◌*◌, ◌/◌, ◌%◌, ◌^◌, ◌≤◌, ◌<◌}
use mathlib.Core.Path.{◌≡◌, refl, sym, ap, ◌∙◌, subst}
use mathlib.Core.Bool.{Bool, true}
use mathlib.Core.List.{List, ◌∷◌, ◌++◌}
use native.Mathlib.Nat.{pow-suc}
use native.Mathlib.Omega.{arith}
use lib.ListN.{length, take, drop, replicate, take-append-drop, length-drop, length-replicate, replicate-append-replicate}
use lib.Seq.{drop-drop, drop_at, take_at, length-take-le}
use lib.Count.{count_trailing_zeros, under}
use Rattle.std.proofs.Math.Seq.{take-add}
use Rattle.std.specs.Prelude.{Some}
use Rattle.codec.specs.Bits.{is_one, low_bits, bits_of}
use Rattle.codec.specs.Codes.{delta, read_delta}
use Rattle.codec.specs.Inside.Places.{ReadCodeAt}
use Rattle.codec.specs.Inside.Windows.{Window, Shown}
use Rattle.codec.proofs.Laws.Low.{length_low, low_add, length_bits}
use Rattle.codec.proofs.Laws.Codes.{delta_read}
use Rattle.codec.proofs.Laws.Windows.{window_bits, word_window}

-- a window shows the bits from a place on, as many as lie in it
pub shown_window : (bytes : List ℕ) (k at r n : ℕ) → Window bytes k r → 8 * k ≤ at → at + n ≤ 8 * k + 64 → at + n ≤ 8 * length bytes → Shown bytes at (r / 2 ^ (at - 8 * k)) n
shown_window bytes k at r n shown low high h = record { bits = window_bits bytes k at r n shown low high h; inside = h }

-- and eight bytes 57 from any place in the first of them on
pub shown_word : (bytes : List ℕ) (at w : ℕ) → at / 8 + 8 ≤ length bytes → bits_of (drop (at / 8) bytes) ≡ low_bits 64 w ++ bits_of (drop (at / 8 + 8) bytes) → Shown bytes at (w / 2 ^ (at % 8)) 57
shown_word bytes at w long e =
    let p : at - 8 * (at / 8) ≡ at % 8 = omega arith in
    subst (λ (j : ℕ). Shown bytes at (w / 2 ^ j) 57) p (shown_window bytes (at / 8) at w 57 (word_window (bits_of (drop (at / 8) bytes)) w _ e) (omega arith) (omega arith) (omega (arith, long)))

module _ (bytes : List ℕ) (at w n more : ℕ) (shown : Shown bytes at w (n + more)) where
  abbrev here : List Bool
  here = drop at (bits_of bytes)

  long : length (take n here) ≡ n
  long = length-take-le n here (omega (arith, shown.inside, length-drop at (bits_of bytes), length_bits bytes))

  both : take n here ++ take more (drop n here) ≡ low_bits n w ++ low_bits more (w / 2 ^ n)
  both = sym (take-add n more here) ∙ shown.bits ∙ low_add n more w

  -- the first n of them
  pub shown_front : here ≡ low_bits n w ++ drop (at + n) (bits_of bytes)
  shown_front =
      let a : take n here ≡ low_bits n w = sym (take_at (take n here) (take more (drop n here)) n long) ∙ ap (take n) both ∙ take_at (low_bits n w) (low_bits more (w / 2 ^ n)) n (length_low n w) in
      sym (take-append-drop n here) ∙ ap (λ (l : List Bool). l ++ drop n here) a ∙ ap (λ (l : List Bool). low_bits n w ++ l) (drop-drop n at (bits_of bytes))

  -- and those behind them
  pub shown_next : Shown bytes (at + n) (w / 2 ^ n) more
  shown_next = record {
    bits = ap (take more) (sym (drop-drop n at (bits_of bytes))) ∙ sym (drop_at (take n here) (take more (drop n here)) n long) ∙ ap (drop n) both ∙ drop_at (low_bits n w) (low_bits more (w / 2 ^ n)) n (length_low n w);
    inside = omega (arith, shown.inside);
  }

  -- a code among them is the one that is read
  pub shown_code : (v : ℕ) → low_bits n w ≡ delta v → ReadCodeAt read_delta bytes at (Some (record { value = v; next = at + n }))
  shown_code v e = (ap read_delta (shown_front ∙ ap (λ (l : List Bool). l ++ drop (at + n) (bits_of bytes)) e) ∙ delta_read v (drop (at + n) (bits_of bytes)), omega (arith, shown.inside))

-- fewer of them
pub shown_fewer : (bytes : List ℕ) (at w many n : ℕ) → n ≤ many → Shown bytes at w many → Shown bytes at w (n + (many - n))
shown_fewer bytes at w many n h s = let e : many ≡ n + (many - n) = omega arith in subst (Shown bytes at w) e s

-- a code that a window shows whole is the one that is read
pub window_found : (bytes : List ℕ) (k at r : ℕ) → Window bytes k r → (v n : ℕ) → (low_bits n (r / 2 ^ (at - 8 * k)) ≡ delta v) × (n ≤ 28) → 8 * k ≤ at → at + n ≤ 8 * k + 64 → at + n ≤ 8 * length bytes
    → ReadCodeAt read_delta bytes at (Some (record { value = v; next = at + n }))
window_found bytes k at r shown v n c low high h =
    let x : ℕ = r / 2 ^ (at - 8 * k) in
    shown_code bytes at x n (n - n) (shown_fewer bytes at x n n (omega arith) (shown_window bytes k at r n shown low high h)) v c.0

-- ---- ones

-- as many as zeros stand at the low end of the number's complement
pub low_ones : (m k w : ℕ) → w < 2 ^ m → k ≤ count_trailing_zeros m (2 ^ m - 1 - w) → low_bits k w ≡ replicate k true
unfolding count_trailing_zeros low_bits
low_ones m zero w h t = refl
low_ones zero (suc k) w h t = absurd (omega (arith, t))
low_ones (suc m) (suc k) w h t = go ((2 ^ suc m - 1 - w) % 2) refl t (low_ones m k (w / 2) (omega (arith, pow-suc 2 m)))
  where
    half : (2 ^ suc m - 1 - w) / 2 ≡ 2 ^ m - 1 - w / 2
    half = omega (arith, pow-suc 2 m, h)

    go : (d : ℕ) → (2 ^ suc m - 1 - w) % 2 ≡ d → suc k ≤ under d (count_trailing_zeros m ((2 ^ suc m - 1 - w) / 2))
        → (k ≤ count_trailing_zeros m (2 ^ m - 1 - w / 2) → low_bits k (w / 2) ≡ replicate k true) → is_one (w % 2) ∷ low_bits k (w / 2) ≡ true ∷ replicate k true
    go zero e t later =
        let odd : w % 2 ≡ 1 = omega (arith, pow-suc 2 m, h, e) in
        rw odd (ap (λ (l : List Bool). true ∷ l) (later (rw (← half) (omega (arith, t)))))
    go (suc d) e t later = absurd (omega (arith, t))

pub one_at_least : (m w : ℕ) → w < 2 ^ suc m → w % 2 ≡ 1 → 1 ≤ count_trailing_zeros (suc m) (2 ^ suc m - 1 - w)
unfolding count_trailing_zeros
one_at_least m w h odd = let even : (2 ^ suc m - 1 - w) % 2 ≡ 0 = omega (arith, pow-suc 2 m, h, odd) in rw even (omega arith)

-- the ones that a number shows
pub shown_ones : (bytes : List ℕ) (at w ones k many : ℕ) → Shown bytes at w many → k ≤ many → k ≤ ones → low_bits ones w ≡ replicate ones true → drop at (bits_of bytes) ≡ replicate k true ++ drop (at + k) (bits_of bytes)
shown_ones bytes at w ones k many s h less are =
    let e : ones ≡ k + (ones - k) = omega arith in
    let first : low_bits k w ≡ replicate k true =
    sym (take_at (low_bits k w) (low_bits (ones - k) (w / 2 ^ k)) k (length_low k w)) ∙ ap (take k) (sym (low_add k (ones - k) w) ∙ ap (λ (n : ℕ). low_bits n w) (sym e) ∙ are ∙ ap (λ (n : ℕ). replicate n true) e ∙ sym (replicate-append-replicate k (ones - k) true))
    ∙ take_at (replicate k true) (replicate (ones - k) true) k (length-replicate k true)
    in
    shown_front bytes at w k (many - k) (shown_fewer bytes at w many k h s) ∙ ap (λ (l : List Bool). l ++ drop (at + k) (bits_of bytes)) first
