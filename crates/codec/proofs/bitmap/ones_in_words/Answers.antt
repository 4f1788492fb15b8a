use Prim.Native.Nat.{ℕ, ◌+◌, ◌*◌, ◌≤◌, ◌<◌, ◌^◌}
use mathlib.Core.Path.{◌≡◌, refl, sym, ap, ◌∙◌, subst}
use mathlib.Core.Bool.{Bool}
use mathlib.Core.List.{List, ◌++◌}
use native.Mathlib.Nat.{mod-eq_of_lt}
use native.Mathlib.Omega.{arith}
use lib.Count.{ones, ones-le}
use lib.ListN.{length, take, drop}
use lib.Seq.{take_at}
use Rattle.codec.specs.Bits.{bits_of, value_of, low_bits}
use Rattle.codec.specs.Sets.{ids_of}
use Rattle.codec.proofs.Laws.Low.{length_low, value_low, length_bits}
use Rattle.codec.proofs.Laws.Windows.{drop_bits}
use Rattle.codec.proofs.Laws.Chunks.{count_more}
use Rattle.codec.proofs.bitmap.ones_in_words.Goals as goal

pub loop-j-init : goal.loop-j-init
unfolding ids_of
loop-j-init c = (omega arith, refl)

-- the bits of a word
read : (bytes : List ℕ) (k j w : ℕ) (rest : List Bool) → w < 2 ^ 64 → bits_of (drop (k + 8 * j) bytes) ≡ low_bits 64 w ++ rest → w ≡ value_of (take 64 (drop (8 * k + 64 * j) (bits_of bytes)))
read bytes k j w rest h e =
    let p : 8 * k + 64 * j ≡ 8 * (k + 8 * j) = omega arith in
    let are : drop (8 * k + 64 * j) (bits_of bytes) ≡ low_bits 64 w ++ rest = ap (λ (n : ℕ). drop n (bits_of bytes)) p ∙ drop_bits bytes (k + 8 * j) ∙ e in
    sym (ap (λ (l : List Bool). value_of (take 64 l)) are ∙ ap value_of (take_at (low_bits 64 w) rest 64 (length_low 64 w)) ∙ value_low 64 w ∙ mod-eq_of_lt h)

pub loop-j-preserved : goal.loop-j-preserved
loop-j-preserved c =
    let a = c.args in
    let bytes : List ℕ = a.bytes.now in
    let w : ℕ = c.word_at.result in
    let v = c.loop-j.invariant in
    let few : ones w ≤ 64 = ones-le 64 w c.word_at.type_inv in
    let n : 64 * c.loop-j.j + 64 ≡ 64 * (c.loop-j.j + 1) = omega arith in
    let more = count_more (bits_of bytes) (8 * a.k) (64 * c.loop-j.j) 64 w c.loop-j.count (omega (arith, length_bits bytes)) (read bytes a.k c.loop-j.j w _ c.word_at.type_inv c.word_at.ensures) v.1 in
    (omega (arith, few), subst (λ (m : ℕ). c.loop-j.count + ones w ≡ length (ids_of 0 (take m (drop (8 * a.k) (bits_of bytes))))) n more)
