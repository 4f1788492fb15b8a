-- `body::Body::count_map` meets its contract: the bits in three parts.
use Prim.Native.Nat.{ℕ, ◌+◌, ◌-◌, ◌*◌, ◌/◌, ◌%◌, ◌≤◌}
use mathlib.Core.Path.{◌≡◌, ap, ◌∙◌}
use mathlib.Core.Bool.{Bool}
use mathlib.Core.List.{List}
use native.Mathlib.Omega.{arith}
use lib.ListN.{length, take, drop}
use Rattle.codec.specs.Bits.{bits_of}
use Rattle.codec.specs.Sets.{ids_of}
use Rattle.codec.proofs.Laws.Low.{length_bits}
use Rattle.codec.proofs.Laws.Chunks.{count_parts}
use Rattle.codec.proofs.body.Body.count_map.Goals as goal

-- how many ids the n bits from a place on tell
abbrev told : List Bool → ℕ → ℕ → ℕ
told bits at n = length (ids_of 0 (take n (drop at bits)))

three : (bits : List Bool) (at n head middle k a b c : ℕ) → at + n ≤ length bits → head + middle ≤ n → k ≡ at + head → a ≡ told bits at head → b ≡ told bits k middle → c ≡ told bits (at + (head + middle)) (n - (head + middle)) → a + b + c ≡ told bits at n
three bits at n head middle k a b c inside few is first second third =
    let rest : ℕ = n - (head + middle) in
    let whole : n ≡ head + middle + rest = omega arith in
    let two = count_parts bits at head middle (omega arith) in
    let all = count_parts bits at (head + middle) rest (omega arith) in
    let here : b ≡ told bits (at + head) middle = second ∙ ap (λ (j : ℕ). told bits j middle) is in
    omega (arith, first, here, third, two, all, ap (told bits at) whole)

pub returns : goal.returns
returns c =
    let s = c.args.self in
    let bytes : List ℕ = s.source.bytes.now in
    let head : ℕ = 8 - s.at % 8 in
    let words : ℕ = (s.colors.n - head) / 64 in (
      three (bits_of bytes) s.at s.colors.n head (64 * words) (8 * ((s.at + head) / 8)) c.ones_in-2.result c.ones_in_words-whole.result c.ones_in-3.result (omega (arith, length_bits bytes)) (omega arith) (omega arith) c.ones_in-2.ensures.0
          c.ones_in_words-whole.ensures.0 c.ones_in-3.ensures.0,
      omega (arith, c.ones_in-2.ensures.1, c.ones_in_words-whole.ensures.1, c.ones_in-3.ensures.1),
    )
