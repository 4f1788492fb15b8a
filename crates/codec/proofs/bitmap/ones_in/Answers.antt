use Prim.Native.Nat.{ℕ, ◌≤◌, ◌+◌}
use mathlib.Core.Path.{◌≡◌, refl, ap, ◌∙◌}
use mathlib.Core.List.{List}
use native.Mathlib.Omega.{arith}
use lib.Count.{ones, ones-le}
use lib.ListN.{length, take, drop}
use Rattle.codec.specs.Bits.{bits_of}
use Rattle.codec.specs.Sets.{ids_of}
use Rattle.codec.proofs.Laws.Low.{length_bits}
use Rattle.codec.proofs.Laws.Chunks.{count_more}
use Rattle.codec.proofs.bitmap.ones_in.Goals as goal
use Rattle.codec.proofs.bitmap.ones_in.Goals.{After-bits_at-word}

pub loop-base-init : goal.loop-base-init
unfolding ids_of
loop-base-init c = (omega arith, omega arith, refl)

few : (c : goal.After-bits_at-word) → ones c.bits_at-word.result ≤ c.chunk_width-width.result
few c = ones-le c.chunk_width-width.result c.bits_at-word.result c.bits_at-word.ensures.1

-- with the ids of a turn
turned : (c : goal.After-bits_at-word) → c.loop-base.count + ones c.bits_at-word.result ≡ length (ids_of 0 (take (c.loop-base.base + c.chunk_width-width.result) (drop c.args.at (bits_of c.args.bytes.now))))
turned c =
    let bytes : List ℕ = c.args.bytes.now in
    count_more (bits_of bytes) c.args.at c.loop-base.base c.chunk_width-width.result _ _ (omega (arith, length_bits bytes)) c.bits_at-word.ensures.0 c.loop-base.invariant.2

pub overflow_cast-count : goal.overflow_cast-count
overflow_cast-count c = omega (arith, few c)

pub overflow_add-count : goal.overflow_add-count
overflow_add-count c = omega (arith, few c)

pub loop-base-preserved : goal.loop-base-preserved
loop-base-preserved c =
    let at = (goal.at.loop-base-preserved c).After-bits_at-word in
    let w : c.chunk_width-width.result ≡ 32 = omega arith in
    let ids = turned at in
    (omega arith, omega (arith, few at), rw w at ids)

pub returns : goal.returns
returns c =
    let e : c.loop-base.base ≡ c.args.n = omega arith in
    (c.loop-base.invariant.2 ∙ ap (λ (k : ℕ). length (ids_of 0 (take k (drop c.args.at (bits_of c.args.bytes.now))))) e, omega arith)

pub returns-2 : goal.returns-2
returns-2 c =
    let at = (goal.at.returns-2 c).After-bits_at-word in
    let e : c.loop-base.base + c.chunk_width-width.result ≡ c.args.n = omega arith in
    (turned at ∙ ap (λ (k : ℕ). length (ids_of 0 (take k (drop c.args.at (bits_of c.args.bytes.now))))) e, omega (arith, few at))
