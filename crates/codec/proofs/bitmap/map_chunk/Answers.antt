use Prim.Native.Nat.{ℕ, ◌+◌, ◌-◌, ◌*◌, ◌%◌, ◌^◌, ◌≤◌, ◌<◌}
use native.Mathlib.Omega.{arith}
use mathlib.Core.Path.{◌≡◌, ap, ◌∙◌, subst}
use mathlib.Core.List.{List}
use lib.ListN.{length, take, drop, get_or, length-drop}
use lib.Seq.{get_or-drop}
use Rattle.std.specs.Int.Bits.{bit_or}
use Rattle.base.proofs.Parts.{tail_is}
use Rattle.codec.specs.Inside.Bitmaps.{MapOf}
use Rattle.codec.proofs.Laws.Bitmaps.{or_above, Chunked, chunk_start, chunk_above, chunk_clear, chunk_next, chunk_end}
use Rattle.codec.proofs.bitmap.map_chunk.Goals as goal
use Rattle.codec.proofs.bitmap.map_chunk.Goals.{Else-base-width}

-- the ids from place i on
abbrev from_place : List ℕ → ℕ → List ℕ
from_place ids i = take (length ids - i) (drop i ids)

id_at : (ids : List ℕ) (i k : ℕ) → get_or (from_place ids i) k 0 ≡ get_or ids (i + k) 0
id_at ids i k = ap (λ (l : List ℕ). get_or l k 0) (tail_is i ids) ∙ get_or-drop i ids k 0

count_from : (ids : List ℕ) (i : ℕ) → length (from_place ids i) ≡ length ids - i
count_from ids i = ap length (tail_is i ids) ∙ length-drop i ids

pub loop-k-init : goal.loop-k-init
loop-k-init c =
    let a = c.args in
    let z : a.i ≡ a.i + 0 = omega arith in
    subst (Chunked a.set.colors.n a.set.ids.now a.i a.base a.width 0) z (chunk_start a.set.colors.n a.set.ids.now a.i a.base a.width c.requires.0)

pub returns-then-base-width : goal.returns-then-base-width
returns-then-base-width c =
    let a = c.args in
    chunk_end a.set.colors.n a.set.ids.now a.i a.base a.width c.loop-k.word (a.i + c.loop-k.k) c.loop-k.invariant c.requires.2 (λ h. rw (← id_at a.set.ids.now a.i c.loop-k.k) c.if-base-width.true)

inside : (c : Else-base-width) → c.args.i + c.loop-k.k < length c.args.set.ids.now
inside c = omega (arith, c.loop-k-test.true, count_from c.args.set.ids.now c.args.i)

above : (c : Else-base-width) → c.args.base ≤ get_or (from_place c.args.set.ids.now c.args.i) c.loop-k.k 0
above c =
    let a = c.args in
    omega (arith, c.loop-k.invariant.low, id_at a.set.ids.now a.i c.loop-k.k, chunk_above a.set.colors.n a.set.ids.now a.i a.base a.width c.loop-k.word (a.i + c.loop-k.k) c.loop-k.invariant (inside c))

next : (c : Else-base-width)
    → Chunked c.args.set.colors.n c.args.set.ids.now c.args.i c.args.base c.args.width
    (bit_or c.loop-k.word (1 * 2 ^ (get_or (from_place c.args.set.ids.now c.args.i) c.loop-k.k 0 - c.args.base) % 2 ^ 64)) (c.args.i + (c.loop-k.k + 1))
next c =
    let a = c.args in
    let ids = a.set.ids.now in
    let k = a.i + c.loop-k.k in
    let n : k + 1 ≡ a.i + (c.loop-k.k + 1) = omega arith in
    let here : get_or ids k 0 < a.base + a.width = omega (arith, c.if-base-width.false, id_at ids a.i c.loop-k.k) in
    let clear : c.loop-k.word < 2 ^ (get_or ids k 0 - a.base) = chunk_clear a.set.colors.n ids a.i a.base a.width c.loop-k.word k c.loop-k.invariant (inside c) in
    rw (id_at ids a.i c.loop-k.k, or_above (get_or ids k 0 - a.base) c.loop-k.word (omega (arith, chunk_above a.set.colors.n ids a.i a.base a.width c.loop-k.word k c.loop-k.invariant (inside c))) clear, ← n)
    (chunk_next a.set.colors.n ids a.i a.base a.width c.loop-k.word k c.loop-k.invariant (inside c) here)

pub overflow_sub-word : goal.overflow_sub-word
overflow_sub-word c = above (goal.at.overflow_sub-word c).Else-base-width

pub overflow_cast-word : goal.overflow_cast-word
overflow_cast-word c = omega (arith, above (goal.at.overflow_cast-word c).Else-base-width)

pub overflow_shl-word : goal.overflow_shl-word
overflow_shl-word c = omega (arith, above (goal.at.overflow_shl-word c).Else-base-width)

pub loop-k-preserved : goal.loop-k-preserved
loop-k-preserved c = next (goal.at.loop-k-preserved c).Else-base-width

pub returns : goal.returns
returns c =
    let a = c.args in
    let e : a.i + c.loop-k.k ≡ length a.set.ids.now = omega (arith, c.loop-k.invariant.inside, c.loop-k-test.false, count_from a.set.ids.now a.i) in
    subst (λ (k : ℕ). MapOf a.set.colors.n a.set.ids.now a.i a.base a.width (record { word = c.loop-k.word; next = k })) e
    (chunk_end a.set.colors.n a.set.ids.now a.i a.base a.width c.loop-k.word (a.i + c.loop-k.k) c.loop-k.invariant c.requires.2 (λ h. absurd (omega (arith, e))))
