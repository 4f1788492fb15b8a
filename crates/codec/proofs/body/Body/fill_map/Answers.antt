use Prim.Native.Nat.{ℕ, ◌≤◌, ◌+◌, ◌<◌, ◌^◌}
use mathlib.Core.Path.{◌≡◌, refl, sym, ap, ◌∙◌, subst}
use mathlib.Core.Bool.{Bool}
use mathlib.Core.List.{List, ◌++◌}
use native.Mathlib.Omega.{arith}
use lib.ListN.{length, take, drop, length-append, length-drop}
use lib.Seq.{drop-drop}
use Rattle.base.specs.Parts.{over}
use Rattle.codec.specs.Bits.{bits_of, low_bits, value_of}
use Rattle.codec.specs.Sets.{ids_of}
use Rattle.codec.specs.Inside.Bitmaps.{Front}
use Rattle.codec.specs.Inside.Bodies.{bits_in}
use Rattle.codec.proofs.Laws.Low.{length_bits}
use Rattle.codec.proofs.Laws.Fronts.{front_none, front_more, front_all}
use Rattle.codec.proofs.Laws.Chunks.{ids_chunk, chunk_low, ids_part, ids_wider}
use Rattle.codec.proofs.body.Body.fill_map.Goals as goal
use Rattle.codec.proofs.body.Body.fill_map.Goals.{After-bits_at-word}

-- the bits of a chunk, with zeros behind them, tell the ids that it adds
record Added (bits : List Bool) (base width word k count : ℕ) : Type 0 where
  pub ids : ids_of 0 (take (base + width) bits) ≡ ids_of 0 (take base bits) ++ ids_of base (low_bits 32 word)
  pub long : length (ids_of 0 (take (base + width) bits)) ≡ k + length (ids_of base (low_bits 32 word))
  pub fits : k + length (ids_of base (low_bits 32 word)) ≤ count

add : (bits : List Bool) (base width word k n count : ℕ) → base + width ≤ n → n ≤ length bits → width ≤ 32 → word < 2 ^ width → word ≡ value_of (take width (drop base bits)) → length (ids_of 0 (take n bits)) ≡ count
    → length (ids_of 0 (take base bits)) ≡ k → Added bits base width word k count
add bits base width word k n count f h g l w r e =
    let i : ids_of 0 (take (base + width) bits) ≡ ids_of 0 (take base bits) ++ ids_of base (low_bits 32 word) =
    ids_chunk bits base width (omega arith)
    ∙ ap (λ (b : List ℕ). ids_of 0 (take base bits) ++ b) (ap (ids_of base) (sym (chunk_low bits base width (omega arith) word w)) ∙ sym (ids_wider word base width 32 g l))
    in
    let m : length (ids_of 0 (take (base + width) bits)) ≡ k + length (ids_of base (low_bits 32 word)) =
    ap length i ∙ length-append (ids_of 0 (take base bits)) (ids_of base (low_bits 32 word)) ∙ ap (λ (j : ℕ). j + length (ids_of base (low_bits 32 word))) e
    in
    record { ids = i; long = m; fits = omega (arith, ids_part bits (base + width) n f h) }

pub loop-base-init : goal.loop-base-init
unfolding ids_of
loop-base-init c = record { below = omega arith; told = refl; filled = front_none c.args.self.count c.args.out.now }

-- what a turn adds
turn : (c : goal.After-bits_at-word) → Added (bits_in c.args.self) c.loop-base.base c.chunk_width-width.result c.bits_at-word.result c.loop-base.k c.args.self.count
turn c =
    let bits : List Bool = bits_of c.args.self.source.bytes.now in
    add (drop c.args.self.at bits) c.loop-base.base c.chunk_width-width.result c.bits_at-word.result c.loop-base.k c.args.self.colors.n c.args.self.count
    (omega arith)
    (simp length-drop (omega (arith, length_bits c.args.self.source.bytes.now)))
    (omega arith)
    c.bits_at-word.ensures.1
    (c.bits_at-word.ensures.0 ∙ ap (λ (b : List Bool). value_of (take c.chunk_width-width.result b)) (sym (drop-drop c.loop-base.base c.args.self.at bits)))
    c.requires.counted
    c.loop-base.invariant.told

pub fill_chunk-k-requires : goal.fill_chunk-k-requires
fill_chunk-k-requires c =
    record { bounds = (omega arith, omega (arith, c.requires.space)); space = (turn (goal.at.fill_chunk-k-requires c).After-bits_at-word).fits }

-- what is written after a turn
turned : (bits : List Bool) (base width word k count : ℕ) (old out last : List ℕ) → Added bits base width word k count → length (ids_of 0 (take base bits)) ≡ k → Front (ids_of 0 (take base bits)) count old out
    → Front (take k out ++ ids_of base (low_bits 32 word)) count out last → Front (ids_of 0 (take (base + width) bits)) count old last
turned bits base width word k count old out last a e so next =
    subst (λ (l : List ℕ). Front l count old last) (sym a.ids) (front_more (ids_of 0 (take base bits)) count old out k (ids_of base (low_bits 32 word)) last e so next)

pub loop-base-preserved : goal.loop-base-preserved
loop-base-preserved c =
    let v = c.loop-base.invariant in
    let a = turn (goal.at.loop-base-preserved c).After-bits_at-word in
    let w : c.chunk_width-width.result ≡ 32 = omega arith in
    let long = a.long ∙ sym c.fill_chunk-k.ensures.told in
    let filled = turned _ _ _ _ _ _ c.args.out.now c.loop-base.out c.fill_chunk-k.new.out a v.told v.filled c.fill_chunk-k.ensures.filled in
    record { below = omega arith; told = rw w at long; filled = rw w at filled }

-- all are written
whole : (bits : List Bool) (base n count : ℕ) (old out : List ℕ) → base ≡ n → length (ids_of 0 (take n bits)) ≡ count → Front (ids_of 0 (take base bits)) count old out → out ≡ over (ids_of 0 (take n bits)) old
whole bits base n count old out e told so =
    front_all (ids_of 0 (take n bits)) count old out told (subst (λ (k : ℕ). Front (ids_of 0 (take k bits)) count old out) e so)

pub returns : goal.returns
returns c = whole (bits_in c.args.self) c.loop-base.base _ c.args.self.count c.args.out.now c.loop-base.out (omega arith) c.requires.counted c.loop-base.invariant.filled

pub returns-2 : goal.returns-2
returns-2 c =
    let v = c.loop-base.invariant in
    let a = turn (goal.at.returns-2 c).After-bits_at-word in
    let filled = turned _ _ _ _ _ _ c.args.out.now c.loop-base.out c.fill_chunk-k.new.out a v.told v.filled c.fill_chunk-k.ensures.filled in
    whole (bits_in c.args.self) (c.loop-base.base + c.chunk_width-width.result) _ c.args.self.count c.args.out.now c.fill_chunk-k.new.out (omega arith) c.requires.counted filled
