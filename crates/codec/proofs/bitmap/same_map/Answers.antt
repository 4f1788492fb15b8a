use Prim.Native.Nat.{ℕ, ◌+◌, ◌*◌, ◌≤◌}
use mathlib.Core.Path.{◌≡◌, sym, ap, ◌∙◌, subst}
use mathlib.Core.Bool.{Bool}
use mathlib.Core.List.{List, [], ◌++◌, append_assoc}
use native.Mathlib.Omega.{arith}
use lib.ListN.{length, drop, take, length-append, length-drop}
use Rattle.codec.specs.Bits.{bits_of, value_of, low_bits}
use Rattle.codec.specs.Sets.{map_bits}
use Rattle.codec.specs.Inside.Bitmaps.{MapOf}
use Rattle.codec.specs.Inside.Gaps.{BitsAt}
use Rattle.std.specs.Prelude.{Some}
use Rattle.codec.specs.declared.bitmap.MapChunk.{MapChunk}
use Rattle.codec.proofs.Laws.Low.{length_bits}
use Rattle.codec.proofs.Laws.Sets.{length_map_bits}
use Rattle.codec.proofs.Laws.Bitmaps.{Mapping, mapping_start, mapping_next, mapping_end, mapping_read, bits_by_value}
use Rattle.codec.proofs.bitmap.same_map.Goals as goal
use Rattle.codec.proofs.bitmap.same_map.Goals.{else-loop-base-test, then-loop-base-test+else-bits_at-c+else-base-end-base-gt32}

-- the bits below `base` stand at the place
abbrev Stands : List ℕ → ℕ → ℕ → List ℕ → ℕ → ℕ → Type 0
Stands bytes at N ids i base = (done : List Bool) × Mapping N ids i base done × (drop at (bits_of bytes) ≡ done ++ drop (at + base) (bits_of bytes))

module _ (bytes : List ℕ) (at N : ℕ) (ids : List ℕ) (i base : ℕ) (stands : Stands bytes at N ids i base) where
  -- and those of a chunk more
  one_more : (width : ℕ) (r : MapChunk) → MapOf N ids i base width r → at + base + width ≤ 8 * length bytes → value_of (take width (drop (at + base) (bits_of bytes))) ≡ r.word → Stands bytes at N ids r.next (base + width)
  one_more width r chunk inside same =
      let bits = bits_of bytes in
      let low = low_bits width r.word in
      let here : drop (at + base) bits ≡ low ++ drop (at + base + width) bits = bits_by_value width r.word (at + base) bits (omega (arith, length_bits bytes)) same in
      let n : at + base + width ≡ at + (base + width) = omega arith in (
        stands.0 ++ low,
        mapping_next N ids i base stands.0 stands.1 width r chunk,
        stands.2 ∙ ap (λ (x : List Bool). stands.0 ++ x) here ∙ sym (append_assoc stands.0 low (drop (at + base + width) bits)) ∙ ap (λ (k : ℕ). (stands.0 ++ low) ++ drop k bits) n,
      )

  all_stand : N ≤ base → at + N ≤ 8 * length bytes → BitsAt (map_bits 0 N ids) bytes at (Some (at + N))
  all_stand h inside =
      let n : at + base ≡ at + N = omega (arith, stands.1.ahead.below) in
      (stands.2 ∙ ap (λ (x : List Bool). x ++ drop (at + base) (bits_of bytes)) (sym (mapping_end N ids i base stands.0 stands.1 h)) ∙ ap (λ (k : ℕ). map_bits 0 N ids ++ drop k (bits_of bytes)) n, inside)

pub returns-then-source-at : goal.returns-then-source-at
returns-then-source-at c =
    let a = c.args in
    λ rest e. omega (arith, length-drop a.at (bits_of a.source.bytes.now), length_bits a.source.bytes.now, ap length e ∙ length-append (map_bits 0 a.set.colors.n a.set.ids.now) rest, length_map_bits a.set.colors.n 0 a.set.ids.now)

pub loop-base-init : goal.loop-base-init
loop-base-init c =
    let a = c.args in
    let z : a.at ≡ a.at + 0 = omega arith in
    ([], mapping_start a.set.colors.n a.set.ids.now a.set.within, ap (λ (k : ℕ). drop k (bits_of a.source.bytes.now)) z)

pub returns-then-bits_at-c : goal.returns-then-bits_at-c
returns-then-bits_at-c c =
    let a = c.args in
    λ rest e. c.if-bits_at-c.true (c.bits_at.ensures.0 ∙ mapping_read a.set.colors.n a.set.ids.now c.loop-base.i c.loop-base.base c.loop-base.invariant.0 c.loop-base.invariant.1 c.chunk_width-width.result c.map_chunk-c.result c.map_chunk-c.ensures _ _ rest c.loop-base.invariant.2 e)

pub loop-base-preserved : goal.loop-base-preserved
loop-base-preserved c =
    let a = c.args in
    let whole : c.loop-base.base + c.chunk_width-width.result ≡ c.loop-base.base + 32 = omega (arith, c.chunk_width-width.ensures) in
    subst (Stands a.source.bytes.now a.at a.set.colors.n a.set.ids.now c.map_chunk-c.result.next) whole
    (one_more a.source.bytes.now a.at a.set.colors.n a.set.ids.now c.loop-base.i c.loop-base.base c.loop-base.invariant c.chunk_width-width.result c.map_chunk-c.result c.map_chunk-c.ensures (omega (arith, c.chunk_width-width.ensures)) (sym c.bits_at.ensures.0 ∙ c.if-bits_at-c.false))

pub returns : goal.returns
returns c =
    let a = c.args in
    let inside : a.at + a.set.colors.n ≤ 8 * length a.source.bytes.now = omega arith in
    elim c.loop-base-test.branch [
      | else-loop-base-test w ↦ all_stand a.source.bytes.now a.at a.set.colors.n a.set.ids.now c.loop-base.i c.loop-base.base c.loop-base.invariant (omega (arith, w.loop-base-test.false)) inside
      | then-loop-base-test+else-bits_at-c+else-base-end-base-gt32 w ↦
          all_stand a.source.bytes.now a.at a.set.colors.n a.set.ids.now w.map_chunk-c.result.next (c.loop-base.base + w.chunk_width-width.result)
          (one_more a.source.bytes.now a.at a.set.colors.n a.set.ids.now c.loop-base.i c.loop-base.base c.loop-base.invariant w.chunk_width-width.result w.map_chunk-c.result w.map_chunk-c.ensures (omega (arith, w.chunk_width-width.ensures)) (sym w.bits_at.ensures.0 ∙ w.if-bits_at-c.false))
          (omega (arith, w.chunk_width-width.ensures)) inside
    ]
