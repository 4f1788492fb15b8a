use Prim.Native.Nat.{ℕ, ◌+◌}
use mathlib.Core.Path.{◌≡◌, refl, sym, ◌∙◌, subst}
use mathlib.Core.Bool.{Bool}
use mathlib.Core.List.{List, [], ◌++◌}
use native.Mathlib.Omega.{arith}
use Rattle.codec.specs.Bits.{low_bits}
use Rattle.codec.specs.Inside.Writers.{Wrote}
use Rattle.codec.proofs.Laws.Bitmaps.{Mapping, mapping_start, mapping_next, mapping_end, mapping_count}
use Rattle.codec.proofs.Laws.Writers.{wrote_none, wrote_then, ready_after}
use Rattle.codec.proofs.bitmap.write_map.Goals as goal
use Rattle.codec.proofs.bitmap.write_map.Goals.{After-push_word}

pub loop-base-init : goal.loop-base-init
loop-base-init c =
    let a = c.args in
    ([], mapping_start a.set.colors.n a.set.ids.now a.set.within, wrote_none a.w.now, refl)

pub push_word-requires-clause-ready : goal.push_word-requires-clause-ready
push_word-requires-clause-ready c =
    let a = c.args in
    ready_after a.w.now c.loop-base.w c.loop-base.invariant.0 c.loop-base.invariant.2 a.set.colors.n c.chunk_width-width.result c.requires (omega (arith, mapping_count a.set.colors.n a.set.ids.now c.loop-base.i c.loop-base.base c.loop-base.invariant.0 c.loop-base.invariant.1, c.chunk_width-width.ensures.2))

-- the chunk that a turn writes
abbrev written : (c : After-push_word) → List Bool
written c = c.loop-base.invariant.0 ++ low_bits c.chunk_width-width.result c.map_chunk-c.result.word

mapped : (c : After-push_word) → Mapping c.args.set.colors.n c.args.set.ids.now c.map_chunk-c.result.next (c.loop-base.base + c.chunk_width-width.result) (written c)
mapped c = mapping_next c.args.set.colors.n c.args.set.ids.now c.loop-base.i c.loop-base.base c.loop-base.invariant.0 c.loop-base.invariant.1 c.chunk_width-width.result c.map_chunk-c.result c.map_chunk-c.ensures

wrote : (c : After-push_word) → Wrote c.args.w.now c.push_word.new.w (written c)
wrote c = wrote_then c.args.w.now c.loop-base.w c.loop-base.invariant.0 c.loop-base.invariant.2 c.push_word.new.w (low_bits c.chunk_width-width.result c.map_chunk-c.result.word) c.push_word.ensures.wrote

pub loop-base-preserved : goal.loop-base-preserved
loop-base-preserved c =
    let a = c.args in
    let here = (goal.at.loop-base-preserved c).After-push_word in
    let whole : c.loop-base.base + c.chunk_width-width.result ≡ c.loop-base.base + 64 = omega (arith, c.chunk_width-width.ensures) in
    (written here, subst (λ (base : ℕ). Mapping a.set.colors.n a.set.ids.now c.map_chunk-c.result.next base (written here)) whole (mapped here), wrote here, c.push_word.ensures.same_reference ∙ c.loop-base.invariant.3)

pub returns-clause-wrote : goal.returns-clause-wrote
returns-clause-wrote c =
    let a = c.args in
    subst (Wrote a.w.now c.loop-base.w) (sym (mapping_end a.set.colors.n a.set.ids.now c.loop-base.i c.loop-base.base c.loop-base.invariant.0 c.loop-base.invariant.1 (omega arith))) c.loop-base.invariant.2

pub returns-2-clause-wrote : goal.returns-2-clause-wrote
returns-2-clause-wrote c =
    let a = c.args in
    let here = (goal.at.returns-2-clause-wrote c).After-push_word in
    subst (Wrote a.w.now c.push_word.new.w) (sym (mapping_end a.set.colors.n a.set.ids.now c.map_chunk-c.result.next _ (written here) (mapped here) (omega (arith, c.chunk_width-width.ensures)))) (wrote here)
