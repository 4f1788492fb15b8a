-- `bits::word_at` meets its contract.
use mathlib.Core.Path.{◌≡◌, ap, ◌∙◌}
use lib.ListN.{take, drop}
use Rattle.std.specs.Int.{w64, from_le_bytes}
use Rattle.std.proofs.lemmas.Option.{MatchOption-at_some}
use Rattle.base.proofs.Parts.{tail_is}
use Rattle.codec.proofs.Laws.Windows.{word_of}
use Rattle.codec.proofs.bits.word_at.Goals as goal

pub returns : goal.returns
returns c =
    let bytes = c.args.bytes.now in
    let k = c.args.k in
    let block = MatchOption-at_some _ _ _ c.unwrap.ensures c.first_chunk-eight.ensures.cases in
    let read : c.unwrap.result.now ≡ take 8 (drop k bytes) = block.same ∙ ap (take 8) (tail_is k bytes) in
    word_of bytes k c.from_le_bytes.result (λ i. (c.type_inv.bytes i).fits) c.requires (c.from_le_bytes.ensures ∙ ap (from_le_bytes w64) read)
