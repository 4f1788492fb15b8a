-- `runs::bytes::put_word` meets its contract.
use Rattle.std.proofs.Common.{◌∙◌}
use Rattle.runs.proofs.Laws.Bytes.{put_block}
use Rattle.runs.proofs.bytes.put_word.Goals as goal

pub returns : goal.returns
returns c = put_block c.args.out.now _ c.args.at c.args.w (c.copy_from_slice.ensures.after ∙ c.to_le_bytes.ensures)
