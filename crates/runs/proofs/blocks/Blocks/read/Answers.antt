-- `runs::blocks::Blocks::read` meets its contract.
use Rattle.std.proofs.Common.{refl, inl, arith}
use Rattle.codec.proofs.Laws.Refusals.{passed_on}
use Rattle.runs.proofs.Laws.Bytes.{count_none, count_cut, count_found}
use Rattle.runs.proofs.blocks.Blocks.read.Goals as goal

pub returns-in_err-value : goal.returns-in_err-value
returns-in_err-value c =
    rw (passed_on c.from_residual.ensures.1) (count_none c.args.bytes.now _ c.in_err-value.ensures)

pub returns-then-bytes-len : goal.returns-then-bytes-len
returns-then-bytes-len c = inl (count_cut c.args.bytes.now c.in_ok-value.field-0.value c.in_ok-value.field-0.len c.in_ok-value.ensures (omega arith), refl)

pub returns : goal.returns
returns c = (refl, count_found c.args.bytes.now c.in_ok-value.field-0.value c.in_ok-value.field-0.len c.in_ok-value.ensures (omega arith))
