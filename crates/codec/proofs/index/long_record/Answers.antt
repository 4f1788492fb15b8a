-- `index::long_record` meets its contract: the prefix's answer says where the payload starts and how long it is.
use native.Mathlib.Omega.{arith}
use Rattle.codec.proofs.Laws.Refusals.{passed_on}
use mathlib.Core.List.{[], ◌∷◌}
use Rattle.base.specs.Answers.{done}
use Rattle.codec.proofs.Laws.Indexing.{Says, part_says, step_up, step_start_lem, step_by}
use Rattle.codec.proofs.index.long_record.Goals as goal
use Rattle.codec.proofs.index.long_record.Goals.{In_ok-value}

said : (c : goal.In_ok-value)
    → Says c.args.bytes.now c.args.at (done (c.in_ok-value.field-0.value ∷ c.in_ok-value.field-0.len ∷ []))
said c =
    part_says c.args.bytes.now c.args.at c.in_ok-value.ensures

pub returns-in_err-value : goal.returns-in_err-value
returns-in_err-value c =
    rw (passed_on c.from_residual.ensures.1) (step_up _ _ c.requires _ (part_says c.args.bytes.now c.args.at c.in_err-value.ensures))

pub overflow_add-at : goal.overflow_add-at
overflow_add-at c = omega (arith, step_start_lem _ _ c.requires _ _ (said c))

pub payload_end-requires : goal.payload_end-requires
payload_end-requires c = omega (arith, step_start_lem _ _ c.requires _ _ (said c))

pub returns : goal.returns
returns c = step_by _ _ c.requires _ _ (said (goal.at.returns c).In_ok-value) _ c.payload_end.ensures.whole c.payload_end.ensures.cut
