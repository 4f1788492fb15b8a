-- `records::read_color_record` meets its contract.
use mathlib.Core.Path.{◌∙◌}
use Rattle.codec.proofs.Laws.Refusals.{passed_on}
use Rattle.codec.proofs.Laws.Prefix.{prefix_behind}
use Rattle.codec.proofs.Laws.Reading.{payload_cut, payload_put, read_refused, read_up, read_whole}
use Rattle.codec.proofs.records.read_color_record.Goals as goal

pub returns-in_err-colors : goal.returns-in_err-colors
returns-in_err-colors c =
    let refused = c.in_err-colors.ensures.refused in
    rw (passed_on c.from_residual.ensures.1, refused.1) (read_refused c.args.n c.args.input.now c.args.ids.now refused.0)

pub returns-in_err-value : goal.returns-in_err-value
returns-in_err-value c =
    rw (passed_on c.from_residual-in_err-value.ensures.1) (read_up c.args.n c.args.input.now c.args.ids.now c.in_ok-colors.ensures.taken.0 _ c.in_err-value.ensures)

pub returns-in_err-bytes : goal.returns-in_err-bytes
returns-in_err-bytes c =
    let input = c.args.input.now in
    let b = prefix_behind input _ _ c.in_ok-value.ensures in
    rw (passed_on c.from_residual-in_err-bytes.ensures.1, c.in_err-bytes.ensures.cut.0)
    (payload_cut c.args.n input _ _ c.args.ids.now b.1 c.in_err-bytes.ensures.cut.1 ∙ read_whole c.args.n input c.args.ids.now c.in_ok-colors.ensures.taken.0 _ _ b.0)

pub returns-in_err-items : goal.returns-in_err-items
returns-in_err-items c =
    let input = c.args.input.now in
    let b = prefix_behind input _ _ c.in_ok-value.ensures in
    let put = rw c.in_ok-colors.ensures.taken.1 at c.in_err-items.ensures in
    let end = c.in_ok-bytes.ensures.whole in
    rw (passed_on c.from_residual-in_err-items.ensures.1)
    (payload_put c.args.n input _ _ c.args.ids.now b.1 _ end.0 end.1 _ put ∙ read_whole c.args.n input c.args.ids.now c.in_ok-colors.ensures.taken.0 _ _ b.0)

pub returns : goal.returns
returns c =
    let input = c.args.input.now in
    let b = prefix_behind input _ _ c.in_ok-value.ensures in
    let put = rw c.in_ok-colors.ensures.taken.1 at c.in_ok-items.ensures in
    let end = c.in_ok-bytes.ensures.whole in
    payload_put c.args.n input _ _ c.args.ids.now b.1 _ end.0 end.1 _ put ∙ read_whole c.args.n input c.args.ids.now c.in_ok-colors.ensures.taken.0 _ _ b.0
