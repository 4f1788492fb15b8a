-- `sets::check_set` meets its contract.
use Rattle.codec.proofs.Laws.Decoding.{no_length, no_body, payload_tested}
use Rattle.codec.proofs.sets.check_set.Goals as goal

pub returns-in_err-value : goal.returns-in_err-value
returns-in_err-value c =
    rw c.from_residual.ensures (no_length c.args.colors.n c.args.source.bytes.now c.args.colors.few c.in_err-value.ensures, tt)

pub returns-in_err-behind : goal.returns-in_err-behind
returns-in_err-behind c =
    rw c.from_residual-in_err-behind.ensures (no_body c.args.colors.n c.args.source.bytes.now _ _ c.in_ok-value.ensures.0 c.in_err-behind.ensures.0, tt)

pub is_padding-requires : goal.is_padding-requires
is_padding-requires c = c.in_ok-behind.ensures.0.1

pub returns : goal.returns
returns c =
    rw c.then_some.ensures (payload_tested _ c.in_ok-behind.ensures.0.0.0 _ _ c.is_padding.result c.in_ok-value.ensures.0 c.in_ok-behind.ensures.0.0.1 c.check.ensures.1 c.is_padding.ensures)
