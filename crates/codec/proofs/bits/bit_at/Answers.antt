-- `bits::bit_at` meets its contract.
use mathlib.Core.Path.{sym}
use Rattle.codec.proofs.Laws.Low.{bit_past, bit_there}
use Rattle.codec.proofs.Laws.Items.{item_there, item_past}
use Rattle.codec.proofs.bits.bit_at.Goals as goal

pub returns-in_err-byte : goal.returns-in_err-byte
returns-in_err-byte c = rw c.from_residual.ensures (sym (bit_past _ _ (item_past _ _ _ c.get.ensures.lookup c.in_err-byte.was)))

pub returns : goal.returns
returns c =
    let there = item_there _ _ _ c.get.ensures.lookup _ c.in_ok-byte.was in
    sym (bit_there c.args.bytes.now c.args.at c.in_ok-byte.field-0.now there.0 there.1)
