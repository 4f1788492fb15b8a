-- `codec::measured::payload_len` meets its contract.
use mathlib.Core.Path.{◌≡◌, sym, ap, ◌∙◌}
use native.Mathlib.Omega.{arith}
use Rattle.codec.specs.Bits.{bytes_for}
use Rattle.codec.proofs.Laws.Sizes.{length_payload}
use Rattle.codec.proofs.measured.payload_len.Goals as goal

pub returns : goal.returns
returns c =
    let a = c.args in
    let rounded : c.div_ceil.result ≡ bytes_for c.set_len.result = omega arith in
    rounded ∙ ap bytes_for c.set_len.ensures.0 ∙ sym (length_payload a.set.colors.n a.set.ids.now)
