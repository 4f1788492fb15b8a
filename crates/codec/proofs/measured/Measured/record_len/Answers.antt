-- `codec::measured::Measured::record_len` meets its contract.
use Prim.Native.Nat.{ℕ, ◌+◌}
use mathlib.Core.Path.{ap, ◌∙◌}
use Rattle.codec.proofs.Laws.Encoded.{record_length_lem}
use Rattle.codec.proofs.measured.Measured.record_len.Goals as goal

pub returns : goal.returns
returns c =
    let m = c.self.inside in
    rw (← c.self.view_is) (ap (λ (n : ℕ). n + m.len) c.varint_len.ensures.0 ∙ record_length_lem m.set.colors.n m.set.ids.now m.len c.self.invariant)
