-- `bits::last_word` meets its contract.
use Prim.Native.Nat.{ℕ}
use mathlib.Core.Path.{subst}
use Rattle.codec.specs.Inside.Windows.{Window}
use Rattle.codec.proofs.bits.last_word.Goals as goal

pub returns : goal.returns
returns c =
    subst (λ (k : ℕ). Window c.args.bytes.now k c.window_at.result) c.saturating_sub.ensures c.window_at.ensures
