-- `bits::low_ones` meets its contract.
use native.Mathlib.Nat.{le_refl}
use Rattle.codec.proofs.Laws.Shown.{low_ones, one_at_least}
use Rattle.codec.proofs.bits.low_ones.Goals as goal

pub returns : goal.returns
returns c = (low_ones 64 _ c.args.word c.ranges.word.fits (le_refl _), one_at_least 63 c.args.word c.ranges.word.fits)
