-- `gaps::write_two` meets its contract.
use Prim.Native.Nat.{ℕ}
use mathlib.Core.Path.{◌≡◌, sym, ap, ◌∙◌}
use native.Mathlib.Omega.{arith}
use lib.ListN.{length}
use Rattle.codec.specs.Codes.{delta}
use Rattle.codec.specs.Inside.Writers.{CodewordOf}
use Rattle.codec.specs.declared.codes.Codeword.{Codeword}
use Rattle.codec.proofs.Laws.Low.{length_low}
use Rattle.codec.proofs.gaps.write_two.Goals as goal

count : (w : Codeword) (v : ℕ) → CodewordOf w (delta v) → length (delta v) ≡ w.count
count w v is = sym (ap length is.code) ∙ length_low w.count w.value

pub push-requires-clause-ready : goal.push-requires-clause-ready
push-requires-clause-ready c = omega (arith, c.then-both.ensures.1, c.requires.1, count c.delta_word.result c.args.v c.delta_word.ensures.0, count c.delta_word-2.result c.args.u c.delta_word-2.ensures.0)
