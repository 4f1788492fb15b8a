-- `codes::write_delta` meets its contract.
use mathlib.Core.Path.{◌≡◌, sym, ap, ◌∙◌, subst}
use native.Mathlib.Omega.{arith}
use lib.ListN.{length}
use Rattle.codec.specs.Codes.{delta}
use Rattle.codec.specs.Inside.Writers.{Ready, Wrote}
use Rattle.codec.proofs.Laws.Low.{length_low}
use Rattle.codec.proofs.codes.write_delta.Goals as goal

pub push-requires : goal.push-requires
push-requires c =
    let e : length (delta c.args.v) ≡ c.delta_word-c.result.count = sym (ap length c.delta_word-c.ensures.0.code) ∙ length_low c.delta_word-c.result.count c.delta_word-c.result.value in
    record { ready = subst (Ready c.args.w.now) e c.requires.1; value_bound = (c.delta_word-c.ensures.0.small, omega arith) }

pub returns-clause-wrote : goal.returns-clause-wrote
returns-clause-wrote c = subst (Wrote c.args.w.now c.push.new.self) c.delta_word-c.ensures.0.code c.push.ensures.wrote
