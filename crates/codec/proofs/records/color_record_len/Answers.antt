-- `records::color_record_len` meets its contract.
use Prim.Native.Nat.{ℕ}
use mathlib.Core.Path.{sym, ap, ◌∙◌}
use mathlib.Core.List.{[], ◌∷◌}
use Rattle.codec.proofs.Laws.Refusals.{passed_on}
use Rattle.base.specs.Answers.{done}
use Rattle.codec.proofs.Laws.Colors.{length_of, length_measured}
use Rattle.codec.proofs.records.color_record_len.Goals as goal

pub returns-in_err-set : goal.returns-in_err-set
returns-in_err-set c = rw (passed_on c.from_residual.ensures.1) (ap length_of c.in_err-set.ensures ∙ sym (length_measured c.args.n c.args.ids.now))

pub returns : goal.returns
returns c = ap (λ (n : ℕ). done (n ∷ [])) c.record_len.ensures ∙ (ap length_of c.in_ok-set.ensures ∙ sym (length_measured c.args.n c.args.ids.now))
