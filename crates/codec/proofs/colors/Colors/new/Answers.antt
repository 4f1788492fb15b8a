-- `colors::Colors::new` meets its contract.
use mathlib.Core.Path.{sym, ◌∙◌}
use Rattle.codec.proofs.Laws.Encoded.{good_colors}
use Rattle.codec.proofs.colors.Colors.new.Goals as goal

pub invariant_of-result : goal.invariant_of-result
invariant_of-result c =
    let g = good_colors c.args.n (sym c.bad_colors.ensures ∙ c.if-bad_colors.false) in
    record { some = g.0; few = g.1 }
