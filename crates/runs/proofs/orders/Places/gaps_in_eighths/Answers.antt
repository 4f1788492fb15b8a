-- `runs::orders::Places::gaps_in_eighths` meets its contract.
use Rattle.std.proofs.Common.{ℕ, ◌+◌, ◌*◌, ◌∙◌, arith, rules, tests}
use Rattle.std.proofs.lemmas.Iterator.{YieldsList-from_range, YieldsList-from_map}
use Rattle.std.proofs.lemmas.Iterator.Consumers.{YieldsList-at, sum_from_yields_List, fits_from_yields_list}
use Rattle.runs.specs.Inside.Falls.{gap, of_eight}
use Rattle.runs.proofs.Laws.Falls.{eighths_sum, gaps_fit}
use Rattle.runs.proofs.orders.Places.gaps_in_eighths.Goals as goal

pub sum-requires-clause-fits : goal.sum-requires-clause-fits
sum-requires-clause-fits g c =
    let ws = g.R.Runs.list c.args.self.now.runs in
    let s = c.args.self.now.step in
    let f : ℕ → ℕ = gap s g.row.ALIKE ws in
    let p = c.args.from in
    let q = c.args.eighth in
    fits_from_yields_list c.map.result _
    (YieldsList-from_map _ (of_eight f q) (YieldsList-at c.map.ensures.source (YieldsList-from_range p (p + q) q (cc) (omega arith))) c.map.ensures.closure (λ x r q k. search (rules, tests)))
    (omega (arith, eighths_sum f q p, gaps_fit s g.row.ALIKE ws c.requires.2 p (8 * q) c.requires.1))

pub returns : goal.returns
returns g c =
    let ws = g.R.Runs.list c.args.self.now.runs in
    let f : ℕ → ℕ = gap c.args.self.now.step g.row.ALIKE ws in
    let p = c.args.from in
    let q = c.args.eighth in
    sum_from_yields_List c.map.result _ c.sum.ensures.ran
    (YieldsList-from_map _ (of_eight f q) (YieldsList-at c.map.ensures.source (YieldsList-from_range p (p + q) q (cc) (omega arith))) c.map.ensures.closure (λ x r q k. search (rules, tests)))
    ∙ eighths_sum f q p
