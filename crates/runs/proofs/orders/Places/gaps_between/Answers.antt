-- `runs::orders::Places::gaps_between` meets its contract.
use Rattle.std.proofs.Common.{ℕ, ◌-◌, ◌∙◌, arith, rules, tests}
use Rattle.std.proofs.lemmas.Iterator.{YieldsList-from_range, YieldsList-from_map}
use Rattle.std.proofs.lemmas.Iterator.Consumers.{YieldsList-at, sum_from_yields_List, fits_from_yields_list}
use Rattle.runs.specs.Inside.Falls.{gap}
use Rattle.runs.proofs.Laws.Falls.{total_sum, gaps_fit}
use Rattle.runs.proofs.orders.Places.gaps_between.Goals as goal

pub sum-requires-clause-fits : goal.sum-requires-clause-fits
sum-requires-clause-fits g c =
    let ws = g.R.Runs.list c.args.self.now.runs in
    let s = c.args.self.now.step in
    let f : ℕ → ℕ = gap s g.row.ALIKE ws in
    let p = c.args.from in
    let k : ℕ = c.args.until - p in
    fits_from_yields_list c.map.result _
    (YieldsList-from_map _ f (YieldsList-at c.map.ensures.source (YieldsList-from_range p c.args.until k (cc) (omega arith))) c.map.ensures.closure (λ x r q k. search (rules, tests)))
    (omega (arith, total_sum f p k, gaps_fit s g.row.ALIKE ws c.requires.3 p k c.requires.2))

pub returns : goal.returns
returns g c =
    let ws = g.R.Runs.list c.args.self.now.runs in
    let f : ℕ → ℕ = gap c.args.self.now.step g.row.ALIKE ws in
    let p = c.args.from in
    let k : ℕ = c.args.until - p in
    sum_from_yields_List c.map.result _ c.sum.ensures.ran
    (YieldsList-from_map _ f (YieldsList-at c.map.ensures.source (YieldsList-from_range p c.args.until k (cc) (omega arith))) c.map.ensures.closure (λ x r q k. search (rules, tests)))
    ∙ total_sum f p k
