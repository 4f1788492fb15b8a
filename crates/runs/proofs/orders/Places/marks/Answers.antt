-- `runs::orders::Places::marks` meets its contract.
use Prim.Native.Nat.{ℕ, ◌+◌, ◌*◌, ◌/◌, ◌%◌, ◌≤◌}
use mathlib.Core.Path.{◌≡◌, refl}
use native.Mathlib.Omega.{arith}
use native.Mathlib.Nat.{mul-le-mul_right, one-mul}
use Rattle.runs.specs.Inside.Falls.{gap, mark, total}
use Rattle.runs.proofs.Laws.Falls.{gaps_fit, gaps_lead, two_parts}
use Rattle.runs.proofs.orders.Places.marks.Goals as goal
use Rattle.runs.proofs.orders.Places.marks.Goals.{After-gaps_between, After-run_at-last}

-- what is added up, and what it leads to
gaps : (g : _) (c : After-gaps_between g) → c.gaps_in_eighths.result + c.gaps_between.result ≡ total (gap c.args.self.now.step g.row.ALIKE (g.R.Runs.list c.args.self.now.runs)) c.args.from c.args.places
gaps g c =
    let f : ℕ → ℕ = gap c.args.self.now.step g.row.ALIKE (g.R.Runs.list c.args.self.now.runs) in
    omega (arith, c.gaps_in_eighths.ensures, c.gaps_between.ensures, two_parts f c.args.from (8 * (c.args.places / 8)) c.args.places (c.args.from + c.args.places) (omega arith) refl)

leads : (g : _) (c : After-run_at-last g) → c.run_at-first.result % 16777216 + c.args.self.now.step * c.args.places + (c.gaps_in_eighths.result + c.gaps_between.result)
    ≡ c.run_at-last.result % 16777216 + total (mark c.args.self.now.step g.row.ALIKE (g.R.Runs.list c.args.self.now.runs)) c.args.from c.args.places
leads g c =
    rw (c.run_at-first.ensures, c.run_at-last.ensures, gaps g _) (gaps_lead c.args.self.now.step g.row.ALIKE (g.R.Runs.list c.args.self.now.runs) c.args.self.now.testable.small c.args.from c.args.places)

few : (g : _) (c : After-gaps_between g) → c.gaps_in_eighths.result + c.gaps_between.result ≤ 281474976710656
few g c = rw (gaps g c) (gaps_fit c.args.self.now.step g.row.ALIKE (g.R.Runs.list c.args.self.now.runs) c.requires.2 c.args.from c.args.places c.requires.1)

pub overflow_add-gaps : goal.overflow_add-gaps
overflow_add-gaps g c = omega (arith, few g (goal.at.overflow_add-gaps g c).After-gaps_between)

pub overflow_add-result-2 : goal.overflow_add-result-2
overflow_add-result-2 g c =
    omega (arith, few g (goal.at.overflow_add-result-2 g c).After-gaps_between, mul-le-mul_right c.args.places c.args.self.now.testable.small, one-mul c.args.places, c.requires.1)

pub overflow_sub-result : goal.overflow_sub-result
overflow_sub-result g c = omega (arith, leads g (goal.at.overflow_sub-result g c).After-run_at-last)

pub returns : goal.returns
returns g c = omega (arith, leads g (goal.at.returns g c).After-run_at-last)
