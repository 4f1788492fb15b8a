-- `runs::oriented::Shifted::fill_forward` meets its contract.
use Rattle.std.proofs.Common.{ℕ, ◌≡◌, ◌+◌, List, drop, get_or, ap, sym, ◌∙◌, arith}
use lib.Seq.{get_or-drop}
use Rattle.runs.proofs.Laws.Orders.{offset_le}
use Rattle.runs.proofs.Laws.Fill.{rest_none, forward_more, rest_end}
use Rattle.runs.proofs.oriented.Shifted.fill_forward.Goals as goal

pub returns-in_default : goal.returns-in_default
returns-in_default c = rest_none c.args.self.now.shift c.args.self.now.list.runs.now c.args.out.now c.in_default.ensures.cases

pub overflow_add-out : goal.overflow_add-out
overflow_add-out c =
    let list = c.args.self.now.list in
    let ws = list.runs.now in
    let rest = c.in-Some.rest.now in
    let i = c.loop-i.i in
    let behind : drop 1 ws ≡ rest = ap (drop 1) c.in-Some.ensures.cases.0 in
    let run : get_or rest i 0 ≡ get_or ws (1 + i) 0 = ap (λ (l : List ℕ). get_or l i 0) (sym behind) ∙ get_or-drop 1 ws i 0 in
    omega (arith, run, c.from-shift.ensures, c.args.self.now.few, offset_le list.n ws (1 + i) (omega (arith, c.in-Some.ensures.cases.1)) list.taken.list.up)

pub loop-i-preserved : goal.loop-i-preserved
loop-i-preserved c =
    let rest = c.in-Some.rest.now in
    let k = c.args.self.now.shift in
    let behind : drop 1 c.args.self.now.list.runs.now ≡ rest = ap (drop 1) c.in-Some.ensures.cases.0 in
    rw (behind, c.from-shift.ensures) (forward_more k rest _ c.loop-i.out c.loop-i.i (rw behind at c.loop-i.invariant) c.loop-i-test.true (omega (arith, c.in-Some.ensures.cases.1)))

pub returns : goal.returns
returns c = rest_end c.args.self.now.shift c.args.self.now.list.runs.now _ _ c.loop-i.i c.loop-i.invariant (omega (arith, c.in-Some.ensures.cases.1))
