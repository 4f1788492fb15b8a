-- `runs::swap::swap_ends` meets its contract.
use Rattle.std.proofs.Common.{ℕ, ◌≡◌, ◌+◌, ◌-◌, ◌/◌, length, get_or, refl, ap, ap₂, ◌∙◌, arith}
use Rattle.runs.specs.Words.{offset, coordinate, pack}
use Rattle.runs.proofs.Laws.Orders.{end_le}
use Rattle.runs.proofs.Laws.Swap.{between_le, swap_end, swap_mid, swap_step}
use Rattle.runs.proofs.swap.swap_ends.Goals as goal

pub backed-requires : goal.backed-requires
backed-requires c =
    let ws = c.args.runs.now in
    rw c.from-top.ensures (omega (arith, c.loop-i.invariant.tails, end_le c.args.n ws (length ws - 1 - c.loop-i.i) c.requires.list.up), c.requires.small)

pub backed-requires-in-loop-i : goal.backed-requires-in-loop-i
backed-requires-in-loop-i c = (between_le c.args.n c.args.runs.now c.loop-i.runs _ c.loop-i.i _ _ c.requires c.loop-i.invariant (omega arith) (omega arith) c.from-top.ensures, omega (arith, c.from-top.ensures, c.requires.small))

pub loop-i-preserved : goal.loop-i-preserved
loop-i-preserved c =
    let ws = c.args.runs.now in
    let i = c.loop-i.i in
    let first = c.backed.ensures ∙ ap (λ (t : ℕ). pack (t - offset c.loop-i.behind) (coordinate (get_or c.loop-i.runs (length ws - 1 - i) 0))) c.from-top.ensures in
    let last = c.backed-in-loop-i.ensures ∙ ap (λ (t : ℕ). pack (t - offset (get_or c.loop-i.runs (i + 1) 0)) (coordinate (get_or c.loop-i.runs i 0))) c.from-top.ensures in
    swap_step c.args.n ws c.loop-i.runs _ i c.loop-i.invariant _ _ _ (omega arith) first last refl

pub backed-requires-then-middle-m : goal.backed-requires-then-middle-m
backed-requires-then-middle-m c =
    let ws = c.args.runs.now in
    rw c.from-top.ensures (omega (arith, c.loop-i.invariant.tails, end_le c.args.n ws (length ws - 1 - c.loop-i.i) c.requires.list.up), c.requires.small)

pub returns-then-middle-m : goal.returns-then-middle-m
returns-then-middle-m c =
    let ws = c.args.runs.now in
    let at : length ws / 2 ≡ c.loop-i.i = omega (arith, c.loop-i.invariant.half) in
    let mid : c.loop-i.i ≡ length ws - 1 - c.loop-i.i = omega (arith, c.loop-i.invariant.half) in
    let x = c.backed-then-middle-m.ensures ∙ ap₂ (λ (t k : ℕ). pack (t - offset c.loop-i.behind) (coordinate (get_or c.loop-i.runs k 0))) c.from-top.ensures (at ∙ mid) in
    rw at (swap_mid c.args.n ws c.loop-i.runs _ c.loop-i.i c.loop-i.invariant c.backed-then-middle-m.result x (omega arith) (omega arith))

pub returns-else-middle-m : goal.returns-else-middle-m
returns-else-middle-m c = swap_end c.args.n c.args.runs.now c.loop-i.runs _ c.loop-i.i c.loop-i.invariant (omega (arith, c.loop-i.invariant.half))
