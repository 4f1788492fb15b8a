-- `runs::swap::swap_fours` meets its contract.
use Rattle.std.proofs.Common.{ℕ, ◌≡◌, ◌+◌, ◌-◌, ◌*◌, List, length, get_or, sym, ap, subst, ◌∙◌, arith}
use Rattle.runs.specs.Words.{offset}
use Rattle.runs.specs.Inside.Swap.{Swapped, four_back, put_four}
use Rattle.runs.proofs.Laws.Swap.{low_within, high_within, swap_four}
use Rattle.runs.proofs.swap.swap_fours.Goals as goal

pub four_back-low-requires : goal.four_back-low-requires
four_back-low-requires c =
    rw c.from-top.ensures (low_within c.args.n c.args.runs.now c.loop-round.runs c.loop-round.behind (4 * c.loop-round.round) c.requires c.loop-round.invariant (omega arith))

pub four_back-high-requires : goal.four_back-high-requires
four_back-high-requires c =
    rw c.from-top.ensures (high_within c.args.n c.args.runs.now c.loop-round.runs c.loop-round.behind (4 * c.loop-round.round) c.requires c.loop-round.invariant (omega arith))

pub loop-round-preserved : goal.loop-round-preserved
loop-round-preserved c =
    let n = c.args.n in
    let ws = c.args.runs.now in
    let xs = c.loop-round.runs in
    let i : ℕ = 4 * c.loop-round.round in
    let k : ℕ = length ws - 4 - i in
    let low = c.four_back-low.result in
    let high = c.four_back-high.result in
    let l : low ≡ four_back n xs i (get_or xs (i + 4) 0) = c.four_back-low.ensures ∙ ap (λ (t : ℕ). four_back t xs i (get_or xs (i + 4) 0)) c.from-top.ensures in
    let h : high ≡ four_back n xs k c.loop-round.behind = c.four_back-high.ensures ∙ ap (λ (t : ℕ). four_back t xs k c.loop-round.behind) c.from-top.ensures in
    let now-is = c.put_four-in-loop-round.ensures ∙ ap (λ (y : List ℕ). put_four y k low) c.put_four.ensures in
    let next : i + 4 ≡ 4 * (c.loop-round.round + 1) = omega arith in
    subst (Swapped n ws _ (offset (get_or xs k 0))) next (subst (λ (z : List ℕ). Swapped n ws z (offset (get_or xs k 0)) (i + 4)) (sym now-is) (swap_four n ws xs c.loop-round.behind i c.requires c.loop-round.invariant (omega arith) low high l h))
