-- Eight ids absent from a dense set.
use Prim.Native.Nat.{◌+◌, ◌≤◌}
use native.Mathlib.Omega.{arith}
use Rattle.codec.proofs.Laws.Coded.{head_within, eight_absent}
use Rattle.codec.proofs.gaps.AbsentCodedIds.next_eight.Goals as goal
use Rattle.codec.proofs.gaps.AbsentCodedIds.next_eight.Goals.{then-c-set, else-c-set}

pub returns : goal.returns
returns c =
    let a = c.args in
    let far : c.args.c.from + 8 ≤ c.if-c-set.next = omega (arith, c.if-next-c-lt8.false, c.requires.below) in
    elim c.if-c-set.branch [
      | then-c-set w ↦
          let h = head_within a.set.ids.now a.set.colors.n a.c.i a.c.from w.if-c-set.true c.requires.left in
          eight_absent a.set.colors.n a.set.ids.now a.c c.requires (omega (arith, far, w.next-is, h.1)) (λ l. omega (arith, far, w.next-is))
      | else-c-set w ↦ eight_absent a.set.colors.n a.set.ids.now a.c c.requires (omega (arith, far, w.next-is)) (λ l. absurd (omega (arith, l, w.if-c-set)))
    ]
