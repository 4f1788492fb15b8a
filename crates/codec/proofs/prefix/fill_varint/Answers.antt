-- `prefix::fill_varint` meets its contract.
use mathlib.Core.Path.{sym, ap, ◌∙◌}
use mathlib.Core.List.{List, [], ◌∷◌, ◌++◌}
use Prim.Native.Nat.{ℕ, ◌+◌, ◌%◌}
use native.Mathlib.Omega.{arith}
use Rattle.base.specs.Parts.{over}
use Rattle.codec.proofs.Laws.Filled.{over_none, over_set}
use Rattle.codec.proofs.Laws.Varints.{passed_none, passed_last, passed_some, passed_more}
use lib.ListN.{set}
use Rattle.codec.proofs.prefix.fill_varint.Goals as goal

pub loop-group-init : goal.loop-group-init
loop-group-init c = ([], passed_none c.args.n (omega arith), sym (over_none c.args.out.now))

pub returns-then-rest-lt128 : goal.returns-then-rest-lt128
returns-then-rest-lt128 c =
    let front = c.loop-group.invariant.0 in
    ap (λ (o : List ℕ). set o c.loop-group.group-index c.loop-group.rest) c.loop-group.invariant.2
    ∙ over_set front c.args.out.now c.loop-group.group-index c.loop-group.rest c.loop-group.invariant.1.size c.loop-group-test.true
    ∙ ap (λ (l : List ℕ). over l c.args.out.now) (sym (passed_last _ _ _ front c.loop-group.invariant.1 c.if-rest-lt128.true))

pub loop-group-preserved : goal.loop-group-preserved
loop-group-preserved c =
    let front = c.loop-group.invariant.0 in
    let group : ℕ = c.loop-group.rest % 128 + 128 in (
      front ++ (group ∷ []),
      passed_more _ _ _ front c.loop-group.invariant.1 c.if-rest-lt128.false,
      ap (λ (o : List ℕ). set o c.loop-group.group-index group) c.loop-group.invariant.2
          ∙ over_set front c.args.out.now c.loop-group.group-index group c.loop-group.invariant.1.size c.loop-group-test.true,
    )

-- the groups would not fit
pub returns : goal.returns
returns c = absurd (omega (arith, passed_some _ _ _ _ c.loop-group.invariant.1, c.requires, c.loop-group-test.false))
