-- `store::opened::OpenRuns::join_test` meets its contract.
use mathlib.Core.Path.{refl}
use native.Mathlib.Omega.{arith}
use borrow.Author.Tests.{le-ltb, ne_eqb}
use Rattle.base.specs.Tests.{◌when◌else◌}
use Rattle.runs.proofs.Laws.Merge.{none_count, some_count}
use Rattle.runs.proofs.Laws.Orders.{sharp_yes}
use Rattle.store.specs.Join.{join_test}
use Rattle.store.proofs.Laws.Joining.{few_piece}
use Rattle.store.proofs.Laws.Parts.{take_whole}
use Rattle.store.proofs.opened.OpenRuns.join_test.Goals as goal

pub returns-in_default : goal.returns-in_default
unfolding join_test ◌when◌else◌
returns-in_default c = rw (ne_eqb _ _ c.if-piece-eq0.false, ← c.new_count.ensures, le-ltb _ _ c.if-new_count-gt16777215.false, none_count _ _ c.in_default.ensures) refl

pub returns-then-not-all_named : goal.returns-then-not-all_named
unfolding join_test ◌when◌else◌
returns-then-not-all_named c =
    rw (ne_eqb _ _ c.if-piece-eq0.false, ← c.new_count.ensures, le-ltb _ _ c.if-new_count-gt16777215.false, (some_count _ _ _ c.in-Some.ensures).0, ← c.if-not-all_named.ensures) refl

pub invariant_of-meet : goal.invariant_of-meet
invariant_of-meet c =
    let a = some_count c.args.piece.n c.args.piece.runs.now _ c.in-Some.ensures in
    record {
      few = few_piece c.args.self.cell.current c.args.piece.n c.args.self.sound (omega (arith, c.new_count.ensures, c.if-new_count-gt16777215.false));
      some = (sharp_yes c.args.piece.n c.args.piece.runs.now a.0).some;
      count = a.1;
    }

pub returns : goal.returns
unfolding join_test ◌when◌else◌
returns c =
    let whole = take_whole c.args.self.cell.opened.used c.args.self.runs.now c.args.self.whole in
    rw (ne_eqb _ _ c.if-piece-eq0.false, ← c.new_count.ensures, le-ltb _ _ c.if-new_count-gt16777215.false, (some_count _ _ _ c.in-Some.ensures).0, ← c.if-not-all_named.ensures, whole) c.meet.ensures
