-- `runs::oriented::Shifted::fill_merged_rest` meets its contract.
use Rattle.std.proofs.Common.{arith}
use Rattle.runs.specs.Inside.Merging.{merged_behind}
use Rattle.runs.specs.Inside.Oriented.{list_of}
use Rattle.runs.proofs.Laws.Merging.{merging_end, merging_inside, merging_start, merging_step}
use Rattle.runs.proofs.oriented.Shifted.fill_merged_rest.Goals as goal

pub loop-end-init : goal.loop-end-init
loop-end-init c = (omega arith, merging_start c.args.self.now c.args.out.now c.args.used c.args.total c.requires)

pub run_behind-run-requires : goal.run_behind-run-requires
run_behind-run-requires c = (c.loop-end.invariant.0, merging_inside c.args.self.now _ _ _ _ _ _ _ c.requires c.loop-end.invariant.1 c.loop-end-test.true)

pub overflow_add-i : goal.overflow_add-i
overflow_add-i c = let at = merging_inside c.args.self.now _ _ _ _ _ _ _ c.requires c.loop-end.invariant.1 c.loop-end-test.true in omega (arith, at, c.requires.fills.few)

pub loop-end-smaller : goal.loop-end-smaller
loop-end-smaller c = let at = merging_inside c.args.self.now _ _ _ _ _ _ _ c.requires c.loop-end.invariant.1 c.loop-end-test.true in omega (arith, at)

pub loop-end-preserved : goal.loop-end-preserved
loop-end-preserved c =
    let list = c.args.self.now.list in (
      omega arith,
      rw (c.from-end.ensures, c.coordinate.ensures.0, c.coordinate-in-loop-end.ensures.0)
          (merging_step (merged_behind c.args.self.now c.args.used c.args.out.now) _ _ _ _ c.args.self.now.shift c.loop-end.i (list_of list) c.loop-end.invariant.1 (omega (arith, c.requires.fills.count, c.loop-end-test.true)) _ c.run_behind-run.ensures),
    )

pub returns : goal.returns
returns c = merging_end (merged_behind c.args.self.now c.args.used c.args.out.now) _ _ _ _ _ c.loop-end.invariant.1 (omega (arith, c.requires.fills.count, c.loop-end-test.false))
