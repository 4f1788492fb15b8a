-- `runs::append::append_color_runs` meets its contract.
use mathlib.Core.Path.{◌∙◌}
use Rattle.base.proofs.Bools.{via}
use Rattle.runs.proofs.Laws.Append.{append_3, append_7, append_6, append_66, append_goes, admitted}
use Rattle.runs.proofs.Laws.Merge.{none_count, some_count}
use Rattle.runs.proofs.append.append_color_runs.Goals as goal

pub returns-then-out-used : goal.returns-then-out-used
returns-then-out-used c = append_3 _ _ _ _ _ _ c.if-out-used.true

pub returns-then-bad_counts : goal.returns-then-bad_counts
returns-then-bad_counts c = append_7 _ _ _ _ _ _ c.if-out-used.false (via c.bad_counts.ensures c.if-bad_counts.true)

pub returns-then-not-is_joinable : goal.returns-then-not-is_joinable
returns-then-not-is_joinable c = append_6 _ _ _ _ _ _ c.if-out-used.false (via c.bad_counts.ensures c.if-bad_counts.false) (via c.is_joinable.ensures c.if-not-is_joinable.true)

pub returns-in_default : goal.returns-in_default
returns-in_default c =
    append_66 _ _ _ _ _ _ c.if-out-used.false (via c.bad_counts.ensures c.if-bad_counts.false) (via c.is_joinable.ensures c.if-not-is_joinable.false) (none_count _ _ c.in_default.ensures)

pub invariant_of-oriented : goal.invariant_of-oriented
invariant_of-oriented c =
    let a = some_count _ _ _ c.in-Some.ensures in
    record {
      taken =
          (admitted c.args.out.now c.args.used c.args.out_count c.args.piece.now c.args.piece_count c.args.reversed
          c.if-out-used.false (via c.bad_counts.ensures c.if-bad_counts.false) (via c.is_joinable.ensures c.if-not-is_joinable.false) a.0 _ a.1).taken;
    }

pub append_admitted-requires : goal.append_admitted-requires
append_admitted-requires c =
    let a = some_count _ _ _ c.in-Some.ensures in
    admitted _ _ _ _ _ c.args.reversed c.if-out-used.false (via c.bad_counts.ensures c.if-bad_counts.false) (via c.is_joinable.ensures c.if-not-is_joinable.false) a.0 _ a.1

pub returns : goal.returns
returns c =
    c.append_admitted.ensures
    ∙ append_goes _ _ _ _ _ _ c.if-out-used.false (via c.bad_counts.ensures c.if-bad_counts.false) (via c.is_joinable.ensures c.if-not-is_joinable.false) (some_count _ _ _ c.in-Some.ensures).0
