-- `runs::append::append_admitted` meets its contract.
use Rattle.std.proofs.Common.{arith, sym, ◌∙◌}
use Rattle.runs.proofs.Laws.Append.{one_bit, result_3, result_done, total_is}
use Rattle.runs.proofs.Laws.Merge.{merge_le, merge_oriented_long, merge_some}
use Rattle.runs.proofs.append.append_admitted.Goals as goal

pub overflow_sub-total : goal.overflow_sub-total
overflow_sub-total c = omega (arith, c.from.ensures, one_bit c.drops_first-drops.result, c.requires.count, merge_some c.args.piece.now.runs.now c.requires.first)

pub overflow_add-total : goal.overflow_add-total
overflow_add-total c = omega (arith, c.requires.fits, c.requires.count, merge_le c.args.piece.now.runs.now)

pub returns-then-out-total : goal.returns-then-out-total
returns-then-out-total c =
    let list = c.args.piece.now in
    result_3 c.args.out.now c.args.used c.args.out_count list.runs.now list.n list.reversed c.requires.fits c.args.merged (omega (arith, c.requires.taken.small)) c.requires.first c.requires.count _ c.drops_first-drops.ensures (omega (arith, c.from.ensures, c.if-out-total.true))

pub fill_behind-requires : goal.fill_behind-requires
fill_behind-requires c =
    let list = c.args.piece.now in (
      record {
        fills =
            record {
              some = c.requires.first;
              few = omega arith;
              inside = c.requires.fits;
              count = omega (arith, c.from.ensures, total_is c.args.out.now c.args.used c.args.out_count list.runs.now list.n list.reversed c.requires.fits c.args.merged (omega (arith, c.requires.taken.small)) c.requires.first c.requires.count _ c.drops_first-drops.ensures);
              fits = c.if-out-total.false;
            };
        used_some = c.requires.some;
        told = c.drops_first-drops.ensures;
      },
      c.requires.count ∙ sym (merge_oriented_long list.reversed list.n list.runs.now (omega (arith, c.requires.taken.small))),
    )

pub returns : goal.returns
returns c =
    let list = c.args.piece.now in
    rw c.from.ensures
    (result_done c.args.out.now c.args.used c.args.out_count list.runs.now list.n list.reversed c.requires.fits c.args.merged (omega (arith, c.requires.taken.small)) c.requires.first c.requires.count _ c.drops_first-drops.ensures _ _ (omega (arith, c.from.ensures, c.if-out-total.false)) (omega (arith, c.requires.left, c.requires.right)) c.fill_behind.ensures)
