-- `runs::bytes::write_rotated_runs` meets its contract.
use Rattle.std.proofs.Common.{List, ℕ, length, sym, ap, ◌∙◌, arith}
use Rattle.codec.proofs.Laws.Refusals.{passed_on}
use Rattle.runs.specs.Bytes.{write_runs}
use Rattle.runs.proofs.Laws.Cursor.{rotate_few}
use Rattle.runs.proofs.Laws.Turned.{gives_counted, yields_counted}
use Rattle.runs.proofs.Laws.Answers.{rotated_refused, rotated_written}
use Rattle.runs.proofs.bytes.write_rotated_runs.Goals as goal

pub returns-in_err-check_steady : goal.returns-in_err-check_steady
returns-in_err-check_steady c =
    rw (passed_on c.from_residual.ensures.1) (rotated_refused _ _ _ _ _ _ c.in_err-check_steady.ensures)

pub write-requires : goal.write-requires
write-requires c = yields_counted c.take.result c.turned-cycle.result c.count-count.result c.take.ensures.source c.take.ensures.count c.count-count.ensures _ tt (omega (arith, c.count-count.ensures))

pub overflow_cast-count : goal.overflow_cast-count
overflow_cast-count c =
    let t = c.in_ok-check_steady.ensures in
    omega (arith, c.count-count.ensures, ap length c.turned-cycle.ensures, rotate_few c.args.n c.args.pivot c.args.reversed c.args.runs.now t, t.small)

pub returns : goal.returns
returns c =
    c.write.ensures _ (gives_counted c.take.result c.turned-cycle.result c.count-count.result c.take.ensures.source c.take.ensures.count c.count-count.ensures) (sym c.count-count.ensures)
    ∙ ap (λ (rs : List ℕ). write_runs rs c.args.out.now) c.turned-cycle.ensures
    ∙ rotated_written _ _ _ _ _ c.in_ok-check_steady.ensures
