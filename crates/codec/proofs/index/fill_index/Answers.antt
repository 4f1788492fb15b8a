use Prim.Native.Nat.{◌<◌}
use native.Mathlib.Omega.{arith}
use lib.ListN.{length, drop, take-append-drop}
use lib.Seq.{length-take-le}
use Rattle.std.proofs.lemmas.List.{set-append_left}
use Rattle.codec.proofs.Laws.Indexing.{filling_none, filling_more, filling_stop, filling_end}
use Rattle.codec.proofs.index.fill_index.Goals as goal

pub loop-entry-init : goal.loop-entry-init
loop-entry-init c =
    let out = c.args.out.now in
    rw (take-append-drop c.args.count out) (filling_none c.args.bytes.now c.args.count out)

pub returns-in_default : goal.returns-in_default
returns-in_default c =
    absurd (filling_stop c.args.bytes.now c.args.count _ _ _ _ c.requires.1 c.loop-entry.invariant (omega (arith, length-take-le c.args.count c.args.out.now (omega arith))) c.in_default.field-0 c.requires.0 c.in_default.ensures)

pub loop-entry-preserved : goal.loop-entry-preserved
loop-entry-preserved c =
    let items = c.loop-entry.entry-items in
    let here : c.loop-entry.entry-index < length items = omega arith in
    rw (← set-append_left items (drop c.args.count c.args.out.now) c.loop-entry.entry-index c.loop-entry.at here)
    (filling_more c.args.bytes.now c.args.count _ _ _ _ c.requires.1 c.loop-entry.invariant (omega (arith, length-take-le c.args.count c.args.out.now (omega arith))) _ c.in-Ok.ensures)

pub returns : goal.returns
returns c =
    let long = length-take-le c.args.count c.args.out.now (omega arith) in
    filling_end _ _ _ _ _ _ c.requires.1 c.loop-entry.invariant (omega (arith, long, c.loop-entry.invariant.passed))
