-- `runs::oriented::Shifted::fill` meets its contract.
use Prim.Native.Nat.{◌<◌}
use mathlib.Core.Path.{◌≡◌, ap, ◌∙◌}
use native.Mathlib.Omega.{arith}
use Rattle.std.proofs.lemmas.Bool.Decides.{nat_tests}
use lib.ListN.{length}
use Rattle.runs.specs.Words.{coordinate}
use Rattle.runs.proofs.Laws.Fill.{put_none, front_room, put_first}
use Rattle.runs.proofs.oriented.Shifted.fill.Goals as goal

pub returns-then-is_empty : goal.returns-then-is_empty
returns-then-is_empty c =
    let ws = c.args.self.now.list.runs.now in
    let none : length ws ≡ 0 = grind (arith, nat_tests) in
    put_none c.args.self.now.shift c.args.self.now.list.n c.args.self.now.list.reversed ws c.args.out.now none

pub run_at-requires : goal.run_at-requires
run_at-requires c = grind (arith, nat_tests)

pub put_front-requires : goal.put_front-requires
put_front-requires c =
    grind (arith, nat_tests)

pub fill_rest-requires : goal.fill_rest-requires
fill_rest-requires c =
    let ws = c.args.self.now.list.runs.now in
    let some : 0 < length ws = grind (arith, nat_tests) in
    front_room _ (length ws) c.args.out.now _ c.put_front.ensures (omega arith) c.requires

pub returns : goal.returns
returns c =
    let ws = c.args.self.now.list.runs.now in
    let some : 0 < length ws = grind (arith, nat_tests) in
    put_first c.args.self.now.list.n c.args.self.now.shift ws c.args.self.now.list.taken c.args.self.now.list.reversed some _ _ c.args.out.now _ _ (c.coordinate.ensures.0 ∙ ap coordinate c.run_at.ensures) c.pack-first.ensures c.put_front.ensures c.fill_rest.ensures
