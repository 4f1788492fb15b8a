-- `runs::oriented::Oriented::fill_merged` meets its contract.
use mathlib.Core.Path.{◌∙◌}
use Prim.Native.Nat.{◌<◌, ◌≤◌}
use native.Mathlib.Omega.{arith}
use lib.ListN.{length}
use Rattle.runs.specs.Merge.{merge}
use Rattle.runs.specs.Inside.Oriented.{list_of}
use Rattle.runs.proofs.Laws.Merging.{front_count, front_meets, front_put, front_room}
use Rattle.runs.proofs.Laws.Merge.{merge_some}
use Rattle.runs.proofs.Laws.Reverse.{oriented_long}
use Rattle.runs.proofs.oriented.Oriented.fill_merged.Goals as goal

pub bounds-out-0 : goal.bounds-out-0
bounds-out-0 c =
    let list = c.args.self.now in
    omega (arith, c.requires.1, c.requires.2, merge_some (list_of list) (omega (arith, c.requires.0, oriented_long list.reversed list.n list.runs.now)))

pub fill_merged_rest-requires : goal.fill_merged_rest-requires
fill_merged_rest-requires c =
    let list = c.args.self.now in
    let some : 0 < length (list_of list) = omega (arith, c.requires.0, oriented_long list.reversed list.n list.runs.now) in
    let room : length (merge (list_of list)) ≤ length c.args.out.now = omega (arith, c.requires.1, c.requires.2) in
    let fits = front_room (list_of list) c.args.out.now some room _ c.run_at.ensures in
    record {
      fills =
          record {
            some = c.requires.0;
            few = omega arith;
            inside = fits.0;
            count = c.requires.1 ∙ front_count (list_of list) c.args.out.now some room _ c.run_at.ensures;
            fits = omega (arith, fits.1, c.requires.1);
          };
      used_some = omega arith;
      meets = front_meets (list_of list) c.args.out.now some room _ c.run_at.ensures;
    }

pub returns : goal.returns
returns c =
    let list = c.args.self.now in
    c.fill_merged_rest.ensures ∙ front_put (list_of list) c.args.out.now (omega (arith, c.requires.0, oriented_long list.reversed list.n list.runs.now)) (omega (arith, c.requires.1, c.requires.2)) _ c.run_at.ensures
