-- `body::Body::with_count` meets its contract.
use Prim.Native.Nat.{◌*◌, ◌≤◌}
use mathlib.Core.Path.{ap}
use lib.ListN.{length}
use Rattle.std.specs.Coded.{le_prop}
use Rattle.codec.specs.declared.body.Body.{Body}
use Rattle.codec.proofs.body.Body.with_count.Goals as goal

pub returns : goal.returns
returns c =
    let s = c.args.self in
    ap {B = Body} (λ (p : s.at ≤ 8 * length s.source.bytes.now). record { source = s.source; colors = s.colors; count = c.args.count; at = s.at; place = p }) (le_prop _ _)
