-- `codec::write_varint` meets its contract.
use Prim.Native.Nat.{◌<◌, ◌≤◌}
use native.Mathlib.Omega.{arith}
use lib.ListN.{length}
use Rattle.base.proofs.Tests.{tests}
use Rattle.codec.specs.Prefix.{prefix_of, write_prefix}
use Rattle.codec.proofs.prefix.write_varint.Goals as goal

pub returns-then-out-len : goal.returns-then-out-len
unfolding write_prefix
returns-then-out-len c =
    let short : length c.args.out.now < length (prefix_of c.args.n) = omega arith in
    search tests

pub returns : goal.returns
unfolding write_prefix
returns c =
    let room : length (prefix_of c.args.n) ≤ length c.args.out.now = omega arith in
    let e = c.varint_len-len.ensures.0 in
    rw (e, c.fill_varint.ensures) (search tests)
