-- `body::Body::check_map` meets its contract.
use native.Mathlib.Omega.{arith}
use lib.ListN.{length-drop}
use Rattle.codec.specs.Inside.Bodies.{bits_in}
use Rattle.codec.proofs.Laws.Low.{length_bits}
use Rattle.codec.proofs.Laws.Decoding.{map_short, map_tested}
use Rattle.codec.proofs.body.Body.check_map.Goals as goal

pub returns-then-self-n : goal.returns-then-self-n
returns-then-self-n c =
    let s = c.args.self in
    map_short s.colors.n s.count (bits_in s) (simp length-drop (omega (arith, length_bits s.source.bytes.now)))

pub returns : goal.returns
returns c =
    rw c.then_some.ensures (map_tested c.args.self c.count_map.result (omega arith) c.count_map.ensures.0)
