-- The bytes so far, and behind them those of the digits that are left.
use Rattle.std.proofs.Common.{◌≡◌, ◌+◌, ◌*◌, length}
use Rattle.std.specs.Slice.Iter.{chunks_rest, chunks_size}
use Rattle.std.specs.Iterator.Adapters.{enumerate_source, enumerate_count}
use Rattle.shell.specs.Hexes.{unhex_at}
use Rattle.shell.proofs.hexes.unhex.Given as goal

abbrev pub invariant-loop-k : goal.invariant-loop-k
invariant-loop-k l =
    let left = enumerate_source l.k-iterator in
    let k = enumerate_count l.k-iterator in
    record {
      pairs : chunks_size left ≡ 2;
      count : length l.text ≡ 2 * k + length (chunks_rest left);
      same : unhex_at l.text 0 l.initial.out ≡ unhex_at (chunks_rest left) k l.out;
    }
