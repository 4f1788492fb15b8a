-- `absent::absent_len` meets its contract.
use Prim.Native.Nat.{ℕ}
use mathlib.Core.Path.{ap, ◌∙◌}
use mathlib.Core.List.{List}
use lib.ListN.{length}
use Rattle.codec.specs.Sets.{gap_bits}
use Rattle.codec.proofs.Laws.Absent.{coded_list}
use Rattle.codec.proofs.absent.absent_len.Goals as goal

pub returns-in-Some : goal.returns-in-Some
returns-in-Some c =
    let s = c.args.set in
    let list = c.in-Some.absent in
    c.gaps_len.ensures ∙ ap (λ (l : List ℕ). length (gap_bits 0 l)) (coded_list s.colors.n list.colors.n s.ids.now list.ids.now (rw c.in-Some.is at c.requires))
