-- `absent::write_absent` meets its contract.
use Prim.Native.Nat.{ℕ}
use mathlib.Core.Path.{sym, subst}
use mathlib.Core.List.{List}
use lib.ListN.{length}
use Rattle.codec.specs.Sets.{gap_bits}
use Rattle.codec.specs.Inside.Writers.{Ready, Wrote}
use Rattle.codec.proofs.Laws.Absent.{coded_list}
use Rattle.codec.proofs.absent.write_absent.Goals as goal

pub write_gaps-requires : goal.write_gaps-requires
write_gaps-requires c =
    let s = c.args.set in
    let list = c.in-Some.absent in
    subst (λ (l : List ℕ). Ready c.args.w.now (length (gap_bits 0 l))) (sym (coded_list s.colors.n list.colors.n s.ids.now list.ids.now (rw c.in-Some.is at c.requires.listed))) c.requires.ready

pub returns-in-Some-clause-wrote : goal.returns-in-Some-clause-wrote
returns-in-Some-clause-wrote c =
    let s = c.args.set in
    let list = c.in-Some.absent in
    subst (λ (l : List ℕ). Wrote c.args.w.now c.write_gaps.new.w (gap_bits 0 l)) (coded_list s.colors.n list.colors.n s.ids.now list.ids.now (rw c.in-Some.is at c.requires.listed)) c.write_gaps.ensures.wrote
