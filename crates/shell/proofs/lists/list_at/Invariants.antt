-- What the words so far said, and behind it those that are left.
use Rattle.std.proofs.Common.{◌≡◌, ◌-◌, length}
use Rattle.shell.specs.Lists.{list_from}
use Rattle.shell.proofs.lists.list_at.Given as goal

abbrev pub invariant-loop-k : goal.invariant-loop-k
invariant-loop-k g l = list_from g.T.Word.said (length l.line) l.line l.from 0 l.initial.out ≡ list_from g.T.Word.said (length l.line - l.k) l.line l.at l.k l.out
