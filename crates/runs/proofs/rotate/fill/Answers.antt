-- `runs::rotate::fill` meets its contract.
use Rattle.std.proofs.Common.{ℕ, ◌≡◌, ◌<◌, List, length, get_or, arith}
use Rattle.std.proofs.lemmas.Iterator.Consumers.{YieldsList-at}
use Rattle.runs.specs.Inside.Yields.{YieldsAll}
use Rattle.runs.proofs.Laws.Lists.{fill_end}
use Rattle.runs.proofs.Laws.Numbered.{numbered, numbered_end, fill_next}
use Rattle.runs.proofs.rotate.fill.Goals as goal

-- the run that came, in all that the iterator gives
turn : (g : _) (c : goal.In-Some g) (all : List ℕ) → YieldsAll g.I.Iterator.next_gives c.args.runs all
    → (c.in-Some.i ≡ length c.loop-i.yielded) × (length c.loop-i.yielded < length all) × (c.in-Some.run' ≡ get_or all (length c.loop-i.yielded) c.in-Some.run')
turn g c all e = numbered all (YieldsList-at (cc) e) (cc) c.loop-i.yielded _ c.loop-i.yielded_by c.next.result c.next.new.self c.next.ensures.steps _ _ c.in-Some.is

pub offset_bounds-out-i : goal.offset_bounds-out-i
offset_bounds-out-i g c = let at = turn g c c.requires.all c.requires.gives in omega (arith, at.0, at.1, c.requires.few)

pub bounds-out-i : goal.bounds-out-i
bounds-out-i g c = let at = turn g c c.requires.all c.requires.gives in omega (arith, at.0, at.1, c.requires.few)

pub loop-i-preserved : goal.loop-i-preserved
loop-i-preserved g c = λ all e. fill_next all _ _ c.loop-i.yielded _ _ (turn g c all e) (bounds-out-i g c) (c.loop-i.invariant all e)

pub returns : goal.returns
returns g c = λ all e.
    fill_end all _ _ _ (numbered_end all (YieldsList-at (cc) e) (cc) c.loop-i.yielded _ c.loop-i.yielded_by c.next.result c.next.new.self c.next.ensures.steps c.in-None.is) (c.loop-i.invariant all e)
