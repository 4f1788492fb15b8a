-- `runs::bytes::fill_bytes` meets its contract.
use Rattle.std.proofs.Common.{ℕ, ◌≡◌, ◌<◌, List, length, get_or, arith}
use Rattle.std.proofs.lemmas.Iterator.Consumers.{YieldsList-at}
use Rattle.runs.specs.Inside.Yields.{YieldsAll}
use Rattle.runs.proofs.Laws.Lists.{fill_end}
use Rattle.runs.proofs.Laws.Numbered.{numbered, numbered_end}
use Rattle.runs.proofs.Laws.Bytes.{length_flat, fill_next_block}
use Rattle.runs.proofs.bytes.fill_bytes.Goals as goal
use Rattle.runs.proofs.bytes.fill_bytes.Goals.{In-Some}

-- the run that came, in all that the iterator gives
turn : (g : _) (c : In-Some g) (all : List ℕ) → YieldsAll g.I.Iterator.next_gives c.args.runs all
    → (c.in-Some.i ≡ length c.loop-i.yielded) × (length c.loop-i.yielded < length all) × (c.in-Some.run' ≡ get_or all (length c.loop-i.yielded) c.in-Some.run')
turn g c all e = numbered all (YieldsList-at (cc) e) (cc) c.loop-i.yielded _ c.loop-i.yielded_by c.next.result c.next.new.self c.next.ensures.steps _ _ c.in-Some.is

pub overflow_mul-i : goal.overflow_mul-i
overflow_mul-i g c = let at = turn g (goal.at.overflow_mul-i g c).In-Some c.requires.all c.requires.gives in omega (arith, at.0, at.1, c.requires.few)

pub put_word-requires : goal.put_word-requires
put_word-requires g c = let at = turn g (goal.at.put_word-requires g c).In-Some c.requires.all c.requires.gives in omega (arith, at.0, at.1, c.requires.few)

pub loop-i-preserved : goal.loop-i-preserved
loop-i-preserved g c = λ all e.
    let at = turn g (goal.at.loop-i-preserved g c).In-Some c.requires.all c.requires.gives in
    fill_next_block all _ _ _ c.loop-i.yielded _ _ (turn g (goal.at.loop-i-preserved g c).In-Some all e) (omega (arith, at.0, at.1, c.requires.few)) c.put_word.ensures (c.loop-i.invariant all e)

pub returns : goal.returns
returns g c = λ all e.
    let end = numbered_end all (YieldsList-at (cc) e) (cc) c.loop-i.yielded _ c.loop-i.yielded_by c.next.result c.next.new.self c.next.ensures.steps c.in-None.is in
    fill_end _ _ _ _ (omega (arith, length_flat all, end)) (c.loop-i.invariant all e)
