-- `shell::pairs::pair` meets its contract.
use Rattle.std.proofs.Common.{rules, sym, ◌∙◌}
use Rattle.shell.proofs.Laws.Pairs.{pair_none, pair_offset, pair_coordinate, pair_both}
use Rattle.shell.proofs.pairs.pair.Goals as goal

pub returns-in_err-colon : goal.returns-in_err-colon
returns-in_err-colon c = search (rules, pair_none)

pub returns-in_err-offset : goal.returns-in_err-offset
returns-in_err-offset c = search (rules, pair_offset)

pub returns-in_err-coordinate : goal.returns-in_err-coordinate
returns-in_err-coordinate c = search (rules, pair_coordinate)

pub returns : goal.returns
returns c =
    pair_both _ _ (sym c.colon_in.ensures ∙ c.in_ok-colon.ensures.ok_part) _ (sym c.number_to.ensures.said ∙ c.in_ok-offset.was) _ (sym c.number_to-2.ensures.said ∙ c.in_ok-coordinate.was)
    c.in_ok-offset.ensures.within c.in_ok-coordinate.ensures.within
