-- `runs::append::fill_behind` meets its contract.
use mathlib.Core.Path.{sym, ◌∙◌}
use Rattle.runs.proofs.Laws.Merging.{plain_put, plain_room}
use Rattle.runs.proofs.append.fill_behind.Goals as goal

pub fill_appended-requires : goal.fill_appended-requires
fill_appended-requires c = plain_room c.args.piece.now c.args.out.now c.args.used c.args.total c.args.drops c.requires.0 (sym c.requires.1 ∙ c.if-merged-piece.true)

pub returns-then-merged-piece : goal.returns-then-merged-piece
returns-then-merged-piece c = c.fill_appended.ensures ∙ plain_put c.args.piece.now c.args.out.now c.args.used c.args.total c.args.drops c.requires.0 (sym c.requires.1 ∙ c.if-merged-piece.true)
