-- `shell::commands::command_of` meets its contract.
use Rattle.std.proofs.Common.{rules}
use Rattle.shell.proofs.Laws.Commands.{no_text}
use Rattle.shell.proofs.commands.command_of.Goals as goal

pub returns-in_err-ok : goal.returns-in_err-ok
returns-in_err-ok c = search (rules, no_text)
