-- `shell::commands::named` meets its contract.
use Rattle.shell.proofs.Laws.Commands.{unnamed}
use Rattle.shell.proofs.commands.named.Goals as goal

pub returns-in_default : goal.returns-in_default
returns-in_default c = let d = c.in_default in unnamed _ d.not-start d.not-add d.not-join d.not-close d.not-show d.not-records d.not-index d.not-unitigs d.not-state d.not-encode d.not-decode d.not-help
