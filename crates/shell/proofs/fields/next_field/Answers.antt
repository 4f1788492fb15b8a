-- `shell::fields::next_field` meets its contract.
use Rattle.std.proofs.Common.{rules, refl}
use Rattle.shell.proofs.Laws.Fields.{field_none, field_past, field_found}
use Rattle.shell.proofs.fields.next_field.Goals as goal

pub returns-in_err-get : goal.returns-in_err-get
returns-in_err-get c = search (rules, field_past)

pub returns-in_err-start : goal.returns-in_err-start
returns-in_err-start c = let rest = c.in_ok-get.ensures.lookup.0.2 in search (rules, field_none)

pub returns : goal.returns
returns c =
    field_found c.args.line.now c.args.at _ c.in_ok-get.ensures.lookup.0.2 _ c.word_start.ensures _ c.in_ok-start.was _ refl _ c.word_end.ensures _ c.unwrap_or.ensures
