use mathlib.Core.Path.{refl}
use Rattle.replay.proofs.Laws.Cases.{one_add, one_join, one_close, one_show}
use Rattle.replay.proofs.Buffers.one.Goals as goal

pub returns-in-Add : goal.returns-in-Add
returns-in-Add c = record {
  same_references = (refl, refl, refl, refl, refl, refl);
  step = one_add _ _ _ _ _ _ c.requires _ _ _ _ _ c.in-Add.is c.part-set.ensures c.add.ensures;
}

pub returns-in-Join : goal.returns-in-Join
returns-in-Join c = record {
  same_references = (refl, refl, refl, refl, refl, refl);
  step = one_join _ _ _ _ _ _ c.requires _ _ _ _ _ _ _ c.in-Join.is c.part-piece.ensures c.join.ensures;
}

pub returns-in-Close : goal.returns-in-Close
returns-in-Close c = record {
  same_references = (refl, refl, refl, refl, refl, refl);
  step = one_close _ _ _ _ _ _ c.requires _ _ _ c.in-Close.is c.close.ensures;
}

pub returns-in-Show : goal.returns-in-Show
returns-in-Show c = record {
  same_references = (refl, refl, refl, refl, refl, refl);
  step = one_show _ _ _ _ _ _ _ _ _ _ _ _ c.in-Show.is c.show.ensures;
}
