-- `body::Body::read_word` meets its contract.
use native.Mathlib.Omega.{arith}
use Rattle.codec.proofs.Laws.Shown.{shown_word}
use Rattle.codec.proofs.body.Body.read_word.Goals as goal

pub read_shown-requires : goal.read_shown-requires
read_shown-requires c =
    let a = c.args in
    ((c.requires, shown_word a.self.source.bytes.now a.r.place c.word_at.result (omega arith) c.word_at.ensures), omega arith, omega arith)
