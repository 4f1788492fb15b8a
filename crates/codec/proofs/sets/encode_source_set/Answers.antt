-- `sets::encode_source_set` meets its contract.
use mathlib.Core.Path.{refl, sym, ◌∙◌, subst}
use native.Mathlib.Omega.{arith}
use borrow.Author.Rules.{rules}
use lib.ListN.{length}
use Rattle.codec.specs.Bits.{AreBytes}
use Rattle.codec.specs.Codes.{delta}
use Rattle.codec.specs.Sets.{set_bits}
use Rattle.codec.proofs.Laws.Encoded.{few_ids, set_length, ready_front, set_written, encoded}
use Rattle.codec.proofs.Laws.Writers.{ready_after}
use Rattle.codec.proofs.sets.encode_source_set.Goals as goal

pub overflow_cast-set : goal.overflow_cast-set
overflow_cast-set c = let s = c.args.set in omega (arith, few_ids s.colors.n s.ids.now s.within)

pub write_delta-requires : goal.write_delta-requires
write_delta-requires c =
    let s = c.args.set in
    let r = ready_front s.colors.n s.ids.now c.args.out.now c.new-w.result c.new-w.ensures.front c.requires.space in (
      omega (arith, few_ids s.colors.n s.ids.now s.within),
      omega (arith, r, set_length s.colors.n s.ids.now _ refl),
    )

pub write_body-requires-clause-ready : goal.write_body-requires-clause-ready
write_body-requires-clause-ready c =
    let s = c.args.set in
    let r = ready_front s.colors.n s.ids.now c.args.out.now c.new-w.result c.new-w.ensures.front c.requires.space in
    ready_after c.new-w.result c.write_delta.new.w (delta (length s.ids.now)) c.write_delta.ensures.wrote _ _ r (omega (arith, set_length s.colors.n s.ids.now _ refl))

pub finish-requires : goal.finish-requires
finish-requires c =
    let s = c.args.set in
    let f = c.new-w.ensures.front in
    let r = ready_front s.colors.n s.ids.now c.args.out.now c.new-w.result f c.requires.space in
    let all = set_written s.colors.n s.ids.now c.new-w.result c.write_delta.new.w c.write_body.new.w c.write_delta.ensures.wrote c.write_body.ensures.wrote in
    (ready_after c.new-w.result c.write_body.new.w (set_bits s.colors.n s.ids.now) all _ 0 r (omega arith), all.bytes (subst AreBytes (sym f.buffer) f.bytes))

pub returns : goal.returns
returns c =
    let s = c.args.set in
    let all = set_written s.colors.n s.ids.now c.new-w.result c.write_delta.new.w c.write_body.new.w c.write_delta.ensures.wrote c.write_body.ensures.wrote in
    let e = encoded s.colors.n c.finish.result s.ids.now c.args.out.now c.finish.new.self.out.now c.new-w.result c.write_body.new.w c.new-w.ensures.front all c.finish.ensures.packed.0 c.finish.ensures.packed.1 in
    (e.0, search rules ∙ e.1, search rules)
