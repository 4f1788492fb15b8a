-- `sets::write_body` meets its contract.
use mathlib.Core.Path.{sym, ap, ◌∙◌, subst}
use lib.ListN.{length}
use Rattle.codec.specs.Inside.Writers.{Ready, Wrote}
use Rattle.codec.proofs.Laws.Sets.{length_map_bits}
use Rattle.codec.proofs.Laws.Encoded.{body_empty, body_sparse, body_bitmap, body_dense}
use Rattle.codec.proofs.Laws.Writers.{wrote_none}
use Rattle.codec.proofs.sets.write_body.Goals as goal

pub write_gaps-requires : goal.write_gaps-requires
write_gaps-requires c =
    let a = c.args in
    let b = body_sparse a.set.colors.n a.set.ids.now c.kind_of.result c.kind_of.ensures c.in-Sparse.is in
    subst (Ready a.w.now) (sym (ap length b)) c.requires.ready

pub write_map-requires : goal.write_map-requires
write_map-requires c =
    let a = c.args in
    let b = body_bitmap a.set.colors.n a.set.ids.now c.kind_of.result c.kind_of.ensures c.in-Bitmap.is in
    subst (Ready a.w.now) (sym (ap length b) ∙ length_map_bits a.set.colors.n 0 a.set.ids.now) c.requires.ready

pub write_absent-requires-clause-ready : goal.write_absent-requires-clause-ready
write_absent-requires-clause-ready c =
    let a = c.args in
    let b = body_dense a.set.colors.n a.set.ids.now c.kind_of.result c.kind_of.ensures c.in-Dense.is in
    subst (Ready a.w.now) (sym (ap length b)) c.requires.ready

pub returns-in-Empty-clause-wrote : goal.returns-in-Empty-clause-wrote
returns-in-Empty-clause-wrote c =
    let a = c.args in
    let b = body_empty a.set.colors.n a.set.ids.now c.kind_of.result c.kind_of.ensures c.in-Empty.is in
    subst (Wrote a.w.now a.w.now) b (wrote_none a.w.now)

pub returns-in-Sparse-clause-wrote : goal.returns-in-Sparse-clause-wrote
returns-in-Sparse-clause-wrote c =
    let a = c.args in
    let b = body_sparse a.set.colors.n a.set.ids.now c.kind_of.result c.kind_of.ensures c.in-Sparse.is in
    subst (Wrote a.w.now c.write_gaps.new.w) b c.write_gaps.ensures.wrote

pub returns-in-Bitmap-clause-wrote : goal.returns-in-Bitmap-clause-wrote
returns-in-Bitmap-clause-wrote c =
    let a = c.args in
    let b = body_bitmap a.set.colors.n a.set.ids.now c.kind_of.result c.kind_of.ensures c.in-Bitmap.is in
    subst (Wrote a.w.now c.write_map.new.w) b c.write_map.ensures.wrote

pub returns-in-Dense-clause-wrote : goal.returns-in-Dense-clause-wrote
returns-in-Dense-clause-wrote c =
    let a = c.args in
    let b = body_dense a.set.colors.n a.set.ids.now c.kind_of.result c.kind_of.ensures c.in-Dense.is in
    subst (Wrote a.w.now c.write_absent.new.w) b c.write_absent.ensures.wrote
