-- `codec::sets::same_body` meets its contract.
use mathlib.Core.Path.{refl, subst}
use mathlib.Core.Bool.{Bool}
use mathlib.Core.List.{List}
use Rattle.codec.specs.Inside.Gaps.{BitsAt}
use Rattle.std.specs.Prelude.{Some}
use Rattle.codec.proofs.Laws.Encoded.{body_empty, body_sparse, body_bitmap, body_dense}
use Rattle.codec.proofs.sets.same_body.Goals as goal

pub returns-in-Empty : goal.returns-in-Empty
returns-in-Empty c =
    let a = c.args in
    let b = body_empty a.set.colors.n a.set.ids.now c.kind_of.result c.kind_of.ensures c.in-Empty.is in
    subst (λ (bits : List Bool). BitsAt bits a.source.bytes.now a.at (Some a.at)) b (refl, c.requires)

pub returns-in-Sparse : goal.returns-in-Sparse
returns-in-Sparse c =
    let a = c.args in
    let b = body_sparse a.set.colors.n a.set.ids.now c.kind_of.result c.kind_of.ensures c.in-Sparse.is in
    subst (λ (bits : List Bool). BitsAt bits a.source.bytes.now a.at c.same_gaps.result) b c.same_gaps.ensures

pub returns-in-Bitmap : goal.returns-in-Bitmap
returns-in-Bitmap c =
    let a = c.args in
    let b = body_bitmap a.set.colors.n a.set.ids.now c.kind_of.result c.kind_of.ensures c.in-Bitmap.is in
    subst (λ (bits : List Bool). BitsAt bits a.source.bytes.now a.at c.same_map.result) b c.same_map.ensures

pub returns-in-Dense : goal.returns-in-Dense
returns-in-Dense c =
    let a = c.args in
    let b = body_dense a.set.colors.n a.set.ids.now c.kind_of.result c.kind_of.ensures c.in-Dense.is in
    subst (λ (bits : List Bool). BitsAt bits a.source.bytes.now a.at c.same_gaps-in-Dense.result) b c.same_gaps-in-Dense.ensures
