-- `sets::set_len` meets its contract.
use native.Mathlib.Omega.{arith}
use Rattle.codec.proofs.Laws.Sets.{length_map_bits}
use Rattle.codec.proofs.Laws.Encoded.{few_ids, body_empty, body_sparse, body_bitmap, body_dense, set_length, set_short}
use Rattle.codec.proofs.sets.set_len.Goals as goal

pub overflow_cast-set : goal.overflow_cast-set
overflow_cast-set c = let s = c.args.set in omega (arith, few_ids s.colors.n s.ids.now s.within)

pub delta_len-head-requires : goal.delta_len-head-requires
delta_len-head-requires c = let s = c.args.set in omega (arith, few_ids s.colors.n s.ids.now s.within)

pub overflow_add-result : goal.overflow_add-result
overflow_add-result c =
    let s = c.args.set in
    omega (arith, c.delta_len-head.ensures.0, c.gaps_len.ensures, set_short s.colors.n s.ids.now _ (body_sparse s.colors.n s.ids.now c.kind_of.result c.kind_of.ensures c.in-Sparse.is) s.colors.few s.within)

pub overflow_add-result-in-Dense : goal.overflow_add-result-in-Dense
overflow_add-result-in-Dense c =
    let s = c.args.set in
    omega (arith, c.delta_len-head.ensures.0, c.absent_len.ensures, set_short s.colors.n s.ids.now _ (body_dense s.colors.n s.ids.now c.kind_of.result c.kind_of.ensures c.in-Dense.is) s.colors.few s.within)

pub returns-in-Empty : goal.returns-in-Empty
returns-in-Empty c =
    let s = c.args.set in
    let b = body_empty s.colors.n s.ids.now c.kind_of.result c.kind_of.ensures c.in-Empty.is in
    (omega (arith, c.delta_len-head.ensures.0, set_length s.colors.n s.ids.now _ b), omega (arith, c.delta_len-head.ensures.0, set_short s.colors.n s.ids.now _ b s.colors.few s.within))

pub returns-in-Sparse : goal.returns-in-Sparse
returns-in-Sparse c =
    let s = c.args.set in
    let b = body_sparse s.colors.n s.ids.now c.kind_of.result c.kind_of.ensures c.in-Sparse.is in
    (omega (arith, c.delta_len-head.ensures.0, c.gaps_len.ensures, set_length s.colors.n s.ids.now _ b), omega (arith, c.delta_len-head.ensures.0, c.gaps_len.ensures, set_short s.colors.n s.ids.now _ b s.colors.few s.within))

pub returns-in-Bitmap : goal.returns-in-Bitmap
returns-in-Bitmap c =
    let s = c.args.set in
    let b = body_bitmap s.colors.n s.ids.now c.kind_of.result c.kind_of.ensures c.in-Bitmap.is in
    (omega (arith, c.delta_len-head.ensures.0, length_map_bits s.colors.n 0 s.ids.now, set_length s.colors.n s.ids.now _ b), omega (arith, c.delta_len-head.ensures.0, length_map_bits s.colors.n 0 s.ids.now, set_short s.colors.n s.ids.now _ b s.colors.few s.within))

pub returns-in-Dense : goal.returns-in-Dense
returns-in-Dense c =
    let s = c.args.set in
    let b = body_dense s.colors.n s.ids.now c.kind_of.result c.kind_of.ensures c.in-Dense.is in
    (omega (arith, c.delta_len-head.ensures.0, c.absent_len.ensures, set_length s.colors.n s.ids.now _ b), omega (arith, c.delta_len-head.ensures.0, c.absent_len.ensures, set_short s.colors.n s.ids.now _ b s.colors.few s.within))
