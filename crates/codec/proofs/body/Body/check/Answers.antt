-- `body::Body::check` meets its contract.
use mathlib.Core.Path.{refl}
use mathlib.Core.List.{[]}
use Rattle.std.specs.Prelude.{Some}
use Rattle.codec.specs.declared.sets.Kind.TheVariants.{Empty, Sparse, Bitmap, Dense}
use Rattle.codec.proofs.Laws.Decoding.{body_at, kept_at}
use Rattle.codec.proofs.Laws.Gaps.{put_kept}
use Rattle.codec.proofs.body.Body.check.Goals as goal

pub returns-in-Empty : goal.returns-in-Empty
returns-in-Empty c =
    let s = c.args.self in
    (body_at s _ Empty c.in-Empty.is c.kind_of.ensures (Some s.at) (([], refl), s.place), kept_at s _ Empty c.in-Empty.is c.kind_of.ensures _ tt)

pub returns-in-Sparse : goal.returns-in-Sparse
returns-in-Sparse c =
    let s = c.args.self in
    (body_at s _ Sparse c.in-Sparse.is c.kind_of.ensures _ c.read_gaps.ensures.0, kept_at s _ Sparse c.in-Sparse.is c.kind_of.ensures _ (put_kept s.count s.colors.n _ c.args.room.now _ c.read_gaps.ensures.1))

pub returns-in-Bitmap : goal.returns-in-Bitmap
returns-in-Bitmap c =
    let s = c.args.self in
    (body_at s _ Bitmap c.in-Bitmap.is c.kind_of.ensures _ c.check_map.ensures, kept_at s _ Bitmap c.in-Bitmap.is c.kind_of.ensures _ tt)

pub returns-in-Dense : goal.returns-in-Dense
returns-in-Dense c =
    let s = c.args.self in
    (body_at s _ Dense c.in-Dense.is c.kind_of.ensures _ c.check_absent.ensures.0, kept_at s _ Dense c.in-Dense.is c.kind_of.ensures _ c.check_absent.ensures.1)
