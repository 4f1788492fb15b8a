-- `body::Body::fill` meets its contract.
use Prim.Native.Nat.{ℕ}
use mathlib.Core.Path.{◌≡◌, sym, ap, ◌∙◌}
use mathlib.Core.List.{List, []}
use native.Mathlib.Omega.{arith}
use lib.ListN.{length, length-drop}
use Rattle.codec.specs.Bits.{bits_of}
use Rattle.codec.specs.Sets.{absent, ReadIds}
use Rattle.codec.specs.Inside.Gaps.{ids_in, is_given}
use Rattle.codec.specs.Inside.Bodies.{bits_in}
use Rattle.codec.specs.declared.sets.Kind.TheVariants.{Empty, Sparse, Bitmap, Dense}
use Rattle.codec.proofs.Laws.Low.{length_bits}
use Rattle.codec.proofs.Laws.Filled.{over_none}
use Rattle.codec.proofs.Laws.Decoding.{map_told, dense_told, kept_told, payload_body, payload_over}
use Rattle.codec.proofs.body.Body.fill.Goals as goal

pub invariant_of-fill : goal.invariant_of-fill
invariant_of-fill c =
    let s = c.args.self in
    let b = payload_body s c.requires.checked.0 _ Sparse c.in-Sparse.is c.kind_of.ensures in
    record { accepted = ap is_given b.1; kept = kept_told s _ Sparse c.in-Sparse.is c.kind_of.ensures c.args.room.now c.requires.checked.1 }

pub fill_map-requires : goal.fill_map-requires
fill_map-requires c =
    let s = c.args.self in
    let p = c.requires.checked.0 in
    let b = payload_body s p _ Bitmap c.in-Bitmap.is c.kind_of.ensures in
    let bytes : List ℕ = s.source.bytes.now in
    let m = map_told s.colors.n s.count (bits_in s) _ _ b.1 in
    record { place = omega (arith, m.0, length-drop s.at (bits_of bytes), length_bits bytes, s.place); counted = ap length m.1 ∙ sym p.count; space = c.requires.space }

pub overflow_sub-self : goal.overflow_sub-self
overflow_sub-self c =
    let b = payload_body c.args.self c.requires.checked.0 _ Dense c.in-Dense.is c.kind_of.ensures in
    (dense_told _ _ _ _ _ b.1).0

pub invariant_of-fill_left_out : goal.invariant_of-fill_left_out
invariant_of-fill_left_out c =
    let s = c.args.self in
    let b = payload_body s c.requires.checked.0 _ Dense c.in-Dense.is c.kind_of.ensures in
    let d = dense_told _ _ _ _ _ b.1 in
    rw c.with_count-body.ensures (record { accepted = ap is_given d.1.2; kept = kept_told s _ Dense c.in-Dense.is c.kind_of.ensures c.args.room.now c.requires.checked.1 })

pub fill_left_out-requires : goal.fill_left_out-requires
fill_left_out-requires c =
    rw c.with_count-body.ensures (omega arith)

pub returns-in-Empty : goal.returns-in-Empty
returns-in-Empty c =
    let p = c.requires.checked.0 in
    let b = payload_body c.args.self p _ Empty c.in-Empty.is c.kind_of.ensures in
    let e : [] ≡ p.ids = cc in
    sym (over_none c.args.out.now) ∙ payload_over c.args.self p [] c.args.out.now e

pub returns-in-Sparse : goal.returns-in-Sparse
returns-in-Sparse c =
    let p = c.requires.checked.0 in
    let b = payload_body c.args.self p _ Sparse c.in-Sparse.is c.kind_of.ensures in
    c.fill.ensures ∙ payload_over c.args.self p _ c.args.out.now (ap ids_in b.1)

pub returns-in-Bitmap : goal.returns-in-Bitmap
returns-in-Bitmap c =
    let p = c.requires.checked.0 in
    let b = payload_body c.args.self p _ Bitmap c.in-Bitmap.is c.kind_of.ensures in
    c.fill_map.ensures ∙ payload_over c.args.self p _ c.args.out.now (map_told _ _ _ _ _ b.1).1

pub returns-in-Dense : goal.returns-in-Dense
returns-in-Dense c =
    let s = c.args.self in
    let p = c.requires.checked.0 in
    let b = payload_body s p _ Dense c.in-Dense.is c.kind_of.ensures in
    let d = dense_told _ _ _ _ _ b.1 in
    let filled = rw c.with_count-body.ensures at c.fill_left_out.ensures in
    filled ∙ payload_over s p _ c.args.out.now (ap (λ (r : ReadIds). absent s.colors.n (ids_in r)) d.1.2 ∙ sym d.1.1)
