-- `records::write_short` meets its contract.
use Prim.Native.Nat.{ℕ, ◌+◌, ◌-◌, ◌<◌}
use mathlib.Core.Path.{◌≡◌, ap, ◌∙◌}
use mathlib.Core.List.{List}
use native.Mathlib.Omega.{arith}
use borrow.Rule.Slice.PartMut.{put_mid}
use lib.ListN.{length, take, drop, set, length-drop}
use lib.Seq.{length-take-le}
use Rattle.codec.specs.Sets.{encode_set}
use Rattle.codec.proofs.Laws.Sizes.{payload_short}
use Rattle.codec.proofs.Laws.Encoded.{short_length, short_put}
use Rattle.codec.proofs.records.write_short.Goals as goal
use Rattle.codec.proofs.records.write_short.Goals.{After-encode_source_set-len}

short : (c : After-encode_source_set-len) → c.encode_source_set-len.result < 128
short c = let s = c.args.set in omega (arith, c.encode_source_set-len.ensures.0, payload_short s.colors.n s.ids.now c.requires.0 s.within)

pub encode_source_set-len-requires-clause-space : goal.encode_source_set-len-requires-clause-space
encode_source_set-len-requires-clause-space c = let s = c.args.set in omega (arith, payload_short s.colors.n s.ids.now c.requires.0 s.within)

pub slice_bounds-payload-end : goal.slice_bounds-payload-end
slice_bounds-payload-end c = omega (arith, short (goal.at.slice_bounds-payload-end c).After-encode_source_set-len)

-- the part that is lent for it
room : (c : After-encode_source_set-len) → length (take (c.encode_source_set-len.result + 1 - 1) (drop 1 c.args.out.now)) ≡ c.encode_source_set-len.result
room c =
    let r : ℕ = c.encode_source_set-len.result in
    length-take-le (r + 1 - 1) (drop 1 c.args.out.now) (omega (arith, short c, length-drop 1 c.args.out.now)) ∙ omega arith

pub copy_front-requires : goal.copy_front-requires
copy_front-requires c =
    let e = (goal.at.copy_front-requires c).After-encode_source_set-len in
    omega (arith, short e, room e, c.encode_source_set-len.ensures.2)

pub returns : goal.returns
returns c =
    let s = c.args.set in
    let r : ℕ = c.encode_source_set-len.result in
    let few = short (goal.at.returns c).After-encode_source_set-len in
    let part : c.copy_front.new.out ≡ encode_set s.colors.n s.ids.now = c.copy_front.ensures ∙ ap (λ (k : ℕ). take k c.encode_source_set-len.new.out) (room (goal.at.returns c).After-encode_source_set-len) ∙ c.encode_source_set-len.ensures.1 in (
      short_length s.colors.n r s.ids.now c.encode_source_set-len.ensures.0 few,
      omega (arith, few),
      ap (λ (l : List ℕ). set (put_mid 1 (r + 1 - 1) c.args.out.now l) 0 r) part ∙ short_put s.colors.n r s.ids.now c.encode_source_set-len.ensures.0 few c.args.out.now (r + 1 - 1) (omega (arith, few)) (omega arith),
    )
