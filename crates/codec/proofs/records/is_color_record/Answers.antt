-- `records::is_color_record` meets its contract.
use Prim.Native.Nat.{ℕ, ◌-◌}
use mathlib.Core.Path.{◌≡◌, sym, ap, ◌∙◌}
use native.Mathlib.Omega.{arith}
use lib.ListN.{take, drop, length-take, length-drop}
use Rattle.codec.specs.Sets.{decode_set}
use Rattle.codec.specs.Inside.Payloads.{gives_set}
use Rattle.codec.proofs.Laws.Prefix.{prefix_behind}
use Rattle.codec.proofs.Laws.Colors.{turned_is, taken_is}
use Rattle.codec.proofs.Laws.Compared.{gives_refused, gives_cut, gives_payload}
use Rattle.codec.proofs.records.is_color_record.Goals as goal

pub returns-in_default : goal.returns-in_default
returns-in_default c = sym (turned_is c.args.n c.args.ids.now _ c.in_default.ensures.refused c.args.input.now (λ j. (c.type_inv.input j).fits))

pub returns-in_default-read_varint_len : goal.returns-in_default-read_varint_len
returns-in_default-read_varint_len c =
    let s = c.in-Ok.set in
    let input = c.args.input.now in
    rw (← c.in-Ok.ensures.taken.0, ← c.in-Ok.ensures.taken.1) (sym (taken_is s.colors.n s.ids.now s.colors.some s.colors.few s.within input ∙ gives_refused s.colors.n s.ids.now input c.in_default-read_varint_len.field-0 c.in_default-read_varint_len.ensures))

pub payload_end-requires : goal.payload_end-requires
payload_end-requires c = let p = c.in-Ok-read_varint_len.field-0 in (prefix_behind c.args.input.now p.value p.len c.in-Ok-read_varint_len.ensures).1

pub returns-in_default-payload_end : goal.returns-in_default-payload_end
returns-in_default-payload_end c =
    let s = c.in-Ok.set in
    let input = c.args.input.now in
    let p = c.in-Ok-read_varint_len.field-0 in
    let prefixed = prefix_behind input p.value p.len c.in-Ok-read_varint_len.ensures in
    rw (← c.in-Ok.ensures.taken.0, ← c.in-Ok.ensures.taken.1)
    (sym (taken_is s.colors.n s.ids.now s.colors.some s.colors.few s.within input ∙ gives_cut s.colors.n s.ids.now input p.value (drop p.len input) prefixed.0 (omega (arith, prefixed.1, length-drop p.len input, c.in_default-payload_end.ensures.cut.1))))

pub slice_bounds-same_set-end : goal.slice_bounds-same_set-end
slice_bounds-same_set-end c = omega (arith, c.in-Ok-payload_end.ensures.whole)

pub same_set-requires : goal.same_set-requires
same_set-requires c =
    let p = c.in-Ok-read_varint_len.field-0 in
    simp length-take (omega (arith, c.in-Ok-payload_end.ensures.whole, (prefix_behind c.args.input.now p.value p.len c.in-Ok-read_varint_len.ensures).2))

pub returns : goal.returns
returns c =
    let s = c.in-Ok.set in
    let input = c.args.input.now in
    let p = c.in-Ok-read_varint_len.field-0 in
    let prefixed = prefix_behind input p.value p.len c.in-Ok-read_varint_len.ensures in
    let end = c.in-Ok-payload_end.ensures.whole in
    let n : c.in-Ok-payload_end.end - p.len ≡ p.value = omega (arith, end.0) in
    rw (← c.in-Ok.ensures.taken.0, ← c.in-Ok.ensures.taken.1)
    (c.same_set.ensures ∙ ap (λ (m : ℕ). gives_set (decode_set s.colors.n (take m (drop p.len input))) s.ids.now) n
    ∙ sym (taken_is s.colors.n s.ids.now s.colors.some s.colors.few s.within input ∙ gives_payload s.colors.n s.ids.now input p.value (drop p.len input) prefixed.0 (omega (arith, length-drop p.len input, end.0, end.1))))
