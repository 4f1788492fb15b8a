use Prim.Native.Nat.{◌+◌, ◌-◌, ◌*◌, ◌%◌, ◌^◌, ◌≤◌, ◌<◌}
use mathlib.Core.Path.{◌≡◌, sym, ap, ◌∙◌}
use native.Mathlib.Omega.{arith}
use native.Mathlib.Nat.{lt_of_lt_of_le}
use lib.ListN.{length, get_or}
use lib.Pow.{pow_mono}
use Rattle.codec.proofs.Laws.Refusals.{passed_on}
use Rattle.codec.specs.Prefix.{prefix_in}
use Rattle.codec.proofs.Laws.Bits.{shift_fits}
use Rattle.codec.proofs.Laws.Items.{item_there, item_past, refused_as}
use Rattle.codec.proofs.Laws.Prefix.{Sofar, sofar_none, sofar_cut, sofar_more, sofar_last, sofar_bad, prefix_in_last}
use Rattle.codec.proofs.prefix.read_varint_len.Goals as goal
use Rattle.codec.proofs.prefix.read_varint_len.Goals.{After-from-group}

pub loop-i-init : goal.loop-i-init
loop-i-init c = sofar_none c.args.bytes.now

pub returns-in_err-byte : goal.returns-in_err-byte
returns-in_err-byte c =
    let e = refused_as c.get.result _ _ c.in_err-byte.ensures.ok_part c.in_err-byte.ensures.value in
    rw (passed_on c.from_residual.ensures.1, e)
    (sym (ap (prefix_in (length c.args.bytes.now)) (sofar_cut c.args.bytes.now c.loop-i.value c.loop-i.i 0 c.loop-i-test.true c.loop-i.invariant (item_past _ _ _ c.get.ensures.lookup c.in_err-byte.ensures.ok_part))))

-- the byte of this turn
there : (c : goal.After-from-group) → (c.loop-i.i < length c.args.bytes.now) × (c.from-group.result ≡ get_or c.args.bytes.now c.loop-i.i 0) × (c.from-group.result < 256)
there c =
    let t = item_there _ _ _ c.get.ensures.lookup _ c.in_ok-byte.ensures.ok_part in
    let e = c.from-group.ensures ∙ t.1 in
    (t.0, e, omega (arith, e, (c.type_inv.bytes c.loop-i.i).fits))

pub last_group-requires : goal.last_group-requires
last_group-requires c = (c.loop-i.invariant.0, omega arith, omega arith)

pub returns-then-group-lt128 : goal.returns-then-group-lt128
returns-then-group-lt128 c =
    let bytes = c.args.bytes.now in
    let t = there (goal.at.returns-then-group-lt128 c).After-from-group in
    let p = sofar_last bytes c.loop-i.value c.loop-i.i c.from-group.result c.loop-i-test.true c.loop-i.invariant t.0 t.1 c.if-group-lt128.true in
    c.last_group.ensures ∙ sym (ap (prefix_in (length bytes)) p ∙ prefix_in_last bytes c.loop-i.value c.loop-i.i c.from-group.result t.0)

next : (c : goal.After-from-group) → 128 ≤ c.from-group.result
    → Sofar c.args.bytes.now (c.loop-i.value + (c.from-group.result - 128) * 2 ^ (7 * c.loop-i.i) % 2 ^ 64) (c.loop-i.i + 1)
next c more =
    let t = there c in
    let shl : (c.from-group.result - 128) * 2 ^ (7 * c.loop-i.i) % 2 ^ 64 ≡ (c.from-group.result - 128) * 2 ^ (7 * c.loop-i.i) = shift_fits (7 * c.loop-i.i) 7 (c.from-group.result - 128) (omega (arith, t.2)) (omega arith) in
    rw shl (sofar_more c.args.bytes.now c.loop-i.value c.loop-i.i c.from-group.result c.loop-i-test.true c.loop-i.invariant t.0 t.1 more t.2)

pub overflow_add-value : goal.overflow_add-value
overflow_add-value c = record { fits = lt_of_lt_of_le (next (goal.at.overflow_add-value c).After-from-group c.if-group-lt128.false).0 (pow_mono {i = 7 * (c.loop-i.i + 1)} {j = 64} (omega arith)) }

pub loop-i-preserved : goal.loop-i-preserved
loop-i-preserved c = next (goal.at.loop-i-preserved c).After-from-group c.if-group-lt128.false

pub returns : goal.returns
returns c =
    sym (ap (prefix_in (length c.args.bytes.now)) (sofar_bad c.args.bytes.now c.loop-i.value c.loop-i.i (omega arith) c.loop-i.invariant))
