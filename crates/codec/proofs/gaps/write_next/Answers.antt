-- `gaps::write_next` meets its contract.
use Prim.Native.Nat.{◌-◌}
use mathlib.Core.Path.{sym, ap, ◌∙◌, subst}
use mathlib.Core.List.{◌++◌}
use native.Mathlib.Omega.{arith}
use lib.ListN.{length, length-append}
use Rattle.codec.specs.Bits.{low_bits}
use Rattle.codec.specs.Codes.{delta}
use Rattle.codec.specs.Inside.Writers.{Wrote}
use Rattle.codec.proofs.Laws.Low.{length_low}
use Rattle.codec.proofs.Laws.Coded.{eight_bits, no_bits, last_bits, two_bits}
use Rattle.codec.proofs.Laws.Writers.{wrote_none}
use Rattle.codec.proofs.gaps.write_next.Goals as goal

pub push-requires-clause-ready : goal.push-requires-clause-ready
push-requires-clause-ready g c =
    let s = c.args.set in
    let e = eight_bits g.C.CodedIds.dense s.colors.n s.ids.now c.args.c c.in-Some.next c.in-Some.ensures in
    omega (arith, c.requires.1, ap length e ∙ length-append (low_bits 8 255) _, length_low 8 255)

pub returns-in-Some-clause-wrote : goal.returns-in-Some-clause-wrote
returns-in-Some-clause-wrote g c =
    let s = c.args.set in
    let e = eight_bits g.C.CodedIds.dense s.colors.n s.ids.now c.args.c c.in-Some.next c.in-Some.ensures in
    (low_bits 8 255, c.push.ensures.wrote, e, omega (arith, c.in-Some.ensures.1), c.in-Some.ensures.2)

pub returns-in_err-first-clause-wrote : goal.returns-in_err-first-clause-wrote
returns-in_err-first-clause-wrote g c =
    let a = c.args in
    rw c.from_residual.ensures (subst (Wrote a.w.now a.w.now) (sym (no_bits g.C.CodedIds.dense a.set.colors.n a.set.ids.now a.c c.in_err-first.ensures)) (wrote_none a.w.now))

pub write_delta-requires : goal.write_delta-requires
write_delta-requires g c =
    let s = c.args.set in
    let e = last_bits g.C.CodedIds.dense s.colors.n s.ids.now c.args.c c.in_ok-first.first c.in_ok-first.ensures c.in_default-next_id.ensures in
    (omega (arith, c.in_ok-first.ensures.2, s.colors.few), omega (arith, c.requires.1, ap length e))

pub returns-in_default-next_id-clause-wrote : goal.returns-in_default-next_id-clause-wrote
returns-in_default-next_id-clause-wrote g c =
    let s = c.args.set in
    let e = last_bits g.C.CodedIds.dense s.colors.n s.ids.now c.args.c c.in_ok-first.first c.in_ok-first.ensures c.in_default-next_id.ensures in
    subst (Wrote c.args.w.now c.write_delta.new.w) (sym e) c.write_delta.ensures.wrote

pub write_two-requires : goal.write_two-requires
write_two-requires g c =
    let s = c.args.set in
    let a = c.in_ok-first in
    let b = c.in-Some-next_id in
    let v = delta (a.first.id - c.args.c.from) in
    let u = delta (b.second.id - a.first.next.from) in
    let e = two_bits g.C.CodedIds.dense s.colors.n s.ids.now c.args.c a.first a.ensures b.second b.ensures in
    (omega (arith, a.ensures.1, a.ensures.3, b.ensures.1, b.ensures.2, s.colors.few), omega (arith, c.requires.1, ap length e ∙ length-append (v ++ u) _, length-append v u))

pub returns-clause-wrote : goal.returns-clause-wrote
returns-clause-wrote g c =
    let s = c.args.set in
    let a = c.in_ok-first in
    let b = c.in-Some-next_id in
    let e = two_bits g.C.CodedIds.dense s.colors.n s.ids.now c.args.c a.first a.ensures b.second b.ensures in
    (delta (a.first.id - c.args.c.from) ++ delta (b.second.id - a.first.next.from), c.write_two.ensures.wrote, e, omega (arith, a.ensures.1, a.ensures.3, b.ensures.1, b.ensures.3), b.ensures.4)
