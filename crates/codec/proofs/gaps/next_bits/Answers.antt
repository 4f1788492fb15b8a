-- `gaps::next_bits` meets its contract.
use Prim.Native.Nat.{◌-◌}
use mathlib.Core.Path.{sym, ap, ◌∙◌}
use mathlib.Core.Bool.{Bool}
use mathlib.Core.List.{List, ◌++◌, append-nil}
use native.Mathlib.Omega.{arith}
use lib.ListN.{length-append}
use Rattle.codec.specs.Bits.{low_bits}
use Rattle.codec.specs.Codes.{delta}
use Rattle.codec.proofs.Laws.Low.{length_low}
use Rattle.codec.proofs.Laws.Coded.{eight_bits, last_bits, no_bits, two_bits, end_ahead, end_bits}
use Rattle.codec.proofs.gaps.next_bits.Goals as goal

pub returns-in-Some : goal.returns-in-Some
returns-in-Some g c =
    let s = c.args.set in
    let e = eight_bits g.C.CodedIds.dense s.colors.n s.ids.now c.args.c c.in-Some.next c.in-Some.ensures in
    (low_bits 8 255, length_low 8 255, e, omega (arith, c.in-Some.ensures.1), omega (arith, c.in-Some.ensures.1), c.in-Some.ensures.2)

pub returns-in_err-first : goal.returns-in_err-first
returns-in_err-first g c = let s = c.args.set in rw c.from_residual.ensures (no_bits g.C.CodedIds.dense s.colors.n s.ids.now c.args.c c.in_err-first.ensures)

pub returns-in_default-next_id : goal.returns-in_default-next_id
returns-in_default-next_id g c =
    let s = c.args.set in
    let a = c.in_ok-first in
    let v = delta (a.first.id - c.args.c.from) in
    let e = last_bits g.C.CodedIds.dense s.colors.n s.ids.now c.args.c a.first a.ensures c.in_default-next_id.ensures in
    let l = c.delta_len-count.ensures in (
      v,
      sym l.0,
      e ∙ sym (ap (λ (m : List Bool). v ++ m) (end_bits s.colors.n s.ids.now g.C.CodedIds.dense) ∙ append-nil v),
      omega (arith, a.ensures.1, a.ensures.2),
      omega (arith, l.1, a.ensures.1, a.ensures.2, a.ensures.3),
      end_ahead s.colors.n s.ids.now,
    )

pub returns : goal.returns
returns g c =
    let s = c.args.set in
    let a = c.in_ok-first in
    let b = c.in-Some-next_id in
    let v = delta (a.first.id - c.args.c.from) in
    let u = delta (b.second.id - a.first.next.from) in
    let e = two_bits g.C.CodedIds.dense s.colors.n s.ids.now c.args.c a.first a.ensures b.second b.ensures in
    let l = c.delta_len-count.ensures in
    let m = c.delta_len.ensures in
    (v ++ u, omega (arith, length-append v u, l.0, m.0), e, omega (arith, a.ensures.1, a.ensures.3, b.ensures.1, b.ensures.3), omega (arith, l.1, m.1, a.ensures.1, a.ensures.3, b.ensures.1, b.ensures.3), b.ensures.4)
