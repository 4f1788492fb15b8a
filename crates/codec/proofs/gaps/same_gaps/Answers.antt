use Prim.Native.Nat.{ℕ, ◌-◌}
use mathlib.Core.Path.{◌≡◌, refl, sym, ap, ◌∙◌}
use mathlib.Core.Bool.{Bool}
use mathlib.Core.List.{List, [], ◌++◌, append_assoc}
use native.Mathlib.Omega.{arith}
use lib.ListN.{drop}
use Rattle.codec.specs.Bits.{bits_of}
use Rattle.codec.specs.Codes.{delta, got}
use Rattle.codec.proofs.Laws.Codes.{delta_only}
use Rattle.codec.proofs.Laws.Coded.{no_bits, coding_start, coding_next, coding_end, coding_read}
use Rattle.codec.proofs.gaps.same_gaps.Goals as goal

got_value : {v w : ℕ} {r s : List Bool} → got v r ≡ got w s → v ≡ w
got_value {v} {w} {r} {s} e = cc

pub loop-id-init : goal.loop-id-init
loop-id-init g c =
    let a = c.args in
    ([], coding_start g.C.CodedIds.dense a.set.colors.n a.set.ids.now a.set.within, refl, c.requires)

pub returns : goal.returns
returns g c =
    let a = c.args in
    (c.loop-id.invariant.2 ∙ ap (λ (x : List Bool). x ++ drop c.loop-id.place (bits_of a.source.bytes.now)) (sym (coding_end g.C.CodedIds.dense a.set.colors.n a.set.ids.now c.loop-id.c c.loop-id.invariant.0 c.loop-id.invariant.1 (no_bits g.C.CodedIds.dense a.set.colors.n a.set.ids.now c.loop-id.c c.in_default.ensures))), c.loop-id.invariant.3)

pub returns-in_err-value : goal.returns-in_err-value
returns-in_err-value g c = rw c.from_residual.ensures (λ rest e.
    let a = c.args in
    let m = coding_read g.C.CodedIds.dense a.set.colors.n a.set.ids.now c.loop-id.c c.loop-id.invariant.0 c.loop-id.invariant.1 c.in-Some.field-0.id c.in-Some.field-0.next c.in-Some.ensures _ _ rest c.loop-id.invariant.2 e in
    omega (arith, c.in_err-value.ensures _ _ m.1, c.in-Some.ensures.2))

pub returns-then-value-id : goal.returns-then-value-id
returns-then-value-id g c = λ rest e.
    let a = c.args in
    let m = coding_read g.C.CodedIds.dense a.set.colors.n a.set.ids.now c.loop-id.c c.loop-id.invariant.0 c.loop-id.invariant.1 c.in-Some.field-0.id c.in-Some.field-0.next c.in-Some.ensures _ _ rest c.loop-id.invariant.2 e in
    let same : c.in_ok-value.field-0.value ≡ c.in-Some.field-0.id - c.loop-id.c.from = got_value (sym c.in_ok-value.ensures.0 ∙ m.1) in
    absurd (omega arith)

pub loop-id-preserved : goal.loop-id-preserved
loop-id-preserved g c =
    let a = c.args in
    let v : ℕ = c.in-Some.field-0.id - c.loop-id.c.from in
    let behind : ℕ = c.in_ok-value.field-0.next in
    let bits : List Bool = bits_of a.source.bytes.now in
    let same : c.in_ok-value.field-0.value ≡ v = omega arith in (
      c.loop-id.invariant.0 ++ delta v,
      coding_next g.C.CodedIds.dense a.set.colors.n a.set.ids.now c.loop-id.c c.loop-id.invariant.0 c.loop-id.invariant.1 c.in-Some.field-0.id c.in-Some.field-0.next c.in-Some.ensures,
      c.loop-id.invariant.2 ∙ ap (λ (x : List Bool). c.loop-id.invariant.0 ++ x) (delta_only v _ _ (c.in_ok-value.ensures.0 ∙ ap (λ (n : ℕ). got n (drop behind bits)) same)) ∙ sym (append_assoc c.loop-id.invariant.0 (delta v) (drop behind bits)),
      c.in_ok-value.ensures.1,
    )
