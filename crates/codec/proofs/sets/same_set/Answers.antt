-- `codec::sets::same_set` meets its contract.
use Prim.Native.Nat.{ℕ}
use mathlib.Core.Path.{◌≡◌, sym, ap, ◌∙◌}
use mathlib.Core.Bool.{Bool}
use mathlib.Core.List.{List}
use native.Mathlib.Omega.{arith}
use lib.ListN.{length, drop}
use Rattle.codec.specs.Bits.{bits_of}
use Rattle.codec.specs.Codes.{Read, got}
use Rattle.codec.specs.Sets.{decode_set}
use Rattle.codec.proofs.Laws.Encoded.{few_ids}
use Rattle.codec.proofs.Laws.Compared.{gives_other, set_begins, gives_same}
use Rattle.codec.proofs.sets.same_set.Goals as goal

-- two answers of one reading
same_value : {r : Read} {v w : ℕ} {x y : List Bool} → r ≡ got v x → r ≡ got w y → v ≡ w
same_value {r} {v} {w} {x} {y} p q = cc

same_rest : {r : Read} {v w : ℕ} {x y : List Bool} → r ≡ got v x → r ≡ got w y → x ≡ y
same_rest {r} {v} {w} {x} {y} p q = cc

pub returns-in_default : goal.returns-in_default
returns-in_default c =
    let a = c.args in
    sym (gives_other (decode_set a.set.colors.n a.payload.now) a.set.ids.now (λ e.
    let b = set_begins a.set.colors.n a.set.ids.now a.payload.now e in
    omega (arith, c.in_default.ensures _ _ b.1, few_ids a.set.colors.n a.set.ids.now a.set.within)))

pub returns-then-value-set : goal.returns-then-value-set
returns-then-value-set c =
    let a = c.args in
    sym (gives_other (decode_set a.set.colors.n a.payload.now) a.set.ids.now (λ e. c.if-value-set.true (same_value c.in-Some.ensures.0 (set_begins a.set.colors.n a.set.ids.now a.payload.now e).1)))

pub same_body-requires : goal.same_body-requires
same_body-requires c =
    rw c.new-source.ensures c.in-Some.ensures.1

pub returns-in_default-same_body : goal.returns-in_default-same_body
returns-in_default-same_body c =
    let a = c.args in
    sym (gives_other (decode_set a.set.colors.n a.payload.now) a.set.ids.now (λ e.
    let s = set_begins a.set.colors.n a.set.ids.now a.payload.now e in
    (rw c.new-source.ensures at c.in_default-same_body.ensures) s.0 (same_rest c.in-Some.ensures.0 s.1)))

pub is_padding-requires : goal.is_padding-requires
is_padding-requires c = c.in-Some-same_body.ensures.1

pub returns : goal.returns
returns c =
    let a = c.args in
    let v : c.in-Some.field-0.value ≡ length a.set.ids.now = omega arith in
    let at = c.in-Some.field-0.next in
    (rw c.new-source.ensures at c.is_padding.ensures) ∙ sym (gives_same a.set.colors.n a.set.ids.now a.payload.now at c.in-Some-same_body.behind a.set.within (c.in-Some.ensures.0 ∙ ap (λ (n : ℕ). got n (drop at (bits_of a.payload.now))) v) (rw c.new-source.ensures at c.in-Some-same_body.ensures).0)
