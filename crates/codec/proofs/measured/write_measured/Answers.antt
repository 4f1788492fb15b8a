-- `measured::write_measured` meets its contract.
use Prim.Native.Nat.{ℕ, ◌+◌}
use mathlib.Core.Path.{◌≡◌, refl, sym, ap, ap₂, ◌∙◌}
use mathlib.Core.List.{List, [], ◌∷◌}
use native.Mathlib.Omega.{arith}
use lib.ListN.{length, take}
use Rattle.base.specs.Answers.{done}
use Rattle.codec.specs.Records.{record_of}
use Rattle.codec.specs.Sets.{encode_set}
use Rattle.codec.proofs.Laws.Colors.{taken_short, taken_write}
use Rattle.codec.proofs.Laws.Encoded.{record_length_lem, record_put}
use Rattle.codec.proofs.measured.write_measured.Goals as goal

pub returns-then-out-total : goal.returns-then-out-total
returns-then-out-total c =
    let s = c.args.set in
    let total : c.varint_len-at.result + c.args.len ≡ length (record_of s.colors.n s.ids.now) = ap (λ (n : ℕ). n + c.args.len) c.varint_len-at.ensures.0 ∙ record_length_lem s.colors.n s.ids.now c.args.len c.requires.long in
    (sym (taken_short s.colors.n s.ids.now s.colors.some s.colors.few s.within c.args.out.now (omega (arith, total))))

pub encode_source_set-requires-clause-space : goal.encode_source_set-requires-clause-space
encode_source_set-requires-clause-space c = omega (arith, c.requires.long)

pub returns : goal.returns
returns c =
    let s = c.args.set in
    let e = c.encode_source_set.ensures in
    let part : take c.args.len c.encode_source_set.new.out ≡ encode_set s.colors.n s.ids.now = ap (λ (k : ℕ). take k c.encode_source_set.new.out) (c.requires.long ∙ sym e.0) ∙ e.1 in
    let total : c.varint_len-at.result + c.args.len ≡ length (record_of s.colors.n s.ids.now) = ap (λ (n : ℕ). n + c.args.len) c.varint_len-at.ensures.0 ∙ record_length_lem s.colors.n s.ids.now c.args.len c.requires.long in
    let put =
    record_put s.colors.n c.args.len c.varint_len-at.result s.ids.now c.args.out.now c.fill_varint.new.out c.requires.long c.varint_len-at.ensures.0 c.fill_varint.ensures (c.varint_len-at.result + c.args.len) _ refl refl (omega arith) c.encode_source_set.new.out part (omega (arith, e.2))
    in
    (ap₂ (λ (n : ℕ) (x : List ℕ). (done (n ∷ []), x)) total put ∙ sym (taken_write s.colors.n s.ids.now s.colors.some s.colors.few s.within c.args.out.now (omega (arith, total))))
