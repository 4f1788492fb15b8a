-- `copies::copy_front` meets its contract.
use Prim.Native.Nat.{ℕ, ◌+◌, ◌<◌}
use mathlib.Core.Path.{◌≡◌, sym, ap, ◌∙◌}
use mathlib.Core.List.{List, [], ◌∷◌, ◌++◌}
use native.Mathlib.Numerals.{add-one}
use native.Mathlib.Omega.{arith}
use lib.ListN.{length, take, set, get_or}
use lib.Seq.{take-suc, take-suc-set, take_all}
use Rattle.codec.proofs.copies.copy_front.Goals as goal

one_more : {A : Type 0} (from out : List A) (i : ℕ) (x : A) → i < length from → i < length out → x ≡ get_or from i x → take i out ≡ take i from → take (i + 1) (set out i x) ≡ take (i + 1) from
one_more from out i x h k e so =
    ap (λ (n : ℕ). take n (set out i x)) (add-one i) ∙ take-suc-set out i x k ∙ ap (λ l. l ++ (x ∷ [])) so ∙ ap (λ y. take i from ++ (y ∷ [])) e
    ∙ sym (take-suc from i x h) ∙ ap (λ (n : ℕ). take n from) (sym (add-one i))

pub loop-i-preserved : goal.loop-i-preserved
loop-i-preserved g c =
    one_more c.args.from.now c.loop-i.out c.loop-i.i c.index-from-i.result (omega (arith, c.loop-i-test.true, c.requires)) (omega (arith, c.loop-i-test.true, c.loop-i.auto.out)) c.index-from-i.is c.loop-i.invariant

pub returns : goal.returns
returns g c =
    let end : c.loop-i.i ≡ length c.args.out.now = omega (arith, c.loop-i-test.false, c.loop-i.auto.i-end) in
    sym (take_all c.loop-i.i c.loop-i.out (omega (arith, end, c.loop-i.auto.out))) ∙ c.loop-i.invariant ∙ ap (λ (n : ℕ). take n c.args.from.now) end
