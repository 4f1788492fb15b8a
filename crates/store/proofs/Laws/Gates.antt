-- What the tests over the buffers find, in the plain store's words: 10, 11 and repeats, and choices by the same tests.
use Prim.Native.Nat.{ℕ, ◌+◌}
use mathlib.Core.Path.{◌≡◌, refl, ◌∙◌}
use mathlib.Core.Bool.{Bool, true, false, not, ◌||◌}
use mathlib.Core.List.{[], ◌∷◌}
use mathlib.Core.Option.{Option, none, some}
use native.Mathlib.Omega.{arith}
use lib.Dec.{eqb}
use borrow.Author.Tests.{eqb-true, not-false}
use Rattle.std.proofs.Common.{Ok, Err, Some, None}
use Rattle.base.specs.Answers.{Answer, done, number_of, refused}
use Rattle.base.specs.Tests.{◌when◌else◌}
use Rattle.base.specs.declared.Refusal.{Refusal}
use Rattle.base.specs.declared.Refusal.TheVariants.{Number}
use Rattle.base.proofs.Bools.{or_none}
use Rattle.store.specs.Numbered.{Gate, Test, by_gate, by_sequence, numbered, repeated, sequence_of, tested}
use Rattle.store.specs.Plain.{Plain, Update, Verdict, accept, again, equal_updates, refuse, repeat, tests, verdict}
use Rattle.store.specs.declared.numbered.Sequence.TheVariants.{New, Repeat}
use Rattle.store.specs.declared.state.Cell.{Cell}

unfoldable pub as_verdict : Test → Verdict
as_verdict (Err r) = refuse (number_of r)
as_verdict (Ok _) = accept

unfoldable pub gate_verdict : Gate → Verdict
gate_verdict (Err r) = refuse (number_of r)
gate_verdict (Ok (Some a)) = repeat a
gate_verdict (Ok None) = accept

tested_verdict : (t : Test) → gate_verdict (tested t) ≡ as_verdict t
unfolding gate_verdict as_verdict tested
tested_verdict (Err r) = refl
tested_verdict (Ok _) = refl

-- a step by its gate is one by the verdict
unfoldable pub by_verdict : {R : Type 0} → Verdict → (told : Answer → R) → (go : R) → R
by_verdict (refuse r) told go = told (refused r)
by_verdict (repeat a) told go = told (done (a ∷ []))
by_verdict accept told go = go

pub by_verdict_lem : {R : Type 0} (g : Gate) (told : Answer → R) (go : R) → by_gate g told go ≡ by_verdict (gate_verdict g) told go
unfolding by_gate by_verdict gate_verdict
by_verdict_lem (Err r) told go = refl
by_verdict_lem (Ok (Some a)) told go = refl
by_verdict_lem (Ok None) told go = refl

-- ---- one test

-- with tests that agree, the two agree if they do where the test fails
pub refuse_both : (r : Refusal) {t u : Bool} (g : Test) (v : Verdict) → t ≡ u → (u ≡ false → as_verdict g ≡ v) → as_verdict (◌when◌else◌ (Err r) t g) ≡ ◌when◌else◌ (refuse (number_of r)) u v
unfolding as_verdict ◌when◌else◌
refuse_both r {t} {u} g v q e = rw q (go u e)
  where
    go : (u : Bool) → (u ≡ false → as_verdict g ≡ v) → as_verdict (◌when◌else◌ (Err r) u g) ≡ ◌when◌else◌ (refuse (number_of r)) u v
    go true e = refl
    go false e = e refl

-- what is found, where it isn't what this test would have found: the test fails, and the later ones found it
pub found_later : (t : Bool) {r v w : Verdict} → (r ≡ w → ⊥) → ◌when◌else◌ r t v ≡ w → (t ≡ false) × (v ≡ w)
unfolding ◌when◌else◌
found_later true h e = absurd (h e)
found_later false h e = (refl, e)

-- accepted: no test before held
pub refuse_accept : (r : ℕ) (t : Bool) (v : Verdict) → ◌when◌else◌ (refuse r) t v ≡ accept → (t ≡ false) × (v ≡ accept)
refuse_accept r t v e = found_later t (λ z. let x : ◌≡◌ {A = ℕ} 0 1 = cc in omega arith) e

-- what is accepted stays accepted where less is turned down
pub refuse_less : (r : ℕ) {t u : Bool} {v w : Verdict} → (t ≡ false → u ≡ false) → (v ≡ accept → w ≡ accept) → ◌when◌else◌ (refuse r) t v ≡ accept → ◌when◌else◌ (refuse r) u w ≡ accept
unfolding ◌when◌else◌
refuse_less r {t} {u} {v} {w} h k e =
    let a = refuse_accept r t v e in
    rw (h a.0) (k a.1)

-- ---- 10, 11 and repeats

pub repeats : (same : Bool) (a : ℕ) (last u : Update) → same ≡ equal_updates last u → gate_verdict (repeated same a) ≡ again (some (last, a)) u
unfolding gate_verdict repeated again ◌when◌else◌
repeats same a last u e = rw e (go (equal_updates last u))
  where
    go : (t : Bool) → gate_verdict (repeated t a) ≡ ◌when◌else◌ (repeat a) t (refuse 11)
    go true = refl
    go false = refl

pub repeats_none : (a : ℕ) (u : Update) → gate_verdict (repeated false a) ≡ again none u
unfolding gate_verdict repeated again ◌when◌else◌
repeats_none a u = refl

in_sequence : (a b c : Bool) (r : Gate) (t : Test) {r' t' : Verdict} → gate_verdict r ≡ r' → as_verdict t ≡ t'
    → gate_verdict (by_sequence (◌when◌else◌ (Err Number) a (◌when◌else◌ (Ok Repeat) b (◌when◌else◌ (Ok New) c (Err Number)))) r t) ≡ ◌when◌else◌ (refuse 10) (a || not (b || c)) (◌when◌else◌ r' b t')
unfolding gate_verdict by_sequence ◌when◌else◌
in_sequence true b c r t e f = refl
in_sequence false true c r t e f = e
in_sequence false false true r t e f = tested_verdict t ∙ f
in_sequence false false false r t e f = refl

-- what is found of a numbered call, where its own tests and what is said of a repeat agree
pub numbered_agrees : (p : Plain) (c : Cell) → c.number ≡ p.cell.last → (i : ℕ) (u : Update) (same : Bool) (g : Test) → gate_verdict (repeated same c.answer) ≡ again p.cell.call u → as_verdict g ≡ tests p u
    → gate_verdict (numbered c i same g) ≡ verdict p i u
unfolding numbered verdict sequence_of
numbered_agrees p c n i u same g r t = rw n (in_sequence (eqb i 0) (eqb i p.cell.last) (eqb i (p.cell.last + 1)) _ g r t)

again_not : (c : Option (Update × ℕ)) (u : Update) → again c u ≡ accept → ⊥
unfolding again ◌when◌else◌
again_not none u e = let z : ◌≡◌ {A = ℕ} 0 1 = cc in omega arith
again_not (some (last, a)) u e = go (equal_updates last u) e
  where
    go : (t : Bool) → ◌when◌else◌ (repeat a) t (refuse 11) ≡ accept → ⊥
    go true e = let z : ◌≡◌ {A = ℕ} 0 1 = cc in omega arith
    go false e = let z : ◌≡◌ {A = ℕ} 0 1 = cc in omega arith

-- an accepted call has the next number and passes every test of its own
pub verdict_accept : (p : Plain) (i : ℕ) (u : Update) → verdict p i u ≡ accept → (i ≡ p.cell.last + 1) × (tests p u ≡ accept)
unfolding verdict
verdict_accept p i u e =
    let a = refuse_accept 10 _ _ e in
    let b = found_later (eqb i p.cell.last) (again_not p.cell.call u) a.1 in
    let n : not (eqb i p.cell.last || eqb i (p.cell.last + 1)) ≡ false = (or_none (eqb i 0) _ a.0).1 in
    let m : not (false || eqb i (p.cell.last + 1)) ≡ false = rw b.0 at n in
    (eqb-true _ _ (not-false _ m), b.1)
