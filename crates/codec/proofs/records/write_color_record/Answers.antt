-- `records::write_color_record` meets its contract.
use Prim.Native.Nat.{ℕ, ◌≤◌, ◌<◌}
use mathlib.Core.Path.{◌≡◌, sym, ap₂, ◌∙◌}
use mathlib.Core.Bool.{true, ◌&&◌}
use mathlib.Core.List.{List, [], ◌∷◌}
use native.Mathlib.Omega.{arith}
use lib.Dec.{ltb, leb}
use lib.ListN.{length}
use borrow.Author.Tests.{ltb-true, leb-true}
use Rattle.codec.proofs.Laws.Refusals.{passed_on}
use Rattle.base.specs.Answers.{done}
use Rattle.base.proofs.Bools.{and_true}
use Rattle.codec.proofs.Laws.Colors.{turned_write, taken_write}
use Rattle.codec.proofs.records.write_color_record.Goals as goal

-- what the test for a short record told
told_short : (n room : ℕ) → ltb n 136 && leb 128 room ≡ true → (n < 136) × (128 ≤ room)
told_short n room e = let t = and_true (ltb n 136) (leb 128 room) e in (ltb-true n 136 t.0, leb-true 128 room t.1)

pub returns-in_err-set : goal.returns-in_err-set
returns-in_err-set c =
    rw (passed_on c.from_residual.ensures.1) (sym (turned_write c.args.n c.args.ids.now _ c.in_err-set.ensures.refused c.args.out.now))

pub write_short-requires : goal.write_short-requires
write_short-requires c =
    let t = told_short c.args.n (length c.args.out.now) (sym c.is_short.ensures ∙ c.if-is_short.true) in
    (omega (arith, t.0, c.in_ok-set.ensures.taken.0), t.1)

pub returns-then-is_short : goal.returns-then-is_short
returns-then-is_short c =
    let s = c.in_ok-set.set in
    let t = told_short c.args.n (length c.args.out.now) (sym c.is_short.ensures ∙ c.if-is_short.true) in
    rw (← c.in_ok-set.ensures.taken.0, ← c.in_ok-set.ensures.taken.1)
    (ap₂ (λ (n : ℕ) (x : List ℕ). (done (n ∷ []), x)) c.write_short.ensures.0 c.write_short.ensures.2
    ∙ sym (taken_write s.colors.n s.ids.now s.colors.some s.colors.few s.within c.args.out.now (omega (arith, c.write_short.ensures.0, c.write_short.ensures.1, t.1))))
