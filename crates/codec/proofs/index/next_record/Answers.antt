-- `index::next_record` meets its contract: a byte below 128 is a whole prefix.
use Prim.Native.Nat.{ℕ}
use mathlib.Core.Path.{sym, ◌∙◌, subst}
use mathlib.Core.List.{[], ◌∷◌}
use native.Mathlib.Omega.{arith}
use Rattle.base.specs.Answers.{done}
use Rattle.codec.proofs.Laws.Refusals.{passed_on}
use Rattle.codec.proofs.Laws.Items.{item_there, item_past, refused_as}
use Rattle.codec.proofs.Laws.Indexing.{Says, says_none, says_byte, step_up, step_cut, step_next}
use Rattle.codec.proofs.index.next_record.Goals as goal
use Rattle.codec.proofs.index.next_record.Goals.{Else-size-ge128}

pub returns-in_err-first : goal.returns-in_err-first
returns-in_err-first c =
    let e = refused_as c.get.result _ _ c.in_err-first.ensures.ok_part c.in_err-first.ensures.value in
    rw (passed_on c.from_residual.ensures.1, e) (step_up _ _ c.requires 4 (says_none c.args.bytes.now c.args.at (item_past _ _ _ c.get.ensures.lookup c.in_err-first.ensures.ok_part)))

said : (c : goal.Else-size-ge128) → Says c.args.bytes.now c.args.at (done (c.from-size.result ∷ 1 ∷ []))
said c =
    let there = item_there _ _ _ c.get.ensures.lookup _ c.in_ok-first.ensures.ok_part in
    let e = c.from-size.ensures ∙ there.1 in
    subst (λ (b : ℕ). Says c.args.bytes.now c.args.at (done (b ∷ 1 ∷ []))) (sym e) (says_byte c.args.bytes.now c.args.at there.0 (omega (arith, e)))

pub returns-then-bytes-at : goal.returns-then-bytes-at
returns-then-bytes-at c =
    let there = item_there _ _ _ c.get.ensures.lookup _ c.in_ok-first.ensures.ok_part in
    step_cut _ _ c.requires _ _ (said (goal.at.returns-then-bytes-at c).Else-size-ge128) (omega (arith, there.0))

pub returns : goal.returns
returns c = step_next _ _ c.requires _ _ (said (goal.at.returns c).Else-size-ge128) (omega arith)
