-- `runs::bytes::sharp_color_at` meets its contract.
use Rattle.std.proofs.Common.{ℕ, sym, ap, ◌∙◌, [], ◌∷◌, arith}
use borrow.Author.Tests.{le-leb, lt-leb}
use Rattle.base.specs.Answers.{done}
use Rattle.base.proofs.Bools.{not_no, not_yes}
use Rattle.base.proofs.Tests.{when_yes, when_no}
use Rattle.codec.proofs.Laws.Refusals.{passed_on}
use Rattle.runs.specs.Bytes.{sharp_colour, sharp_colour_in}
use Rattle.runs.proofs.Laws.Bytes.{color_none}
use Rattle.runs.proofs.Laws.Orders.{sharp_yes}
use Rattle.runs.proofs.bytes.sharp_color_at.Goals as goal

pub returns-then-n-vertex : goal.returns-then-n-vertex
unfolding sharp_colour
returns-then-n-vertex c = sym (when_yes _ _ _ (le-leb _ _ c.if-n-vertex.true))

pub returns-in_err-list : goal.returns-in_err-list
unfolding sharp_colour
returns-in_err-list c =
    rw (passed_on c.from_residual.ensures.1) (color_none c.args.bytes.now _ c.in_err-list.ensures c.args.n c.args.vertex ∙ sym (when_no _ _ _ (lt-leb _ _ c.if-n-vertex.false)))

pub returns-then-not-are_sharp : goal.returns-then-not-are_sharp
unfolding sharp_colour sharp_colour_in
returns-then-not-are_sharp c =
    sym (when_no _ _ _ (lt-leb _ _ c.if-n-vertex.false) ∙ ap (sharp_colour_in c.args.n c.args.vertex) c.in_ok-list.ensures.1
    ∙ when_yes _ _ _ (not_yes _ (sym c.are_sharp.ensures ∙ c.if-not-are_sharp.true)))

pub color_at-requires : goal.color_at-requires
color_at-requires c = record { vertices = c.args.n; list = sharp_yes _ _ (sym c.are_sharp.ensures ∙ c.if-not-are_sharp.false); inside = omega arith }

pub returns : goal.returns
unfolding sharp_colour sharp_colour_in
returns c =
    ap (λ (x : ℕ). done (x ∷ [])) c.color_at.ensures
    ∙ sym (when_no _ _ _ (lt-leb _ _ c.if-n-vertex.false) ∙ ap (sharp_colour_in c.args.n c.args.vertex) c.in_ok-list.ensures.1
    ∙ when_no _ _ _ (not_no _ (sym c.are_sharp.ensures ∙ c.if-not-are_sharp.false)))
