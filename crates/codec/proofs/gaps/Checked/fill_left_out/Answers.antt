-- `gaps::Checked::fill_left_out` meets its contract.
use Prim.Native.Nat.{ℕ}
use mathlib.Core.Path.{sym, ap, ◌∙◌, subst}
use mathlib.Core.List.{List}
use native.Mathlib.Omega.{arith}
use lib.Seq.{length-take-le}
use Rattle.base.specs.Parts.{over}
use Rattle.codec.specs.Sets.{Within, absent}
use Rattle.codec.specs.Inside.Gaps.{ids_in}
use Rattle.codec.proofs.Laws.Sets.{gaps_only}
use Rattle.codec.proofs.Laws.Gaps.{given_is}
use Rattle.codec.proofs.gaps.Checked.fill_left_out.Goals as goal

pub fill_outside-requires : goal.fill_outside-requires
fill_outside-requires c =
    let s = c.args.self in
    let a = given_is _ s.accepted in
    let g = gaps_only s.body.count 0 s.body.colors.n _ a.0 a.1 a.2 in
    let k = s.kept s.accepted c.if-count-self.true ∙ ap ids_in a.2 in
    (subst (Within 0 s.body.colors.n) (sym k) g.within, omega (arith, length-take-le s.body.count s.room.now c.if-count-self.true), s.body.colors.few)

pub returns-then-count-self : goal.returns-then-count-self
returns-then-count-self c =
    let s = c.args.self in
    c.fill_outside.ensures ∙ ap (λ (l : List ℕ). over (absent s.body.colors.n l) c.args.out.now) (s.kept s.accepted c.if-count-self.true)

pub returns : goal.returns
returns c = c.fill_uncoded.ensures
