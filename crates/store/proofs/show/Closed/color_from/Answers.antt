use mathlib.Core.Path.{◌∙◌, ap}
use native.Mathlib.Omega.{arith}
use Rattle.std.proofs.Common.{Option}
use Prim.Native.Nat.{ℕ}
use Rattle.store.specs.Inside.Places.{option_of}
use Rattle.store.proofs.Laws.Showing.{from_there}
use Rattle.store.proofs.show.Closed.color_from.Goals as goal

pub returns : goal.returns
returns c =
    let k = c.in_ok-filed.ensures.lookup in
    let r = c.args.self in
    ap (λ (o : Option ℕ). option_of o) c.ok.ensures.value ∙ from_there _ _ _ _ _ r.whole c.if-n-gt16777215.false (omega (arith, k.0.0, r.whole)) _ (rw k.0.2 at c.sharp_color_at.ensures)
