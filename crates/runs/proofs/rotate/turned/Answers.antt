-- `runs::rotate::turned` meets its contract.
use Rattle.std.proofs.Common.{ℕ, ◌≡◌, ◌≤◌, ◌<◌, ◌%◌, ◌∙◌, arith}
use Rattle.std.specs.Prelude.{Option, Some, None}
use Rattle.std.specs.Option.{SomeIff, unwrap_or}
use Rattle.runs.proofs.Laws.Cursor.{rotate_is}
use Rattle.runs.proofs.rotate.turned.Goals as goal

remainder : (n pivot : ℕ) (r : Option ℕ) → SomeIff r (0 < n) (pivot % n) → (unwrap_or r 0 ≤ n) × (0 < n → unwrap_or r 0 ≡ pivot % n)
remainder n pivot None s = (omega arith, λ h. absurd (s h))
remainder n pivot (Some x) s = (omega (arith, s.0, s.1), λ h. s.1)

pub returns : goal.returns
returns c =
    let r = remainder c.args.list.n c.args.pivot c.checked_rem.result c.checked_rem.ensures in
    rotate_is c.args.list.n _ c.args.pivot c.args.list.reversed c.args.list.runs.now c.args.list.taken (omega (arith, r.0, c.unwrap_or-pivot.ensures)) (λ h. c.unwrap_or-pivot.ensures ∙ r.1 h)
