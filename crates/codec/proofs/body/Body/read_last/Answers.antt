-- `body::Body::read_last` meets its contract.
use Prim.Native.Nat.{ℕ, ◌-◌, ◌*◌, ◌/◌, ◌^◌}
use mathlib.Core.Path.{sym, subst}
use native.Mathlib.Omega.{arith}
use lib.ListN.{length}
use Rattle.codec.specs.Inside.Windows.{Shown}
use Rattle.codec.proofs.Laws.Shown.{shown_window}
use Rattle.codec.proofs.body.Body.read_last.Goals as goal

pub read_shown-requires : goal.read_shown-requires
read_shown-requires c =
    let s = c.args.self.source in
    let r = c.args.r in
    let many : ℕ = 8 * length s.bytes.now - r.place in
    let shown = shown_window s.bytes.now (length s.bytes.now - 8) r.place s.last many s.shown (omega arith) (omega arith) (omega (arith, c.requires.within.0.place)) in
    ((c.requires.within.0, subst (λ (j : ℕ). Shown s.bytes.now r.place (s.last / 2 ^ (r.place - 8 * j)) many) (sym c.saturating_sub.ensures) shown), omega arith, c.requires.within.1)
