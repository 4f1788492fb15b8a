-- `body::Body::read_seen` meets its contract.
use Prim.Native.Nat.{ℕ, ◌+◌, ◌-◌, ◌/◌, ◌^◌}
use mathlib.Core.Path.{◌≡◌, sym, ap, ◌∙◌, subst}
use native.Mathlib.Omega.{arith}
use Rattle.codec.specs.Inside.Windows.{Shown}
use Rattle.codec.specs.declared.codes.ReadCode.{ReadCode}
use Rattle.codec.proofs.Laws.Shown.{shown_fewer, shown_next, shown_code}
use Rattle.codec.proofs.body.Body.read_seen.Goals as goal
use Rattle.codec.proofs.body.Body.read_seen.Goals.{Else-s-code}

-- the code's bits, and those behind them
shown : (c : Else-s-code) → Shown c.args.self.source.bytes.now c.args.s.reached.place c.args.s.word (c.in-Some.code.count + (c.args.s.many - c.in-Some.code.count))
shown c = shown_fewer _ _ _ c.args.s.many c.in-Some.code.count c.if-s-code.false c.requires.0.1

pub put_code-requires-clause-code : goal.put_code-requires-clause-code
put_code-requires-clause-code c =
    let s = c.args.s in
    let n : ℕ = c.in-Some.code.count in
    rw c.behind.ensures (shown_code c.args.self.source.bytes.now s.reached.place s.word n (s.many - n) (shown (goal.at.put_code-requires-clause-code c).Else-s-code) c.in-Some.code.value c.in-Some.ensures.0)

pub returns : goal.returns
returns c =
    let s = c.args.s in
    let n : ℕ = c.in-Some.code.count in
    let next = shown_next c.args.self.source.bytes.now s.reached.place s.word n (s.many - n) (shown (goal.at.returns c).Else-s-code) in
    let on = c.in_ok-reached.ensures in
    let place : s.reached.place + n ≡ c.in_ok-reached.reached.place = ap (λ (r : ReadCode). r.next) (sym c.behind.ensures) ∙ sym on.behind.1 in
    ((on.on.0, subst (λ (p : ℕ). Shown c.args.self.source.bytes.now p (s.word / 2 ^ n) (s.many - n)) place next), omega (arith, on.behind.0), (on.on.0, omega (arith, on.behind.0), on.on.2))
