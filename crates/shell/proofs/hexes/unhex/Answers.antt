-- `shell::hexes::unhex` meets its contract.
use Rattle.std.proofs.Common.{◌≡◌, rules, arith, length, ap, length-append}
use Rattle.std.specs.Prelude.{Err}
use Rattle.shell.specs.declared.reasons.Fault.TheVariants.{Hex}
use Rattle.shell.proofs.Laws.Hexes.{hex_single, hex_end, hex_high, hex_low, hex_many, hex_next}
use Rattle.shell.proofs.hexes.unhex.Goals as goal

pub returns-in_default : goal.returns-in_default
returns-in_default c =
    let step = c.in-Some.ensures.steps in
    hex_single _ _ _ _ c.loop-k.invariant.same (omega arith)

pub returns-in_err-high : goal.returns-in_err-high
returns-in_err-high c =
    let e : c.from_residual.result ≡ Err Hex = grind arith in
    let step = c.in-Some.ensures.steps in
    let pair : length c.in-Some.digits.now ≡ 2 = omega arith in
    rw e (hex_high _ _ _ _ c.loop-k.invariant.same _ _ step.0.1.0 pair _ c.digit_of.ensures.said c.in_err-high.ensures.ok_part)

pub returns-in_err-low : goal.returns-in_err-low
returns-in_err-low c =
    let e : c.from_residual-in_err-low.result ≡ Err Hex = grind arith in
    let step = c.in-Some.ensures.steps in
    let pair : length c.in-Some.digits.now ≡ 2 = omega arith in
    rw e (hex_low _ _ _ _ c.loop-k.invariant.same _ _ step.0.1.0 pair _ c.digit_of.ensures.said _ c.in_ok-high.ensures.ok_part _ c.digit_of-in-loop-k.ensures.said c.in_err-low.ensures.ok_part)

pub returns-then-out-k : goal.returns-then-out-k
returns-then-out-k c =
    let step = c.in-Some.ensures.steps in
    let pair : length c.in-Some.digits.now ≡ 2 = omega arith in
    hex_many _ _ _ _ c.loop-k.invariant.same _ _ step.0.1.0 pair _ c.digit_of.ensures.said _ c.in_ok-high.ensures.ok_part _ c.digit_of-in-loop-k.ensures.said _ c.in_ok-low.ensures.ok_part (omega (arith, c.if-out-k.true))

pub loop-k-preserved : goal.loop-k-preserved
loop-k-preserved c =
    let step = c.in-Some.ensures.steps in
    let pair : length c.in-Some.digits.now ≡ 2 = omega arith in
    record {
      pairs = search rules;
      count = omega (arith, simp length-append at (ap length step.0.1.0));
      same = hex_next _ _ _ _ c.loop-k.invariant.same _ _ step.0.1.0 pair _ c.digit_of.ensures.said _ c.in_ok-high.ensures.ok_part _ c.digit_of-in-loop-k.ensures.said _ c.in_ok-low.ensures.ok_part _ step.1 _ step.2 c.if-out-k.false;
    }

pub returns : goal.returns
returns c = let ended = c.in-None.ensures.steps in hex_end _ _ _ _ c.loop-k.invariant.same (omega arith) _ (omega arith)
