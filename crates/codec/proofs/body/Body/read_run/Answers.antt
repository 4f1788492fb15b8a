-- `body::Body::read_run` meets its contract: the low bits of the number are ones, and each is a code.
use Prim.Native.Nat.{ℕ}
use native.Mathlib.Omega.{arith}
use Rattle.codec.proofs.Laws.Shown.{shown_ones}
use Rattle.codec.proofs.Laws.GapReader.{none_left, run_high, run_on}
use Rattle.codec.proofs.body.Body.read_run.Goals as goal

pub returns-then-self-r : goal.returns-then-self-r
returns-then-self-r c =
    let a = c.args in
    let r = a.s.reached in
    let k : ℕ = c.min-k.result in
    λ old h. none_left a.self r
    (run_high a.self r k (omega arith) (shown_ones a.self.source.bytes.now r.place a.s.word c.low_ones-ones.result k a.s.many c.requires.within.0.1 (omega arith) (omega arith) c.low_ones-ones.ensures.0) c.requires.within.0.0.below (omega arith))
    old a.room.now h

pub returns : goal.returns
returns c =
    let a = c.args in
    let r = a.s.reached in
    let k : ℕ = c.min-k.result in
    let ones = shown_ones a.self.source.bytes.now r.place a.s.word c.low_ones-ones.result k a.s.many c.requires.within.0.1 (omega arith) (omega arith) c.low_ones-ones.ensures.0 in (
      record { few = omega arith; below = omega arith; place = omega (arith, c.requires.within.0.1.inside) },
      omega (arith, c.low_ones-ones.ensures.1 c.requires.one.1),
      λ old. run_on a.self r k (omega arith) ones (omega arith) old a.room.now c.put_numbers.new.room c.put_numbers.ensures,
    )
