-- `bitmap::push_word` meets its contract.
use Prim.Native.Nat.{ℕ, ◌+◌, ◌-◌, ◌/◌, ◌%◌, ◌^◌, ◌<◌}
use mathlib.Core.Path.{◌≡◌, sym, ap, ◌∙◌, subst}
use mathlib.Core.Bool.{Bool}
use mathlib.Core.List.{List, ◌++◌}
use native.Mathlib.Omega.{arith}
use lib.Pow.{shr_lt}
use Rattle.codec.specs.Bits.{low_bits}
use Rattle.codec.specs.Inside.Writers.{Wrote}
use Rattle.codec.proofs.Laws.Low.{length_low, low_add, low_mod, one_shl}
use Rattle.codec.proofs.Laws.Writers.{wrote_then, ready_after}
use Rattle.codec.proofs.bitmap.push_word.Goals as goal

pub push-requires-2-clause-ready : goal.push-requires-2-clause-ready
push-requires-2-clause-ready c =
    let low : ℕ = c.min-low.result in
    let first = rw (one_shl low (omega arith)) at c.push.ensures.wrote in
    ready_after c.args.w.now c.push.new.self (low_bits low (c.args.word % 2 ^ low)) first c.args.width (c.args.width - low) c.requires.ready (omega (arith, length_low low (c.args.word % 2 ^ low)))

pub push-requires-2-clause-value_bound : goal.push-requires-2-clause-value_bound
push-requires-2-clause-value_bound c =
    let low : ℕ = c.min-low.result in
    let e : c.args.width ≡ c.args.width - low + low = omega arith in
    (shr_lt (c.args.width - low) low (subst (λ (n : ℕ). c.args.word < 2 ^ n) e c.requires.word_bound.0), omega arith)

pub returns-clause-wrote : goal.returns-clause-wrote
returns-clause-wrote c =
    let low : ℕ = c.min-low.result in
    let word : ℕ = c.args.word in
    let e : c.args.width ≡ low + (c.args.width - low) = omega arith in
    let halves : low_bits c.args.width word ≡ low_bits low (word % 2 ^ low) ++ low_bits (c.args.width - low) (word / 2 ^ low) =
    ap (λ (n : ℕ). low_bits n word) e ∙ low_add low (c.args.width - low) word ∙ ap (λ (l : List Bool). l ++ low_bits (c.args.width - low) (word / 2 ^ low)) (sym (low_mod low word))
    in
    let first = rw (one_shl low (omega arith)) at c.push.ensures.wrote in
    subst (Wrote c.args.w.now c.push-2.new.self) (sym halves) (wrote_then c.args.w.now c.push.new.self (low_bits low (word % 2 ^ low)) first c.push-2.new.self (low_bits (c.args.width - low) (word / 2 ^ low)) c.push-2.ensures.wrote)
