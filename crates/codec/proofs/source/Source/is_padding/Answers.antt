-- `source::Source::is_padding` meets its contract.
use Prim.Native.Nat.{ℕ, ◌-◌, ◌*◌}
use mathlib.Core.Path.{sym, ap, ◌∙◌}
use mathlib.Core.Bool.{Bool}
use mathlib.Core.List.{List}
use native.Mathlib.Omega.{arith}
use lib.ListN.{length, drop, length-drop}
use lib.Seq.{take_all}
use borrow.Author.Tests.{le-ltb}
use Rattle.base.proofs.Bools.{and_left_no}
use Rattle.codec.specs.Bits.{bits_of, value_of}
use Rattle.codec.proofs.Laws.Low.{length_bits}
use Rattle.codec.proofs.Laws.Decoding.{padding_test}
use Rattle.codec.proofs.source.Source.is_padding.Goals as goal

pub returns-then-left-lt8 : goal.returns-then-left-lt8
returns-then-left-lt8 c =
    let bytes : List ℕ = c.args.self.bytes.now in
    let bits : List Bool = drop c.args.at (bits_of bytes) in
    padding_test bits c.bits_at.result (c.bits_at.ensures.0 ∙ ap value_of (take_all (length bytes * 8 - c.args.at) bits (simp length-drop (omega (arith, length_bits bytes))))) (simp length-drop (omega (arith, length_bits bytes)))

pub returns-else-left-lt8 : goal.returns-else-left-lt8
returns-else-left-lt8 c =
    let bytes : List ℕ = c.args.self.bytes.now in
    le-ltb _ 8 c.if-left-lt8.false ∙ sym (and_left_no _ _ (le-ltb (length (drop c.args.at (bits_of bytes))) 8 (simp length-drop (omega (arith, length_bits bytes)))))
