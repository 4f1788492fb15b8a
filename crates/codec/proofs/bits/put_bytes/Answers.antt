-- `bits::put_bytes` meets its contract.
use Prim.Native.Nat.{ℕ, suc, ◌+◌, ◌-◌, ◌/◌, ◌%◌, ◌<◌}
use mathlib.Core.Path.{◌≡◌, refl, sym, ap, ◌∙◌}
use mathlib.Core.List.{List, [], ◌∷◌, ◌++◌, append_assoc, append-nil}
use native.Mathlib.Numerals.{add-one}
use native.Mathlib.Nat.{sub_self}
use native.Mathlib.Omega.{arith}
use lib.ListN.{length, take, set, length-set}
use lib.Seq.{take-suc-set, take_all}
use Rattle.codec.specs.Inside.Buffers.{low_bytes}
use Rattle.codec.proofs.bits.put_bytes.Goals as goal

-- the lowest byte and those behind it
lowest : (n k x : ℕ) → n ≡ suc k → low_bytes n x ≡ x % 256 ∷ low_bytes k (x / 256)
unfolding low_bytes
lowest n k x e = ap (λ (m : ℕ). low_bytes m x) e

one_more : (out all : List ℕ) (j x : ℕ) → j < length out → take j out ++ low_bytes (length out - j) x ≡ all
    → take (j + 1) (set out j (x % 256)) ++ low_bytes (length out - (j + 1)) (x / 256) ≡ all
one_more out all j x h so =
    let k : length out - j ≡ suc (length out - (j + 1)) = omega arith in
    ap (λ (l : List ℕ). l ++ low_bytes (length out - (j + 1)) (x / 256)) (ap (λ (i : ℕ). take i (set out j (x % 256))) (add-one j) ∙ take-suc-set out j (x % 256) h)
    ∙ append_assoc (take j out) (x % 256 ∷ []) (low_bytes (length out - (j + 1)) (x / 256)) ∙ ap (λ (l : List ℕ). take j out ++ l) (sym (lowest (length out - j) (length out - (j + 1)) x k)) ∙ so

none_left : (out : List ℕ) (j x : ℕ) → j ≡ length out → take j out ++ low_bytes (length out - j) x ≡ out
unfolding low_bytes
none_left out j x e = rw (e, sub_self (length out), append-nil (take (length out) out)) (take_all (length out) out (omega arith))

pub loop-byte-init : goal.loop-byte-init
loop-byte-init c = (refl, ap (λ (k : ℕ). low_bytes k c.args.x) (omega arith))

pub loop-byte-preserved : goal.loop-byte-preserved
loop-byte-preserved c =
    let l = c.loop-byte in
    let same = length-set l.out l.byte-index (l.rest % 256) in
    (same ∙ l.invariant.0, rw same (one_more l.out _ l.byte-index l.rest (omega (arith, c.loop-byte-test.true, l.invariant.0)) l.invariant.1))

pub returns : goal.returns
returns c =
    let l = c.loop-byte in
    let end : l.byte-index ≡ length l.out = omega (arith, c.loop-byte-test.false, l.invariant.0) in
    sym (none_left l.out l.byte-index l.rest end) ∙ l.invariant.1 ∙ ap (λ (k : ℕ). low_bytes k c.args.x) l.invariant.0
