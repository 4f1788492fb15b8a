-- Laws of a bit writer: what one leaves, the next takes over.
use Prim.Native.Nat.{ℕ, ◌+◌, ◌≤◌}
use mathlib.Core.Path.{refl, sym, ap, ◌∙◌}
use mathlib.Core.Bool.{Bool}
use mathlib.Core.List.{List, [], ◌++◌, append_assoc, append-nil}
use native.Mathlib.Nat.{le_refl, le_trans}
use native.Mathlib.Omega.{arith}
use lib.ListN.{length, length-append}
use Rattle.codec.specs.Inside.Writers.{stream_of, Ready, Wrote}
use Rattle.codec.specs.declared.bits.BitWriter.{BitWriter}

pub wrote_none : (w : BitWriter) → Wrote w w []
wrote_none w = record {
  stream = sym (append-nil (stream_of w));
  forth = le_refl w.at;
  place = omega arith;
  size = refl;
  bytes = λ h. h;
}

module _ (w v : BitWriter) (xs : List Bool) (a : Wrote w v xs) where
  pub wrote_then : (r : BitWriter) (ys : List Bool) → Wrote v r ys → Wrote w r (xs ++ ys)
  wrote_then r ys b = record {
    stream = b.stream ∙ ap (λ (l : List Bool). l ++ ys) a.stream ∙ append_assoc (stream_of w) xs ys;
    forth = le_trans a.forth b.forth;
    place = omega (arith, a.place, b.place, length-append xs ys);
    size = b.size ∙ a.size;
    bytes = λ h. b.bytes (a.bytes h);
  }

  -- and room is left for what was not written yet
  pub ready_after : (spare more : ℕ) → Ready w spare → length xs + more ≤ spare → Ready v more
  ready_after spare more r h = omega (arith, r, a.place, a.size)
