-- Laws of what a reader finds at a bit place.
use Prim.Native.Nat.{ℕ}
use mathlib.Core.Path.{◌≡◌, sym, ◌∙◌}
use mathlib.Core.Bool.{Bool}
use mathlib.Core.List.{List}
use lib.ListN.{drop}
use Rattle.codec.specs.Bits.{bits_of}
use Rattle.codec.specs.Codes.{Read}
use Rattle.codec.specs.Inside.Places.{ReadCodeAt}
use Rattle.codec.specs.declared.codes.ReadCode.{ReadCode}
use Rattle.std.specs.Prelude.{Option, Some, None}

-- two readers that agree find the same
pub found_as : (f g : List Bool → Read) (bytes : List ℕ) (at from : ℕ) (r : Option ReadCode) → f (drop at (bits_of bytes)) ≡ g (drop from (bits_of bytes)) → ReadCodeAt g bytes from r → ReadCodeAt f bytes at r
found_as f g bytes at from (Some c) e h = (e ∙ h.0, h.1)
found_as f g bytes at from None e h = λ v rest q. h v rest (sym e ∙ q)
