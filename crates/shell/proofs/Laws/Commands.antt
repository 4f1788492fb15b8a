-- The words that are commands.
use Rattle.std.proofs.Common.{◌≡◌, ℕ, Bool, true, false, List, refl, sym}
use Rattle.std.specs.Prelude.{codes, Option, None}
use Rattle.std.specs.Str.{IsUtf8}
use Rattle.std.specs.Cmp.Lexicographic.{same_text}
use Rattle.shell.specs.declared.commands.Command.{Command}
use Rattle.shell.specs.Commands.{same, command_of}

-- A word of the table names what the table says.
pub spelled : (w t : List ℕ) (r : Option Command) → w ≡ t → r ≡ command_of t → r ≡ command_of w
spelled w t r e h = rw e h

other : (w t : List ℕ) → (w ≡ t → ⊥) → same w t ≡ false
other w t n = go (same w t) refl
  where
    go : (b : Bool) → same w t ≡ b → same w t ≡ false
    go true e = absurd (n (same_text w t (sym e)))
    go false e = e

-- Any other word names nothing.
pub unnamed : (w : List ℕ) → (w ≡ codes "start" → ⊥) → (w ≡ codes "add" → ⊥) → (w ≡ codes "join" → ⊥) → (w ≡ codes "close" → ⊥) → (w ≡ codes "show" → ⊥) → (w ≡ codes "records" → ⊥) → (w ≡ codes "index" → ⊥) → (w ≡ codes "unitigs" → ⊥) → (w ≡ codes "state" → ⊥) → (w ≡ codes "encode" → ⊥) → (w ≡ codes "decode" → ⊥) → (w ≡ codes "help" → ⊥) → None ≡ command_of w
unfolding command_of
unnamed w a b c d e f g h i j k l = rw (other w _ a, other w _ b, other w _ c, other w _ d, other w _ e, other w _ f, other w _ g, other w _ h, other w _ i, other w _ j, other w _ k, other w _ l) refl

apart : (w t : List ℕ) → (IsUtf8 w → ⊥) → IsUtf8 t → w ≡ t → ⊥
apart w t n u e = n (rw e u)

-- Nor does what is no text.
pub no_text : (w : List ℕ) → (IsUtf8 w → ⊥) → None ≡ command_of w
unfolding lib.Utf8.encode
no_text w n =
    unnamed w (apart w (codes "start") n (codes "start", (refl, refl))) (apart w (codes "add") n (codes "add", (refl, refl))) (apart w (codes "join") n (codes "join", (refl, refl)))
    (apart w (codes "close") n (codes "close", (refl, refl))) (apart w (codes "show") n (codes "show", (refl, refl))) (apart w (codes "records") n (codes "records", (refl, refl)))
    (apart w (codes "index") n (codes "index", (refl, refl))) (apart w (codes "unitigs") n (codes "unitigs", (refl, refl))) (apart w (codes "state") n (codes "state", (refl, refl)))
    (apart w (codes "encode") n (codes "encode", (refl, refl))) (apart w (codes "decode") n (codes "decode", (refl, refl))) (apart w (codes "help") n (codes "help", (refl, refl)))
