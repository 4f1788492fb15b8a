-- Text behind text in a buffer.
use Rattle.std.specs.Prelude.{ℕ, ◌+◌, ◌≡◌, List, [], ◌∷◌, length, set, leb}
use Rattle.base.specs.Tests.{◌when◌else◌}
use Rattle.shell.specs.Digits.{last_digits, IsDigitCount}

-- the text from `at` on, as much of it as there is space for, and where it ends
unfoldable pub put_at : List ℕ → ℕ → List ℕ → ℕ × List ℕ
put_at [] at out = (at, out)
put_at (b ∷ bs) at out = (at, out) when leb (length out) at else put_at bs (at + 1) (set out at b)

-- the decimal digits of n, no more than it takes, were put there
pub record Printed (n at : ℕ) (before : List ℕ) (end : ℕ) (after : List ℕ) : Type 0 where
  pub count : ℕ
  pub fewest : IsDigitCount 10 1 n count
  pub text : ◌≡◌ {A = ℕ × List ℕ} (end, after) (put_at (last_digits 10 count n) at before)
