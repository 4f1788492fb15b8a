-- Why reverse and rotate turn down a list.
use Rattle.std.specs.Prelude.{ℕ, ◌≡◌, ◌<◌, ◌≤◌, false, List}
use Rattle.base.specs.declared.Refusal.{Refusal}
use Rattle.base.specs.declared.Refusal.TheVariants.{Vertices, Runs}
use Rattle.runs.specs.Orders.{most_vertices, steady}

-- 7, n above 16,777,215; 6, not steady
abbrev pub IsTurnedDown : ℕ → List ℕ → Refusal → Type 0
IsTurnedDown n ws Vertices = most_vertices < n
IsTurnedDown n ws Runs = (n ≤ most_vertices) × (steady n ws ≡ false)
IsTurnedDown n ws _ = ⊥
