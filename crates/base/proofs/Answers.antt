-- The numbers of refusals.
use Prim.Native.Nat.{ℕ}
use mathlib.Core.Path.{◌≡◌}
use native.Mathlib.Omega.{arith}
use Rattle.base.specs.Answers.{number_of}
use Rattle.base.specs.declared.Refusal.{Refusal}
use Rattle.base.specs.declared.Refusal.TheVariants.{Colors, Ids, Space, Cut, Damaged, Runs, Vertices, Junction, Coordinate, Number, Arguments, Unopened, Place, Altered, Acyclic}

-- none has 12
pub no_12 : (r : Refusal) → number_of r ≡ 12 → ⊥
no_12 Colors e = omega arith
no_12 Ids e = omega arith
no_12 Space e = omega arith
no_12 Cut e = omega arith
no_12 Damaged e = omega arith
no_12 Runs e = omega arith
no_12 Vertices e = omega arith
no_12 Junction e = omega arith
no_12 Coordinate e = omega arith
no_12 Number e = omega arith
no_12 Arguments e = omega arith
no_12 Unopened e = omega arith
no_12 Place e = omega arith
no_12 Altered e = omega arith
no_12 Acyclic e = omega arith
