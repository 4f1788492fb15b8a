-- What a call of a closure may answer.
use Rattle.std.specs.Prelude.{◌≡◌}

-- no other answer than x
abbrev pub Only : {R : Type 0} → (R → Type 0) → R → Type 0
Only {R} gives x = (r : R) → gives r → r ≡ x
