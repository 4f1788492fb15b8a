-- What the functions inside the crate say of a prefix.
use Rattle.std.specs.Prelude.{ℕ, ◌+◌, ◌*◌, ◌^◌, not, cond, ◌||◌, ◌&&◌, [], ◌∷◌, ltb, eqb}
use Rattle.base.specs.Answers.{Answer, refused, done}

-- the answer at the last group, behind i groups of value low
abbrev pub last_of : ℕ → ℕ → ℕ → Answer
last_of low b i = cond (ltb (low + 2 ^ (7 * i) * b) (2 ^ 32) && (eqb i 0 || not (eqb b 0))) (done ((low + 2 ^ (7 * i) * b) ∷ (i + 1) ∷ [])) (refused 5)
