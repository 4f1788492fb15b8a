-- How an answer crosses to C: a code, and a lent number for each value that comes with a success.
use Rattle.std.specs.Prelude.{ℕ, List, get_or}
use Rattle.base.specs.Answers.{Answer, refused, done}

-- 0, or the refusal's number
abbrev pub code : Answer → ℕ
code (refused n) = n
code (done vs) = 0

-- what the number lent for value i holds afterwards: a refusal leaves it as it was
abbrev pub value : ℕ → Answer → ℕ → ℕ
value i (refused n) old = old
value i (done vs) old = get_or vs i 0

-- an answer with the memory behind it, and no value, one, or two
abbrev pub plain : Answer × List ℕ → ℕ × List ℕ
plain step = (code step.0, step.1)

abbrev pub one : Answer × List ℕ → ℕ → ℕ × ℕ × List ℕ
one step a = (code step.0, value 0 step.0 a, step.1)

abbrev pub two : Answer × List ℕ → ℕ → ℕ → ℕ × ℕ × ℕ × List ℕ
two step a b = (code step.0, value 0 step.0 a, value 1 step.0 b, step.1)
