-- Section 6 of 01: a run. 64 bits: the low 24 are its offset, its first vertex, the high 40 its coordinate.
use Rattle.std.specs.Prelude.{ℕ, ◌+◌, ◌*◌, ◌/◌, ◌%◌, ◌^◌, ◌<◌, List, get_or}

abbrev pub offset : ℕ → ℕ
offset w = w % 16777216

abbrev pub coordinate : ℕ → ℕ
coordinate w = w / 16777216

-- the run with this offset and coordinate
abbrev pub pack : ℕ → ℕ → ℕ
pack o c = o + 16777216 * c

-- a coordinate is a worker, its low 8 bits, plus 256 times the place of a record among the worker's
abbrev pub worker_of : ℕ → ℕ
worker_of c = c % 256

abbrev pub place_of : ℕ → ℕ
place_of c = c / 256

abbrev pub coordinate_of : ℕ → ℕ → ℕ
coordinate_of worker place = worker + 256 * place

-- every element is a number of 64 bits
abbrev pub AreWords : List ℕ → Type 0
AreWords ws = (i : ℕ) → get_or ws i 0 < 2 ^ 64
