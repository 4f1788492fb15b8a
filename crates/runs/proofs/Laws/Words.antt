-- Laws of packed words.
use Prim.Native.Nat.{ℕ, ◌<◌}
use mathlib.Core.Path.{◌≡◌}
use native.Mathlib.Omega.{arith}
use Rattle.runs.specs.Words.{offset, coordinate, pack, worker_of, place_of, coordinate_of}

-- what is packed comes out again
pub offset_pack : (o c : ℕ) → o < 16777216 → offset (pack o c) ≡ o
offset_pack o c h = omega arith

pub coordinate_pack : (o c : ℕ) → o < 16777216 → coordinate (pack o c) ≡ c
coordinate_pack o c h = omega arith

pub pack_of : (w : ℕ) → pack (offset w) (coordinate w) ≡ w
pack_of w = omega arith

-- a word of 64 bits has a coordinate of 40, and they make one again
pub coordinate_small : (w : ℕ) → w < 18446744073709551616 → coordinate w < 1099511627776
coordinate_small w h = omega arith

pub pack_small : (o c : ℕ) → o < 16777216 → c < 1099511627776 → pack o c < 18446744073709551616
pack_small o c h g = omega arith

pub worker_of_lem : (W k : ℕ) → W < 256 → worker_of (coordinate_of W k) ≡ W
worker_of_lem W k h = omega arith

pub place_of_lem : (W k : ℕ) → W < 256 → place_of (coordinate_of W k) ≡ k
place_of_lem W k h = omega arith

pub coordinate_of_lem : (c : ℕ) → coordinate_of (worker_of c) (place_of c) ≡ c
coordinate_of_lem c = omega arith
