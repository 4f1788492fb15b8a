-- A chunk of a bitmap.
use Rattle.std.specs.Prelude.{ℕ, ◌+◌, ◌<◌, ◌^◌, ◌≡◌, List, ◌++◌, length, take, drop}
use Rattle.codec.specs.Bits.{low_bits}
use Rattle.codec.specs.Sets.{map_bits}
use Rattle.codec.specs.Inside.Gaps.{Ahead}
use Rattle.codec.specs.declared.bitmap.MapChunk.{MapChunk}

-- the bits for the ids from `base` on, and the ids behind them
pub record MapOf (N : ℕ) (ids : List ℕ) (i base width : ℕ) (r : MapChunk) : Type 0 where
  pub small : r.word < 2 ^ width
  pub later : (k : ℕ) → map_bits base (width + k) (drop i ids) ≡ low_bits width r.word ++ map_bits (base + width) k (drop r.next ids)
  pub ahead : Ahead N ids (record { i = r.next; from = base + width })

-- these ids stand in the front of a buffer; from place `count` on it holds what it held, and between them anything
pub record Front (ids : List ℕ) (count : ℕ) (old new : List ℕ) : Type 0 where
  pub front : take (length ids) new ≡ ids
  pub behind : drop count new ≡ drop count old
  pub size : length new ≡ length old
