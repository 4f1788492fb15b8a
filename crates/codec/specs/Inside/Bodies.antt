-- What a payload holds, and what is found of it.
use Rattle.std.specs.Prelude.{ℕ, ◌-◌, ◌*◌, ◌≤◌, ◌≡◌, Bool, Option, Some, None, List, length, take, drop}
use Rattle.codec.specs.Bits.{bits_of}
use Rattle.codec.specs.Codes.{got, read_delta}
use Rattle.codec.specs.Sets.{ReadIds, given, none, Regime, empty, sparse, bitmap, dense, regime, read_gaps, set, no_set, decode_set}
use Rattle.codec.specs.Inside.Gaps.{Kept}
use Rattle.codec.specs.declared.body.Body.{Body}

-- the payload's bits, from the ids on
abbrev pub bits_in : Body → List Bool
bits_in b = drop b.at (bits_of b.source.bytes.now)

-- the ids, where they are coded as distances
abbrev pub gaps_in : Body → ReadIds
gaps_in b = read_gaps b.count 0 b.colors.n (bits_in b)

-- the bits of a bitmap
abbrev pub map_in : Body → List Bool
map_in b = take b.colors.n (bits_in b)

-- ids are read, and the place behind them; or none are
abbrev pub IdsAt : (List Bool → ReadIds) → Body → Option ℕ → Type 0
IdsAt read b (Some next) = ((xs : List ℕ) × (read (bits_in b) ≡ given xs (drop next (bits_of b.source.bytes.now)))) × (next ≤ 8 * length b.source.bytes.now)
IdsAt read b None = read (bits_in b) ≡ none

-- the ids that are coded as distances stand in the front of a buffer that has space for them
abbrev pub KeptBy : Regime → ℕ → ℕ → List Bool → List ℕ → Type 0
KeptBy empty N n bits room = Unit {0}
KeptBy sparse N n bits room = Kept (read_gaps n 0 N bits) n room
KeptBy bitmap N n bits room = Unit {0}
KeptBy dense N n bits room = Kept (read_gaps (N - n) 0 N bits) (N - n) room

abbrev pub KeptIn : Body → List ℕ → Type 0
KeptIn b room = KeptBy (regime b.colors.n b.count) b.colors.n b.count (bits_in b) room

-- what a set's payload holds: as many ids as the number before them says
pub record IsBody (b : Body) : Type 0 where
  pub ids : List ℕ
  pub are : decode_set b.colors.n b.source.bytes.now ≡ set ids
  pub count : b.count ≡ length ids
  pub head : read_delta (bits_of b.source.bytes.now) ≡ got b.count (bits_in b)

-- what is found in a payload, or that it is that of no set
abbrev pub PayloadOf : ℕ → List ℕ → Option Body → Type 0
PayloadOf N payload (Some b) = (b.colors.n ≡ N) × (b.source.bytes.now ≡ payload) × IsBody b
PayloadOf N payload None = decode_set N payload ≡ no_set

abbrev pub KeptOf : Option Body → List ℕ → Type 0
KeptOf (Some b) room = KeptIn b room
KeptOf None room = Unit {0}
