-- Reading ids that are coded as distances: how far it came, and what stands there.
use Rattle.std.specs.Prelude.{ℕ, ◌+◌, ◌-◌, ◌*◌, ◌≤◌, ◌≡◌, Option, Some, None, List, length, take, drop}
use Rattle.base.specs.Parts.{over}
use Rattle.codec.specs.Bits.{bits_of}
use Rattle.codec.specs.Sets.{ReadIds, none, read_gaps}
use Rattle.codec.specs.Inside.Gaps.{with_ids}
use Rattle.codec.specs.Inside.Bodies.{gaps_in}
use Rattle.codec.specs.Inside.Windows.{Shown}
use Rattle.codec.specs.declared.body.Body.{Body}
use Rattle.codec.specs.declared.gap_reader.Reached.{Reached}
use Rattle.codec.specs.declared.gap_reader.Seen.{Seen}

-- a place inside the payload and among the ids
pub record Within (b : Body) (r : Reached) : Type 0 where
  pub few : r.i ≤ b.count
  pub below : r.from ≤ b.colors.n
  pub place : r.place ≤ 8 * length b.source.bytes.now

-- a number shows so many of the bits at a place
abbrev pub SeenAt : Body → Seen → Type 0
SeenAt b s = Within b s.reached × Shown b.source.bytes.now s.reached.place s.word s.many

-- what is yet to be read from a place on
abbrev pub to_read : Body → Reached → ReadIds
to_read b r = read_gaps (b.count - r.i) r.from b.colors.n (drop r.place (bits_of b.source.bytes.now))

-- the ids up to a place are read, and stand in the front of a buffer, as many as fit
pub record ReadTo (b : Body) (old room : List ℕ) (r : Reached) : Type 0 where
  pub ids : List ℕ
  pub count : length ids ≡ r.i
  pub put : room ≡ over (take (length old) ids) old
  pub rest : gaps_in b ≡ with_ids ids (to_read b r)

-- from a place where the ids up to it are read to one that is `least` ids further on or more, or that there are none
abbrev pub ReadOn : ℕ → Body → Reached → List ℕ → List ℕ → Option Reached → Type 0
ReadOn least b r room new (Some s) = Within b s × (r.i + least ≤ s.i) × ((old : List ℕ) → ReadTo b old room r → ReadTo b old new s)
ReadOn least b r room new None = (old : List ℕ) → ReadTo b old room r → gaps_in b ≡ none

-- the same with what is seen there, one id further on at most
abbrev pub ReadSeen : Body → Seen → List ℕ → List ℕ → Option Seen → Type 0
ReadSeen b s room new (Some t) = SeenAt b t × (t.reached.i ≤ s.reached.i + 1) × ReadOn 0 b s.reached room new (Some t.reached)
ReadSeen b s room new None = ReadOn 0 b s.reached room new None
