-- Calls as numbers, and what running a list of them leaves.
use Rattle.std.specs.Prelude.{ℕ, zero, suc, ◌+◌, ◌-◌, ◌*◌, ◌/◌, min, ◌≡◌, not, List, [], ◌∷◌, ◌++◌, map, length, get_or, take, drop, ltb, eqb, Result, Ok, Err}
use Rattle.base.specs.Tests.{◌when◌else◌}
use Rattle.base.specs.Answers.{Answer, refused, done, number_of}
use Rattle.base.specs.Parts.{over}
use Rattle.codec.specs.Flat.{flat}
use Rattle.store.specs.Plain.{add, join, close, line, cycle}
use Rattle.store.specs.State.{Bufs, lengths_of}
use Rattle.store.specs.Start.{start_step}
use Rattle.store.specs.Demand.{LentCall, updating, showing, Seen, store_run, Demand3}
use Rattle.store.specs.declared.state.Store.{Store}
use Rattle.store.specs.declared.state.Way.TheVariants.{Line, Cycle}
use Rattle.replay.specs.declared.Head.{Head}
use Rattle.replay.specs.declared.Call.{Call}
use Rattle.replay.specs.declared.Call.TheVariants as call
use Rattle.base.specs.declared.Refusal.{Refusal}

-- ---- what is told of a call

abbrev pub refusal_of : Answer → ℕ
refusal_of (refused n) = n
refusal_of (done values) = 0

abbrev pub value_of : Answer → ℕ
value_of (refused n) = 0
value_of (done values) = get_or values 0 0

abbrev pub refusal_in : Seen → ℕ
refusal_in x = refusal_of x.answer

abbrev pub value_in : Seen → ℕ
value_in x = value_of x.answer

abbrev pub out_in : Seen → List ℕ
out_in x = x.out

-- ---- a call as six numbers

abbrev pub part : {A : Type 0} → List A → ℕ → ℕ → List A
part pool from count = take count (drop from pool)

abbrev pub head_at : List ℕ → ℕ → Head
head_at words i =
    record {
      kind = get_or words (6 * i) 0;
      a = get_or words (6 * i + 1) 0;
      b = get_or words (6 * i + 2) 0;
      c = get_or words (6 * i + 3) 0;
      from = get_or words (6 * i + 4) 0;
      count = get_or words (6 * i + 5) 0;
    }

-- the call, with its output if it is a show
unfoldable pub lent_of : Head → (ids pieces out : List ℕ) → LentCall
lent_of h ids pieces out =
    updating h.a (add (part ids h.from h.count)) when eqb h.kind 0 else
    updating h.a (join h.b (not (eqb h.c 0)) (part pieces h.from h.count)) when eqb h.kind 1 else
    updating h.a (close line) when eqb h.kind 2 else
    updating h.a (close (cycle h.b)) when eqb h.kind 3 else
    showing h.a h.b out

-- how many of the places that are left a call is lent
unfoldable pub room_of : Head → ℕ → ℕ
room_of h left = 0 when ltb h.kind 4 else min h.count left

-- ---- the call that they mean

unfoldable pub call_of : Head → Call
call_of h =
    call.Add h.a h.from h.count when eqb h.kind 0 else
    call.Join h.a h.b (not (eqb h.c 0)) h.from h.count when eqb h.kind 1 else
    call.Close h.a Line when eqb h.kind 2 else
    call.Close h.a (Cycle h.b) when eqb h.kind 3 else
    call.Show h.a h.b h.count

-- ---- a list of calls

-- the places that the shows of a list are lent
unfoldable pub lent_to : List LentCall → ℕ
lent_to [] = 0
lent_to (updating i d ∷ cs) = lent_to cs
lent_to (showing unitig vertex out ∷ cs) = length out + lent_to cs

-- call i, where `at` places of the output are lent already
abbrev pub call_at : (words ids pieces shown : List ℕ) → ℕ → ℕ → LentCall
call_at words ids pieces shown i at = lent_of (head_at words i) ids pieces (take (room_of (head_at words i) (length shown - at)) (drop at shown))

-- the first calls: each show is lent the next places of the output
unfoldable pub calls_to : (words ids pieces shown : List ℕ) → ℕ → List LentCall
calls_to words ids pieces shown zero = []
calls_to words ids pieces shown (suc i) = calls_to words ids pieces shown i ++ (call_at words ids pieces shown i (lent_to (calls_to words ids pieces shown i)) ∷ [])

-- a list with `out` in place of `room` elements from `at` on
abbrev pub placed : ℕ → ℕ → List ℕ → List ℕ → List ℕ
placed at room out shown = take at shown ++ (out ++ drop room (drop at shown))

-- ---- the tape: the state, the store's buffers, and what is told

pub record Tape : Type 0 where
  pub store : Store
  pub lent : Bufs
  pub refusals : List ℕ
  pub answers : List ℕ
  pub shown : List ℕ

abbrev pub tape : Store → Bufs → List ℕ → List ℕ → List ℕ → Tape
tape s b x y z = record { store = s; lent = b; refusals = x; answers = y; shown = z }

unfoldable pub keep : List Seen × Store × Bufs → List ℕ → List ℕ → List ℕ → Tape
keep r x y z = tape r.1 r.2 (over (map refusal_in r.0) x) (over (map value_in r.0) y) (over (flat out_in r.0) z)

abbrev pub count_of : (words refusals answers : List ℕ) → ℕ
count_of words x y = min (length words / 6) (min (length x) (length y))

unfoldable pub replay_step : Store → Bufs → (words ids pieces refusals answers shown : List ℕ) → Tape
replay_step s b words ids pieces x y z = keep (store_run s b (calls_to words ids pieces z (count_of words x y))) x y z

-- ---- demand 3 of a session that ran

pub record Replayed (N W : ℕ) (calls : List LentCall) (b : Bufs) (x y z : List ℕ) (after : Tape) : Type 0 where
  pub begun : Store
  pub zeroed : Bufs
  pub started : start_step N W b ≡ (done [], begun, zeroed)
  -- what it leaves is what the calls' run leaves, and that run is the plain store's
  pub left : after ≡ keep (store_run begun zeroed calls) x y z
  pub demand : Demand3 N W (lengths_of b) calls (store_run begun zeroed calls)

-- a refused start leaves everything as it was, and the state that start hands back
abbrev pub session_claim : Result (Unit {0}) Refusal → Store → (N W : ℕ) → (words ids pieces : List ℕ) → Bufs → (x y z : List ℕ) → Bufs → (x' y' z' : List ℕ) → Type 0
session_claim (Err r) s N W words ids pieces b x y z b' x' y' z' =
    (start_step N W b ≡ (refused (number_of r), s, b)) × (b' ≡ b) × (x' ≡ x) × (y' ≡ y) × (z' ≡ z)
session_claim (Ok _) s N W words ids pieces b x y z b' x' y' z' =
    Replayed N W (calls_to words ids pieces z (count_of words x y)) b x y z (tape s b' x' y' z')
