-- Section 7 of 01, with requests F-1, F-2, F-5 and F-9: the plain store. It shares no test with the store over its buffers.
use Rattle.std.specs.Prelude.{ℕ, zero, suc, ◌+◌, ◌-◌, ◌*◌, ◌/◌, ◌%◌, Bool, true, false, not, ◌||◌, ◌&&◌, List, [], ◌∷◌, ◌++◌, filter, map, reverse, length, get_or, take, drop, ltb, leb, eqb}
use Rattle.std.proofs.Math.Option.{Option, none, some}
use Rattle.base.specs.Tests.{◌when◌else◌}
use Rattle.codec.specs.Flat.{flat}
use Rattle.codec.specs.Records.{record_of, file_of}
use Rattle.runs.specs.Words.{coordinate}
use Rattle.runs.specs.Colours.{colours}
use Rattle.runs.specs.Colours as runs
use Rattle.runs.specs.Rotate.{turn_left, firsts, runs_at}
use Rattle.runs.specs.Bytes.{run_bytes}

-- ---- calls

-- a unitig is closed as a line, or as a cycle with its pivot
pub data Way : Type 0 where
  line : Way
  cycle : ℕ → Way

-- a numbered call without its number: add ids; join n, whether reversed, runs; close
pub data Update : Type 0 where
  add : List ℕ → Update
  join : ℕ → Bool → List ℕ → Update
  close : Way → Update

-- an update with its number; show a unitig's vertex, into an output of so many places
pub data Call : Type 0 where
  update : ℕ → Update → Call
  show : ℕ → ℕ → ℕ → Call

-- ---- the state

-- one coordinate per vertex, and the vertices where a run starts
pub record Unitig : Type 0 where
  pub coords : List ℕ
  pub starts : List ℕ

-- the lengths of the buffers given at start: a cell's, and those that cells share
pub record CellLengths : Type 0 where
  pub records : ℕ
  pub index : ℕ
  pub opened : ℕ
  pub held : ℕ

pub record SharedLengths : Type 0 where
  pub runs : ℕ
  pub table : ℕ

pub record Lengths : Type 0 where
  pub cell : CellLengths
  pub shared : SharedLengths

-- a cell's part: worker, accepted sets, the open unitig or none, the last accepted number with its call and answer
pub record PlainCell : Type 0 where
  pub W : ℕ
  pub S : List (List ℕ)
  pub current : Option Unitig
  pub last : ℕ
  pub call : Option (Update × ℕ)
  pub lengths : CellLengths

pub record Plain : Type 0 where
  pub N : ℕ
  pub cell : PlainCell
  pub closed : List Unitig
  pub shared : SharedLengths

-- a fresh store
unfoldable pub plain_fresh : ℕ → ℕ → Lengths → Plain
plain_fresh N W l =
    record {
      N = N;
      cell = record { W = W; S = []; current = none; last = 0; call = none; lengths = l.cell };
      closed = [];
      shared = l.shared;
    }

-- ---- tests

unfoldable pub is_empty : List ℕ → Bool
is_empty [] = true
is_empty (x ∷ xs) = false

-- strictly ascending
unfoldable pub ascends_from : ℕ → List ℕ → Bool
ascends_from x [] = true
ascends_from x (y ∷ ys) = ltb x y && ascends_from y ys

unfoldable pub ascends : List ℕ → Bool
ascends [] = true
ascends (x ∷ xs) = ascends_from x xs

unfoldable pub all_below : ℕ → List ℕ → Bool
all_below n [] = true
all_below n (x ∷ xs) = ltb x n && all_below n xs

-- strictly ascending, each below N: the empty set too (request F-1)
unfoldable pub is_set : ℕ → List ℕ → Bool
is_set N ids = ascends ids && all_below N ids

-- starts of a sharp list: some, the first at 0, strictly ascending, below n
unfoldable pub are_sharp : ℕ → List ℕ → Bool
are_sharp n starts = not (is_empty starts) && eqb (get_or starts 0 0) 0 && ascends starts && all_below n starts

-- coordinates of this worker (low 8 bits) with an index (the rest) below the number of sets
unfoldable pub name_sets : ℕ → ℕ → List ℕ → Bool
name_sets W sets [] = true
name_sets W sets (c ∷ cs) = eqb (c % 256) W && ltb (c / 256) sets && name_sets W sets cs

unfoldable pub equal : List ℕ → List ℕ → Bool
equal [] [] = true
equal [] (y ∷ ys) = false
equal (x ∷ xs) [] = false
equal (x ∷ xs) (y ∷ ys) = eqb x y && equal xs ys

-- ---- join

-- the starts but 0
unfoldable pub inner_starts : List ℕ → List ℕ
inner_starts [] = []
inner_starts (zero ∷ ss) = inner_starts ss
inner_starts (suc s ∷ ss) = suc s ∷ inner_starts ss

-- the piece expanded to n coordinates and its starts
unfoldable pub expanded : ℕ → List ℕ → Unitig
expanded n piece = record { coords = colours n piece; starts = runs.starts piece }

-- the coordinates turned round, and each start s > 0 becomes n - s
unfoldable pub turned_round : ℕ → Unitig → Unitig
turned_round n u = record { coords = reverse u.coords; starts = 0 ∷ reverse (map (λ (s : ℕ). n - s) (inner_starts u.starts)) }

-- whether a vertex has the coordinate of the one before
unfoldable pub like_before : List ℕ → ℕ → Bool
like_before cs zero = false
like_before cs (suc v) = eqb (get_or cs v 0) (get_or cs (suc v) 0)

-- a start vanishes where its vertex has the coordinate of the one before (request F-9)
unfoldable pub neighbours_merged : Unitig → Unitig
neighbours_merged u = record { coords = u.coords; starts = filter (λ (s : ℕ). not (like_before u.coords s)) u.starts }

unfoldable pub piece_of : ℕ → Bool → List ℕ → Unitig
piece_of n true piece = neighbours_merged (turned_round n (expanded n piece))
piece_of n false piece = neighbours_merged (expanded n piece)

-- none open: this is it. Otherwise drop the piece's first vertex and its start 0, shift the other starts by open count - 1, and add
unfoldable pub joined : Option Unitig → Unitig → Unitig
joined none piece = piece
joined (some u) piece =
    record {
      coords = u.coords ++ drop 1 piece.coords;
      starts = u.starts ++ map (λ (s : ℕ). s + (length u.coords - 1)) (inner_starts piece.starts);
    }

unfoldable pub new_count : Option Unitig → ℕ → ℕ
new_count none n = n
new_count (some u) n = length u.coords + n - 1

-- the last open coordinate differs from the piece's first
unfoldable pub differs : Option Unitig → Unitig → Bool
differs none piece = false
differs (some u) piece = not (eqb (get_or u.coords (length u.coords - 1) 0) (get_or piece.coords 0 0))

-- ---- close

-- without the last vertex, and without a run that this leaves without a vertex (request F-5)
unfoldable pub without_last : Unitig → Unitig
without_last u =
    record {
      coords = take (length u.coords - 1) u.coords;
      starts = filter (λ (s : ℕ). ltb s (length u.coords - 1)) u.starts;
    }

-- a cycle is turned left by pivot mod n and its starts become 0 and each vertex unlike the one before
unfoldable pub turned_by : ℕ → Unitig → Unitig
turned_by pivot u =
    record {
      coords = turn_left (pivot % length u.coords) u.coords;
      starts = firsts (turn_left (pivot % length u.coords) u.coords);
    }

-- a cycle, which walks back to its first vertex, drops the last one before it is turned: n is then the smaller count (request F-5)
unfoldable pub filed : Way → Unitig → Unitig
filed line u = u
filed (cycle pivot) u = turned_by pivot (without_last u)

-- fewer than two vertices, or first and last coordinates differ: of a cycle only (request F-5)
unfoldable pub acyclic : Way → Unitig → Bool
acyclic line u = false
acyclic (cycle pivot) u = ltb (length u.coords) 2 || not (eqb (get_or u.coords 0 0) (get_or u.coords (length u.coords - 1) 0))

-- the run bytes of a unitig, and of closed unitigs in order
unfoldable pub bytes_of : Unitig → List ℕ
bytes_of u = run_bytes (runs_at u.coords u.starts)

abbrev pub closed_bytes : List Unitig → List ℕ
closed_bytes us = flat bytes_of us

-- ---- what each call turns down, in 01's order

-- what is found of a numbered call: a refusal's number, the answer of the call that it repeats, or that it is accepted
pub data Verdict : Type 0 where
  refuse : ℕ → Verdict
  repeat : ℕ → Verdict
  accept : Verdict

-- the record file has no space for the record of these ids, or no index entry is free
abbrev pub no_space_for_set : ℕ → PlainCell → List ℕ → Bool
no_space_for_set N c ids = ltb c.lengths.records (length (file_of N c.S) + length (record_of N ids)) || ltb c.lengths.index (length c.S + 2)

unfoldable pub add_tests : ℕ → PlainCell → List ℕ → Verdict
add_tests N c ids =
    -- 2, ids not strictly ascending or one not below N; no ids are a set (request F-1); a unitig may be open (request F-2)
    refuse 2 when not (is_set N ids) else
    -- 3, the record doesn't fit the rest of the file, or no index entry is free
    refuse 3 when no_space_for_set N c ids else
    accept

unfoldable pub join_tests : PlainCell → ℕ → Bool → List ℕ → Verdict
join_tests c n reversed piece =
    -- 7, n is 0 or new count above 16,777,215
    refuse 7 when eqb n 0 || ltb 16777215 (new_count c.current n) else
    -- 6, not sharp
    refuse 6 when not (are_sharp n (runs.starts piece)) else
    -- 9, a coordinate with another worker or an index not below S's length
    refuse 9 when not (name_sets c.W (length c.S) (map coordinate piece)) else
    -- 8, last open coordinate differs from the oriented piece's first
    refuse 8 when differs c.current (piece_of n reversed piece) else
    -- 3, open runs or held piece too short
    refuse 3 when ltb c.lengths.opened (length (joined c.current (piece_of n reversed piece)).starts) || ltb c.lengths.held (length piece) else
    accept

-- its run bytes or its two table numbers don't fit behind those of the closed ones; it is as it is filed
abbrev pub no_space_for_unitig : List Unitig → SharedLengths → Unitig → Bool
no_space_for_unitig closed l u = ltb l.runs (length (closed_bytes closed) + length (bytes_of u)) || ltb l.table (2 * length closed + 2)

unfoldable pub close_tests : List Unitig → SharedLengths → Way → Option Unitig → Verdict
-- 13, none open
close_tests closed l way none = refuse 13
close_tests closed l way (some u) =
    -- 16, a cycle that doesn't walk back to its first vertex
    refuse 16 when acyclic way u else
    -- 3, its run bytes or its two table numbers don't fit
    refuse 3 when no_space_for_unitig closed l (filed way u) else
    accept

unfoldable pub tests : Plain → Update → Verdict
tests p (add ids) = add_tests p.N p.cell ids
tests p (join n reversed piece) = join_tests p.cell n reversed piece
tests p (close way) = close_tests p.closed p.shared way p.cell.current

-- the same call with the same arguments
unfoldable pub equal_ways : Way → Way → Bool
equal_ways line line = true
equal_ways line (cycle q) = false
equal_ways (cycle p) line = false
equal_ways (cycle p) (cycle q) = eqb p q

unfoldable pub both_or_neither : Bool → Bool → Bool
both_or_neither true b = b
both_or_neither false b = not b

unfoldable pub equal_updates : Update → Update → Bool
equal_updates (add is) (add js) = equal is js
equal_updates (add is) (join m e qs) = false
equal_updates (add is) (close w) = false
equal_updates (join n d rs) (add js) = false
equal_updates (join n d rs) (join m e qs) = eqb n m && both_or_neither d e && equal rs qs
equal_updates (join n d rs) (close w) = false
equal_updates (close v) (add js) = false
equal_updates (close v) (join m e qs) = false
equal_updates (close v) (close w) = equal_ways v w

-- the last number: its answer again; 11, on another call or with other arguments
unfoldable pub again : Option (Update × ℕ) → Update → Verdict
again none u = refuse 11
again (some (last, answer)) u = repeat answer when equal_updates last u else refuse 11

unfoldable pub verdict : Plain → ℕ → Update → Verdict
verdict p i u =
    -- 10, number neither last nor last + 1, or 0
    refuse 10 when eqb i 0 || not (eqb i p.cell.last || eqb i (p.cell.last + 1)) else
    again p.cell.call u when eqb i p.cell.last else
    tests p u

-- ---- what an accepted call does

-- its answer, S, the open unitig, the closed ones
unfoldable pub close_effect : Plain → Way → Option Unitig → ℕ × List (List ℕ) × Option Unitig × List Unitig
close_effect p way none = (length p.closed, p.cell.S, none, p.closed)
close_effect p way (some u) = (length p.closed, p.cell.S, none, p.closed ++ (filed way u ∷ []))

unfoldable pub effect : Plain → Update → ℕ × List (List ℕ) × Option Unitig × List Unitig
effect p (add ids) = (p.cell.W + 256 * length p.cell.S, p.cell.S ++ (ids ∷ []), p.cell.current, p.closed)
effect p (join n reversed piece) = (
  length (joined p.cell.current (piece_of n reversed piece)).coords,
  p.cell.S,
  some (joined p.cell.current (piece_of n reversed piece)),
  p.closed,
)
effect p (close way) = close_effect p way p.cell.current

unfoldable pub accepted : Plain → ℕ → Update → ℕ × List (List ℕ) × Option Unitig × List Unitig → Plain
accepted p i u e =
    record {
      N = p.N;
      cell =
          record {
            W = p.cell.W;
            S = e.1;
            current = e.2;
            last = i;
            call = some (u, e.0);
            lengths = p.cell.lengths;
          };
      closed = e.3;
      shared = p.shared;
    }

-- ---- one call, and a list of calls

-- what a call is told: a refusal's number, an answer, or the ids shown
pub data Reply : Type 0 where
  refusal : ℕ → Reply
  answer : ℕ → Reply
  shown : List ℕ → Reply

unfoldable pub plain_update : Verdict → Plain → ℕ → Update → Reply × Plain
plain_update (refuse r) p i u = (refusal r, p)
plain_update (repeat a) p i u = (answer a, p)
plain_update accept p i u = (answer (effect p u).0, accepted p i u (effect p u))

abbrev pub no_unitig : Unitig
no_unitig = record { coords = []; starts = [] }

-- the coordinates of a closed unitig, that of a vertex, and the ids of the set that it names
abbrev pub coords_of : Plain → ℕ → List ℕ
coords_of p unitig = (get_or p.closed unitig no_unitig).coords

unfoldable pub coord_at : Plain → ℕ → ℕ → ℕ
coord_at p unitig vertex = get_or (coords_of p unitig) vertex 0

unfoldable pub ids_at : Plain → ℕ → ℕ → List ℕ
ids_at p unitig vertex = get_or p.cell.S (coord_at p unitig vertex / 256) []

unfoldable pub no_vertex : Plain → ℕ → ℕ → Bool
no_vertex p unitig vertex = leb (length p.closed) unitig || leb (length (coords_of p unitig)) vertex

unfoldable pub plain_show : Plain → ℕ → ℕ → ℕ → Reply
plain_show p unitig vertex room =
    -- 14, no such closed unitig or vertex
    refusal 14 when no_vertex p unitig vertex else
    -- 3, the output is too short
    refusal 3 when ltb room (length (ids_at p unitig vertex)) else
    shown (ids_at p unitig vertex)

unfoldable pub plain_step : Plain → Call → Reply × Plain
plain_step p (update i u) = plain_update (verdict p i u) p i u
plain_step p (show unitig vertex room) = (plain_show p unitig vertex room, p)

abbrev pub with_reply : Reply → List Reply × Plain → List Reply × Plain
with_reply x r = (x ∷ r.0, r.1)

unfoldable pub plain_run : Plain → List Call → List Reply × Plain
plain_run p [] = ([], p)
plain_run p (c ∷ cs) = with_reply (plain_step p c).0 (plain_run (plain_step p c).1 cs)
