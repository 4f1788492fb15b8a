-- Worked cases with the answers that the specification gives: its own store case; for each two refusals that stand side by side, a call for which both
-- conditions hold; and what only an altered state or altered buffers cause. Computed of the definitions.
use Prim.Native.Nat.{ℕ, ◌+◌}
use mathlib.Core.Path.{◌≡◌, refl}
use mathlib.Core.Bool.{Bool, true, false}
use mathlib.Core.List.{List, [], ◌∷◌, ◌++◌, map}
use lib.ListN.{replicate, set}
use Rattle.base.specs.Answers.{Answer, done}
use Rattle.base.specs.Answers as answer
use Rattle.base.specs.Parts.{over}
use Rattle.base.specs.Tests.{◌when◌else◌, any_of}
use Rattle.codec.specs.Bits.{low_bits, value_of, bits_of, pack_bytes, pack_bits}
use Rattle.codec.specs.Codes.{high_in, high_bit, gamma, delta, read_zeros, read_low, read_gamma, read_delta}
use Rattle.codec.specs.Flat.{flat}
use Rattle.codec.specs.Prefix.{leb_in, prefix_of, read_leb, read_prefix}
use Rattle.codec.specs.Records.{record_of, read_record, bad_colors, same}
use Rattle.codec.specs.Sets.{map_bits, ids_of, absent, gap_bits, regime, set_bits, encode_set, read_gaps, read_map, read_set, padding, decode_set, within}
use Rattle.runs.specs.Append.{shifted, appendix}
use Rattle.runs.specs.Merge.{merge, merge_behind}
use Rattle.runs.specs.Bytes.{le_bytes, le_value, run_bytes, words, after_count, read_runs, sharp_colour_in, sharp_colour}
use Rattle.runs.specs.Colours.{colours, colour_from}
use Rattle.runs.specs.Orders.{climbs, sharp}
use Rattle.runs.specs.Reverse.{reverse_runs}
use Rattle.runs.specs.Rotate.{changes, firsts, runs_at, merged, rotate_runs}
use Rattle.runs.specs.Words.{pack}
use Rattle.store.specs.Add.{no_space, add_test, same_add, add_filed, add_cell, add_step}
use Rattle.store.specs.Altered.{altered_buffer, bad_vertices, bad_current, altered_cell, altered_shared, altered}
use Rattle.store.specs.Close.{same_way, same_close, filed_count, filed_runs, filed_bytes, count_of, acyclic_runs, close_open, no_close_space, close_test, close_filed_of, close_cell, close_step}
use Rattle.store.specs.Demand.{LentCall, updating, showing, Seen, seen, sent, out_of, as_seen, all_seen, way_of, store_update, store_step, store_run}
use Rattle.store.specs.Filed.{unnamed, record_start, set_in, set_from, set_at, reads_as}
use Rattle.store.specs.Join.{alike, same_join, open_count, open_at, open_new, all_named, open_test, open_space, join_test, join_filed_at, join_cell, join_step}
use Rattle.store.specs.Numbered.{sequence_of, repeated, tested, by_sequence, numbered, by_gate}
use Rattle.store.specs.Plain.{Way, line, cycle, add, join, close, plain_fresh, is_empty, ascends_from, ascends, all_below, is_set, are_sharp, name_sets, equal, inner_starts, expanded, turned_round, like_before, neighbours_merged, piece_of, joined, new_count, differs, without_last, turned_by, filed, acyclic, bytes_of, add_tests, join_tests, close_tests, tests, equal_ways, both_or_neither, equal_updates, again, verdict, close_effect, effect, accepted, plain_update, coord_at, ids_at, no_vertex, plain_show, plain_step, plain_run}
use Rattle.store.specs.Show.{no_place, coord_from, set_by, vertex_set, shown_by, show_step}
use Rattle.store.specs.Start.{bad_limits, too_long, bad_cell_lengths, bad_shared_lengths, bad_lengths, fresh_cell, fresh_shared, fresh, start_step}
use Rattle.store.specs.State.{Bufs, bufs, lengths_of, extent, put, after, with_unitig, with_parts}
use Rattle.store.specs.declared.state.Cell.{Cell}
use Rattle.store.specs.declared.state.Current.{Current}
use Rattle.store.specs.declared.state.Current.TheVariants.{Nothing, Open}
use Rattle.store.specs.declared.state.Last.{Last}
use Rattle.store.specs.declared.state.Last.TheVariants as last
use Rattle.store.specs.declared.state.Shared.{Shared}
use Rattle.store.specs.declared.state.Store.{Store}
use Rattle.store.specs.declared.state.Way.TheVariants.{Line}

-- ---- how a case is written

-- buffers of these lengths, each place holding 9
abbrev room : (records index opened held runs table : ℕ) → Bufs
room f i o h r t = bufs (replicate f 9) (replicate i 9) (replicate o 9) (replicate h 9) (replicate r 9) (replicate t 9)

abbrev adds : ℕ → List ℕ → LentCall
adds i ids = updating i (add ids)

abbrev joins : ℕ → ℕ → Bool → List ℕ → LentCall
joins i n reversed piece = updating i (join n reversed piece)

abbrev closes : ℕ → Way → LentCall
closes i way = updating i (close way)

abbrev told : ℕ → Seen
told a = seen (done (a ∷ [])) []

abbrev refused : ℕ → Seen
refused k = seen (answer.refused k) []

-- a show that is refused leaves its output
abbrev unshown : ℕ → List ℕ → Seen
unshown k out = seen (answer.refused k) out

-- so many ids, and the output
abbrev shows : ℕ → List ℕ → Seen
shows count out = seen (done (count ∷ [])) out

-- from a fresh store of so many colours and W = 2 over these buffers: calls, each with what it is told
record Case : Type 0 where
  N : ℕ
  lent : Bufs
  rows : List (LentCall × Seen)

-- of 8 colours
abbrev over_room : Bufs → List (LentCall × Seen) → Case
over_room b rows = record { N = 8; lent = b; rows = rows }

-- ---- the worked case

-- the runs (0,2)(2,258) and (0,2)(1,258)
abbrev piece : List ℕ
piece = pack 0 2 ∷ pack 2 258 ∷ []

abbrev turned : List ℕ
turned = pack 0 2 ∷ pack 1 258 ∷ []

-- over buffers just large enough, with what tells readings apart between its calls
abbrev worked : Case
worked =
    over_room (room 6 3 3 2 25 2)
    (
    (adds 1 (5 ∷ []), told 2)
    ∷ (adds 2 (0 ∷ 7 ∷ []), told 258)
    ∷ (adds 2 (0 ∷ 7 ∷ []), told 258)
    ∷ (adds 2 (1 ∷ []), refused 11)
    ∷ (adds 4 (1 ∷ []), refused 10)
    -- each other number is out of sequence; what is wrong with the arguments of the last number is 11
    ∷ (adds 0 (1 ∷ []), refused 10)
    ∷ (adds 1 (5 ∷ []), refused 10)
    ∷ (adds 2 (9 ∷ []), refused 11)
    ∷ (adds 2 [], refused 11)
    -- ids: one not below N, not strictly ascending; no space, for the empty set either
    ∷ (adds 3 (8 ∷ []), refused 2)
    ∷ (adds 3 (4 ∷ 4 ∷ []), refused 2)
    ∷ (adds 3 (1 ∷ []), refused 3)
    ∷ (adds 3 [], refused 3)
    -- none open; the limits of n; not sharp: no runs, first offset, not ascending, at n
    ∷ (closes 3 line, refused 13)
    ∷ (joins 3 16777216 false piece, refused 7)
    ∷ (joins 3 4294967295 false piece, refused 7)
    ∷ (joins 3 0 false piece, refused 7)
    ∷ (joins 3 3 false [], refused 6)
    ∷ (joins 3 3 false (pack 1 2 ∷ []), refused 6)
    ∷ (joins 3 3 false (pack 0 2 ∷ pack 0 258 ∷ []), refused 6)
    ∷ (joins 3 3 false (pack 0 2 ∷ pack 3 258 ∷ []), refused 6)
    -- another worker; an index not below S's length
    ∷ (joins 3 3 false (pack 0 3 ∷ []), refused 9)
    ∷ (joins 3 3 false (pack 0 514 ∷ []), refused 9)
    ∷ (joins 3 3 false piece, told 3)
    -- another direction, count or piece is another call; no space for a set, a unitig open or not; the junction; the sum of the counts
    ∷ (joins 3 3 true piece, refused 11)
    ∷ (joins 3 4 false piece, refused 11)
    ∷ (joins 3 3 false turned, refused 11)
    ∷ (joins 3 3 false piece, told 3)
    ∷ (adds 4 (1 ∷ []), refused 3)
    ∷ (joins 4 2 false turned, refused 8)
    ∷ (joins 4 16777214 true turned, refused 7)
    ∷ (joins 4 2 true turned, told 4)
    ∷ (joins 4 2 true turned, told 4)
    ∷ (showing 0 0 (8 ∷ []), unshown 14 (8 ∷ []))
    ∷ (closes 5 line, told 0)
    ∷ (closes 5 line, told 0)
    ∷ (closes 5 (cycle 0), refused 11)
    ∷ (showing 0 3 (8 ∷ 8 ∷ []), shows 1 (5 ∷ 8 ∷ []))
    ∷ (showing 0 2 (8 ∷ 8 ∷ []), shows 2 (0 ∷ 7 ∷ []))
    ∷ (showing 0 2 (8 ∷ []), unshown 3 (8 ∷ []))
    ∷ (showing 0 4 (8 ∷ []), unshown 14 (8 ∷ []))
    ∷ (showing 1 0 (8 ∷ []), unshown 14 (8 ∷ []))
    ∷ []
    )

-- the record file 02 62 01 02 1A 08 and its index 0 3 6; the open runs; the piece as sent; the runs (0,2)(2,258)(3,2) as bytes; the table
abbrev left : Bufs
left =
    bufs (0x02 ∷ 0x62 ∷ 0x01 ∷ 0x02 ∷ 0x1A ∷ 0x08 ∷ []) (0 ∷ 3 ∷ 6 ∷ []) (pack 0 2 ∷ pack 2 258 ∷ pack 3 2 ∷ []) turned
    (3 ∷ 0 ∷ 0 ∷ 0 ∷ 2 ∷ 0 ∷ 0 ∷ 0 ∷ 0 ∷ 2 ∷ 0 ∷ 0 ∷ 2 ∷ 1 ∷ 0 ∷ 0 ∷ 0 ∷ 3 ∷ 0 ∷ 0 ∷ 2 ∷ 0 ∷ 0 ∷ 0 ∷ 0 ∷ []) (0 ∷ 4 ∷ [])

-- ---- the empty set

-- the only set of its store: filed once, compared with other ids, no space for another, and shown into outputs of any length
abbrev empty_alone : ℕ → Case
empty_alone N =
    record {
      N = N;
      lent = room 2 2 1 1 9 2;
      rows =
          (adds 1 [], told 2)
          ∷ (adds 1 [], told 2)
          ∷ (adds 1 (0 ∷ []), refused 11)
          ∷ (adds 2 [], refused 3)
          ∷ (joins 2 3 false (pack 0 2 ∷ []), told 3)
          ∷ (adds 3 [], refused 3)
          ∷ (closes 3 line, told 0)
          ∷ (showing 0 2 [], shows 0 [])
          ∷ (showing 0 2 (8 ∷ 8 ∷ []), shows 0 (8 ∷ 8 ∷ []))
          ∷ (showing 0 3 [], unshown 14 [])
          ∷ [];
    }

-- the record file 01 01 and its index 0 2
abbrev left_alone : Bufs
left_alone = bufs (0x01 ∷ 0x01 ∷ []) (0 ∷ 2 ∷ []) (pack 0 2 ∷ []) (pack 0 2 ∷ []) (1 ∷ 0 ∷ 0 ∷ 0 ∷ 2 ∷ 0 ∷ 0 ∷ 0 ∷ 0 ∷ []) (0 ∷ 3 ∷ [])

-- twice, with another set between: each its own record, and no neighbour's set is shown
abbrev empty_twice : Case
empty_twice =
    over_room (room 7 4 3 3 25 2)
    (
    (adds 1 [], told 2)
    ∷ (adds 2 (5 ∷ []), told 258)
    ∷ (adds 2 [], refused 11)
    ∷ (adds 3 [], told 514)
    ∷ (adds 3 [], told 514)
    ∷ (adds 3 (5 ∷ []), refused 11)
    ∷ (joins 4 3 false (pack 0 2 ∷ pack 1 258 ∷ pack 2 514 ∷ []), told 3)
    ∷ (closes 5 line, told 0)
    ∷ (showing 0 0 [], shows 0 [])
    ∷ (showing 0 1 (8 ∷ []), shows 1 (5 ∷ []))
    ∷ (showing 0 2 (8 ∷ []), shows 0 (8 ∷ []))
    ∷ []
    )

-- the record file 01 01 02 62 01 01 01 and its index 0 2 5 7
abbrev file_twice : List ℕ × List ℕ
file_twice = (0x01 ∷ 0x01 ∷ 0x02 ∷ 0x62 ∷ 0x01 ∷ 0x01 ∷ 0x01 ∷ [], 0 ∷ 2 ∷ 5 ∷ 7 ∷ [])

-- ---- a set filed while a unitig is open

-- over buffers just large enough; a coordinate names no set before its add, and names one after it
abbrev while_open : Case
while_open =
    over_room (room 6 3 2 2 17 2)
    (
    (adds 1 (5 ∷ []), told 2)
    ∷ (joins 2 3 false (pack 0 2 ∷ []), told 3)
    ∷ (joins 3 2 false turned, refused 9)
    ∷ (adds 2 (0 ∷ 7 ∷ []), refused 11)
    ∷ (adds 3 (0 ∷ 7 ∷ []), told 258)
    -- the last call is the add: the join before it is out of sequence
    ∷ (adds 3 (0 ∷ 7 ∷ []), told 258)
    ∷ (adds 3 (1 ∷ []), refused 11)
    ∷ (joins 3 2 false turned, refused 11)
    ∷ (joins 2 3 false (pack 0 2 ∷ []), refused 10)
    ∷ (adds 4 (9 ∷ []), refused 2)
    ∷ (adds 4 (1 ∷ []), refused 3)
    ∷ (joins 4 2 false turned, told 4)
    ∷ (closes 5 line, told 0)
    ∷ (showing 0 2 (8 ∷ 8 ∷ []), shows 1 (5 ∷ 8 ∷ []))
    ∷ (showing 0 3 (8 ∷ 8 ∷ []), shows 2 (0 ∷ 7 ∷ []))
    ∷ []
    )

-- the record file and its index as if both sets had been filed first; the open runs; the piece as sent; the runs (0,2)(3,258) as bytes; the table
abbrev left_open : Bufs
left_open =
    bufs (0x02 ∷ 0x62 ∷ 0x01 ∷ 0x02 ∷ 0x1A ∷ 0x08 ∷ []) (0 ∷ 3 ∷ 6 ∷ []) (pack 0 2 ∷ pack 3 258 ∷ []) turned
    (2 ∷ 0 ∷ 0 ∷ 0 ∷ 2 ∷ 0 ∷ 0 ∷ 0 ∷ 0 ∷ 3 ∷ 0 ∷ 0 ∷ 2 ∷ 1 ∷ 0 ∷ 0 ∷ 0 ∷ []) (0 ∷ 4 ∷ [])

-- ---- runs cut finely

abbrev shows_5 : ℕ → LentCall × Seen
shows_5 v = (showing 0 v (8 ∷ 8 ∷ []), shows 1 (5 ∷ 8 ∷ []))

abbrev shows_07 : ℕ → LentCall × Seen
shows_07 v = (showing 0 v (8 ∷ 8 ∷ []), shows 2 (0 ∷ 7 ∷ []))

-- (0,2)(1,2)(2,258)(3,258) of five vertices, (0,258)(1,258)(2,2)(3,2) of four
abbrev fine : List ℕ
fine = pack 0 2 ∷ pack 1 2 ∷ pack 2 258 ∷ pack 3 258 ∷ []

abbrev finer : List ℕ
finer = pack 0 258 ∷ pack 1 258 ∷ pack 2 2 ∷ pack 3 2 ∷ []

-- two sets filed, over so much space for open runs and for a held piece
abbrev cut : (opened held runs : ℕ) → List (LentCall × Seen) → Case
cut o h r rows = over_room (room 6 3 o h r 2) ((adds 1 (5 ∷ []), told 2) ∷ (adds 2 (0 ∷ 7 ∷ []), told 258) ∷ rows)

-- merged inside a piece and at the junction: open runs for the merged runs, the held piece and a repeat as sent, run bytes for three runs
abbrev merging : Case
merging =
    cut 3 4 25
    (
    (joins 3 5 false fine, told 5)
    ∷ (joins 3 5 false (pack 0 2 ∷ pack 2 258 ∷ []), refused 11)
    ∷ (joins 3 5 false fine, told 5)
    ∷ (joins 4 4 false fine, refused 8)
    ∷ (joins 4 4 false finer, told 8)
    ∷ (joins 5 3 false (pack 0 2 ∷ pack 1 2 ∷ []), told 10)
    ∷ (closes 6 line, told 0)
    ∷ shows_5 1
    ∷ shows_07 2
    ∷ shows_07 5
    ∷ shows_5 6
    ∷ shows_5 9
    ∷ (showing 0 10 [], unshown 14 [])
    ∷ []
    )

abbrev left_merged : Bufs
left_merged =
    bufs (0x02 ∷ 0x62 ∷ 0x01 ∷ 0x02 ∷ 0x1A ∷ 0x08 ∷ []) (0 ∷ 3 ∷ 6 ∷ []) (pack 0 2 ∷ pack 2 258 ∷ pack 6 2 ∷ []) (pack 0 2 ∷ pack 1 2 ∷ pack 2 2 ∷ pack 3 2 ∷ [])
    (3 ∷ 0 ∷ 0 ∷ 0 ∷ 2 ∷ 0 ∷ 0 ∷ 0 ∷ 0 ∷ 2 ∷ 0 ∷ 0 ∷ 2 ∷ 1 ∷ 0 ∷ 0 ∷ 0 ∷ 6 ∷ 0 ∷ 0 ∷ 2 ∷ 0 ∷ 0 ∷ 0 ∷ 0 ∷ []) (0 ∷ 10 ∷ [])

-- the first piece from its other end
abbrev merging_back : Case
merging_back = cut 2 4 17 ((joins 3 5 true fine, told 5) ∷ (closes 4 line, told 0) ∷ shows_07 0 ∷ shows_07 2 ∷ shows_5 3 ∷ shows_5 4 ∷ [])

abbrev left_back : Bufs
left_back =
    bufs (0x02 ∷ 0x62 ∷ 0x01 ∷ 0x02 ∷ 0x1A ∷ 0x08 ∷ []) (0 ∷ 3 ∷ 6 ∷ []) (pack 0 258 ∷ pack 3 2 ∷ []) fine
    (2 ∷ 0 ∷ 0 ∷ 0 ∷ 2 ∷ 1 ∷ 0 ∷ 0 ∷ 0 ∷ 3 ∷ 0 ∷ 0 ∷ 2 ∷ 0 ∷ 0 ∷ 0 ∷ 0 ∷ []) (0 ∷ 5 ∷ [])

-- ---- a cycle, which walks back to its first vertex

-- the walk (0,2)(2,258)(4,2) of five vertices, sent in two pieces and closed with this pivot; a run file just long enough, and what its four vertices show
abbrev round : (runs pivot : ℕ) → List (LentCall × Seen) → Case
round runs pivot shown =
    over_room (room 6 3 3 2 runs 2)
    (
    (adds 1 (5 ∷ []), told 2)
    ∷ (adds 2 (0 ∷ 7 ∷ []), told 258)
    ∷ (joins 3 4 false piece, told 4)
    ∷ (joins 4 2 true turned, told 5)
    ∷ (closes 5 (cycle pivot), told 0)
    ∷ (closes 5 (cycle pivot), told 0)
    -- another pivot is another call, also where it turns alike
    ∷ (closes 5 (cycle (pivot + 4)), refused 11)
    ∷ (closes 5 (cycle (pivot + 5)), refused 11)
    ∷ (closes 5 line, refused 11)
    ∷ (showing 0 4 [], unshown 14 [])
    ∷ shown
    )

-- as it stands: the run of the last vertex is gone, so there are two runs
abbrev round_0 : List (LentCall × Seen)
round_0 = shows_5 0 ∷ shows_5 1 ∷ shows_07 2 ∷ shows_07 3 ∷ []

-- from the second vertex on
abbrev round_1 : List (LentCall × Seen)
round_1 = shows_5 0 ∷ shows_07 1 ∷ shows_07 2 ∷ shows_5 3 ∷ []

-- the open runs; the piece as sent; the runs (0,2)(2,258), or (0,2)(1,258)(3,2), as bytes; four vertices in the table
abbrev left_round : (runs : List ℕ) → Bufs
left_round runs =
    bufs (0x02 ∷ 0x62 ∷ 0x01 ∷ 0x02 ∷ 0x1A ∷ 0x08 ∷ []) (0 ∷ 3 ∷ 6 ∷ []) (pack 0 2 ∷ pack 2 258 ∷ pack 4 2 ∷ []) turned runs (0 ∷ 4 ∷ [])

abbrev left_round_0 : Bufs
left_round_0 = left_round (2 ∷ 0 ∷ 0 ∷ 0 ∷ 2 ∷ 0 ∷ 0 ∷ 0 ∷ 0 ∷ 2 ∷ 0 ∷ 0 ∷ 2 ∷ 1 ∷ 0 ∷ 0 ∷ 0 ∷ [])

abbrev left_round_1 : Bufs
left_round_1 = left_round (3 ∷ 0 ∷ 0 ∷ 0 ∷ 2 ∷ 0 ∷ 0 ∷ 0 ∷ 0 ∷ 1 ∷ 0 ∷ 0 ∷ 2 ∷ 1 ∷ 0 ∷ 0 ∷ 0 ∷ 3 ∷ 0 ∷ 0 ∷ 2 ∷ 0 ∷ 0 ∷ 0 ∷ 0 ∷ [])

-- ---- two refusals at once: the one that stands first is answered

-- two sets, then an open unitig of two vertices with one run; no more open runs or held runs fit, and no unitig
abbrev opening : List (LentCall × Seen)
opening = (adds 1 (5 ∷ []), told 2) ∷ (adds 2 (0 ∷ 7 ∷ []), told 258) ∷ (joins 3 2 false (pack 0 2 ∷ []), told 2) ∷ []

-- an open unitig of one vertex; and one whose first and last coordinates differ
abbrev alone : List (LentCall × Seen)
alone = (adds 1 (5 ∷ []), told 2) ∷ (joins 2 1 false (pack 0 2 ∷ []), told 1) ∷ []

abbrev apart : List (LentCall × Seen)
apart = (adds 1 (5 ∷ []), told 2) ∷ (adds 2 (0 ∷ 7 ∷ []), told 258) ∷ (joins 3 3 false piece, told 3) ∷ []

abbrev tight : Bufs
tight = room 6 3 1 1 8 0

abbrev cases : List Case
cases =
    worked
    ∷ empty_alone 8
    ∷ empty_alone 1
    ∷ empty_twice
    ∷ while_open
    ∷ merging
    ∷ merging_back
    -- the later piece from its other end
    ∷ cut 3 4 25 ((joins 3 5 false fine, told 5) ∷ (joins 4 4 true fine, told 8) ∷ (closes 5 line, told 0) ∷ shows_5 1 ∷ shows_07 2 ∷ shows_07 5 ∷ shows_5 6 ∷ [])
    -- one place less for the open runs or for the held piece, of a first piece, either way, and of a later one
    ∷ cut 1 4 17 ((joins 3 5 false fine, refused 3) ∷ (joins 3 5 true fine, refused 3) ∷ (joins 3 5 false (pack 0 2 ∷ pack 1 2 ∷ []), told 5) ∷ [])
    ∷ cut 2 3 17 ((joins 3 5 false fine, refused 3) ∷ (joins 3 5 true fine, refused 3) ∷ [])
    ∷ cut 2 4 25 ((joins 3 5 false fine, told 5) ∷ (joins 4 4 false finer, refused 3) ∷ (joins 4 4 false (pack 0 258 ∷ pack 1 258 ∷ []), told 8) ∷ [])
    ∷ cut 3 3 25 ((joins 3 2 false (pack 0 2 ∷ pack 1 258 ∷ []), told 2) ∷ (joins 4 4 false finer, refused 3) ∷ [])
    -- what is filed has the space of the merged runs
    ∷ cut 2 4 16 ((joins 3 5 false fine, told 5) ∷ (closes 4 line, refused 3) ∷ [])
    ∷ round 17 0 round_0
    ∷ round 25 1 round_1
    ∷ round 17 4 round_0
    ∷ round 25 5 round_1
    -- on a fresh store the number 0 is the last one too, and its call another: 10 before 11
    ∷ over_room tight ((adds 0 (5 ∷ []), refused 10) ∷ [])
    ∷ over_room tight ((joins 0 1 false (pack 0 2 ∷ []), refused 10) ∷ [])
    ∷ over_room tight ((closes 0 line, refused 10) ∷ [])
    -- add, a unitig open: 11 before 2 and 3; 2 before 3, 3 by file and index together; 10 before all of them
    ∷ over_room tight (opening ++ ((adds 3 (5 ∷ []), refused 11) ∷ (adds 3 (9 ∷ []), refused 11) ∷ []))
    ∷ over_room tight (opening ++ ((adds 4 [], refused 3) ∷ (adds 4 (9 ∷ []), refused 2) ∷ (adds 4 (5 ∷ []), refused 3) ∷ (adds 5 (9 ∷ []), refused 10) ∷ []))
    -- 2 before 3: neither a byte nor an index entry is free
    ∷ over_room (room 3 2 1 1 8 0) ((adds 1 (5 ∷ []), told 2) ∷ (adds 2 (9 ∷ []), refused 2) ∷ (adds 2 (1 ∷ []), refused 3) ∷ [])
    -- 3 by the file alone, and by the index alone
    ∷ over_room (room 2 2 1 1 8 0) ((adds 1 (5 ∷ []), refused 3) ∷ [])
    ∷ over_room (room 3 1 1 1 8 0) ((adds 1 (5 ∷ []), refused 3) ∷ [])
    ∷ over_room (room 1 2 1 1 8 0) ((adds 1 [], refused 3) ∷ [])
    ∷ over_room (room 2 1 1 1 8 0) ((adds 1 [], refused 3) ∷ [])
    -- join: 11 before 7 and what follows; 7 before 6, by n and by the sum
    ∷ over_room tight (opening ++ ((joins 3 0 false [], refused 11) ∷ (joins 3 2 false (pack 1 3 ∷ []), refused 11) ∷ []))
    ∷ over_room tight (opening ++ ((joins 4 0 false [], refused 7) ∷ (joins 4 16777215 false [], refused 7) ∷ (joins 5 0 false [], refused 10) ∷ []))
    -- 6 before 9; 9 before 8; 8 before 3
    ∷ over_room tight (opening ++ ((joins 4 3 false (pack 1 3 ∷ []), refused 6) ∷ []))
    ∷ over_room tight (opening ++ ((joins 4 3 false (pack 0 3 ∷ pack 1 258 ∷ []), refused 9) ∷ (joins 4 3 false (pack 0 514 ∷ pack 1 258 ∷ []), refused 9) ∷ []))
    ∷ over_room tight (opening ++ ((joins 4 3 false (pack 0 258 ∷ pack 1 2 ∷ []), refused 8) ∷ (joins 4 3 true (pack 0 2 ∷ pack 1 258 ∷ []), refused 8) ∷ []))
    -- 3 by the open runs alone, and by the held piece alone
    ∷ over_room (room 6 3 1 2 8 0) (opening ++ ((joins 4 3 false (pack 0 2 ∷ pack 1 258 ∷ []), refused 3) ∷ []))
    ∷ over_room (room 6 3 2 1 8 0) (opening ++ ((joins 4 3 false (pack 0 2 ∷ pack 1 258 ∷ []), refused 3) ∷ (joins 4 3 false (pack 0 2 ∷ []), told 4) ∷ []))
    -- close: 11 before 13; 11 before 3; 13 before 3; 10 before all of them
    ∷ over_room tight ((adds 1 (5 ∷ []), told 2) ∷ (closes 1 line, refused 11) ∷ (closes 2 line, refused 13) ∷ (closes 3 line, refused 10) ∷ [])
    ∷ over_room tight (opening ++ ((closes 3 line, refused 11) ∷ []))
    -- 3 by the run bytes alone, and by the table alone
    ∷ over_room (room 6 3 1 1 8 2) (opening ++ ((closes 4 line, refused 3) ∷ []))
    ∷ over_room (room 6 3 1 1 9 1) (opening ++ ((closes 4 (cycle 1), refused 3) ∷ []))
    -- a cycle of two vertices with one coordinate leaves one vertex; its pivot is compared as sent
    ∷ over_room (room 6 3 1 1 9 2) (opening ++ ((closes 4 (cycle 1), told 0) ∷ (closes 4 (cycle 3), refused 11) ∷ (closes 4 (cycle 1), told 0) ∷ (showing 0 1 [], unshown 14 []) ∷ shows_5 0 ∷ []))
    -- of a cycle 16 before 3, and of a line 3: one vertex; first and last coordinates that differ
    ∷ over_room tight (alone ++ ((closes 3 (cycle 0), refused 16) ∷ (closes 3 line, refused 3) ∷ []))
    ∷ over_room (room 6 3 2 2 8 0) (apart ++ ((closes 4 (cycle 0), refused 16) ∷ (closes 4 line, refused 3) ∷ []))
    -- what is refused as a cycle is closed as a line; 11 and 13 before 16
    ∷ over_room (room 6 3 1 1 9 2) (alone ++ ((closes 2 (cycle 0), refused 11) ∷ (closes 3 (cycle 0), refused 16) ∷ (closes 3 line, told 0) ∷ (closes 4 (cycle 0), refused 13) ∷ []))
    ∷ over_room (room 6 3 2 2 17 2) (apart ++ ((closes 3 (cycle 0), refused 11) ∷ (closes 4 (cycle 0), refused 16) ∷ (closes 4 line, told 0) ∷ shows_07 2 ∷ []))
    -- show: 14 before 3
    ∷ over_room (room 6 3 1 1 9 2) (opening ++ ((showing 0 0 [], unshown 14 []) ∷ (closes 4 line, told 0) ∷ (showing 0 2 [], unshown 14 []) ∷ (showing 1 0 [], unshown 14 []) ∷ (showing 0 1 [], unshown 3 []) ∷ []))
    ∷ []

-- ---- start

-- N, W, the buffers, and what it is told: 1 before 3, where there is no index entry
abbrev starts : List (ℕ × ℕ × Bufs × Answer)
starts =
    (0, 2, room 6 0 1 1 8 0, answer.refused 1)
    ∷ (1048577, 2, room 6 0 1 1 8 0, answer.refused 1)
    ∷ (8, 256, room 6 0 1 1 8 0, answer.refused 1)
    ∷ (0, 2, room 6 1 1 1 8 0, answer.refused 1)
    ∷ (8, 2, room 6 0 1 1 8 0, answer.refused 3)
    ∷ (1, 0, room 0 1 0 0 0 0, done [])
    ∷ (1048576, 255, room 0 1 0 0 0 0, done [])
    ∷ []

-- ---- an altered state or altered buffers

-- two sets are added
abbrev after_sets : Store × Bufs
after_sets = (
  record {
    colors = 8;
    cell =
        record {
          worker = 2;
          records = extent 6 6;
          index = 3;
          sets = 2;
          opened = extent 3 0;
          held = extent 2 0;
          current = Nothing;
          number = 2;
          last = last.Add;
          answer = 258;
        };
    shared = record { runs = extent 17 0; table = 2; unitigs = 0 };
  },
  bufs (0x02 ∷ 0x62 ∷ 0x01 ∷ 0x02 ∷ 0x1A ∷ 0x08 ∷ []) (0 ∷ 3 ∷ 6 ∷ []) (9 ∷ 9 ∷ 9 ∷ []) (9 ∷ 9 ∷ []) (replicate 17 9) (9 ∷ 9 ∷ []),
)

-- and a piece is joined
abbrev after_piece : Store × Bufs
after_piece = (
  with_parts after_sets.0 (after after_sets.0.cell 6 2 2 2 (Open 3) 3 (last.Join 3 false) 3) after_sets.0.shared,
  bufs (0x02 ∷ 0x62 ∷ 0x01 ∷ 0x02 ∷ 0x1A ∷ 0x08 ∷ []) (0 ∷ 3 ∷ 6 ∷ []) (pack 0 2 ∷ pack 2 258 ∷ 9 ∷ []) piece (replicate 17 9) (9 ∷ 9 ∷ []),
)

-- and the unitig is closed
abbrev after_unitig : Store × Bufs
after_unitig = (
  with_parts after_sets.0 (after after_sets.0.cell 6 2 0 2 Nothing 4 (last.Close Line) 0) (with_unitig after_sets.0.shared 17 1),
  bufs (0x02 ∷ 0x62 ∷ 0x01 ∷ 0x02 ∷ 0x1A ∷ 0x08 ∷ []) (0 ∷ 3 ∷ 6 ∷ []) (pack 0 2 ∷ pack 2 258 ∷ 9 ∷ []) piece
      (2 ∷ 0 ∷ 0 ∷ 0 ∷ 2 ∷ 0 ∷ 0 ∷ 0 ∷ 0 ∷ 2 ∷ 0 ∷ 0 ∷ 2 ∷ 1 ∷ 0 ∷ 0 ∷ 0 ∷ []) (0 ∷ 3 ∷ []),
)

-- the calls that leave these
abbrev set_calls : List LentCall
set_calls = adds 1 (5 ∷ []) ∷ adds 2 (0 ∷ 7 ∷ []) ∷ []

abbrev piece_calls : List LentCall
piece_calls = set_calls ++ (joins 3 3 false piece ∷ [])

abbrev unitig_calls : List LentCall
unitig_calls = piece_calls ++ (closes 4 line ∷ [])

-- what is altered
abbrev Change : Type 0
Change = Store × Bufs → Store × Bufs

abbrev nothing : Change
nothing x = x

abbrev colors : ℕ → Change
colors k x = (record { colors = k; cell = x.0.cell; shared = x.0.shared }, x.1)

abbrev cell : (Cell → Cell) → Change
cell f x = (with_parts x.0 (f x.0.cell) x.0.shared, x.1)

abbrev shared : (Shared → Shared) → Change
shared f x = (with_parts x.0 x.0.cell (f x.0.shared), x.1)

-- lengths told by the state: of the record file, the index, the open runs, the held piece; of the run file, the table
abbrev cell_sizes : (records index opened held : ℕ) → Cell → Cell
cell_sizes f i o h c =
    record {
      worker = c.worker;
      records = extent f c.records.used;
      index = i;
      sets = c.sets;
      opened = extent o c.opened.used;
      held = extent h c.held.used;
      current = c.current;
      number = c.number;
      last = c.last;
      answer = c.answer;
    }

abbrev shared_sizes : (runs table : ℕ) → Shared → Shared
shared_sizes r t s = record { runs = extent r s.runs.used; table = t; unitigs = s.unitigs }

-- used counts
abbrev cell_uses : (records sets opened held : ℕ) → Cell → Cell
cell_uses f k o h c = after c f k o h c.current c.number c.last c.answer

abbrev shared_uses : (runs unitigs : ℕ) → Shared → Shared
shared_uses r k s = with_unitig s r k

abbrev worker : ℕ → Cell → Cell
worker W c =
    record {
      worker = W;
      records = c.records;
      index = c.index;
      sets = c.sets;
      opened = c.opened;
      held = c.held;
      current = c.current;
      number = c.number;
      last = c.last;
      answer = c.answer;
    }

abbrev current : Current → Cell → Cell
current x c = after c c.records.used c.sets c.opened.used c.held.used x c.number c.last c.answer

-- the last number, its call and its answer
abbrev held : ℕ → Last → ℕ → Cell → Cell
held i l a c = after c c.records.used c.sets c.opened.used c.held.used c.current i l a

-- one place of a buffer
abbrev records : ℕ → ℕ → Change
records i v x = (x.0, bufs (set x.1.cell.records i v) x.1.cell.index x.1.cell.opened x.1.cell.held x.1.shared.runs x.1.shared.table)

abbrev index : ℕ → ℕ → Change
index i v x = (x.0, bufs x.1.cell.records (set x.1.cell.index i v) x.1.cell.opened x.1.cell.held x.1.shared.runs x.1.shared.table)

abbrev opened : ℕ → ℕ → Change
opened i v x = (x.0, bufs x.1.cell.records x.1.cell.index (set x.1.cell.opened i v) x.1.cell.held x.1.shared.runs x.1.shared.table)

abbrev runs : ℕ → ℕ → Change
runs i v x = (x.0, bufs x.1.cell.records x.1.cell.index x.1.cell.opened x.1.cell.held (set x.1.shared.runs i v) x.1.shared.table)

abbrev table : ℕ → ℕ → Change
table i v x = (x.0, bufs x.1.cell.records x.1.cell.index x.1.cell.opened x.1.cell.held x.1.shared.runs (set x.1.shared.table i v))

-- the record file is used up to its last byte but one, and the second index entry is its length
abbrev past_end : Change
past_end x = index 1 6 (cell (λ (c : Cell). cell_uses 5 2 c.opened.used c.held.used c) x)

-- a table without space for a unitig
abbrev no_table : Change
no_table x = (
  with_parts x.0 x.0.cell (shared_sizes 17 0 x.0.shared),
  bufs x.1.cell.records x.1.cell.index x.1.cell.opened x.1.cell.held x.1.shared.runs [],
)

-- what is found, what is altered, a call, and what it is told; it leaves the state and the buffers
record Damage : Type 0 where
  found : Store × Bufs
  change : Change
  call : LentCall
  reply : Seen

abbrev at : Store × Bufs → Change → LentCall → Seen → Damage
at x f c r = record { found = x; change = f; call = c; reply = r }

-- a number out of sequence, and arguments that are turned down
abbrev bad_add : LentCall
bad_add = adds 9 (9 ∷ 9 ∷ [])

abbrev bad_join : LentCall
bad_join = joins 9 0 false []

abbrev bad_close : LentCall
bad_close = closes 9 line

abbrev bad_show : LentCall
bad_show = showing 9 9 []

abbrev damages : List Damage
damages =
    -- 15 before all that follows, in every call
    at after_piece (colors 0) bad_add (refused 15)
    ∷ at after_piece (colors 0) bad_join (refused 15)
    ∷ at after_piece (colors 0) bad_close (refused 15)
    ∷ at after_piece (colors 0) bad_show (unshown 15 [])
    ∷ at after_piece nothing bad_add (refused 10)
    ∷ at after_piece nothing bad_join (refused 10)
    ∷ at after_piece nothing bad_close (refused 10)
    ∷ at after_piece nothing bad_show (unshown 14 [])
    -- 15 before a repeat too
    ∷ at after_sets (colors 0) (adds 2 (0 ∷ 7 ∷ [])) (refused 15)
    ∷ at after_piece (colors 0) (joins 3 3 false piece) (refused 15)
    ∷ at after_unitig (colors 0) (closes 4 line) (refused 15)
    -- each of its clauses: N
    ∷ at after_unitig (colors 1048577) bad_add (refused 15)
    ∷ at after_unitig (colors 1048576) bad_add (refused 10)
    -- W
    ∷ at after_unitig (cell (worker 256)) bad_join (refused 15)
    ∷ at after_unitig (cell (worker 255)) bad_join (refused 10)
    -- each length differs from that at start
    ∷ at after_unitig (cell (cell_sizes 7 3 3 2)) bad_close (refused 15)
    ∷ at after_unitig (cell (cell_sizes 6 4 3 2)) bad_show (unshown 15 [])
    ∷ at after_unitig (cell (cell_sizes 6 3 2 2)) bad_add (refused 15)
    ∷ at after_unitig (cell (cell_sizes 6 3 3 3)) bad_join (refused 15)
    ∷ at after_unitig (shared (shared_sizes 18 2)) bad_add (refused 15)
    ∷ at after_unitig (shared (shared_sizes 17 3)) bad_show (unshown 15 [])
    -- each used count exceeds its length
    ∷ at after_unitig (cell (cell_uses 7 2 0 2)) bad_close (refused 15)
    ∷ at after_unitig (cell (cell_uses 6 3 0 2)) bad_show (unshown 15 [])
    ∷ at after_unitig (cell (cell_uses 6 2 4 2)) bad_add (refused 15)
    ∷ at after_unitig (cell (cell_uses 6 2 3 2)) bad_add (refused 10)
    ∷ at after_unitig (cell (cell_uses 6 2 0 3)) bad_join (refused 15)
    ∷ at after_unitig (shared (shared_uses 18 1)) bad_join (refused 15)
    ∷ at after_unitig (shared (shared_uses 17 2)) bad_close (refused 15)
    -- an open unitig's vertex count
    ∷ at after_piece (cell (current (Open 0))) bad_add (refused 15)
    ∷ at after_piece (cell (current (Open 16777216))) bad_show (unshown 15 [])
    ∷ at after_piece (cell (current (Open 16777215))) bad_show (unshown 14 [])
    -- 11 of an add whose record can't be read: as it was; damaged; cut by the used end; its index entry beyond that end; no record of its answer
    ∷ at after_sets nothing (adds 2 (0 ∷ 7 ∷ [])) (told 258)
    ∷ at after_sets (records 3 0xFF) (adds 2 (0 ∷ 7 ∷ [])) (refused 11)
    ∷ at after_sets (cell (cell_uses 5 2 0 0)) (adds 2 (0 ∷ 7 ∷ [])) (refused 11)
    ∷ at after_sets (index 1 7) (adds 2 (0 ∷ 7 ∷ [])) (refused 11)
    ∷ at after_sets past_end (adds 2 (0 ∷ 7 ∷ [])) (refused 11)
    ∷ at after_sets (cell (held 2 last.Add 259)) (adds 2 (0 ∷ 7 ∷ [])) (refused 11)
    ∷ at after_sets (cell (held 2 last.Add 514)) (adds 2 (0 ∷ 7 ∷ [])) (refused 11)
    -- and no ids are not what can't be read: damaged, no bytes, beyond the used end, no record
    ∷ at after_sets (records 3 0xFF) (adds 2 []) (refused 11)
    ∷ at after_sets (index 1 6) (adds 2 []) (refused 11)
    ∷ at after_sets (index 1 7) (adds 2 []) (refused 11)
    ∷ at after_sets (cell (held 2 last.Add 514)) (adds 2 []) (refused 11)
    -- a last number without a call
    ∷ at after_sets (cell (held 2 last.Fresh 258)) (adds 2 (0 ∷ 7 ∷ [])) (refused 11)
    ∷ at after_sets (cell (held 2 last.Fresh 258)) (joins 2 3 false piece) (refused 11)
    ∷ at after_sets (cell (held 2 last.Fresh 258)) (closes 2 line) (refused 11)
    -- the last of all numbers: nothing but a repeat is accepted
    ∷ at after_sets (cell (held 4294967295 last.Add 258)) (adds 4294967295 (0 ∷ 7 ∷ [])) (told 258)
    ∷ at after_sets (cell (held 4294967295 last.Add 258)) (adds 0 (1 ∷ [])) (refused 10)
    ∷ at after_sets (cell (held 4294967295 last.Add 258)) (adds 1 (1 ∷ [])) (refused 10)
    -- join: 6 before 5, 9 before 5, 5 before 8
    ∷ at after_piece (opened 0 (pack 1 2)) (joins 4 2 false (pack 1 258 ∷ [])) (refused 6)
    ∷ at after_piece (opened 0 (pack 1 2)) (joins 4 2 false (pack 0 514 ∷ [])) (refused 9)
    ∷ at after_piece (opened 0 (pack 1 2)) (joins 4 2 false (pack 0 2 ∷ [])) (refused 5)
    ∷ at after_piece nothing (joins 4 2 false (pack 0 2 ∷ [])) (refused 8)
    -- open runs not sharp: no runs, first offset, not ascending, at the open count
    ∷ at after_piece (cell (cell_uses 6 2 0 2)) (joins 4 2 false (pack 0 258 ∷ [])) (refused 5)
    ∷ at after_piece (opened 0 (pack 1 2)) (joins 4 2 false (pack 0 258 ∷ [])) (refused 5)
    ∷ at after_piece (opened 1 (pack 0 258)) (joins 4 2 false (pack 0 258 ∷ [])) (refused 5)
    ∷ at after_piece (opened 1 (pack 3 258)) (joins 4 2 false (pack 0 258 ∷ [])) (refused 5)
    ∷ at after_piece (cell (cell_uses 6 2 0 2)) (closes 4 line) (refused 5)
    ∷ at after_piece (opened 0 (pack 1 2)) (closes 4 line) (refused 5)
    ∷ at after_piece (opened 1 (pack 0 258)) (closes 4 (cycle 1)) (refused 5)
    ∷ at after_piece (opened 1 (pack 3 258)) (closes 4 (cycle 1)) (refused 5)
    -- close: 5 before 16, by the offsets and by the count, 16 before 3; 11 before 5, 13 before 5, 5 before 3
    ∷ at after_piece (opened 0 (pack 1 2)) (closes 4 (cycle 0)) (refused 5)
    ∷ at after_piece (cell (current (Open 1))) (closes 4 (cycle 0)) (refused 5)
    ∷ at after_piece nothing (closes 4 (cycle 0)) (refused 16)
    ∷ at (no_table after_piece) nothing (closes 4 (cycle 0)) (refused 16)
    ∷ at after_piece (opened 0 (pack 1 2)) (closes 3 line) (refused 11)
    ∷ at after_sets (cell (cell_uses 6 2 1 0)) (closes 3 line) (refused 13)
    ∷ at (no_table after_piece) (opened 0 (pack 1 2)) (closes 4 line) (refused 5)
    ∷ at (no_table after_piece) nothing (closes 4 line) (refused 3)
    -- show: 14 before 5, 5 before 3
    ∷ at after_unitig (runs 9 0) (showing 0 3 []) (unshown 14 [])
    ∷ at after_unitig nothing (showing 0 2 []) (unshown 3 [])
    ∷ at after_unitig nothing (showing 0 2 (8 ∷ 8 ∷ 8 ∷ [])) (shows 2 (0 ∷ 7 ∷ 8 ∷ []))
    -- its bytes aren't a sharp list: first offset, not ascending, at the count, none, cut by the used end, count not whole
    ∷ at after_unitig (runs 1 1) (showing 0 2 []) (unshown 5 [])
    ∷ at after_unitig (runs 9 0) (showing 0 2 []) (unshown 5 [])
    ∷ at after_unitig (runs 9 3) (showing 0 2 []) (unshown 5 [])
    ∷ at after_unitig (runs 0 0) (showing 0 2 []) (unshown 5 [])
    ∷ at after_unitig (runs 0 3) (showing 0 2 []) (unshown 5 [])
    ∷ at after_unitig (shared (shared_uses 16 1)) (showing 0 2 []) (unshown 5 [])
    ∷ at after_unitig (table 0 17) (showing 0 2 []) (unshown 5 [])
    -- the table's numbers: a byte start beyond the used end, a vertex count above the limit, and one at it
    ∷ at after_unitig (table 0 18) (showing 0 2 []) (unshown 5 [])
    ∷ at after_unitig (table 1 16777216) (showing 0 2 []) (unshown 5 [])
    ∷ at after_unitig (table 1 16777215) (showing 0 2 (8 ∷ 8 ∷ [])) (shows 2 (0 ∷ 7 ∷ []))
    -- a coordinate of another worker, or of a set that there is not
    ∷ at after_unitig (runs 12 3) (showing 0 2 []) (unshown 5 [])
    ∷ at after_unitig (runs 13 2) (showing 0 2 []) (unshown 5 [])
    -- the index entry beyond the used end; the record damaged, or cut by that end
    ∷ at after_unitig (index 1 7) (showing 0 2 []) (unshown 5 [])
    ∷ at after_unitig past_end (showing 0 2 []) (unshown 5 [])
    ∷ at after_unitig (records 4 0) (showing 0 2 []) (unshown 5 [])
    ∷ at after_unitig (cell (cell_uses 5 2 0 2)) (showing 0 2 []) (unshown 5 [])
    ∷ []

-- ---- what the definitions compute

abbrev calls_of : Case → List LentCall
calls_of c = map (λ (r : LentCall × Seen). r.0) c.rows

abbrev told_by : Case → List Seen
told_by c = map (λ (r : LentCall × Seen). r.1) c.rows

abbrev run_by : ℕ → Bufs → List LentCall → List Seen × Store × Bufs
run_by N b cs = store_run (start_step N 2 b).1 (start_step N 2 b).2 cs

abbrev by_store : Case → List Seen
by_store c = (run_by c.N c.lent (calls_of c)).0

abbrev by_plain : Case → List Seen
by_plain c = all_seen (calls_of c) (plain_run (plain_fresh c.N 2 (lengths_of c.lent)) (map sent (calls_of c))).0

abbrev left_over : Case → Bufs
left_over c = (run_by c.N c.lent (calls_of c)).2

abbrev left_by : Bufs → List LentCall → Store × Bufs
left_by b cs = ((run_by 8 b cs).1, (run_by 8 b cs).2)

abbrev start_told : ℕ × ℕ × Bufs × Answer → Answer
start_told x = (start_step x.0 x.1 x.2).0

abbrev start_answer : ℕ × ℕ × Bufs × Answer → Answer
start_answer x = x.3

abbrev step_of : Damage → Seen × Store × Bufs
step_of d = store_step (d.change d.found).0 (d.change d.found).1 d.call

abbrev kept_by : Damage → Seen × Store × Bufs
kept_by d = (d.reply, (d.change d.found).0, (d.change d.found).1)

-- every case: the answers of the store over its buffers, those of the plain store, what start answers, and what altered calls answer and leave
pub record Cases : Type 0 where
  pub stored : map by_store cases ≡ map told_by cases
  pub plain : map by_plain cases ≡ map told_by cases
  pub kept : left_over worked ≡ left
  pub open_kept : left_over while_open ≡ left_open
  pub merged_kept : (left_over merging ≡ left_merged) × (left_over merging_back ≡ left_back)
  pub rounds_kept :
      (left_over (round 17 0 round_0) ≡ left_round_0)
      × (left_over (round 25 1 round_1) ≡ left_round_1)
      × (left_over (round 17 4 round_0) ≡ left_round_0)
      × (left_over (round 25 5 round_1) ≡ left_round_1)
  pub empty_kept :
      (left_over (empty_alone 8) ≡ left_alone)
      × (left_over (empty_alone 1) ≡ left_alone)
      × (◌≡◌ {A = List ℕ × List ℕ} ((left_over empty_twice).cell.records, (left_over empty_twice).cell.index) file_twice)
  pub started : map start_told starts ≡ map start_answer starts
  pub found :
      (left_by (room 6 3 3 2 17 2) set_calls ≡ after_sets)
      × (left_by (room 6 3 3 2 17 2) piece_calls ≡ after_piece)
      × (left_by (room 6 3 3 2 17 2) unitig_calls ≡ after_unitig)
  pub damaged : map step_of damages ≡ map kept_by damages

pub computed : Cases
unfolding
    ◌when◌else◌ any_of over low_bits value_of bits_of pack_bytes pack_bits high_in high_bit gamma delta read_zeros read_low read_gamma read_delta leb_in prefix_of
    read_leb read_prefix map_bits ids_of absent gap_bits regime set_bits encode_set read_gaps read_map read_set padding decode_set within flat record_of read_record
    bad_colors same colours colour_from climbs sharp reverse_runs merge merge_behind shifted appendix changes firsts runs_at merged rotate_runs le_bytes le_value run_bytes
    words after_count read_runs sharp_colour_in sharp_colour no_space add_test same_add add_filed add_cell add_step altered_buffer bad_vertices
    bad_current altered_cell altered_shared altered same_way same_close filed_count filed_runs filed_bytes count_of acyclic_runs close_open no_close_space close_test close_filed_of close_cell
    close_step sent out_of as_seen all_seen way_of store_update store_step store_run unnamed record_start set_in set_from set_at reads_as alike same_join open_count
    open_at open_new all_named open_test open_space join_test join_filed_at join_cell join_step sequence_of repeated tested by_sequence numbered by_gate plain_fresh is_empty
    ascends_from ascends all_below is_set are_sharp name_sets equal inner_starts expanded turned_round like_before neighbours_merged piece_of joined new_count differs without_last turned_by filed acyclic bytes_of
    add_tests join_tests close_tests tests equal_ways both_or_neither equal_updates again verdict close_effect effect accepted plain_update coord_at ids_at
    no_vertex plain_show plain_step plain_run no_place coord_from set_by vertex_set shown_by show_step bad_limits too_long bad_cell_lengths bad_shared_lengths
    bad_lengths fresh_cell fresh_shared fresh start_step put after with_unitig
computed =
    record {
      stored = refl;
      plain = refl;
      kept = refl;
      open_kept = refl;
      merged_kept = (refl, refl);
      rounds_kept = (refl, refl, refl, refl);
      empty_kept = (refl, refl, refl);
      started = refl;
      found = (refl, refl, refl);
      damaged = refl;
    }
