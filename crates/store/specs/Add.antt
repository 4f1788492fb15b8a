-- "What each operation turns down" of 01, with requests F-1 and F-2: add. 2, 3; the record goes behind the used bytes, with one index entry.
use Rattle.std.specs.Prelude.{ℕ, ◌+◌, Bool, false, not, ◌||◌, List, [], ◌∷◌, length, set, ltb, Ok, Err}
use Rattle.base.specs.Answers.{Answer, done, refused}
use Rattle.base.specs.Tests.{◌when◌else◌}
use Rattle.base.specs.declared.Refusal.TheVariants.{Ids, Space}
use Rattle.codec.specs.Records.{record_of}
use Rattle.codec.specs.Sets.{within}
use Rattle.runs.specs.Words.{coordinate_of}
use Rattle.store.specs.Altered.{altered}
use Rattle.store.specs.Filed.{reads_as, set_at}
use Rattle.store.specs.Numbered.{Test, by_gate, numbered}
use Rattle.store.specs.State.{Bufs, Outcome, after, lengths_of, put, with_parts, with_records}
use Rattle.store.specs.declared.state.Cell.{Cell}
use Rattle.store.specs.declared.state.Last.{Last}
use Rattle.store.specs.declared.state.Last.TheVariants as last
use Rattle.store.specs.declared.state.Store.{Store}

-- a record of so many bytes doesn't fit the rest of the file, or no index entry is free
unfoldable pub no_space : Cell → ℕ → Bool
no_space c len = ltb c.records.length (c.records.used + len) || ltb c.index (c.sets + 2)

unfoldable pub add_test : ℕ → Cell → List ℕ → Test
add_test N c ids =
    -- 2, ids not strictly ascending or one not below N; no ids are a set (request F-1); a unitig may be open (request F-2)
    Err Ids when not (within 0 N ids) else
    -- 3, the record doesn't fit the rest of the file, or no index entry is free
    Err Space when no_space c (length (record_of N ids)) else
    Ok tt

-- the last call was an add of these ids: they are compared with the record that its answer names
unfoldable pub same_add : ℕ → Cell → (file index : List ℕ) → Last → List ℕ → Bool
same_add N c file index last.Fresh ids = false
same_add N c file index last.Add ids = reads_as (set_at N c file index c.answer) ids
same_add N c file index (last.Join n r) ids = false
same_add N c file index (last.Close v) ids = false

-- the answer, the cell, the record file and the index
unfoldable pub add_filed : ℕ → Cell → ℕ → List ℕ → (file index : List ℕ) → Answer × Cell × List ℕ × List ℕ
add_filed N c i ids file index = (
  done (coordinate_of c.worker c.sets ∷ []),
  after c (c.records.used + length (record_of N ids)) (c.sets + 1) c.opened.used c.held.used c.current i last.Add (coordinate_of c.worker c.sets),
  put c.records.used (record_of N ids) file,
  set index (c.sets + 1) (c.records.used + length (record_of N ids)),
)

unfoldable pub add_cell : ℕ → Cell → ℕ → List ℕ → (file index : List ℕ) → Answer × Cell × List ℕ × List ℕ
add_cell N c i ids file index =
    by_gate (numbered c i (same_add N c file index c.last ids) (add_test N c ids)) (λ a. (a, c, file, index)) (add_filed N c i ids file index)

abbrev pub after_add : Store → Bufs → Answer × Cell × List ℕ × List ℕ → Outcome
after_add s b r = (r.0, with_parts s r.1 s.shared, record { cell = with_records b.cell r.2 r.3; shared = b.shared })

unfoldable pub add_step : Store → Bufs → ℕ → List ℕ → Outcome
add_step s b i ids =
    (refused 15, s, b) when altered s (lengths_of b) else
    after_add s b (add_cell s.colors s.cell i ids b.cell.records b.cell.index)
