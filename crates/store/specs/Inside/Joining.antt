-- A join as the code goes: what is tested of a piece behind the open runs.
use Rattle.std.specs.Prelude.{ℕ, Bool, List, length}
use Rattle.runs.specs.Reverse.{oriented}
use Rattle.store.specs.Join.{open_new, open_space, open_test}
use Rattle.store.specs.Numbered.{Test}
use Rattle.store.specs.declared.join.Piece.{Piece}
use Rattle.store.specs.declared.state.Cell.{Cell}

-- 5, 8 where a unitig is open; then 3
abbrev pub meet_test : Cell → (old : List ℕ) → ℕ → Bool → List ℕ → Test
meet_test c old n reversed piece =
    open_test c.current old (oriented reversed n piece)
    (open_space c (length (open_new c.current old (oriented reversed n piece))) (length piece))

-- what is said of a vertex count, a way to read and a list of runs, of those of a piece
abbrev pub of_piece : {A : Type 0} → (ℕ → Bool → List ℕ → A) → Piece → A
of_piece f piece = f piece.n piece.reversed piece.runs.now
