-- The six numbers of a call, as `as_chunks` gives them.
use Prim.Native.Nat.{ℕ, zero, suc, ◌+◌, ◌*◌, ◌<◌}
use mathlib.Core.Path.{◌≡◌, refl, ap, ◌∙◌}
use mathlib.Core.List.{List, []}
use native.Mathlib.Omega.{arith}
use lib.ListN.{get_or, drop}
use Rattle.std.specs.Simd.{first_chunks}
use Rattle.std.proofs.lemmas.List.{get_or-take, get_or-drop}
use Rattle.replay.specs.Tape.{head_at}

at_chunk : (n i j : ℕ) (xs : List ℕ) → i < n → j < 6 → get_or (get_or (first_chunks 6 n xs) i []) j 0 ≡ get_or xs (6 * i + j) 0
at_chunk zero i j xs h g = absurd (omega (arith, h))
at_chunk (suc n) zero j xs h g = get_or-take 6 xs j 0 g ∙ ap (λ (k : ℕ). get_or xs k 0) (omega arith)
at_chunk (suc n) (suc i) j xs h g = at_chunk n i j (drop 6 xs) (omega (arith, h)) g ∙ get_or-drop 6 xs (6 * i + j) 0 ∙ ap (λ (k : ℕ). get_or xs k 0) (omega arith)

pub head_in : (n i : ℕ) (xs : List ℕ) → i < n → head_at (get_or (first_chunks 6 n xs) i []) 0 ≡ head_at xs i
head_in n i xs h =
    let at : (j : ℕ) → j < 6 → get_or (get_or (first_chunks 6 n xs) i []) j 0 ≡ get_or xs (6 * i + j) 0 = λ j. at_chunk n i j xs h in
    let first : get_or (get_or (first_chunks 6 n xs) i []) 0 0 ≡ get_or xs (6 * i) 0 = at 0 (omega arith) ∙ ap (λ (k : ℕ). get_or xs k 0) (omega arith) in
    rw (first, at 1 (omega arith), at 2 (omega arith), at 3 (omega arith), at 4 (omega arith), at 5 (omega arith)) refl
