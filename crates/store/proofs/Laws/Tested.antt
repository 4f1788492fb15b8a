-- The cases of the tests that every call begins with, as `search` looks for them.
use Prim.Native.Nat.{ℕ, ◌≤◌, ◌<◌}
use mathlib.Core.Path.{◌≡◌, refl, sym, ap, ◌∙◌}
use mathlib.Core.Bool.{Bool, true, false}
use mathlib.Core.List.{[], ◌∷◌}
use native.Mathlib.Omega.{arith}
use borrow.Author.Tests.{eqb-true, eqb-false, not-false, ltb-false}
use Rattle.std.proofs.Common.{Option, Result, Ok, Err, Some, None, IsOk}
use Rattle.std.specs.Result.{result_transpose}
use Rattle.base.specs.Answers.{Answer, of_made, done, of_written}
use Rattle.base.specs.Tests.{◌when◌else◌}
use Rattle.base.specs.declared.Refusal.{Refusal}
use Rattle.base.specs.declared.Refusal.TheVariants.{Colors, Space}
use Rattle.base.proofs.Bools.{or_none, via}
use Rattle.base.proofs.Tests.{none_of}
use Rattle.store.specs.Altered.{altered, altered_buffer, altered_cell, altered_shared}
use Rattle.store.specs.Inside.Fits.{Fits, Unaltered}
use Rattle.store.specs.Numbered.{Gate, Test, by_gate, by_sequence, numbered, repeated, tested}
use Rattle.store.specs.Plain.{CellLengths, Lengths}
use Rattle.store.specs.Start.{bad_cell_lengths, bad_lengths, bad_limits, start_step, too_long, unstarted}
use Rattle.store.specs.State.{Bufs, Outcome, lengths_of, of_answer}
use Rattle.store.specs.declared.numbered.Sequence.{Sequence}
use Rattle.store.specs.declared.numbered.Sequence.TheVariants.{New, Repeat}
use Rattle.store.specs.declared.state.Cell.{Cell}
use Rattle.store.specs.declared.state.Told.{Told}
use Rattle.store.specs.declared.state.Store.{Store}

-- ---- what is known where 15 is not found

fits : (length used now : ℕ) → altered_buffer length used now ≡ false → Fits length used now
unfolding altered_buffer too_long
fits length used now e =
    let a = none_of _ e in
    let same : now ≡ length = eqb-true now length (not-false _ a.0) in
    let inside : used ≤ length = ltb-false _ _ a.1.0 in
    let small : length ≤ 4294967295 = ltb-false _ _ a.1.1.0 in
    record { same = sym same; inside = omega arith; small = omega arith }

pub unaltered : (s : Store) (now : Lengths) → altered s now ≡ false → Unaltered s now
unfolding altered altered_cell altered_shared
unaltered s now e =
    let a = none_of _ e in
    let c = none_of _ a.1.0 in
    let h = none_of _ a.1.1.0 in
    let opened = fits _ _ _ c.1.1.0 in
    let current = c.1.1.1.1.1.0 in
    let records = fits _ _ _ c.0 in
    let index = fits _ _ _ c.1.0 in
    let runs = fits _ _ _ h.0 in
    let table = fits _ _ _ h.1.0 in
    record {
      add = record { colors = a.0; records = records; index = index };
      join = record { opened = opened; held = fits _ _ _ c.1.1.1.0; current = current };
      close = record { opened = opened; current = current; runs = runs; table = table };
    }

pub said_unaltered : (r : Bool) (s : Store) (l now : Lengths) → l ≡ now → r ≡ altered s l → r ≡ false → Unaltered s now
said_unaltered r s l now d e h = rw (← d) (unaltered s l (via e h))

-- ---- what is known where a gate lets go

pub refuse_go : (r : Refusal) (t : Bool) (g : Test) → ◌when◌else◌ (Err r) t g ≡ Ok tt → (t ≡ false) × (g ≡ Ok tt)
unfolding ◌when◌else◌
refuse_go r true g e = let z : ◌≡◌ {A = ℕ} 0 1 = cc in absurd (omega arith)
refuse_go r false g e = (refl, e)

repeated_not_go : (t : Bool) (a : ℕ) → repeated t a ≡ Ok None → ⊥
unfolding repeated ◌when◌else◌
repeated_not_go true a e = let z : ◌≡◌ {A = ℕ} 0 1 = cc in omega arith
repeated_not_go false a e = let z : ◌≡◌ {A = ℕ} 0 1 = cc in omega arith

tested_go : (t : Test) → tested t ≡ Ok None → t ≡ Ok tt
unfolding tested
tested_go (Err r) e = let z : ◌≡◌ {A = ℕ} 0 1 = cc in absurd (omega arith)
tested_go (Ok _) e = refl

-- the number is the next one, and the call's own tests passed
sequence_go : (t : Result Sequence Refusal) (again : Gate) (tests : Test) → (again ≡ Ok None → ⊥) → by_sequence t again tests ≡ Ok None → tests ≡ Ok tt
unfolding by_sequence
sequence_go (Err r) again tests n e = let z : ◌≡◌ {A = ℕ} 0 1 = cc in absurd (omega arith)
sequence_go (Ok Repeat) again tests n e = absurd (n e)
sequence_go (Ok New) again tests n e = tested_go tests e

pub said_go : (c : Cell) (i : ℕ) (same : Bool) (tests : Test) → numbered c i same tests ≡ Ok None → tests ≡ Ok tt
unfolding numbered
said_go c i same tests e = sequence_go _ _ tests (repeated_not_go same c.answer) e

-- what the gate of a call told, or that it let the call go
module _ {R : Type 0} (g : Gate) (told : Answer → R) (go : R) (r : Option (Result ℕ Refusal)) (e : r ≡ result_transpose g) where
  pub gate_told : (a : Result ℕ Refusal) → r ≡ Some a → told (of_answer a) ≡ by_gate g told go
  unfolding by_gate
  gate_told a q = by g (sym e ∙ q)
    where
      by : (g : Gate) → result_transpose g ≡ Some a → told (of_answer a) ≡ by_gate g told go
      by (Err r) q = let z : a ≡ Err r = cc in ap (λ (x : Result ℕ Refusal). told (of_answer x)) z
      by (Ok (Some k)) q = let z : a ≡ Ok k = cc in ap (λ (x : Result ℕ Refusal). told (of_answer x)) z
      by (Ok None) q = let z : ◌≡◌ {A = ℕ} 0 1 = cc in absurd (omega arith)

  pub gate_goes : r ≡ None → g ≡ Ok None
  gate_goes q = by g (sym e ∙ q)
    where
      by : (g : Gate) → result_transpose g ≡ None → g ≡ Ok None
      by (Err r) q = let z : ◌≡◌ {A = ℕ} 0 1 = cc in absurd (omega arith)
      by (Ok (Some k)) q = let z : ◌≡◌ {A = ℕ} 0 1 = cc in absurd (omega arith)
      by (Ok None) q = refl

  pub gate_went : r ≡ None → (x : R) → x ≡ go → x ≡ by_gate g told go
  unfolding by_gate
  gate_went q x h = rw (gate_goes q) h

-- ---- what a write told

pub is_ok_at : {T : Type 0} (w : Result T Refusal) (x : T) → w ≡ Ok x → IsOk w
is_ok_at w x e = rw e refl

pub told_written : (w : Result ℕ Refusal) (k : ℕ) → of_written w ≡ done (k ∷ []) → w ≡ Ok k
told_written (Ok n) k e = let z : n ≡ k = cc in ap Ok z
told_written (Err r) k e = let z : ◌≡◌ {A = ℕ} 0 1 = cc in absurd (omega arith)

-- ---- start

some_index : (l : CellLengths) → bad_cell_lengths l ≡ false → 0 < l.index
unfolding bad_cell_lengths
some_index l e =
    let z : l.index ≡ 0 → ⊥ = eqb-false _ _ (none_of _ e).0 in
    omega arith

pub some_entry : (r : Bool) (l now : Lengths) → l ≡ now → r ≡ bad_lengths l → r ≡ false → 0 < now.cell.index
unfolding bad_lengths
some_entry r l now d e h = rw (← d) (some_index l.cell (or_none _ _ (via e h)).0)

pub start_limits : (r : Bool) (q : Told Store (Unit {0})) (N W : ℕ) (b : Bufs) → r ≡ bad_limits N W → r ≡ true → q ≡ unstarted Colors → ◌≡◌ {A = Outcome} (of_made q.answer, q.state, b) (start_step N W b)
unfolding start_step ◌when◌else◌
start_limits r q N W b e h k = rw (via e h, k)

pub start_lengths : (r q : Bool) (t : Told Store (Unit {0})) (N W : ℕ) (l : Lengths) (b : Bufs) → r ≡ bad_limits N W → r ≡ false → l ≡ lengths_of b → q ≡ bad_lengths l → q ≡ true → t ≡ unstarted Space → ◌≡◌ {A = Outcome} (of_made t.answer, t.state, b) (start_step N W b)
unfolding start_step ◌when◌else◌
start_lengths r q t N W l b e h d k m u = rw (via e h, ← d, via k m, u)

pub ruleset starts = (start_limits, start_lengths)
