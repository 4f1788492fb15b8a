-- A cell after an accepted call.
use Prim.Native.Nat.{ℕ}
use mathlib.Core.Path.{◌≡◌, ◌∙◌}
use mathlib.Core.List.{List}
use mathlib.Core.Option.{Option, some}
use Rattle.store.specs.Plain.{PlainCell, Unitig, Update}
use Rattle.store.proofs.Laws.Rep.{Size}

-- of the plain store: the answer, the sets, the open unitig
abbrev pub cell_after : PlainCell → ℕ → Update → ℕ → List (List ℕ) → Option Unitig → PlainCell
cell_after p i u answer S current = record { W = p.W; S = S; current = current; last = i; call = some (u, answer); lengths = p.lengths }

-- a buffer as long as it was
pub size_kept : {state given now new : ℕ} → Size state given now → new ≡ now → Size state given new
size_kept z e = record { told = z.told; long = e ∙ z.long; small = z.small }
