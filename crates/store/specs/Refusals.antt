-- "What each operation turns down" of 01, with requests F-1, F-2 and F-5: which refusals start and each call can be told, and that nothing is altered where one is. Their order is that of 01; that the first is told stands in the definition of each call.
use Rattle.std.specs.Prelude.{ℕ, ◌≡◌, Bool, true, false, ◌||◌, List, [], ◌∷◌, eqb}
use Rattle.base.specs.Answers.{refused}
use Rattle.store.specs.Demand.{LentCall, out_of, seen, showing, store_step, updating}
use Rattle.store.specs.Plain.{add, close, cycle, join, line}
use Rattle.store.specs.Start.{start_step}
use Rattle.store.specs.State.{Bufs}
use Rattle.store.specs.declared.state.Store.{Store}

unfoldable pub refusals_of : LentCall → List ℕ
refusals_of (updating i (add ids)) = 15 ∷ 10 ∷ 11 ∷ 2 ∷ 3 ∷ []
refusals_of (updating i (join n reversed piece)) = 15 ∷ 10 ∷ 11 ∷ 7 ∷ 6 ∷ 9 ∷ 5 ∷ 8 ∷ 3 ∷ []
refusals_of (updating i (close line)) = 15 ∷ 10 ∷ 11 ∷ 13 ∷ 5 ∷ 3 ∷ []
refusals_of (updating i (close (cycle pivot))) = 15 ∷ 10 ∷ 11 ∷ 13 ∷ 5 ∷ 16 ∷ 3 ∷ []
refusals_of (showing unitig vertex out) = 15 ∷ 14 ∷ 5 ∷ 3 ∷ []

unfoldable pub is_one_of : ℕ → List ℕ → Bool
is_one_of n [] = false
is_one_of n (m ∷ ms) = eqb n m || is_one_of n ms

-- in whatever state and over whatever buffers
pub record RefusalsStatement : Type 0 where
  -- no other one is told
  pub start : (N W : ℕ) (b : Bufs) (n : ℕ) → (start_step N W b).0 ≡ refused n → is_one_of n (1 ∷ 3 ∷ []) ≡ true
  pub call : (s : Store) (b : Bufs) (call : LentCall) (n : ℕ) → (store_step s b call).0.answer ≡ refused n → is_one_of n (refusals_of call) ≡ true
  -- "nothing else comes with it and nothing is altered": neither buffers nor state, nor show's output
  pub start_kept : (N W : ℕ) (b : Bufs) (n : ℕ) → (start_step N W b).0 ≡ refused n → (start_step N W b).2 ≡ b
  pub kept : (s : Store) (b : Bufs) (call : LentCall) (n : ℕ) → (store_step s b call).0.answer ≡ refused n → store_step s b call ≡ (seen (refused n) (out_of call), s, b)
