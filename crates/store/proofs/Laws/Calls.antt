-- The store's calls whole: 15 first, then the cell. The only laws that list every buffer, as the contracts of the public methods do.
use Prim.Native.Nat.{ℕ}
use mathlib.Core.Path.{◌≡◌, sym, ap, ◌∙◌}
use mathlib.Core.Bool.{Bool, false}
use mathlib.Core.List.{List, []}
use lib.ListN.{set}
use Rattle.base.specs.Answers.{Answer, done}
use Rattle.base.specs.Tests.{◌when◌else◌}
use Rattle.base.proofs.Bools.{via}
use Rattle.base.proofs.Tests.{when_no}
use Rattle.store.specs.Add.{add_cell, add_step, after_add}
use Rattle.store.specs.Altered.{altered}
use Rattle.store.specs.Close.{after_close, close_cell, close_step}
use Rattle.store.specs.Join.{after_join, join_cell, join_step}
use Rattle.store.specs.Plain.{Lengths}
use Rattle.store.specs.Start.{bad_lengths, bad_limits, fresh, start_step}
use Rattle.store.specs.State.{Outcome, bufs, lengths_of, with_parts}
use Rattle.store.specs.declared.state.Cell.{Cell}
use Rattle.store.specs.declared.state.Shared.{Shared}
use Rattle.store.specs.declared.state.Store.{Store}
use Rattle.store.specs.declared.state.Way.{Way}

module _ (f x o h k t : List ℕ) (l : Lengths) (d : l ≡ lengths_of (bufs f x o h k t)) where
  pub start_fresh : (r q : Bool) (s : Store) (N W : ℕ) → r ≡ bad_limits N W → r ≡ false → q ≡ bad_lengths l → q ≡ false → s ≡ fresh N W l
      → ◌≡◌ {A = Outcome} (done [], s, bufs f (set x 0 0) o h k t) (start_step N W (bufs f x o h k t))
  unfolding start_step ◌when◌else◌
  start_fresh r q s N W a b c e m = rw (via a b, ← d, via c e, m)

  module _ (q : Bool) (s : Store) (e : q ≡ altered s l) (z : q ≡ false) where
    unaltered_now : altered s (lengths_of (bufs f x o h k t)) ≡ false
    unaltered_now = ap (λ (m : Lengths). altered s m) (sym d) ∙ via e z

    pub added : (a : Answer) (c : Cell) (i : ℕ) (ids f' x' : List ℕ) → ◌≡◌ {A = Answer × Cell × List ℕ × List ℕ} (a, c, f', x') (add_cell s.colors s.cell i ids f x)
        → ◌≡◌ {A = Outcome} (a, with_parts s c s.shared, bufs f' x' o h k t) (add_step s (bufs f x o h k t) i ids)
    unfolding add_step
    added a c i ids f' x' p = ap (λ (y : Answer × Cell × List ℕ × List ℕ). after_add s (bufs f x o h k t) y) p ∙ sym (when_no _ _ _ unaltered_now)

    pub joined : (a : Answer) (c : Cell) (i n : ℕ) (back : Bool) (piece o' h' : List ℕ) → ◌≡◌ {A = Answer × Cell × List ℕ × List ℕ} (a, c, o', h') (join_cell s.cell i n back piece o h)
        → ◌≡◌ {A = Outcome} (a, with_parts s c s.shared, bufs f x o' h' k t) (join_step s (bufs f x o h k t) i n back piece)
    unfolding join_step
    joined a c i n back piece o' h' p = ap (λ (y : Answer × Cell × List ℕ × List ℕ). after_join s (bufs f x o h k t) y) p ∙ sym (when_no _ _ _ unaltered_now)

    pub closed : (a : Answer) (c : Cell) (u : Shared) (i : ℕ) (way : Way) (k' t' : List ℕ) → ◌≡◌ {A = Answer × Cell × Shared × List ℕ × List ℕ} (a, c, u, k', t') (close_cell s.cell s.shared i way o k t)
        → ◌≡◌ {A = Outcome} (a, with_parts s c u, bufs f x o h k' t') (close_step s (bufs f x o h k t) i way)
    unfolding close_step
    closed a c u i way k' t' p = ap (λ (y : Answer × Cell × Shared × List ℕ × List ℕ). after_close s (bufs f x o h k t) y) p ∙ sym (when_no _ _ _ unaltered_now)
