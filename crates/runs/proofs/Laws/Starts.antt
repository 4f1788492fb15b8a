-- Where the runs of a reversed list start.
use Prim.Native.Nat.{ℕ, ◌-◌, ◌≤◌, ◌<◌}
use mathlib.Core.Path.{◌≡◌, sym, ap, ap₂, ◌∙◌}
use mathlib.Core.List.{List, [], ◌∷◌, ◌++◌, map, map-append, reverse, reverse-cons}
use native.Mathlib.Omega.{arith}
use lib.ListN.{length, drop}
use Rattle.runs.specs.Words.{offset, coordinate, pack}
use Rattle.runs.specs.Colours.{starts}
use Rattle.runs.specs.Orders.{most_vertices}
use Rattle.runs.specs.Reverse.{reverse_runs}
use Rattle.runs.proofs.Laws.Words.{offset_pack}

-- reversed: 0, and each start s but the first at n - s
pub starts_reversed : (n : ℕ) (ws : List ℕ) → n ≤ most_vertices → 0 < length ws → starts (reverse_runs n ws) ≡ 0 ∷ reverse (map (λ (s : ℕ). n - s) (drop 1 (starts ws)))
unfolding reverse_runs
starts_reversed n [] few some = absurd (none some)
  where
    none : 0 < 0 → ⊥
    none h = omega arith
starts_reversed n (w ∷ []) few some =
    let z : n - n ≡ 0 = omega arith in
    ap (λ (x : ℕ). x ∷ []) (offset_pack (n - n) (coordinate w) (omega arith) ∙ z)
starts_reversed n (w ∷ v ∷ vs) few some =
    map-append offset (reverse_runs n (v ∷ vs)) (pack (n - offset v) (coordinate w) ∷ [])
    ∙ ap₂ (λ (l : List ℕ) (x : ℕ). l ++ (x ∷ [])) (starts_reversed n (v ∷ vs) few (omega arith)) (offset_pack (n - offset v) (coordinate w) (omega arith))
    ∙ ap (λ (l : List ℕ). 0 ∷ l) (sym (reverse-cons (n - offset v) (map (λ (s : ℕ). n - s) (starts vs))))
