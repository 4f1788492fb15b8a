-- A colour count and the ids of a set, and why they are turned down.
use Rattle.std.specs.Prelude.{ℕ, ◌+◌, ◌≤◌, ◌<◌, ◌≡◌, ◌⊎◌, true, false, List, [], ◌∷◌}
use Rattle.std.specs.Coded.{le_prop}
use mathlib.Core.Path.{refl, ap, ap₂, ◌∙◌}
use Rattle.base.specs.declared.Refusal.{Refusal}
use Rattle.base.specs.declared.Refusal.TheVariants.{Colors, Ids}
use Rattle.codec.specs.Records.{bad_colors}
use Rattle.codec.specs.Sets.{Within, within}

-- that ids ascend below a count has at most one proof
pub Within-prop : (from top : ℕ) (ids : List ℕ) → IsProp (Within from top ids)
Within-prop from top [] = λ p q. refl
Within-prop from top (x ∷ xs) = λ p q.
    ap₂ (λ (a : from ≤ x) (b : x < top). (a, b, p.2)) (le_prop p.0 q.0) (le_prop p.1 q.1)
    ∙ ap (λ (w : Within (x + 1) top xs). (q.0, q.1, w)) (Within-prop (x + 1) top xs p.2 q.2)

-- the refusal: 1 for the colour count, and 2 for the ids below one that is inside its limits
abbrev pub Turned : ℕ → List ℕ → Refusal → Type 0
Turned n ids r = ((bad_colors n ≡ true) × (r ≡ Colors)) ⊎ ((bad_colors n ≡ false) × (within 0 n ids ≡ false) × (r ≡ Ids))
