-- Laws of a piece behind an output: its parts, and what append answers.
use Prim.Native.Nat.{ℕ, zero, suc, ◌+◌, ◌-◌, ◌≤◌, ◌<◌}
use mathlib.Core.Path.{◌≡◌, refl, sym, ap, ap₂, ◌∙◌}
use mathlib.Core.Bool.{Bool, true, false, not, ◌||◌}
use mathlib.Core.List.{List, [], ◌∷◌, ◌++◌}
use native.Mathlib.Omega.{arith}
use borrow.Author.Tests.{lt-ltb, le-ltb, eq-eqb, ne_eqb, eqb-false, ltb-true, ltb-false}
use Rattle.std.specs.Int.{from_bool}
use lib.ListN.{length, take, get_or, length-append}
use lib.Seq.{length-take-le}
use lib.Dec.{ltb, eqb}
use Rattle.base.specs.Tests.{◌when◌else◌}
use Rattle.base.specs.Answers.{Answer, refused, done}
use Rattle.base.specs.Parts.{over}
use Rattle.base.proofs.Tests.{when_yes, when_no}
use Rattle.base.proofs.Bools.{not_no, not_yes, and_true, false_true}
use Rattle.runs.specs.Words.{offset, coordinate, pack}
use Rattle.runs.specs.Colours.{last_run, first_coord, last_coord}
use Rattle.runs.specs.Orders.{most_vertices, sharp}
use Rattle.runs.specs.Inside.Lists.{Steady}
use Rattle.runs.specs.Reverse.{oriented}
use Rattle.runs.specs.Merge.{merge, merge_behind}
use Rattle.runs.specs.Append.{shifted, skip, appendix, append_runs, joinable, bad_counts, result_into, append_into}
use Rattle.runs.specs.Inside.Pieces.{Admitted, drops_first}
use Rattle.runs.proofs.Laws.Orders.{sharp_yes, sharp_steady, sharp_vertices, steady_yes}
use Rattle.runs.proofs.Laws.Reverse.{oriented_long}
use Rattle.runs.proofs.Laws.Merge.{behind_drops, merge_oriented_long}

pub length_shifted : (k : ℕ) (ws : List ℕ) → length (shifted k ws) ≡ length ws
unfolding shifted
length_shifted k [] = refl
length_shifted k (w ∷ ws) = ap suc (length_shifted k ws)

pub shifted_at : (k : ℕ) (ws : List ℕ) (i : ℕ) → i < length ws → get_or (shifted k ws) i 0 ≡ pack (offset (get_or ws i 0) + k) (coordinate (get_or ws i 0))
unfolding shifted
shifted_at k [] i h = absurd (none h)
  where
    none : i < 0 → ⊥
    none h = omega arith
shifted_at k (w ∷ ws) zero h = refl
shifted_at k (w ∷ ws) (suc i) h = shifted_at k ws i (omega arith)

-- what `joinable` says
pub record Joinable (n : ℕ) (ws : List ℕ) : Type 0 where
  pub some : 0 < length ws
  pub list : Steady n ws
  pub last : offset (last_run ws) < n

pub joinable_is : (n : ℕ) (ws : List ℕ) → joinable n ws ≡ true → Joinable n ws
unfolding joinable
joinable_is n ws e =
    let a = and_true _ _ e in
    let b = and_true _ _ a.1 in
    record { some = some (eqb (length ws) 0) refl a.0; list = steady_yes n ws b.0; last = ltb-true _ _ b.1 }
  where
    pos : (length ws ≡ 0 → ⊥) → 0 < length ws
    pos h = omega (arith, h)

    some : (t : Bool) → eqb (length ws) 0 ≡ t → not t ≡ true → 0 < length ws
    some true p q = false_true q
    some false p q = pos (eqb-false _ _ p)

module _ (n : ℕ) (ws : List ℕ) (used : ℕ) (inside : used ≤ length ws) where
  pub open_some : joinable n (take used ws) ≡ true → 0 < used
  open_some e = omega (arith, (joinable_is n (take used ws) e).some, length-take-le used ws inside)

pub record Counts (a b : ℕ) : Type 0 where
  pub left : 0 < a
  pub right : 0 < b
  pub sum : a + b - 1 ≤ most_vertices

pub counts : (a b : ℕ) → bad_counts a b ≡ false → Counts a b
unfolding bad_counts
counts a b e = go (eqb a 0) refl (eqb b 0) refl (ltb most_vertices (a + b - 1)) refl e
  where
    pos : (x : ℕ) → (x ≡ 0 → ⊥) → 0 < x
    pos x h = omega (arith, h)

    go : (t : Bool) → eqb a 0 ≡ t → (u : Bool) → eqb b 0 ≡ u → (v : Bool) → ltb most_vertices (a + b - 1) ≡ v → t || (u || v) ≡ false → Counts a b
    go true p u q v r z = false_true (sym z)
    go false p true q v r z = false_true (sym z)
    go false p false q true r z = false_true (sym z)
    go false p false q false r z = record { left = pos a (eqb-false a 0 p); right = pos b (eqb-false b 0 q); sum = ltb-false _ _ r }

pub skip_yes : (c : ℕ) (piece : List ℕ) → c ≡ first_coord piece → skip c piece ≡ 1
unfolding skip
skip_yes c piece e = when_yes _ _ _ (eq-eqb c (first_coord piece) e)

pub skip_no : (c : ℕ) (piece : List ℕ) → (c ≡ first_coord piece → ⊥) → skip c piece ≡ 0
unfolding skip
skip_no c piece e = when_no _ _ _ (ne_eqb c (first_coord piece) e)

pub skip_is : (c : ℕ) (piece : List ℕ) (drops : Bool) → drops ≡ drops_first c piece → from_bool drops ≡ skip c piece
unfolding skip ◌when◌else◌
skip_is c piece true e = ap (λ (t : Bool). ◌when◌else◌ {A = ℕ} 1 t 0) e
skip_is c piece false e = ap (λ (t : Bool). ◌when◌else◌ {A = ℕ} 1 t 0) e

pub skip_le : (c : ℕ) (piece : List ℕ) → skip c piece ≤ 1
unfolding skip ◌when◌else◌
skip_le c piece = go (eqb c (first_coord piece))
  where
    go : (t : Bool) → (◌when◌else◌ {A = ℕ} 1 t 0) ≤ 1
    go true = omega arith
    go false = omega arith

-- the counts of two sharp lists
pub sharp_counts : (a b : ℕ) (out piece : List ℕ) → sharp a out ≡ true → sharp b piece ≡ true → a + b - 1 ≤ most_vertices → bad_counts a b ≡ false
unfolding bad_counts
sharp_counts a b out piece s t few =
    let x : a ≡ 0 → ⊥ = λ e. omega (arith, sharp_vertices a out s) in
    let y : b ≡ 0 → ⊥ = λ e. omega (arith, sharp_vertices b piece t) in
    rw (ne_eqb a 0 x, ne_eqb b 0 y, le-ltb _ _ few) refl

pub one_bit : (b : Bool) → from_bool b ≤ 1
one_bit true = omega arith
one_bit false = omega arith

module _ (out : List ℕ) (used a : ℕ) (piece : List ℕ) (b : ℕ) (r : Bool) where
  pub append_3 : length out < used → ◌≡◌ {A = Answer × List ℕ} (refused 3, out) (append_into out used a piece b r)
  unfolding append_into
  append_3 h = sym (when_yes _ _ _ (lt-ltb _ _ h))

  module _ (fits : used ≤ length out) where
    pub append_7 : bad_counts a b ≡ true → ◌≡◌ {A = Answer × List ℕ} (refused 7, out) (append_into out used a piece b r)
    unfolding append_into
    append_7 e = sym (when_no _ _ _ (le-ltb _ _ fits) ∙ when_yes _ _ _ e)

    module _ (good : bad_counts a b ≡ false) where
      pub append_6 : joinable a (take used out) ≡ false → ◌≡◌ {A = Answer × List ℕ} (refused 6, out) (append_into out used a piece b r)
      unfolding append_into
      append_6 e = sym (when_no _ _ _ (le-ltb _ _ fits) ∙ when_no _ _ _ good ∙ when_yes _ _ _ (not_yes _ e))

      module _ (may : joinable a (take used out) ≡ true) where
        pub append_66 : sharp b piece ≡ false → ◌≡◌ {A = Answer × List ℕ} (refused 6, out) (append_into out used a piece b r)
        unfolding append_into
        append_66 e = sym (when_no _ _ _ (le-ltb _ _ fits) ∙ when_no _ _ _ good ∙ when_no _ _ _ (not_no _ may) ∙ when_yes _ _ _ (not_yes _ e))

        module _ (piece-sharp : sharp b piece ≡ true) where
          pub append_goes : result_into (append_runs (take used out) a piece b r) (a + b - 1) out ≡ append_into out used a piece b r
          unfolding append_into
          append_goes = sym (when_no _ _ _ (le-ltb _ _ fits) ∙ when_no _ _ _ good ∙ when_no _ _ _ (not_no _ may) ∙ when_no _ _ _ (not_no _ piece-sharp))

          pub admitted : (merged : ℕ) → merged ≡ length (merge piece) → Admitted out used a piece b merged
          admitted merged count =
              let c = counts a b good in
              let s = sharp_yes b piece piece-sharp in
              record {
                fits = fits;
                some = open_some a out used fits may;
                left = c.left;
                right = c.right;
                sum = c.sum;
                first = s.some;
                taken = record { small = omega (arith, c.left, c.sum); list = sharp_steady b piece s };
                count = count;
              }

-- the merged runs are what append puts behind the output
module _ (out : List ℕ) (used a : ℕ) (piece : List ℕ) (b : ℕ) (r : Bool) (fits : used ≤ length out) where
  abbrev behind : List ℕ
  behind = merge_behind (last_coord (take used out)) (oriented r b piece)

  long : length (take used out ++ shifted (a - 1) behind) ≡ used + length behind
  long = length-append (take used out) (shifted (a - 1) behind) ∙ omega (arith, length_shifted (a - 1) behind, length-take-le used out fits)

  -- as many as the merged piece has, less the first where the output ends on its coordinate
  module _ (merged : ℕ) (small : b < 16777216) (some : 0 < length piece) (count : merged ≡ length (merge piece)) (drops : Bool) (drops-is : drops ≡ drops_first (last_coord (take used out)) (oriented r b piece)) where
    few : length behind + from_bool drops ≡ merged
    few =
        ap (λ (t : Bool). length behind + from_bool t) drops-is
        ∙ behind_drops (last_coord (take used out)) (oriented r b piece) (omega (arith, oriented_long r b piece, some))
        ∙ merge_oriented_long r b piece small
        ∙ sym count

    pub total_is : used + (merged - from_bool drops) ≡ length (take used out ++ shifted (a - 1) behind)
    total_is = omega (arith, few, long)

    pub result_3 : length out < used + (merged - from_bool drops) → ◌≡◌ {A = Answer × List ℕ} (refused 3, out) (result_into (append_runs (take used out) a piece b r) (a + b - 1) out)
    unfolding result_into append_runs appendix
    result_3 h = sym (when_yes _ _ _ (lt-ltb _ _ (omega (arith, h, total_is))))

    pub result_done : (after : List ℕ) (count : ℕ) → used + (merged - from_bool drops) ≤ length out → count ≡ a + b - 1 → after ≡ over (take used out ++ shifted (a - 1) behind) out
        → ◌≡◌ {A = Answer × List ℕ} (done ((used + (merged - from_bool drops)) ∷ count ∷ []), after) (result_into (append_runs (take used out) a piece b r) (a + b - 1) out)
    unfolding result_into append_runs appendix
    result_done after count h c e =
        let z : length (take used out ++ shifted (a - 1) behind) ≤ length out = omega (arith, h, total_is) in
        ap₂ (λ (x : Answer) (y : List ℕ). (x, y)) (ap₂ (λ (x y : ℕ). done (x ∷ y ∷ [])) total_is c) e
        ∙ sym (when_no _ _ _ (le-ltb _ _ z))
