-- Runs put to the front of an output: the first of an oriented list, and those behind it.
use Prim.Native.Nat.{ℕ, suc, ◌+◌, ◌-◌, ◌≤◌, ◌<◌}
use mathlib.Core.Path.{◌≡◌, refl, sym, ap, ap₂, ◌∙◌}
use mathlib.Core.Bool.{Bool, true, false}
use mathlib.Core.List.{List, [], ◌∷◌, ◌++◌, append_assoc}
use native.Mathlib.Omega.{arith}
use native.Mathlib.Nat.{add-zero}
use lib.ListN.{length, take, drop, get_or, set, length-drop}
use lib.Seq.{get_or-drop, drop-drop, take_all, paste}
use Rattle.base.specs.Parts.{over}
use Rattle.base.proofs.Parts.{length_over, over_behind, tail_is, put_tail}
use Rattle.runs.specs.Words.{offset, coordinate, pack}
use Rattle.runs.specs.Colours.{end_at, first_coord}
use Rattle.runs.specs.Inside.Lists.{Taken}
use Rattle.runs.specs.Reverse.{reverse_runs, oriented}
use Rattle.runs.specs.Append.{shift, shifted}
use Rattle.runs.proofs.Laws.Lists.{Filled, fill_more, fill_end}
use Rattle.runs.proofs.Laws.Words.{offset_pack, coordinate_pack, pack_of}
use Rattle.runs.proofs.Laws.Orders.{run_begins, offset_le, end_le}
use Rattle.runs.proofs.Laws.Reverse.{length_reversed, reversed_at, oriented_long, oriented_steady}
use Rattle.runs.proofs.Laws.Append.{length_shifted, shifted_at}

-- ---- a part of an output from `used` on

part_long : (used : ℕ) (out : List ℕ) → length (take (length out - used) (drop used out)) ≡ length out - used
part_long used out = ap length (tail_is used out) ∙ length-drop used out

pub put_behind : (used : ℕ) (out s part : List ℕ) (j : ℕ) → length s ≡ j → part ≡ over s (take (length out - used) (drop used out))
    → take used out ++ (part ++ drop (length out - used) (drop used out)) ≡ paste out used s j
unfolding over
put_behind used out s part j l e =
    put_tail used out part
    ∙ ap (λ (m : List ℕ). take used out ++ m) (e ∙ ap (λ (m : List ℕ). s ++ drop (length s) m) (tail_is used out) ∙ ap (λ (m : List ℕ). s ++ m) (drop-drop (length s) used out))
    ∙ sym (append_assoc (take used out) s (drop (used + length s) out))
    ∙ ap₂ (λ (a : List ℕ) (m : ℕ). (take used out ++ a) ++ drop (used + m) out) (sym (take_all j s (omega arith))) l

-- ---- one run in the front

pub front_is : (x : ℕ) (out : List ℕ) → 0 < length out → set out 0 x ≡ over (x ∷ []) out
unfolding over
front_is x [] h = absurd (omega arith)
front_is x (y ∷ out) h = refl

front_take : (x : ℕ) (out mid : List ℕ) → mid ≡ over (x ∷ []) out → take 1 mid ≡ x ∷ []
unfolding over
front_take x out mid e = ap (take 1) e

front_drop : (x : ℕ) (out mid : List ℕ) → mid ≡ over (x ∷ []) out → drop 1 mid ≡ drop 1 out
unfolding over
front_drop x out mid e = ap (drop 1) e

-- the room behind it
pub front_room : (x m : ℕ) (out mid : List ℕ) → mid ≡ over (x ∷ []) out → 0 < length out → m ≤ length out → m ≤ length (take (length mid - 1) (drop 1 mid)) + 1
front_room x m out mid e h g =
    let l : length mid ≡ length out = ap length e ∙ length_over (x ∷ []) out (omega arith) in
    omega (arith, part_long 1 mid)

-- ---- the runs of a list

pub put_none : (k n : ℕ) (r : Bool) (ws out : List ℕ) → length ws ≡ 0 → out ≡ over (shifted k (oriented r n ws)) out
unfolding over shifted reverse_runs
put_none k n true [] out e = refl
put_none k n false [] out e = refl
put_none k n r (w ∷ ws) out e = absurd (omega arith)

pub rest_none : (k : ℕ) (ws out : List ℕ) → length ws ≡ 0 → out ≡ over (shifted k (drop 1 ws)) out
unfolding over shifted
rest_none k [] out e = refl
rest_none k (w ∷ ws) out e = absurd (omega arith)

pub shifted_none : (ws : List ℕ) → shifted 0 ws ≡ ws
unfolding shifted
shifted_none [] = refl
shifted_none (w ∷ ws) = ap₂ (λ (x : ℕ) (l : List ℕ). x ∷ l) (ap (λ (o : ℕ). pack o (coordinate w)) (add-zero (offset w)) ∙ pack_of w) (shifted_none ws)

pub length_rest : (k : ℕ) (ws : List ℕ) → length (shifted k (drop 1 ws)) ≡ length ws - 1
length_rest k ws = length_shifted k (drop 1 ws) ∙ length-drop 1 ws

rest_at : (k : ℕ) (ws : List ℕ) (i : ℕ) → i + 1 < length ws → get_or (shifted k (drop 1 ws)) i 0 ≡ shift k (get_or ws (i + 1) 0)
rest_at k ws i h =
    let e : 1 + i ≡ i + 1 = omega arith in
    let g : get_or (drop 1 ws) i 0 ≡ get_or ws (i + 1) 0 = get_or-drop 1 ws i 0 ∙ ap (λ (j : ℕ). get_or ws j 0) e in
    shifted_at k (drop 1 ws) i (omega (arith, length-drop 1 ws)) ∙ ap (shift k) g

moved : (k w : ℕ) → w + k ≡ shift k w
moved k w = omega arith

pub forward_more : (k : ℕ) (ws from out : List ℕ) (i : ℕ) → Filled (shifted k ws) from out i → i < length ws → i < length out → Filled (shifted k ws) from (set out i (get_or ws i 0 + k)) (i + 1)
forward_more k ws from out i f h g = fill_more _ from out i _ 0 (omega (arith, length_shifted k ws)) g (moved k (get_or ws i 0) ∙ sym (shifted_at k ws i h)) f

pub rest_end : (k : ℕ) (ws from out : List ℕ) (i : ℕ) → Filled (shifted k (drop 1 ws)) from out i → i ≡ length ws - 1 → out ≡ over (shifted k (drop 1 ws)) from
rest_end k ws from out i f e = fill_end _ from out i (e ∙ sym (length_rest k ws)) f

module _ (n k : ℕ) (ws : List ℕ) (t : Taken n ws) where
  -- no run begins behind the vertices, moved or not
  pub below_top : (j top : ℕ) → j < length ws → top ≡ n + k → offset (get_or ws j 0) ≤ top
  below_top j top l e = omega (arith, offset_le n ws j l t.list.up)

  backward_at : (i top x : ℕ) → i + 1 < length ws → top ≡ n + k → x ≡ pack (top - offset (get_or ws (length ws - 1 - i) 0)) (coordinate (get_or ws (length ws - 2 - i) 0))
      → x ≡ get_or (shifted k (drop 1 (reverse_runs n ws))) i 0
  backward_at i top x h e q =
      let j : ℕ = length ws - 2 - i in
      let small : n < 16777216 = t.small in
      let v : get_or (reverse_runs n ws) (i + 1) 0 ≡ pack (n - end_at n ws j) (coordinate (get_or ws j 0)) = reversed_at n ws (i + 1) j (omega arith) in
      let s : suc j ≡ length ws - 1 - i = omega arith in
      let b : end_at n ws j ≡ offset (get_or ws (length ws - 1 - i) 0) = run_begins n ws (suc j) (omega arith) ∙ ap (λ (m : ℕ). offset (get_or ws m 0)) s in
      let le : end_at n ws j ≤ n = end_le n ws j t.list.up in
      let o : offset (get_or (reverse_runs n ws) (i + 1) 0) ≡ n - end_at n ws j = ap offset v ∙ offset_pack (n - end_at n ws j) (coordinate (get_or ws j 0)) (omega arith) in
      let c : coordinate (get_or (reverse_runs n ws) (i + 1) 0) ≡ coordinate (get_or ws j 0) = ap coordinate v ∙ coordinate_pack (n - end_at n ws j) (coordinate (get_or ws j 0)) (omega arith) in
      let d : top - offset (get_or ws (length ws - 1 - i) 0) ≡ offset (get_or (reverse_runs n ws) (i + 1) 0) + k = omega arith in
      q ∙ ap₂ pack d (sym c) ∙ sym (rest_at k (reverse_runs n ws) i (omega (arith, length_reversed n ws)))

  pub backward_more : (from out : List ℕ) (i : ℕ) → Filled (shifted k (drop 1 (reverse_runs n ws))) from out i → (top x : ℕ) → i + 1 < length ws → i < length out → top ≡ n + k
      → x ≡ pack (top - offset (get_or ws (length ws - 1 - i) 0)) (coordinate (get_or ws (length ws - 2 - i) 0))
      → Filled (shifted k (drop 1 (reverse_runs n ws))) from (set out i x) (i + 1)
  backward_more from out i f top x h g e q = fill_more _ from out i x 0 (omega (arith, length_rest k (reverse_runs n ws), length_reversed n ws)) g (backward_at i top x h e q) f

  -- the first of the oriented list, and those behind it
  module _ (r : Bool) (some : 0 < length ws) where
    split : (os : List ℕ) → 0 < length os → shifted k os ≡ shift k (get_or os 0 0) ∷ shifted k (drop 1 os)
    unfolding shifted
    split [] h = absurd (omega arith)
    split (w ∷ os) h = refl

    first_is : (x c : ℕ) → c ≡ first_coord (oriented r n ws) → x ≡ pack k c → x ≡ shift k (get_or (oriented r n ws) 0 0)
    first_is x c e q =
        let z : k ≡ offset (get_or (oriented r n ws) 0 0) + k = omega (arith, (oriented_steady r n ws t.small t.list).first) in
        q ∙ ap₂ pack z e

    pub put_first : (x c : ℕ) (out mid part : List ℕ) → c ≡ first_coord (oriented r n ws) → x ≡ pack k c → mid ≡ over (x ∷ []) out
        → part ≡ over (shifted k (drop 1 (oriented r n ws))) (take (length mid - 1) (drop 1 mid))
        → take 1 mid ++ (part ++ drop (length mid - 1) (drop 1 mid)) ≡ over (shifted k (oriented r n ws)) out
    put_first x c out mid part e q m f =
        let os : List ℕ = oriented r n ws in
        put_tail 1 mid part
        ∙ ap₂ (λ (a b : List ℕ). a ++ b) (front_take x out mid m) (f ∙ ap (over (shifted k (drop 1 os))) (tail_is 1 mid ∙ front_drop x out mid m))
        ∙ over_behind (x ∷ []) (shifted k (drop 1 os)) out
        ∙ ap (λ (l : List ℕ). over l out) (ap (λ (z : ℕ). z ∷ shifted k (drop 1 os)) (first_is x c e q) ∙ sym (split os (omega (arith, oriented_long r n ws))))
