-- Merged runs put behind those of an output.
use Prim.Native.Nat.{ℕ, suc, ◌+◌, ◌-◌, ◌≤◌, ◌<◌}
use mathlib.Core.Path.{◌≡◌, refl, sym, ap, ap₂, ◌∙◌}
use mathlib.Core.Bool.{Bool, true, false, not}
use Rattle.std.specs.Int.{from_bool}
use lib.Dec.{eqb}
use mathlib.Core.List.{List, [], ◌∷◌, ◌++◌, append_assoc, append-nil}
use native.Mathlib.Omega.{arith}
use native.Mathlib.Decide.{dec_lt}
use borrow.Author.Tests.{eq-eqb, eqb-false, eqb-true, ne_eqb}
use lib.ListN.{length, take, drop, get_or, set, drop_of_length-le, length-append, length-drop, length-set, take-append-drop}
use native.Mathlib.Nat.{add-zero}
use native.Mathlib.Numerals.{add-one}
use lib.Seq.{drop-cons, drop-set-lt, get_or-set_same, get_or-take, length-take-le, paste, take_all, take-set-le, take-suc-set}
use Rattle.base.specs.Parts.{over}
use Rattle.base.proofs.Bools.{true_false}
use Rattle.runs.specs.Words.{offset, coordinate, pack}
use Rattle.runs.specs.Colours.{end_at, first_coord, last_run, last_coord}
use Rattle.runs.specs.Inside.Lists.{Taken}
use Rattle.runs.specs.Reverse.{reverse_runs, oriented}
use Rattle.runs.specs.Merge.{merge, merge_behind}
use Rattle.runs.specs.Append.{shift, shifted}
use Rattle.runs.specs.Inside.Merging.{FillsAll, FillsRest, merged_behind}
use Rattle.runs.specs.Inside.Oriented.{list_of}
use Rattle.runs.specs.declared.oriented.Shifted.{Shifted}
use Rattle.runs.proofs.Laws.Append.{length_shifted, skip_is}
use Rattle.runs.proofs.Laws.Orders.{Up, end_le, offset_le, run_begins, tail_up}
use Rattle.runs.proofs.Laws.Reverse.{oriented_long, oriented_steady, reversed_at}
use Rattle.runs.proofs.Laws.Merge.{behind_first, behind_own, merge_same, merge_shifted, merge_some, merge_whole, shift_coordinate}
use Rattle.runs.proofs.Laws.Words.{coordinate_pack, offset_pack, pack_of}

-- ---- merged runs behind an output's

-- a run of an oriented list can be moved so far as its vertices can
pub moved_below : (r : Bool) (n : ℕ) (ws : List ℕ) (i k : ℕ) → Taken n ws → n + k < 16777216 → i < length ws → offset (get_or (oriented r n ws) i 0) + k < 16777216
moved_below r n ws i k t small h = omega (arith, offset_le n (oriented r n ws) i (omega (arith, oriented_long r n ws)) (oriented_steady r n ws t.small t.list).up)

-- from the other end, a run that is not the first begins where the one before it ends
pub backed_is : (n k : ℕ) (ws : List ℕ) (i : ℕ) → Taken n ws → n + k < 16777216 → 0 < i → i < length ws
    → pack (n + k - offset (get_or ws (length ws - 1 - i + 1) 0)) (coordinate (get_or ws (length ws - 1 - i) 0)) ≡ shift k (get_or (reverse_runs n ws) i 0)
backed_is n k ws i t small h l =
    let j : ℕ = length ws - 1 - i in
    let b : end_at n ws (length ws - 1 - i) ≡ offset (get_or ws (length ws - 1 - i + 1) 0) = run_begins n ws (suc (length ws - 1 - i)) (omega arith) ∙ ap (λ (m : ℕ). offset (get_or ws m 0)) (sym (add-one (length ws - 1 - i))) in
    let v : get_or (reverse_runs n ws) i 0 ≡ pack (n - end_at n ws (length ws - 1 - i)) (coordinate (get_or ws (length ws - 1 - i) 0)) = reversed_at n ws i (length ws - 1 - i) (omega arith) in
    let e : end_at n ws (length ws - 1 - i) ≤ n = end_le n ws (length ws - 1 - i) t.list.up in
    let o : offset (get_or (reverse_runs n ws) i 0) ≡ n - end_at n ws (length ws - 1 - i) = ap offset v ∙ offset_pack (n - end_at n ws (length ws - 1 - i)) (coordinate (get_or ws (length ws - 1 - i) 0)) (omega arith) in
    let c : coordinate (get_or (reverse_runs n ws) i 0) ≡ coordinate (get_or ws (length ws - 1 - i) 0) = ap coordinate v ∙ coordinate_pack (n - end_at n ws (length ws - 1 - i)) (coordinate (get_or ws (length ws - 1 - i) 0)) (omega arith) in
    ap₂ pack (omega (arith, b, o, e)) (sym c)

-- of the list `all`, the first `end` runs stand in the output, behind a run of coordinate `before` are those that `left` gives, and behind all of it nothing is altered
pub record Merging (all from out : List ℕ) (end before : ℕ) (left : List ℕ) : Type 0 where
  pub long : length out ≡ length from
  pub fits : length all ≤ length from
  pub inside : end ≤ length out
  pub front : take end out ++ merge_behind before left ≡ all
  pub behind : drop (length all) out ≡ drop (length all) from

-- the output's own last run
last_taken : (used : ℕ) (out : List ℕ) → 0 < used → used ≤ length out → last_run (take used out) ≡ get_or out (used - 1) 0
last_taken used out h l = ap (λ (k : ℕ). get_or (take used out) (k - 1) 0) (length-take-le used out l) ∙ get_or-take used out (used - 1) 0 (omega arith)

-- behind a run of the first one's coordinate, the moved runs behind the first give what all do
rest_merged : (n k : ℕ) (os : List ℕ) (c : ℕ) → n + k < 16777216 → Up n os → 0 < length os → c ≡ first_coord os → merge_behind c (shifted k (drop 1 os)) ≡ shifted k (merge_behind c os)
rest_merged n k [] c small u h e = absurd (omega arith)
rest_merged n k (w ∷ ws) c small u h e =
    merge_shifted n k small c ws (tail_up n w ws u) ∙ ap (shifted k) (ap (λ (x : ℕ). merge_behind x ws) e ∙ sym (behind_own w ws) ∙ ap (λ (x : ℕ). merge_behind x (w ∷ ws)) (sym e))

module _ (s : Shifted) where
  abbrev os : List ℕ
  os = list_of s.list

  os_up : Up s.list.n os
  os_up = (oriented_steady s.list.reversed s.list.n s.list.runs.now s.list.taken.small s.list.taken.list).up

  os_long : length os ≡ length s.list.runs.now
  os_long = oriented_long s.list.reversed s.list.n s.list.runs.now

  pub merging_start : (out : List ℕ) (used total : ℕ) → FillsRest s out used total → Merging (merged_behind s used out) out out used (coordinate (get_or out (used - 1) 0)) (shifted s.shift (drop 1 os))
  merging_start out used total f =
      let r = f.fills in
      let c : coordinate (get_or out (used - 1) 0) ≡ last_coord (take used out) = ap coordinate (sym (last_taken used out f.used_some r.inside)) in
      record {
        long = refl;
        fits = omega (arith, r.count, r.fits);
        inside = r.inside;
        front =
            ap (λ (ws : List ℕ). take used out ++ ws)
            (ap (λ (x : ℕ). merge_behind x (shifted s.shift (drop 1 os))) c ∙ rest_merged s.list.n s.shift os (last_coord (take used out)) (omega (arith, s.few)) os_up (omega (arith, r.some, os_long)) f.meets);
        behind = refl;
      }

-- the runs from place i on, moved: run i and those behind it
left_cons : (k : ℕ) (os : List ℕ) (i : ℕ) → i < length os → shifted k (drop i os) ≡ shift k (get_or os i 0) ∷ shifted k (drop (i + 1) os)
unfolding shifted
left_cons k os i h = ap (shifted k) (drop-cons os i 0 h) ∙ ap (λ (j : ℕ). shift k (get_or os i 0) ∷ shifted k (drop j os)) (sym (add-one i))

left_none : (k : ℕ) (os : List ℕ) (i : ℕ) → length os ≤ i → shifted k (drop i os) ≡ []
unfolding shifted
left_none k os i h = ap (shifted k) (drop_of_length-le os {i = i} h)

module _ (all from out : List ℕ) (end before : ℕ) where
  -- so many stand, and so many are yet to come
  parts : (left : List ℕ) → Merging all from out end before left → length all ≡ end + length (merge_behind before left)
  parts left m = ap length (sym m.front) ∙ length-append (take end out) (merge_behind before left) ∙ ap (λ (k : ℕ). k + length (merge_behind before left)) (length-take-le end out m.inside)

  -- where some are yet to come, some of the list are left
  merging_left : (k i : ℕ) (os : List ℕ) → Merging all from out end before (shifted k (drop i os)) → end < length all → i < length os
  unfolding merge_behind
  merging_left k i os m h = go (dec_lt i (length os))
    where
      go : Dec (i < length os) → i < length os
      go (yes l) = l
      go (no l) = absurd (omega (arith, h, parts (shifted k (drop i os)) m, ap (λ (ws : List ℕ). length (merge_behind before ws)) (left_none k os i (omega arith))))

  module _ (run : ℕ) (left : List ℕ) (m : Merging all from out end before (run ∷ left)) (more : end < length all) where
    room : end < length out
    room = omega (arith, m.long, m.fits)

    kept : drop (length all) (set out end run) ≡ drop (length all) from
    kept = drop-set-lt (length all) out end run more ∙ m.behind

    -- a run of the same coordinate is written where the next new one will be
    same : before ≡ coordinate run → Merging all from (set out end run) end (coordinate run) left
    same e =
        record {
          long = length-set out end run ∙ m.long;
          fits = m.fits;
          inside = omega (arith, length-set out end run, m.inside);
          front = ap₂ (λ (xs ys : List ℕ). xs ++ ys) (take-set-le end out end run (omega arith)) (sym (ap (λ (c : ℕ). merge_behind c (run ∷ left)) e ∙ behind_own run left)) ∙ m.front;
          behind = kept;
        }

    -- another stands there
    other : (before ≡ coordinate run → ⊥) → Merging all from (set out end run) (suc end) (coordinate run) left
    unfolding merge_behind
    other e =
        let n : merge_behind before (run ∷ left) ≡ run ∷ merge_behind (coordinate run) left = rw (ne_eqb before (coordinate run) e) refl in
        record {
          long = length-set out end run ∙ m.long;
          fits = m.fits;
          inside = omega (arith, length-set out end run, room);
          front = ap (λ (ws : List ℕ). ws ++ merge_behind (coordinate run) left) (take-suc-set out end run room) ∙ append_assoc (take end out) (run ∷ []) (merge_behind (coordinate run) left) ∙ ap (λ (ws : List ℕ). take end out ++ ws) (sym n) ∙ m.front;
          behind = kept;
        }

    step : (t : Bool) → eqb (coordinate run) before ≡ t → Merging all from (set out end run) (end + from_bool (not t)) (coordinate run) left
    step true e = rw (add-zero end) (same (sym (eqb-true (coordinate run) before e)))
    step false e = rw (add-one end) (other (λ q. eqb-false (coordinate run) before e (sym q)))

  -- run i of a list that is moved
  pub merging_step : (k i : ℕ) (os : List ℕ) → Merging all from out end before (shifted k (drop i os)) → end < length all → (run : ℕ) → run ≡ shift k (get_or os i 0)
      → Merging all from (set out end run) (end + from_bool (not (eqb (coordinate run) before))) (coordinate run) (shifted k (drop (i + 1) os))
  merging_step k i os m more run e =
      let left : List ℕ = shifted k (drop (i + 1) os) in
      step run left (rw (left_cons k os i (merging_left k i os m more) ∙ ap (λ (w : ℕ). w ∷ left) (sym e)) at m) more (eqb (coordinate run) before) refl

  pub merging_end : (left : List ℕ) → Merging all from out end before left → length all ≤ end → out ≡ over all from
  unfolding over
  merging_end left m h =
      let p = parts left m in
      let z : merge_behind before left ≡ [] = no_runs (merge_behind before left) (omega arith) in
      let l : end ≡ length all = omega (arith, ap length z) in
      sym (take-append-drop end out) ∙ ap₂ (λ (x y : List ℕ). x ++ y) (sym (append-nil (take end out)) ∙ ap (λ (ws : List ℕ). take end out ++ ws) (sym z) ∙ m.front) (ap (λ (k : ℕ). drop k out) l ∙ m.behind)
    where
      no_runs : (ws : List ℕ) → length ws ≡ 0 → ws ≡ []
      no_runs [] e = refl
      no_runs (w ∷ ws) e = absurd (omega arith)

-- where there is space that is to be filled, a run is to come
pub merging_inside : (s : Shifted) (from out : List ℕ) (used total end before i : ℕ) → FillsRest s from used total → Merging (merged_behind s used from) from out end before (shifted s.shift (drop i (list_of s.list))) → end < total → i < length s.list.runs.now
merging_inside s from out used total end before i f m h =
    omega (arith, os_long s, merging_left (merged_behind s used from) from out end before s.shift i (list_of s.list) m (omega (arith, f.fills.count, h)))

-- ---- the first run put, where the output doesn't end on its coordinate

module _ (s : Shifted) (out : List ℕ) (used total first : ℕ) (f : FillsAll s out used false total) (is : first ≡ shift s.shift (get_or (list_of s.list) 0 0)) where
  abbrev os' : List ℕ
  os' = list_of s.list

  abbrev next_out : List ℕ
  next_out = set out used first

  some' : 0 < length os'
  some' = omega (arith, f.fills.some, os_long s)

  -- its coordinate is another
  apart : last_coord (take used out) ≡ first_coord os' → ⊥
  apart e = true_false (sym (eq-eqb _ _ e) ∙ sym f.told)

  one_more : length (merged_behind s used out) ≡ used + length (merge_behind (last_coord (take used out)) os')
  one_more = length-append (take used out) _ ∙ omega (arith, length-take-le used out f.fills.inside, length_shifted s.shift (merge_behind (last_coord (take used out)) os'))

  split : (ws : List ℕ) (c : ℕ) → 0 < length ws → (c ≡ first_coord ws → ⊥) → merge_behind c ws ≡ get_or ws 0 0 ∷ merge_behind (first_coord ws) ws
  unfolding merge_behind
  split [] c h e = absurd (omega arith)
  split (w ∷ ws) c h e = rw (ne_eqb c (coordinate w) e) (ap (λ (l : List ℕ). w ∷ l) (sym (behind_own w ws)))

  pub room_first : used < length out
  room_first = omega (arith, f.fills.count, f.fills.fits, one_more, ap length (split os' (last_coord (take used out)) some' apart))

  taken_first : take (suc used) next_out ≡ take used out ++ (first ∷ [])
  taken_first = take-suc-set out used first room_first

  last_first : last_coord (take (used + 1) next_out) ≡ first_coord os'
  last_first =
      ap (λ (k : ℕ). last_coord (take k next_out)) (add-one used)
      ∙ ap coordinate (last_taken (suc used) next_out (omega arith) (omega (arith, length-set out used first, room_first)) ∙ ap (λ (k : ℕ). get_or next_out k 0) back ∙ get_or-set_same out used first 0 room_first ∙ is)
      ∙ shift_coordinate s.shift (get_or os' 0 0) (moved_below s.list.reversed s.list.n s.list.runs.now 0 s.shift s.list.taken (omega (arith, s.few)) f.fills.some)
    where
      back : suc used - 1 ≡ used
      back = omega arith

  pub same_list : merged_behind s (used + 1) next_out ≡ merged_behind s used out
  unfolding shifted
  same_list =
      ap (λ (c : ℕ). take (used + 1) next_out ++ shifted s.shift (merge_behind c os')) last_first
      ∙ ap (λ (k : ℕ). take k next_out ++ shifted s.shift (merge_behind (first_coord os') os')) (add-one used)
      ∙ ap (λ (ws : List ℕ). ws ++ shifted s.shift (merge_behind (first_coord os') os')) taken_first
      ∙ append_assoc (take used out) (first ∷ []) (shifted s.shift (merge_behind (first_coord os') os'))
      ∙ ap (λ (w : ℕ). take used out ++ (w ∷ shifted s.shift (merge_behind (first_coord os') os'))) is
      ∙ ap (λ (ws : List ℕ). take used out ++ shifted s.shift ws) (sym (split os' (last_coord (take used out)) some' apart))

  pub rest_fills : FillsRest s next_out (used + 1) total
  rest_fills =
      record {
        fills =
            record {
              some = f.fills.some;
              few = f.fills.few;
              inside = omega (arith, length-set out used first, room_first);
              count = f.fills.count ∙ sym (ap length same_list);
              fits = omega (arith, length-set out used first, f.fills.fits);
            };
        used_some = omega arith;
        meets = last_first;
      }

  pub rest_put : over (merged_behind s (used + 1) next_out) next_out ≡ over (merged_behind s used out) out
  unfolding over
  rest_put =
      rw same_list
      (ap (λ (l : List ℕ). merged_behind s used out ++ l)
      (drop-set-lt (length (merged_behind s used out)) out used first (omega (arith, one_more, ap length (split os' (last_coord (take used out)) some' apart)))))

-- ---- a merged list in the front of an output, behind its own first run

shifted_none : (ws : List ℕ) → shifted 0 ws ≡ ws
unfolding shifted
shifted_none [] = refl
shifted_none (w ∷ ws) = ap₂ (λ (x : ℕ) (l : List ℕ). x ∷ l) (ap (λ (o : ℕ). pack o (coordinate w)) (add-zero (offset w)) ∙ pack_of w) (shifted_none ws)

pub merge_front : (os out : List ℕ) → 0 < length os → 0 < length out → take 1 (set out 0 (get_or os 0 0)) ++ shifted 0 (merge_behind (last_coord (take 1 (set out 0 (get_or os 0 0)))) os) ≡ merge os
unfolding merge
merge_front [] out h g = absurd (omega arith)
merge_front (w ∷ ws) [] h g = absurd (omega arith)
merge_front (w ∷ ws) (x ∷ out) h g = ap (λ (l : List ℕ). w ∷ l) (shifted_none _ ∙ behind_own w ws)

meets_front : (os out : List ℕ) → 0 < length os → 0 < length out → last_coord (take 1 (set out 0 (get_or os 0 0))) ≡ first_coord os
meets_front os [] h g = absurd (omega arith)
meets_front os (x ∷ out) h g = refl

module _ (os out : List ℕ) (some : 0 < length os) (room : length (merge os) ≤ length out) (first : ℕ) (is : first ≡ get_or os 0 0) where
  abbrev begun : List ℕ
  begun = set out 0 first

  front_is : take 1 begun ++ shifted 0 (merge_behind (last_coord (take 1 begun)) os) ≡ merge os
  front_is = rw is (merge_front os out some (omega (arith, room, merge_some os some)))

  pub front_count : length (merge os) ≡ length (take 1 begun ++ shifted 0 (merge_behind (last_coord (take 1 begun)) os))
  front_count = sym (ap length front_is)

  pub front_room : (1 ≤ length begun) × (length (merge os) ≤ length begun)
  front_room = (omega (arith, length-set out 0 first, room, merge_some os some), omega (arith, length-set out 0 first, room))

  pub front_meets : last_coord (take 1 begun) ≡ first_coord os
  front_meets = rw is (meets_front os out some (omega (arith, room, merge_some os some)))

  pub front_put : over (take 1 begun ++ shifted 0 (merge_behind (last_coord (take 1 begun)) os)) begun ≡ over (merge os) out
  unfolding over
  front_put = rw front_is (ap (λ (l : List ℕ). merge os ++ l) (drop-set-lt (length (merge os)) out 0 first (merge_some os some)))

-- ---- a list without equal neighbours

paste_over : (used : ℕ) (out xs : List ℕ) (j : ℕ) → used ≤ length out → length xs ≡ j → paste out used xs j ≡ over (take used out ++ xs) out
unfolding over
paste_over used out xs j h e =
    let l : length (take used out ++ xs) ≡ used + j = length-append (take used out) xs ∙ omega (arith, length-take-le used out h, e) in
    ap₂ (λ (ys : List ℕ) (k : ℕ). (take used out ++ ys) ++ drop k out) (take_all j xs (omega arith)) (sym l)

module _ (s : Shifted) (out : List ℕ) (used total : ℕ) (drops : Bool) (f : FillsAll s out used drops total) (whole : length (merge (list_of s.list)) ≡ length s.list.runs.now) where
  abbrev ws : List ℕ
  ws = list_of s.list

  -- only its first run may be left out
  all_stand : merge_behind (last_coord (take used out)) ws ≡ drop (from_bool drops) ws
  all_stand =
      behind_first (last_coord (take used out)) ws
      ∙ ap₂ (λ (k : ℕ) (l : List ℕ). drop k l) (sym (skip_is (last_coord (take used out)) ws drops f.told)) (merge_same ws (merge_whole ws (whole ∙ sym (os_long s))))

  left_long : length (shifted s.shift (drop (from_bool drops) ws)) ≡ length s.list.runs.now - from_bool drops
  left_long = length_shifted s.shift (drop (from_bool drops) ws) ∙ length-drop (from_bool drops) ws ∙ ap (λ (k : ℕ). k - from_bool drops) (os_long s)

  pub plain_room : used + (length s.list.runs.now - from_bool drops) ≤ length out
  plain_room =
      omega (
        arith,
        f.fills.count,
        f.fills.fits,
        length-append (take used out) (shifted s.shift (merge_behind (last_coord (take used out)) ws)),
        length-take-le used out f.fills.inside,
        length_shifted s.shift (merge_behind (last_coord (take used out)) ws),
        ap length all_stand,
        length_shifted s.shift (drop (from_bool drops) ws),
        left_long,
      )

  pub plain_put : paste out used (shifted s.shift (drop (from_bool drops) ws)) (length s.list.runs.now - from_bool drops) ≡ over (merged_behind s used out) out
  plain_put = paste_over used out (shifted s.shift (drop (from_bool drops) ws)) (length s.list.runs.now - from_bool drops) f.fills.inside left_long ∙ ap (λ (l : List ℕ). over (take used out ++ shifted s.shift l) out) (sym all_stand)
