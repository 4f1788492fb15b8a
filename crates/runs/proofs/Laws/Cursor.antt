-- Laws of a turned cycle's steps: what each gives, and what it makes of the runs ahead.
use Prim.Native.Nat.{ℕ, suc, ◌+◌, ◌-◌, ◌%◌, ◌≤◌, ◌<◌}
use mathlib.Core.Path.{◌≡◌, refl, sym, ap, ap₂, ◌∙◌, subst}
use mathlib.Core.Bool.{Bool, true, false}
use mathlib.Core.List.{List, [], ◌∷◌, ◌++◌}
use native.Mathlib.Omega.{arith}
use native.Mathlib.Numerals.{add-one}
use native.Mathlib.Decide.{dec_lt}
use borrow.Author.Tests.{lt-ltb, le-ltb}
use lib.ListN.{length, take, drop, get_or, replicate, drop_of_length-le, length-append, length-drop, take-append-drop}
use lib.Seq.{take-nil, drop-nil}
use Rattle.base.proofs.Tests.{when_yes, when_no}
use Rattle.runs.specs.Words.{offset, coordinate, pack}
use Rattle.runs.specs.Colours.{next, end_at, colours}
use Rattle.runs.specs.Inside.Lists.{Steady, Taken}
use Rattle.runs.specs.Reverse.{oriented}
use Rattle.runs.specs.Rotate.{turn_left, firsts, runs_at, merged, rotate_runs}
use Rattle.runs.specs.Inside.Cursor.{begins, merged_from, turned, second_round, step_start, step_colour, runs_from_step, Parted, GivesRun}
use Rattle.runs.specs.declared.turned.Part.{Part}
use Rattle.runs.proofs.Laws.Lists.{split_run, length_turn, turn_front, turn_back}
use Rattle.runs.proofs.Laws.Orders.{run_begins as begins-at, end_le, starts_zero}
use Rattle.runs.proofs.Laws.Colours.{length_colours, steady_long, steady_at}
use Rattle.runs.proofs.Laws.Reverse.{oriented_steady}
use Rattle.runs.proofs.Laws.Merged.{goes_on, gives, runs_merged, length_merged, length_from}

colour_first : (os : List ℕ) (j : ℕ) → j < length os → step_colour os j ≡ coordinate (get_or os j 0)
unfolding step_colour
colour_first os j h = when_yes _ _ _ (lt-ltb j (length os) h)

colour_second : (os : List ℕ) (j : ℕ) → length os ≤ j → step_colour os j ≡ coordinate (get_or os (j - length os) 0)
unfolding step_colour
colour_second os j h = when_no _ _ _ (le-ltb j (length os) h)

-- step j gives vertices of one colour
pub record Step (n p : ℕ) (os : List ℕ) (j : ℕ) : Type 0 where
  pub up : step_start n p os j ≤ step_start n p os (j + 1)
  pub inside : step_start n p os (j + 1) ≤ n
  pub vertices : drop (step_start n p os j) (turned n p os) ≡ replicate (step_start n p os (j + 1) - step_start n p os j) (step_colour os j) ++ drop (step_start n p os (j + 1)) (turned n p os)

module _ (n p : ℕ) (os : List ℕ) (s : Steady n os) (inside : p ≤ n) where
  start_first : (j : ℕ) → j < length os → step_start n p os j ≡ next n (drop j os) - p
  unfolding step_start
  start_first j h = when_yes _ _ _ (lt-ltb j (length os) h)

  start_second : (j : ℕ) → length os ≤ j → step_start n p os j ≡ second_round n p (next n (drop (j - length os) os))
  unfolding step_start
  start_second j h = when_no _ _ _ (le-ltb j (length os) h)

  start_first_end : (j : ℕ) → j < length os → step_start n p os (j + 1) ≡ end_at n os j - p
  start_first_end j h = go (dec_lt (j + 1) (length os))
    where
      go : Dec (j + 1 < length os) → step_start n p os (j + 1) ≡ end_at n os j - p
      go (yes g) = start_first (j + 1) g ∙ ap (λ (k : ℕ). next n (drop k os) - p) (add-one j)
      go (no g) =
          let z : next n os ≡ 0 = starts_zero n os s (omega arith) in
          let d : drop (suc j) os ≡ [] = drop_of_length-le os {i = suc j} (omega arith) in
          let e : end_at n os j ≡ n = ap (next n) d in
          let k : j + 1 - length os ≡ 0 = omega arith in
          let b : next n (drop (j + 1 - length os) os) ≡ 0 = ap (λ (i : ℕ). next n (drop i os)) k ∙ z in
          start_second (j + 1) (omega arith) ∙ omega arith

  start_second_end : (j : ℕ) → length os ≤ j → step_start n p os (j + 1) ≡ second_round n p (end_at n os (j - length os))
  start_second_end j h =
      let k : j + 1 - length os ≡ suc (j - length os) = omega arith in
      start_second (j + 1) (omega arith) ∙ ap (λ (i : ℕ). second_round n p (next n (drop i os))) k

  begin_le : (i : ℕ) → i < length os → next n (drop i os) ≤ end_at n os i
  begin_le i h = go (begins-at n os i h) (s.up i h)
    where
      go : next n (drop i os) ≡ offset (get_or os i 0) → offset (get_or os i 0) ≤ end_at n os i → next n (drop i os) ≤ end_at n os i
      go x y = omega arith

  long : 0 < length os → length (turned n p os) ≡ n
  long h = let l : length (colours n os) ≡ n = steady_long n os s h in length_turn p (colours n os) 0 (omega arith) ∙ l

  -- where every vertex between two places has one colour
  between : (a e d : ℕ) → 0 < length os → a ≤ e → e ≤ n → ((v : ℕ) → a ≤ v → v < e → get_or (turned n p os) v 0 ≡ d) → drop a (turned n p os) ≡ replicate (e - a) d ++ drop e (turned n p os)
  between a e d h u l same =
      let k : a + (e - a) ≡ e = omega arith in
      split_run (turned n p os) a (e - a) d 0 (omega (arith, long h)) (λ v x y. same v x (omega arith)) ∙ ap (λ (x : ℕ). replicate (e - a) d ++ drop x (turned n p os)) k

  step_first : (j : ℕ) → j < length os → Step n p os j
  step_first j h =
      let a : step_start n p os j ≡ next n (drop j os) - p = start_first j h in
      let z : step_start n p os (j + 1) ≡ end_at n os j - p = start_first_end j h in
      let o : next n (drop j os) ≤ end_at n os j = begin_le j h in
      let l : end_at n os j ≤ n = end_le n os j s.up in
      let long : length (colours n os) ≡ n = steady_long n os s (omega arith) in
      let same : (v : ℕ) → step_start n p os j ≤ v → v < step_start n p os (j + 1) → get_or (turned n p os) v 0 ≡ step_colour os j =
      λ v x y. turn_front p (colours n os) 0 (omega arith) v (omega arith) ∙ steady_at n os s (omega arith) j (p + v) h (omega arith) (omega arith) ∙ sym (colour_first os j h)
      in
      record { up = omega arith; inside = omega arith; vertices = between (step_start n p os j) (step_start n p os (j + 1)) (step_colour os j) (omega arith) (omega arith) (omega arith) same }

  second_up : (x y : ℕ) → x ≤ y → second_round n p x ≤ second_round n p y
  second_up x y h = omega arith

  second_in : (y : ℕ) → y ≤ n → second_round n p y ≤ n
  second_in y h = omega arith

  second_from : (x v : ℕ) → second_round n p x ≤ v → n - p ≤ v
  second_from x v h = omega arith

  second_low : (x y v : ℕ) → second_round n p x ≤ v → v < second_round n p y → x ≤ v - (n - p)
  second_low x y v h g = omega arith

  second_high : (y v : ℕ) → n - p ≤ v → v < second_round n p y → v - (n - p) < y
  second_high y v h g = omega arith

  second_vertex : (i d : ℕ) → i < length os → next n (drop i os) ≤ end_at n os i → end_at n os i ≤ n → d ≡ coordinate (get_or os i 0)
      → (v : ℕ) → second_round n p (next n (drop i os)) ≤ v → v < second_round n p (end_at n os i) → get_or (turned n p os) v 0 ≡ d
  second_vertex i d m o l g v x y =
      let long : length (colours n os) ≡ n = steady_long n os s (omega arith) in
      let k : v - (length (colours n os) - p) ≡ v - (n - p) = ap (λ (z : ℕ). v - (z - p)) long in
      let a : n - p ≤ v = second_from (next n (drop i os)) v x in
      let b : second_round n p (end_at n os i) ≤ n = second_in (end_at n os i) l in
      turn_back p (colours n os) 0 (rw long inside) v (rw long a) (rw long (less v (second_round n p (end_at n os i)) y b))
      ∙ ap (λ (z : ℕ). get_or (colours n os) z 0) k
      ∙ steady_at n os s (omega arith) i (v - (n - p)) m (second_low (next n (drop i os)) (end_at n os i) v x y) (second_high (end_at n os i) v a y) ∙ sym g
    where
      less : (v w : ℕ) → v < w → w ≤ n → v < n
      less v w h g = omega arith

  step_second : (j : ℕ) → length os ≤ j → j - length os < length os → Step n p os j
  step_second j h m =
      let i : ℕ = j - length os in
      let a : step_start n p os j ≡ second_round n p (next n (drop (j - length os) os)) = start_second j h in
      let z : step_start n p os (j + 1) ≡ second_round n p (end_at n os (j - length os)) = start_second_end j h in
      let o : next n (drop (j - length os) os) ≤ end_at n os (j - length os) = begin_le (j - length os) m in
      let l : end_at n os (j - length os) ≤ n = end_le n os (j - length os) s.up in
      let u : step_start n p os j ≤ step_start n p os (j + 1) = rw (a, z) (second_up _ _ o) in
      let c : step_start n p os (j + 1) ≤ n = rw z (second_in (end_at n os (j - length os)) l) in
      let same : (v : ℕ) → step_start n p os j ≤ v → v < step_start n p os (j + 1) → get_or (turned n p os) v 0 ≡ step_colour os j =
      λ v x y. second_vertex (j - length os) (step_colour os j) m o l (colour_second os j h) v (subst (λ (w : ℕ). w ≤ v) a x) (subst (λ (w : ℕ). v < w) z y)
      in
      record { up = u; inside = c; vertices = between (step_start n p os j) (step_start n p os (j + 1)) (step_colour os j) (omega arith) u c same }

  pub step : (j : ℕ) → j < length os + length os → Step n p os j
  step j h = go (dec_lt j (length os))
    where
      go : Dec (j < length os) → Step n p os j
      go (yes l) = step_first j l
      go (no l) = step_second j (omega arith) (omega arith)

  -- what the code finds of it
  pub part_first : (j b e d : ℕ) → j < length os → b ≡ offset (get_or os j 0) - p → e ≡ end_at n os j - p → d ≡ coordinate (get_or os j 0) → d < 1099511627776 → Parted n p os j (record { begin = b; end = e; colour = d })
  part_first j b e d h x f g w =
      record {
        starts = x ∙ ap (λ (y : ℕ). y - p) (sym (begins-at n os j h)) ∙ sym (start_first j h);
        ends = f ∙ sym (start_first_end j h);
        coloured = g ∙ sym (colour_first os j h);
        inside = subst (λ (y : ℕ). y ≤ n) (sym (f ∙ sym (start_first_end j h))) (step_first j h).inside;
        narrow = w;
      }

  pub part_second : (j b e d : ℕ) → length os ≤ j → j - length os < length os → b ≡ second_round n p (offset (get_or os (j - length os) 0)) → e ≡ second_round n p (end_at n os (j - length os)) → d ≡ coordinate (get_or os (j - length os) 0)
      → d < 1099511627776 → Parted n p os j (record { begin = b; end = e; colour = d })
  part_second j b e d h m x f g w =
      record {
        starts = x ∙ ap (second_round n p) (sym (begins-at n os (j - length os) m)) ∙ sym (start_second j h);
        ends = f ∙ sym (start_second_end j h);
        coloured = g ∙ sym (colour_second os j h);
        inside = subst (λ (y : ℕ). y ≤ n) (sym (f ∙ sym (start_second_end j h))) (step_second j h m).inside;
        narrow = w;
      }

  -- ---- what a step makes of the runs ahead

  pub pass_none : (j c : ℕ) → j < length os + length os → step_start n p os (j + 1) ≤ step_start n p os j → runs_from_step n p os j c ≡ runs_from_step n p os (j + 1) c
  unfolding runs_from_step
  pass_none j c h l = let e : step_start n p os j ≡ step_start n p os (j + 1) = omega (arith, (step j h).up) in ap (λ (x : ℕ). merged_from x c (drop x (turned n p os))) e

  pub pass_same : (j c : ℕ) → j < length os + length os → begins (step_start n p os j) c (step_colour os j) ≡ false → runs_from_step n p os j c ≡ runs_from_step n p os (j + 1) c
  unfolding runs_from_step
  pass_same j c h b = goes_on (turned n p os) (step_start n p os j) (step_start n p os (j + 1)) c (step_colour os j) (step j h).up (step j h).vertices b

  pub give : (j c : ℕ) → j < length os + length os → GivesRun n p os j c → runs_from_step n p os j c ≡ pack (step_start n p os j) (step_colour os j) ∷ runs_from_step n p os (j + 1) (step_colour os j)
  unfolding runs_from_step
  give j c h g = gives (turned n p os) (step_start n p os j) (step_start n p os (j + 1)) c (step_colour os j) (step j h).up (step j h).vertices g.0 g.1

  -- what it makes of them, as the code finds it
  module _ (j c : ℕ) (q : Part) (h : j < length os + length os) (part : Parted n p os j q) where
    pub gave : q.begin < q.end → begins q.begin c q.colour ≡ true → runs_from_step n p os j c ≡ pack q.begin q.colour ∷ runs_from_step n p os (j + 1) q.colour
    gave l b =
        let same : begins (step_start n p os j) c (step_colour os j) ≡ true = ap₂ (λ (x y : ℕ). begins x c y) (sym part.starts) (sym part.coloured) ∙ b in
        give j c h (omega (arith, part.starts, part.ends), same) ∙ ap₂ (λ (x y : ℕ). pack x y ∷ runs_from_step n p os (j + 1) y) (sym part.starts) (sym part.coloured)

    pub passed_none : q.end ≤ q.begin → runs_from_step n p os j c ≡ runs_from_step n p os (j + 1) c
    passed_none l = pass_none j c h (omega (arith, part.starts, part.ends))

    pub passed_same : begins q.begin c q.colour ≡ false → runs_from_step n p os j c ≡ runs_from_step n p os (j + 1) c
    passed_same b = pass_same j c h (ap₂ (λ (x y : ℕ). begins x c y) (sym part.starts) (sym part.coloured) ∙ b)

-- behind the last step
pub none_ahead : (n p : ℕ) (os : List ℕ) (j c : ℕ) → Steady n os → p ≤ n → length os + length os ≤ j → runs_from_step n p os j c ≡ []
unfolding runs_from_step colours merged_from
none_ahead n p [] j c s inside h = rw (drop-nil p, take-nil p, drop-nil (step_start n p [] j))
none_ahead n p (w ∷ ws) j c s inside h =
    let os : List ℕ = w ∷ ws in
    let k : ℕ = j - length os in
    let e : step_start n p os j ≡ second_round n p (next n (drop k os)) = start_second n p os s inside j (omega arith) in
    let d : drop k os ≡ [] = drop_of_length-le os {i = k} (omega arith) in
    let f : next n (drop k os) ≡ n = ap (next n) d in
    let g : step_start n p os j ≡ n = e ∙ omega arith in
    ap (merged_from (step_start n p os j) c) (drop_of_length-le (turned n p os) {i = step_start n p os j} (omega (arith, long n p os s inside (omega arith))))

-- ---- before the first step

none_of : (l : List ℕ) → length l ≡ 0 → l ≡ []
none_of [] e = refl
none_of (x ∷ l) e = absurd (omega arith)

turn_none : (p : ℕ) → turn_left p [] ≡ []
turn_none p = rw (drop-nil p, take-nil p)

-- before the first step it is the turned list
fresh_ahead : (n p : ℕ) (os : List ℕ) → Steady n os → p ≤ n → runs_from_step n p os 0 0 ≡ merged (turned n p os)
unfolding runs_from_step colours merged_from merged runs_at firsts
fresh_ahead n p [] s inside = none_ahead n p [] 0 0 s inside (omega arith) ∙ sym (ap merged (turn_none p))
fresh_ahead n p (w ∷ ws) s inside =
    let z : step_start n p (w ∷ ws) 0 ≡ 0 = start_first n p (w ∷ ws) s inside 0 (omega arith) ∙ omega (arith, s.first) in
    ap (λ (x : ℕ). merged_from x 0 (drop x (turned n p (w ∷ ws)))) z ∙ runs_merged (turned n p (w ∷ ws))

pub rotate_is : (n p pivot : ℕ) (r : Bool) (ws : List ℕ) → Taken n ws → p ≤ n → (0 < n → p ≡ pivot % n) → runs_from_step n p (oriented r n ws) 0 0 ≡ rotate_runs n pivot r ws
unfolding rotate_runs
rotate_is n p pivot r ws t l e = fresh_ahead n p (oriented r n ws) (oriented_steady r n ws t.small t.list) l ∙ go (dec_lt 0 n)
  where
    go : Dec (0 < n) → merged (turn_left p (colours n (oriented r n ws))) ≡ merged (turn_left (pivot % n) (colours n (oriented r n ws)))
    go (yes h) = ap (λ (k : ℕ). merged (turn_left k (colours n (oriented r n ws)))) (e h)
    go (no h) =
        let l : length (colours n (oriented r n ws)) ≡ n - next n (oriented r n ws) = length_colours n (oriented r n ws) (oriented_steady r n ws t.small t.list).up in
        let z : colours n (oriented r n ws) ≡ [] = none_of _ (l ∙ omega arith) in
        ap merged (ap (turn_left p) z ∙ turn_none p ∙ sym (turn_none (pivot % n)) ∙ ap (turn_left (pivot % n)) (sym z))

-- ---- the turned list

pub turn_long : (k : ℕ) (cs : List ℕ) → length (turn_left k cs) ≡ length cs
turn_long k cs = omega (arith, length-append (drop k cs) (take k cs), length-append (take k cs) (drop k cs), ap length (take-append-drop k cs))

-- it has no more runs than vertices
pub rotate_few : (n pivot : ℕ) (r : Bool) (ws : List ℕ) → Taken n ws → length (rotate_runs n pivot r ws) ≤ n
unfolding rotate_runs
rotate_few n pivot r ws t =
    let cs : List ℕ = colours n (oriented r n ws) in
    omega (arith, length_merged (turn_left (pivot % n) cs), turn_long (pivot % n) cs, length_colours n (oriented r n ws) (oriented_steady r n ws t.small t.list).up)

-- nor has what is ahead of a step
pub ahead_few : (n p : ℕ) (os : List ℕ) (j c : ℕ) → Steady n os → length (runs_from_step n p os j c) ≤ n
unfolding runs_from_step
ahead_few n p os j c s =
    let k : ℕ = step_start n p os j in
    omega (arith, length_from k c (drop k (turned n p os)), length-drop k (turned n p os), turn_long p (colours n os), length_colours n os s.up)
