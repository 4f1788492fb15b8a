-- Laws of the cursor over the ids that a set codes as distances.
use Prim.Native.Nat.{ℕ, zero, suc, ◌+◌, ◌-◌, ◌≤◌, ◌<◌}
use mathlib.Core.Path.{◌≡◌, refl, sym, ap, ◌∙◌, subst}
use mathlib.Core.Bool.{Bool, true, false, not}
use mathlib.Core.List.{List, [], ◌∷◌, ◌++◌, map, append_assoc, append-nil}
use native.Mathlib.Numerals.{add-one}
use native.Mathlib.Decide.{ℕ_discrete, dec_lt}
use native.Mathlib.Nat.{le_refl}
use native.Mathlib.Omega.{arith}
use lib.ListN.{length, drop, get_or, replicate, length-append, length-drop, drop_of_length-le}
use lib.Seq.{drop-cons, drop-drop, drop_at, get_or-drop}
use lib.Dec.{eqb}
use borrow.Author.Tests.{eq-eqb, ne_eqb}
use Rattle.codec.specs.Bits.{digit, low_bits}
use Rattle.codec.specs.Codes.{gamma, delta, high_bit, high_in, got, read_delta}
use Rattle.codec.specs.Sets.{Within, map_bits, ids_of, absent, gap_bits}
use Rattle.codec.specs.Inside.Gaps.{coded_ids, absent_from, coded_from, numbers, Ahead, up_in, Skipped, Gave, GaveEight, bits_from}
use Rattle.codec.specs.declared.gaps.Cursor.{Cursor}
use Rattle.codec.specs.declared.gaps.NextId.{NextId}
use Rattle.std.specs.Prelude.{Some, None}
use Rattle.codec.proofs.Laws.Codes.{delta_read}

-- ---- ids that ascend

-- the id at a place, and those behind it
pub head_within : (ids : List ℕ) (N i from : ℕ) → i < length ids → Within from N (drop i ids) → (from ≤ get_or ids i 0) × (get_or ids i 0 < N) × Within (get_or ids i 0 + 1) N (drop (i + 1) ids)
head_within ids N i from h w = subst (Within from N) (drop-cons ids i 0 h ∙ ap (λ (n : ℕ). get_or ids i 0 ∷ drop n ids) (sym (add-one i))) w

-- the id at a place is that far up at least
within_at : (xs : List ℕ) (from N j : ℕ) → Within from N xs → j < length xs → from + j ≤ get_or xs j 0
within_at [] from N j w h = absurd (omega arith)
within_at (x ∷ xs) from N zero w h = omega (arith, w.0)
within_at (x ∷ xs) from N (suc j) w h = omega (arith, w.0, within_at xs (x + 1) N j w.2 (omega arith))

-- where one is no further up, the first is `from`
up_back : (xs : List ℕ) (from N j : ℕ) → Within from N xs → j < length xs → get_or xs j 0 ≡ from + j → get_or xs 0 0 ≡ from
up_back [] from N j w h e = absurd (omega arith)
up_back (x ∷ xs) from N zero w h e = omega arith
up_back (x ∷ xs) from N (suc j) w h e = omega (arith, w.0, within_at xs (x + 1) N j w.2 (omega arith))

-- where `from` is not the first, all are above it
pub within_past : (xs : List ℕ) (from N : ℕ) → Within from N xs → (0 < length xs → get_or xs 0 0 ≡ from → ⊥) → Within (from + 1) N xs
within_past [] from N w h = tt
within_past (x ∷ xs) from N w h = (omega (arith, w.0, h (omega arith)), w.1, w.2)

-- ---- the ids that are not among these

module _ (N from : ℕ) (xs : List ℕ) where
  absent_present : from < N → absent_from from (N - from) (from ∷ xs) ≡ absent_from (from + 1) (N - (from + 1)) xs
  unfolding absent_from map_bits ids_of
  absent_present h =
      let n : N - from ≡ suc (N - (from + 1)) = omega arith in
      rw (n, eq-eqb from from refl)

  pub absent_next : from < N → Within (from + 1) N xs → absent_from from (N - from) xs ≡ from ∷ absent_from (from + 1) (N - (from + 1)) xs
  unfolding absent_from map_bits ids_of
  absent_next h w = let n : N - from ≡ suc (N - (from + 1)) = omega arith in rw n (go xs w)
    where
      go : (ys : List ℕ) → Within (from + 1) N ys → absent_from from (suc (N - (from + 1))) ys ≡ from ∷ absent_from (from + 1) (N - (from + 1)) ys
      go [] w = refl
      go (y ∷ ys) w = rw (ne_eqb from y (λ e. omega (arith, w.0, e)))

  pub absent_end : N ≤ from → absent_from from (N - from) xs ≡ []
  unfolding absent_from map_bits ids_of
  absent_end h = let n : N - from ≡ 0 = omega arith in rw n

-- ids whose last is as far up as their count go up by one
record Run (N from k : ℕ) (xs : List ℕ) : Type 0 where
  pub below : from + k ≤ N
  pub left : Within (from + k) N (drop k xs)
  pub same : absent_from from (N - from) xs ≡ absent_from (from + k) (N - (from + k)) (drop k xs)

run : (k : ℕ) (N from : ℕ) (xs : List ℕ) → Within from N xs → k < length xs → get_or xs k 0 ≡ from + k → Run N from (suc k) xs
run k N from [] w h e = absurd (omega arith)
run zero N from (x ∷ xs) w h e =
    let s : x ≡ from = omega arith in
    let t : from + 1 ≡ from + suc 0 = omega arith in
    record {
      below = omega (arith, w.1);
      left = subst (λ (n : ℕ). Within n N xs) (ap (λ (n : ℕ). n + 1) s) w.2;
      same = ap (λ (n : ℕ). absent_from from (N - from) (n ∷ xs)) s ∙ absent_present N from xs (omega (arith, w.1));
    }
run (suc k) N from (x ∷ xs) w h e =
    let s : x ≡ from = omega (arith, w.0, within_at xs (x + 1) N k w.2 (omega arith)) in
    let v : Within (from + 1) N xs = subst (λ (n : ℕ). Within n N xs) (ap (λ (n : ℕ). n + 1) s) w.2 in
    let r = run k N (from + 1) xs v (omega arith) (omega arith) in
    let n : from + 1 + suc k ≡ from + suc (suc k) = omega arith in
    record {
      below = omega (arith, r.below);
      left = subst (λ (m : ℕ). Within m N (drop (suc k) xs)) n r.left;
      same = ap (λ (m : ℕ). absent_from from (N - from) (m ∷ xs)) s ∙ absent_present N from xs (omega (arith, w.1)) ∙ r.same ∙ ap (λ (m : ℕ). absent_from m (N - m) (drop (suc k) xs)) n;
    }

-- one id more
pub up_next : (ids : List ℕ) (i from w : ℕ) → up_in ids i from w + digit (eqb (get_or ids (i + w) 0) (from + w)) ≡ up_in ids i from (w + 1)
unfolding up_in
up_next ids i from w = rw (add-one w)

module _ (N : ℕ) (ids : List ℕ) (i from : ℕ) where
  pub skipped_none : Ahead N ids (record { i = i; from = from }) → Skipped N ids i from 0
  skipped_none a =
      let p : i ≡ i + 0 = omega arith in
      let q : from ≡ from + 0 = omega arith in
      record {
        inside = omega (arith, a.inside);
        below = omega (arith, a.below);
        left = subst (λ (n : ℕ). Within n N (drop (i + 0) ids)) q (subst (λ (n : ℕ). Within from N (drop n ids)) p a.left);
        same = ap (λ (n : ℕ). absent_from from (N - from) (drop n ids)) p ∙ ap (λ (n : ℕ). absent_from n (N - n) (drop (i + 0) ids)) q;
      }

  first_at : (j : ℕ) → get_or (drop j ids) 0 0 ≡ get_or ids j 0
  first_at j = let z : j + 0 ≡ j = omega arith in get_or-drop j ids 0 0 ∙ ap (λ (n : ℕ). get_or ids n 0) z

  -- more of them, as far as an id that is as far up as it is behind
  pub skipped_more : (k m : ℕ) → Skipped N ids i from k → k < m → i + m ≤ length ids → get_or ids (i + m - 1) 0 ≡ from + m - 1 → Skipped N ids i from m
  skipped_more k m s h inside up =
      let xs : List ℕ = drop (i + k) ids in
      let j : ℕ = m - k - 1 in
      let p : i + k + suc j ≡ i + m = omega arith in
      let q : from + k + suc j ≡ from + m = omega arith in
      let l : j < length xs = simp length-drop (omega arith) in
      let t : i + k + j ≡ i + m - 1 = omega arith in
      let x : get_or xs j 0 ≡ from + k + j = get_or-drop (i + k) ids j 0 ∙ ap (λ (n : ℕ). get_or ids n 0) t ∙ omega arith in
      let r = run j N (from + k) xs s.left l x in
      let d : drop (suc j) xs ≡ drop (i + m) ids = drop-drop (suc j) (i + k) ids ∙ ap (λ (n : ℕ). drop n ids) p in
      record {
        inside = inside;
        below = omega (arith, r.below);
        left = subst (λ (n : ℕ). Within n N (drop (i + m) ids)) q (subst (Within (from + k + suc j) N) d r.left);
        same = s.same ∙ r.same ∙ ap (λ (l : List ℕ). absent_from (from + k + suc j) (N - (from + k + suc j)) l) d ∙ ap (λ (n : ℕ). absent_from n (N - n) (drop (i + m) ids)) q;
      }

  pub skipped_one : (k : ℕ) → Skipped N ids i from k → i + k < length ids → get_or ids (i + k) 0 ≡ from + k → Skipped N ids i from (k + 1)
  skipped_one k s h up = let n : i + (k + 1) - 1 ≡ i + k = omega arith in skipped_more k (k + 1) s (omega arith) (omega arith) (ap (λ (m : ℕ). get_or ids m 0) n ∙ up ∙ omega arith)

  pub skipped_eight : (k : ℕ) → Skipped N ids i from k → i + k + 8 ≤ length ids → get_or ids (i + k + 7) 0 ≡ from + k + 7 → Skipped N ids i from (k + 8)
  skipped_eight k s h up = let n : i + (k + 8) - 1 ≡ i + k + 7 = omega arith in skipped_more k (k + 8) s (omega arith) (omega arith) (ap (λ (m : ℕ). get_or ids m 0) n ∙ up ∙ omega arith)

  -- and no more
  pub skipped_all : (k : ℕ) → Skipped N ids i from k → (i + k < length ids → get_or ids (i + k) 0 ≡ from + k → ⊥) → Within (from + k + 1) N (drop (i + k) ids)
  skipped_all k s other = within_past (drop (i + k) ids) (from + k) N s.left (λ h x. other (omega (arith, h, length-drop (i + k) ids)) (sym (first_at (i + k)) ∙ x))

  -- of w ids, those that are as far up as they are behind are the first ones
  record Counted (k w c : ℕ) : Type 0 where
    pub few : c ≤ w
    pub are : Skipped N ids i from (k + c)
    pub no_more : c < w → get_or ids (i + (k + c)) 0 ≡ from + (k + c) → ⊥

  module _ (k w c : ℕ) (inside : i + k + suc w ≤ length ids) (so : Counted k w c) where
    counted_up : get_or ids (i + k + w) 0 ≡ from + k + w → Counted k (suc w) (c + 1)
    counted_up up =
        let n : i + (k + c) + (w - c) ≡ i + k + w = omega (arith, so.few) in
        let far : get_or (drop (i + (k + c)) ids) (w - c) 0 ≡ from + (k + c) + (w - c) = get_or-drop (i + (k + c)) ids (w - c) 0 ∙ ap (λ (m : ℕ). get_or ids m 0) n ∙ up ∙ omega (arith, so.few) in
        let first : get_or ids (i + (k + c)) 0 ≡ from + (k + c) =
        sym (first_at (i + (k + c))) ∙ up_back (drop (i + (k + c)) ids) (from + (k + c)) N (w - c) so.are.left (simp length-drop (omega (arith, so.few))) far
        in
        let all : c ≡ w = same first (dec_lt c w) in
        let m : i + (k + (c + 1)) - 1 ≡ i + k + w = omega arith in
        record {
          few = omega arith;
          are = skipped_more (k + c) (k + (c + 1)) so.are (omega arith) (omega arith) (ap (λ (m : ℕ). get_or ids m 0) m ∙ up ∙ omega arith);
          no_more = λ l x. omega arith;
        }
      where
        same : get_or ids (i + (k + c)) 0 ≡ from + (k + c) → Dec (c < w) → c ≡ w
        same first (yes l) = absurd (so.no_more l first)
        same first (no l) = omega (arith, so.few)

    counted_else : (get_or ids (i + k + w) 0 ≡ from + k + w → ⊥) → Counted k (suc w) (c + 0)
    counted_else other =
        let z : c ≡ c + 0 = omega arith in
        subst (Counted k (suc w)) z (record {
          few = omega (arith, so.few);
          are = so.are;
          no_more = λ l x. last x (dec_lt c w);
        })
      where
        last : get_or ids (i + (k + c)) 0 ≡ from + (k + c) → Dec (c < w) → ⊥
        last x (yes l) = so.no_more l x
        last x (no l) =
            let n : i + k + w ≡ i + (k + c) = omega (arith, so.few) in
            other (ap (λ (m : ℕ). get_or ids m 0) n ∙ x ∙ omega (arith, so.few))

  counted : (k w : ℕ) → Skipped N ids i from k → i + k + w ≤ length ids → Counted k w (up_in ids (i + k) (from + k) w)
  unfolding up_in
  counted k zero s h = let z : k ≡ k + 0 = omega arith in record { few = omega arith; are = subst (Skipped N ids i from) z s; no_more = λ l x. omega arith }
  counted k (suc w) s h = step (counted k w s (omega arith)) (ℕ_discrete (get_or ids (i + k + w) 0) (from + k + w))
    where
      step : Counted k w (up_in ids (i + k) (from + k) w) → Dec (get_or ids (i + k + w) 0 ≡ from + k + w) → Counted k (suc w) (up_in ids (i + k) (from + k) w + digit (eqb (get_or ids (i + k + w) 0) (from + k + w)))
      step d (yes e) = rw (eq-eqb (get_or ids (i + k + w) 0) (from + k + w) e) (counted_up k w (up_in ids (i + k) (from + k) w) h d e)
      step d (no e) = rw (ne_eqb (get_or ids (i + k + w) 0) (from + k + w) e) (counted_else k w (up_in ids (i + k) (from + k) w) h d e)

  -- where the last of eight is further up, that many go up, and no more
  pub counted_all : (k : ℕ) → Skipped N ids i from k → i + k + 8 ≤ length ids → (get_or ids (i + k + 7) 0 ≡ from + k + 7 → ⊥) → (c : ℕ) → c ≡ up_in ids (i + k) (from + k) 8
      → Skipped N ids i from (k + c) × Within (from + (k + c) + 1) N (drop (i + (k + c)) ids)
  unfolding up_in
  counted_all k s h other c e =
      let d = counted k 7 s (omega arith) in
      let f = counted_else k 7 (up_in ids (i + k) (from + k) 7) h d other in
      let n : c ≡ up_in ids (i + k) (from + k) 7 + 0 = e ∙ ap (λ (b : Bool). up_in ids (i + k) (from + k) 7 + digit b) (ne_eqb (get_or ids (i + k + 7) 0) (from + k + 7) other) in
      subst (λ (x : ℕ). Skipped N ids i from (k + x) × Within (from + (k + x) + 1) N (drop (i + (k + x)) ids)) (sym n) (f.are, skipped_all (k + (up_in ids (i + k) (from + k) 7 + 0)) f.are (λ l x. f.no_more (omega (arith, d.few)) x))

-- ---- the ids yet to give

module _ (N : ℕ) (ids : List ℕ) (c : Cursor) where
  pub gave_absent : (k : ℕ) → Skipped N ids c.i c.from k → Within (c.from + k + 1) N (drop (c.i + k) ids) → c.from + k < N → Gave true N ids c (Some (record { id = c.from + k; next = record { i = c.i + k; from = c.from + k + 1 } }))
  unfolding coded_from
  gave_absent k s w h = (
    s.same ∙ absent_next N (c.from + k) (drop (c.i + k) ids) h w,
    omega arith,
    h,
    refl,
    record { inside = s.inside; below = omega arith; left = w },
  )

  pub gave_no_absent : (k : ℕ) → Skipped N ids c.i c.from k → N ≤ c.from + k → Gave true N ids c None
  unfolding coded_from
  gave_no_absent k s h = s.same ∙ absent_end N (c.from + k) (drop (c.i + k) ids) h

  pub gave_id : Ahead N ids c → c.i < length ids → Gave false N ids c (Some (record { id = get_or ids c.i 0; next = record { i = c.i + 1; from = get_or ids c.i 0 + 1 } }))
  unfolding coded_from
  gave_id a h =
      let w = head_within ids N c.i c.from h a.left in (
        drop-cons ids c.i 0 h ∙ ap (λ (n : ℕ). get_or ids c.i 0 ∷ drop n ids) (sym (add-one c.i)),
        w.0,
        w.1,
        refl,
        record { inside = omega arith; below = omega (arith, w.1); left = w.2 },
      )

  pub gave_no_id : length ids ≤ c.i → Gave false N ids c None
  unfolding coded_from
  gave_no_id h = drop_of_length-le ids h

-- ---- eight ids at once

-- ids whose last is as far up as their count are numbers that go up by one
run_are : (k N from : ℕ) (xs : List ℕ) → Within from N xs → k < length xs → get_or xs k 0 ≡ from + k → xs ≡ numbers from (suc k) ++ drop (suc k) xs
unfolding numbers
run_are k N from [] w h e = absurd (omega arith)
run_are zero N from (x ∷ xs) w h e = let s : x ≡ from = omega arith in ap (λ (n : ℕ). n ∷ xs) s
run_are (suc k) N from (x ∷ xs) w h e =
    let s : x ≡ from = omega (arith, w.0, within_at xs (x + 1) N k w.2 (omega arith)) in
    let v : Within (from + 1) N xs = subst (λ (n : ℕ). Within n N xs) (ap (λ (n : ℕ). n + 1) s) w.2 in
    ap (λ (n : ℕ). n ∷ xs) s ∙ ap (λ (l : List ℕ). from ∷ l) (run_are k N (from + 1) xs v (omega arith) (omega arith))

-- ids that all lie further up
within_from : (xs : List ℕ) (from to N : ℕ) → Within from N xs → (0 < length xs → to ≤ get_or xs 0 0) → Within to N xs
within_from [] from to N w h = tt
within_from (x ∷ xs) from to N w h = (h (omega arith), w.1, w.2)

within_less : (xs : List ℕ) (from to N : ℕ) → from ≤ to → Within to N xs → Within from N xs
within_less [] from to N h w = tt
within_less (x ∷ xs) from to N h w = (omega (arith, w.0), w.1, w.2)

-- where the next id lies k further up, the k numbers before it are absent
absent_run : (k N from : ℕ) (xs : List ℕ) → from + k ≤ N → Within (from + k) N xs → absent_from from (N - from) xs ≡ numbers from k ++ absent_from (from + k) (N - (from + k)) xs
unfolding numbers
absent_run zero N from xs h w = let z : from ≡ from + 0 = omega arith in ap (λ (n : ℕ). absent_from n (N - n) xs) z
absent_run (suc k) N from xs h w =
    let n : from + 1 + k ≡ from + suc k = omega arith in
    absent_next N from xs (omega arith) (within_less xs (from + 1) (from + suc k) N (omega arith) w)
    ∙ ap (λ (l : List ℕ). from ∷ l) (absent_run k N (from + 1) xs (omega arith) (subst (λ (m : ℕ). Within m N xs) (sym n) w) ∙ ap (λ (m : ℕ). numbers (from + 1) k ++ absent_from m (N - m) xs) n)

module _ (N : ℕ) (ids : List ℕ) (c : Cursor) (a : Ahead N ids c) where
  pub eight_ids : c.i + 8 ≤ length ids → get_or ids (c.i + 7) 0 ≡ c.from + 7 → GaveEight false N ids c (Some (record { i = c.i + 8; from = c.from + 8 }))
  unfolding coded_from
  eight_ids h up =
      let xs : List ℕ = drop c.i ids in
      let l : 7 < length xs = simp length-drop (omega arith) in
      let x : get_or xs 7 0 ≡ c.from + 7 = get_or-drop c.i ids 7 0 ∙ up in
      let r = run 7 N c.from xs a.left l x in
      let d : drop 8 xs ≡ drop (c.i + 8) ids = drop-drop 8 c.i ids in
      (run_are 7 N c.from xs a.left l x ∙ ap (λ (l : List ℕ). numbers c.from 8 ++ l) d, refl, record { inside = h; below = r.below; left = subst (Within (c.from + 8) N) d r.left })

  pub eight_absent : c.from + 8 ≤ N → (c.i < length ids → c.from + 8 ≤ get_or ids c.i 0) → GaveEight true N ids c (Some (record { i = c.i; from = c.from + 8 }))
  unfolding coded_from
  eight_absent h up =
      let xs : List ℕ = drop c.i ids in
      let w : Within (c.from + 8) N xs = within_from xs c.from (c.from + 8) N a.left (λ l. subst (λ (n : ℕ). c.from + 8 ≤ n) (sym (first_at N ids c.i c.from c.i)) (up (omega (arith, l, length-drop c.i ids)))) in
      (absent_run 8 N c.from xs h w, refl, record { inside = a.inside; below = h; left = w })

-- each is coded by a single one
ones_bits : (k from : ℕ) (xs : List ℕ) → gap_bits from (numbers from k ++ xs) ≡ replicate k true ++ gap_bits (from + k) xs
unfolding gap_bits numbers delta gamma high_bit high_in low_bits
ones_bits zero from xs = let z : from ≡ from + 0 = omega arith in ap (λ (n : ℕ). gap_bits n xs) z
ones_bits (suc k) from xs =
    let z : from - from ≡ 0 = omega arith in
    let n : from + 1 + k ≡ from + suc k = omega arith in
    ap (λ (v : ℕ). delta v ++ gap_bits (from + 1) (numbers (from + 1) k ++ xs)) z ∙ ap (λ (l : List Bool). true ∷ l) (ones_bits k (from + 1) xs ∙ ap (λ (m : ℕ). replicate k true ++ gap_bits m xs) n)

pub eight_bits : (dense : Bool) (N : ℕ) (ids : List ℕ) (c next : Cursor) → GaveEight dense N ids c (Some next) → bits_from dense N ids c ≡ low_bits 8 255 ++ bits_from dense N ids next
unfolding low_bits
eight_bits dense N ids c next g =
    ap (gap_bits c.from) g.0 ∙ ones_bits 8 c.from (coded_from dense N ids next) ∙ ap (λ (n : ℕ). replicate 8 true ++ gap_bits n (coded_from dense N ids next)) (sym g.1)

-- the bits of the next id, and of those behind it
pub id_bits : (dense : Bool) (N : ℕ) (ids : List ℕ) (c : Cursor) (id : ℕ) (next : Cursor) → Gave dense N ids c (Some (record { id = id; next = next })) → bits_from dense N ids c ≡ delta (id - c.from) ++ bits_from dense N ids next
unfolding gap_bits
id_bits dense N ids c id next gave = ap (gap_bits c.from) gave.0 ∙ ap (λ (n : ℕ). delta (id - c.from) ++ gap_bits n (coded_from dense N ids next)) (sym gave.3)

pub no_bits : (dense : Bool) (N : ℕ) (ids : List ℕ) (c : Cursor) → Gave dense N ids c None → bits_from dense N ids c ≡ []
unfolding gap_bits
no_bits dense N ids c e = ap (gap_bits c.from) e

module _ (dense : Bool) (N : ℕ) (ids : List ℕ) (c : Cursor) (first : NextId) (gave : Gave dense N ids c (Some first)) where
  -- the bits of the last id
  pub last_bits : Gave dense N ids first.next None → bits_from dense N ids c ≡ delta (first.id - c.from)
  last_bits e = id_bits dense N ids c first.id first.next gave ∙ ap (λ (l : List Bool). delta (first.id - c.from) ++ l) (no_bits dense N ids first.next e) ∙ append-nil (delta (first.id - c.from))

  -- of two ids
  pub two_bits : (second : NextId) → Gave dense N ids first.next (Some second) → bits_from dense N ids c ≡ (delta (first.id - c.from) ++ delta (second.id - first.next.from)) ++ bits_from dense N ids second.next
  two_bits second more =
      id_bits dense N ids c first.id first.next gave ∙ ap (λ (l : List Bool). delta (first.id - c.from) ++ l) (id_bits dense N ids first.next second.id second.next more)
      ∙ sym (append_assoc (delta (first.id - c.from)) (delta (second.id - first.next.from)) (bits_from dense N ids second.next))

-- where all are passed, none are left
module _ (N : ℕ) (ids : List ℕ) where
  passed : drop (length ids) ids ≡ []
  passed = drop_of_length-le ids (le_refl (length ids))

  pub end_ahead : Ahead N ids (record { i = length ids; from = N })
  end_ahead = record { inside = le_refl (length ids); below = le_refl N; left = subst (Within N N) (sym passed) tt }

  pub end_bits : (dense : Bool) → bits_from dense N ids (record { i = length ids; from = N }) ≡ []
  unfolding gap_bits coded_from
  end_bits false = ap (gap_bits N) passed
  end_bits true = ap (gap_bits N) (absent_end N N (drop (length ids) ids) (le_refl N))

-- ---- the bits of a set's coded ids: those of the ids given, and those of the ids yet to give

pub record Coding (dense : Bool) (N : ℕ) (ids : List ℕ) (c : Cursor) (done : List Bool) : Type 0 where
  pub ahead : Ahead N ids c
  pub all : gap_bits 0 (coded_ids dense N ids) ≡ done ++ gap_bits c.from (coded_from dense N ids c)

coded_start : (dense : Bool) (N : ℕ) (ids : List ℕ) → coded_ids dense N ids ≡ coded_from dense N ids (record { i = 0; from = 0 })
unfolding coded_ids coded_from absent absent_from
coded_start false N ids = refl
coded_start true N ids = ap (λ (n : ℕ). ids_of 0 (map not (map_bits 0 n ids))) (all N)
  where
    all : (n : ℕ) → n ≡ n - 0
    all n = omega arith

module _ (dense : Bool) (N : ℕ) (ids : List ℕ) where
  pub coding_start : Within 0 N ids → Coding dense N ids (record { i = 0; from = 0 }) []
  coding_start w = record {
    ahead = record { inside = omega arith; below = omega arith; left = w };
    all = ap (gap_bits 0) (coded_start dense N ids);
  }

  module _ (c : Cursor) (done : List Bool) (so : Coding dense N ids c done) where
    -- the bits of more ids
    pub coding_on : (next : Cursor) (bits : List Bool) → bits_from dense N ids c ≡ bits ++ bits_from dense N ids next → Ahead N ids next → Coding dense N ids next (done ++ bits)
    coding_on next bits e ahead = record { ahead = ahead; all = so.all ∙ ap (λ (l : List Bool). done ++ l) e ∙ sym (append_assoc done bits (bits_from dense N ids next)) }

    -- there is room for those that are left
    pub coding_room : length done + length (bits_from dense N ids c) ≤ length (gap_bits 0 (coded_ids dense N ids))
    coding_room = omega (arith, ap length so.all ∙ length-append done (bits_from dense N ids c))

    pub coding_end : bits_from dense N ids c ≡ [] → gap_bits 0 (coded_ids dense N ids) ≡ done
    coding_end e = so.all ∙ ap (λ (l : List Bool). done ++ l) e ∙ append-nil done

    module _ (id : ℕ) (next : Cursor) (gave : Gave dense N ids c (Some (record { id = id; next = next }))) where
      pub coding_next : Coding dense N ids next (done ++ delta (id - c.from))
      coding_next = coding_on next (delta (id - c.from)) (id_bits dense N ids c id next gave) gave.4

      -- where the bits of all ids stand behind one another, the next code is read
      pub coding_read : (bits left rest : List Bool) → bits ≡ done ++ left → bits ≡ gap_bits 0 (coded_ids dense N ids) ++ rest → (more : List Bool) × (read_delta left ≡ got (id - c.from) more)
      coding_read bits left rest p q =
          let more : List Bool = gap_bits next.from (coded_from dense N ids next) ++ rest in
          let e : done ++ left ≡ done ++ (delta (id - c.from) ++ more) =
          sym p ∙ q ∙ ap (λ (l : List Bool). l ++ rest) coding_next.all
          ∙ append_assoc (done ++ delta (id - c.from)) (gap_bits next.from (coded_from dense N ids next)) rest ∙ append_assoc done (delta (id - c.from)) more
          in
          let l : left ≡ delta (id - c.from) ++ more = sym (drop_at done left (length done) refl) ∙ ap (drop (length done)) e ∙ drop_at done (delta (id - c.from) ++ more) (length done) refl in
          (more, ap read_delta l ∙ delta_read (id - c.from) more)

-- ---- what is left of a list, at its next

pub record NextOf (xs : List ℕ) (j x : ℕ) (rest : List ℕ) : Type 0 where
  pub inside : j < length xs
  pub is : get_or xs j 0 ≡ x
  pub behind : rest ≡ drop (j + 1) xs

pub next_of : (xs : List ℕ) (j x : ℕ) (rest : List ℕ) → drop j xs ≡ x ∷ rest → NextOf xs j x rest
next_of xs j x rest e =
    let z : j + 0 ≡ j = omega arith in
    record {
      inside = omega (arith, length-drop j xs, ap length e);
      is = ap (λ (n : ℕ). get_or xs n 0) (sym z) ∙ sym (get_or-drop j xs 0 0) ∙ ap (λ (l : List ℕ). get_or l 0 0) e;
      behind = sym (ap (drop 1) e) ∙ drop-drop 1 j xs;
    }
