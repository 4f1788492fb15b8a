-- A list that is reversed in its own place, from both ends to the middle.
use Prim.Native.Nat.{ℕ, suc, ◌+◌, ◌-◌, ◌≤◌, ◌<◌}
use mathlib.Core.Path.{◌≡◌, refl, sym, ap, ap₂, ◌∙◌, subst}
use mathlib.Core.List.{List}
use native.Mathlib.Omega.{arith}
use native.Mathlib.Decide.{dec_lt}
use lib.ListN.{length, get_or, set, length-set}
use lib.Seq.{get_or-set_same, get_or-set_other, ext_get_or}
use Rattle.runs.specs.Words.{offset, coordinate, pack}
use Rattle.runs.specs.Colours.{end_at}
use Rattle.runs.specs.Inside.Lists.{Taken}
use Rattle.runs.specs.Reverse.{reverse_runs}
use Rattle.runs.specs.Inside.Swap.{Swapped, FourFit, backed, four_back, put_four}
use Rattle.runs.proofs.Laws.Orders.{run_begins, end_le, offset_le}
use Rattle.runs.proofs.Laws.Reverse.{length_reversed, reversed_at}

module _ (n : ℕ) (ws xs : List ℕ) (tail i : ℕ) (s : Swapped n ws xs tail i) where
  pub swap_end : length ws ≤ i + i → xs ≡ reverse_runs n ws
  swap_end e = ext_get_or 0 xs (reverse_runs n ws) (s.long ∙ sym (length_reversed n ws)) (λ k h. go k h (dec_lt k i))
    where
      go : (k : ℕ) → k < length xs → Dec (k < i) → get_or xs k 0 ≡ get_or (reverse_runs n ws) k 0
      go k h (yes g) = s.low k g
      go k h (no g) = s.high k (omega arith) (omega (arith, s.long))

  module _ (x : ℕ) (x-is : x ≡ pack (n - tail) (coordinate (get_or xs (length ws - 1 - i) 0))) (more : i + i < length ws) where
    there : x ≡ get_or (reverse_runs n ws) i 0
    there =
        let k : ℕ = length ws - 1 - i in
        let m : get_or xs k 0 ≡ get_or ws k 0 = s.mid k (omega arith) (omega arith) in
        x-is ∙ ap₂ (λ (t w : ℕ). pack (n - t) (coordinate w)) s.tails m ∙ sym (reversed_at n ws i k (omega arith))

    pub swap_mid : length ws ≤ i + i + 1 → set xs i x ≡ reverse_runs n ws
    swap_mid e = ext_get_or 0 (set xs i x) (reverse_runs n ws) (length-set xs i x ∙ s.long ∙ sym (length_reversed n ws)) (λ k h. go k (subst (λ (z : ℕ). k < z) (length-set xs i x ∙ s.long) h) (dec_lt k i) (dec_lt i k))
      where
        go : (k : ℕ) → k < length ws → Dec (k < i) → Dec (i < k) → get_or (set xs i x) k 0 ≡ get_or (reverse_runs n ws) k 0
        go k h (yes g) d = get_or-set_other xs i k x 0 (λ q. omega arith) ∙ s.low k g
        go k h (no g) (yes f) = get_or-set_other xs i k x 0 (λ q. omega arith) ∙ s.high k (omega arith) h
        go k h (no g) (no f) = let q : k ≡ i = omega arith in ap (λ (z : ℕ). get_or (set xs i x) z 0) q ∙ get_or-set_same xs i x 0 (omega (arith, s.long)) ∙ there ∙ ap (λ (z : ℕ). get_or (reverse_runs n ws) z 0) (sym q)

    module _ (y : ℕ) (y-is : y ≡ pack (n - offset (get_or xs (i + 1) 0)) (coordinate (get_or xs i 0))) (two : i + i + 1 < length ws) where
      back : y ≡ get_or (reverse_runs n ws) (length ws - 1 - i) 0
      back =
          let a : get_or xs (i + 1) 0 ≡ get_or ws (i + 1) 0 = s.mid (i + 1) (omega arith) (omega arith) in
          let e : i + 1 ≡ suc i = omega arith in
          let o : offset (get_or xs (i + 1) 0) ≡ end_at n ws i = ap offset (a ∙ ap (λ (z : ℕ). get_or ws z 0) e) ∙ sym (run_begins n ws (suc i) (omega arith)) in
          let m : get_or xs i 0 ≡ get_or ws i 0 = s.mid i (omega arith) (omega arith) in
          y-is ∙ ap₂ (λ (t w : ℕ). pack (n - t) (coordinate w)) o m ∙ sym (reversed_at n ws (length ws - 1 - i) i (omega arith))

      at_k : get_or (set (set xs i x) (length ws - 1 - i) y) (length ws - 1 - i) 0 ≡ y
      at_k = get_or-set_same (set xs i x) (length ws - 1 - i) y 0 (subst (λ (z : ℕ). length ws - 1 - i < z) (sym (length-set xs i x ∙ s.long)) (omega arith))

      at_i : get_or (set (set xs i x) (length ws - 1 - i) y) i 0 ≡ x
      at_i = get_or-set_other (set xs i x) (length ws - 1 - i) i y 0 (λ q. omega arith) ∙ get_or-set_same xs i x 0 (omega (arith, s.long))

      at_else : (j : ℕ) → (j ≡ i → ⊥) → (j ≡ length ws - 1 - i → ⊥) → get_or (set (set xs i x) (length ws - 1 - i) y) j 0 ≡ get_or xs j 0
      at_else j h g = get_or-set_other (set xs i x) (length ws - 1 - i) j y 0 g ∙ get_or-set_other xs i j x 0 h

      swap_more : (next-tail : ℕ) → next-tail ≡ offset (get_or xs (length ws - 1 - i) 0) → Swapped n ws (set (set xs i x) (length ws - 1 - i) y) next-tail (i + 1)
      swap_more t e =
          record {
            long = length-set (set xs i x) (length ws - 1 - i) y ∙ length-set xs i x ∙ s.long;
            half = omega arith;
            low = λ j h. low j h (dec_lt j i);
            high = λ j h g. high j h g (dec_lt (length ws - 1 - i) j);
            mid = λ j h g. at_else j (λ q. omega arith) (λ q. omega arith) ∙ s.mid j (omega arith) (omega arith);
            tails = tails;
          }
        where
          low : (j : ℕ) → j < i + 1 → Dec (j < i) → get_or (set (set xs i x) (length ws - 1 - i) y) j 0 ≡ get_or (reverse_runs n ws) j 0
          low j h (yes g) = at_else j (λ q. omega arith) (λ q. omega arith) ∙ s.low j g
          low j h (no g) = let q : j ≡ i = omega arith in ap (λ (z : ℕ). get_or (set (set xs i x) (length ws - 1 - i) y) z 0) q ∙ at_i ∙ there ∙ ap (λ (z : ℕ). get_or (reverse_runs n ws) z 0) (sym q)

          high : (j : ℕ) → length ws - (i + 1) ≤ j → j < length ws → Dec (length ws - 1 - i < j) → get_or (set (set xs i x) (length ws - 1 - i) y) j 0 ≡ get_or (reverse_runs n ws) j 0
          high j h g (yes f) = at_else j (λ q. omega arith) (λ q. omega arith) ∙ s.high j (omega arith) g
          high j h g (no f) = let q : j ≡ length ws - 1 - i = omega arith in ap (λ (z : ℕ). get_or (set (set xs i x) (length ws - 1 - i) y) z 0) q ∙ at_k ∙ back ∙ ap (λ (z : ℕ). get_or (reverse_runs n ws) z 0) (sym q)

          tails : t ≡ end_at n ws (length ws - 1 - (i + 1))
          tails =
              let f : length ws - 1 - i ≡ suc (length ws - 1 - (i + 1)) = omega arith in
              e ∙ ap offset (s.mid (length ws - 1 - i) (omega arith) (omega arith)) ∙ ap (λ (z : ℕ). offset (get_or ws z 0)) f ∙ sym (run_begins n ws (suc (length ws - 1 - (i + 1))) (omega arith))

pub swap_step : (n : ℕ) (ws xs : List ℕ) (tail i : ℕ) → Swapped n ws xs tail i → (x y t : ℕ) → i + i + 1 < length ws
    → x ≡ pack (n - tail) (coordinate (get_or xs (length ws - 1 - i) 0)) → y ≡ pack (n - offset (get_or xs (i + 1) 0)) (coordinate (get_or xs i 0)) → t ≡ offset (get_or xs (length ws - 1 - i) 0)
    → Swapped n ws (set (set xs i x) (length ws - 1 - i) y) t (i + 1)
swap_step n ws xs tail i s x y t two a b c = swap_more n ws xs tail i s x a (omega arith) y b two t c

-- no run between begins behind the vertices
pub between_le : (n : ℕ) (ws xs : List ℕ) (tail i j top : ℕ) → Taken n ws → Swapped n ws xs tail i → i ≤ j → j < length ws - i → top ≡ n → offset (get_or xs j 0) ≤ top
between_le n ws xs tail i j top t s h g e = omega (arith, offset_le n ws j (omega arith) t.list.up, ap offset (s.mid j h g))

-- ---- four runs of each end

-- what stands where after four were put from place p on
module _ (xs : List ℕ) (p : ℕ) (f : List ℕ) where
  pub length_four : length (put_four xs p f) ≡ length xs
  length_four =
      length-set (set (set (set xs p (get_or f 0 0)) (p + 1) (get_or f 1 0)) (p + 2) (get_or f 2 0)) (p + 3) (get_or f 3 0)
      ∙ length-set (set (set xs p (get_or f 0 0)) (p + 1) (get_or f 1 0)) (p + 2) (get_or f 2 0)
      ∙ length-set (set xs p (get_or f 0 0)) (p + 1) (get_or f 1 0)
      ∙ length-set xs p (get_or f 0 0)

  others : (j : ℕ) → (j ≡ p → ⊥) → (j ≡ p + 1 → ⊥) → (j ≡ p + 2 → ⊥) → (j ≡ p + 3 → ⊥) → get_or (put_four xs p f) j 0 ≡ get_or xs j 0
  others j a b c d =
      get_or-set_other (set (set (set xs p (get_or f 0 0)) (p + 1) (get_or f 1 0)) (p + 2) (get_or f 2 0)) (p + 3) j (get_or f 3 0) 0 d
      ∙ get_or-set_other (set (set xs p (get_or f 0 0)) (p + 1) (get_or f 1 0)) (p + 2) j (get_or f 2 0) 0 c
      ∙ get_or-set_other (set xs p (get_or f 0 0)) (p + 1) j (get_or f 1 0) 0 b
      ∙ get_or-set_other xs p j (get_or f 0 0) 0 a

  module _ (inside : p + 3 < length xs) where
    put_0 : get_or (put_four xs p f) p 0 ≡ get_or f 0 0
    put_0 =
        get_or-set_other (set (set (set xs p (get_or f 0 0)) (p + 1) (get_or f 1 0)) (p + 2) (get_or f 2 0)) (p + 3) p (get_or f 3 0) 0 (λ q. omega arith)
        ∙ get_or-set_other (set (set xs p (get_or f 0 0)) (p + 1) (get_or f 1 0)) (p + 2) p (get_or f 2 0) 0 (λ q. omega arith)
        ∙ get_or-set_other (set xs p (get_or f 0 0)) (p + 1) p (get_or f 1 0) 0 (λ q. omega arith)
        ∙ get_or-set_same xs p (get_or f 0 0) 0 (omega arith)

    put_1 : get_or (put_four xs p f) (p + 1) 0 ≡ get_or f 1 0
    put_1 =
        get_or-set_other (set (set (set xs p (get_or f 0 0)) (p + 1) (get_or f 1 0)) (p + 2) (get_or f 2 0)) (p + 3) (p + 1) (get_or f 3 0) 0 (λ q. omega arith)
        ∙ get_or-set_other (set (set xs p (get_or f 0 0)) (p + 1) (get_or f 1 0)) (p + 2) (p + 1) (get_or f 2 0) 0 (λ q. omega arith)
        ∙ get_or-set_same (set xs p (get_or f 0 0)) (p + 1) (get_or f 1 0) 0 (omega (arith, length-set xs p (get_or f 0 0)))

    put_2 : get_or (put_four xs p f) (p + 2) 0 ≡ get_or f 2 0
    put_2 =
        get_or-set_other (set (set (set xs p (get_or f 0 0)) (p + 1) (get_or f 1 0)) (p + 2) (get_or f 2 0)) (p + 3) (p + 2) (get_or f 3 0) 0 (λ q. omega arith)
        ∙ get_or-set_same (set (set xs p (get_or f 0 0)) (p + 1) (get_or f 1 0)) (p + 2) (get_or f 2 0) 0 (omega (arith, length-set (set xs p (get_or f 0 0)) (p + 1) (get_or f 1 0), length-set xs p (get_or f 0 0)))

    put_3 : get_or (put_four xs p f) (p + 3) 0 ≡ get_or f 3 0
    put_3 =
        get_or-set_same (set (set (set xs p (get_or f 0 0)) (p + 1) (get_or f 1 0)) (p + 2) (get_or f 2 0)) (p + 3) (get_or f 3 0) 0
        (omega (arith, length-set (set (set xs p (get_or f 0 0)) (p + 1) (get_or f 1 0)) (p + 2) (get_or f 2 0), length-set (set xs p (get_or f 0 0)) (p + 1) (get_or f 1 0), length-set xs p (get_or f 0 0)))

    -- so they are a list's runs there, where each is
    four_at : (rs : List ℕ) → get_or f 0 0 ≡ get_or rs p 0 → get_or f 1 0 ≡ get_or rs (p + 1) 0 → get_or f 2 0 ≡ get_or rs (p + 2) 0 → get_or f 3 0 ≡ get_or rs (p + 3) 0
        → (j : ℕ) → p ≤ j → j < p + 4 → get_or (put_four xs p f) j 0 ≡ get_or rs j 0
    four_at rs a b c d j h g = go (dec_lt j (p + 1)) (dec_lt j (p + 2)) (dec_lt j (p + 3))
      where
        there : (q : ℕ) → j ≡ q → get_or (put_four xs p f) q 0 ≡ get_or rs q 0 → get_or (put_four xs p f) j 0 ≡ get_or rs j 0
        there q e v = subst (λ (x : ℕ). get_or (put_four xs p f) x 0 ≡ get_or rs x 0) (sym e) v

        go : Dec (j < p + 1) → Dec (j < p + 2) → Dec (j < p + 3) → get_or (put_four xs p f) j 0 ≡ get_or rs j 0
        go (yes x) y z = there p (omega arith) (put_0 ∙ a)
        go (no x) (yes y) z = there (p + 1) (omega arith) (put_1 ∙ b)
        go (no x) (no y) (yes z) = there (p + 2) (omega arith) (put_2 ∙ c)
        go (no x) (no y) (no z) = there (p + 3) (omega arith) (put_3 ∙ d)

module _ (n : ℕ) (ws xs : List ℕ) (behind i : ℕ) (t : Taken n ws) (s : Swapped n ws xs (offset behind) i) (more : i + i + 8 ≤ length ws) where
  within : (j : ℕ) → i ≤ j → j < length ws - i → offset (get_or xs j 0) ≤ n
  within j h g = subst (λ (w : ℕ). offset w ≤ n) (sym (s.mid j h g)) (offset_le n ws j (omega arith) t.list.up)

  pub low_within : FourFit n xs i (get_or xs (i + 4) 0)
  low_within =
      record {
        inside = omega (arith, s.long);
        one = within (i + 1) (omega arith) (omega arith);
        two = within (i + 2) (omega arith) (omega arith);
        three = within (i + 3) (omega arith) (omega arith);
        four = within (i + 4) (omega arith) (omega arith);
        small = t.small;
      }

  pub high_within : FourFit n xs (length ws - 4 - i) behind
  high_within =
      record {
        inside = omega (arith, s.long);
        one = within (length ws - 4 - i + 1) (omega arith) (omega arith);
        two = within (length ws - 4 - i + 2) (omega arith) (omega arith);
        three = within (length ws - 4 - i + 3) (omega arith) (omega arith);
        four = subst (λ (x : ℕ). x ≤ n) (sym s.tails) (end_le n ws (length ws - 1 - i) t.list.up);
        small = t.small;
      }

  -- run p as place j of the reversed list has it
  by_next : (j p q : ℕ) → j + p + 1 ≡ length ws → i ≤ p → q ≡ p + 1 → q < length ws - i → backed n xs p (get_or xs q 0) ≡ get_or (reverse_runs n ws) j 0
  by_next j p q e h f g =
      let a : get_or xs p 0 ≡ get_or ws p 0 = s.mid p h (omega arith) in
      let r : q ≡ suc p = omega arith in
      let b : offset (get_or xs q 0) ≡ end_at n ws p = ap offset (s.mid q (omega arith) g ∙ ap (λ (x : ℕ). get_or ws x 0) r) ∙ sym (run_begins n ws (suc p) (omega arith)) in
      ap₂ (λ (o w : ℕ). pack (n - o) (coordinate w)) b a ∙ sym (reversed_at n ws j p e)

  by_tail : (p : ℕ) → p ≡ length ws - 1 - i → backed n xs p behind ≡ get_or (reverse_runs n ws) i 0
  by_tail p e =
      let a : get_or xs p 0 ≡ get_or ws p 0 = s.mid p (omega arith) (omega arith) in
      let b : offset behind ≡ end_at n ws p = s.tails ∙ ap (end_at n ws) (sym e) in
      ap₂ (λ (o w : ℕ). pack (n - o) (coordinate w)) b a ∙ sym (reversed_at n ws i p (omega arith))

  module _ (low high : List ℕ) (l : low ≡ four_back n xs i (get_or xs (i + 4) 0)) (h : high ≡ four_back n xs (length ws - 4 - i) behind) where
    low_at : (k : ℕ) → get_or low k 0 ≡ get_or (four_back n xs i (get_or xs (i + 4) 0)) k 0
    low_at k = ap (λ (f : List ℕ). get_or f k 0) l

    high_at : (k : ℕ) → get_or high k 0 ≡ get_or (four_back n xs (length ws - 4 - i) behind) k 0
    high_at k = ap (λ (f : List ℕ). get_or f k 0) h

    front : (j : ℕ) → i ≤ j → j < i + 4 → get_or (put_four xs i high) j 0 ≡ get_or (reverse_runs n ws) j 0
    front =
        four_at xs i high (omega (arith, s.long)) (reverse_runs n ws)
        (high_at 0 ∙ by_tail (length ws - 4 - i + 3) (omega arith))
        (high_at 1 ∙ by_next (i + 1) (length ws - 4 - i + 2) (length ws - 4 - i + 3) (omega arith) (omega arith) (omega arith) (omega arith))
        (high_at 2 ∙ by_next (i + 2) (length ws - 4 - i + 1) (length ws - 4 - i + 2) (omega arith) (omega arith) (omega arith) (omega arith))
        (high_at 3 ∙ by_next (i + 3) (length ws - 4 - i) (length ws - 4 - i + 1) (omega arith) (omega arith) refl (omega arith))

    rear : (j : ℕ) → length ws - 4 - i ≤ j → j < length ws - 4 - i + 4 → get_or (put_four (put_four xs i high) (length ws - 4 - i) low) j 0 ≡ get_or (reverse_runs n ws) j 0
    rear =
        four_at (put_four xs i high) (length ws - 4 - i) low (omega (arith, s.long, length_four xs i high)) (reverse_runs n ws)
        (low_at 0 ∙ by_next (length ws - 4 - i) (i + 3) (i + 4) (omega arith) (omega arith) (omega arith) (omega arith))
        (low_at 1 ∙ by_next (length ws - 4 - i + 1) (i + 2) (i + 3) (omega arith) (omega arith) (omega arith) (omega arith))
        (low_at 2 ∙ by_next (length ws - 4 - i + 2) (i + 1) (i + 2) (omega arith) (omega arith) (omega arith) (omega arith))
        (low_at 3 ∙ by_next (length ws - 4 - i + 3) i (i + 1) (omega arith) (omega arith) refl (omega arith))

    -- elsewhere nothing has changed
    early : (j : ℕ) → j < length ws - 4 - i → get_or (put_four (put_four xs i high) (length ws - 4 - i) low) j 0 ≡ get_or (put_four xs i high) j 0
    early j g = others (put_four xs i high) (length ws - 4 - i) low j (λ q. omega arith) (λ q. omega arith) (λ q. omega arith) (λ q. omega arith)

    pub swap_four : Swapped n ws (put_four (put_four xs i high) (length ws - 4 - i) low) (offset (get_or xs (length ws - 4 - i) 0)) (i + 4)
    swap_four =
        record {
          long = length_four (put_four xs i high) (length ws - 4 - i) low ∙ length_four xs i high ∙ s.long;
          half = omega arith;
          low = λ j g. lower j g (dec_lt j i);
          high = λ j g k. upper j g k (dec_lt j (length ws - i));
          mid = λ j g k. early j (omega arith) ∙ others xs i high j (λ q. omega arith) (λ q. omega arith) (λ q. omega arith) (λ q. omega arith) ∙ s.mid j (omega arith) (omega arith);
          tails = tails;
        }
      where
        lower : (j : ℕ) → j < i + 4 → Dec (j < i) → get_or (put_four (put_four xs i high) (length ws - 4 - i) low) j 0 ≡ get_or (reverse_runs n ws) j 0
        lower j g (yes k) = early j (omega arith) ∙ others xs i high j (λ q. omega arith) (λ q. omega arith) (λ q. omega arith) (λ q. omega arith) ∙ s.low j k
        lower j g (no k) = early j (omega arith) ∙ front j (omega arith) g

        upper : (j : ℕ) → length ws - (i + 4) ≤ j → j < length ws → Dec (j < length ws - i) → get_or (put_four (put_four xs i high) (length ws - 4 - i) low) j 0 ≡ get_or (reverse_runs n ws) j 0
        upper j g k (yes a) = rear j (omega arith) (omega arith)
        upper j g k (no a) =
            others (put_four xs i high) (length ws - 4 - i) low j (λ q. omega arith) (λ q. omega arith) (λ q. omega arith) (λ q. omega arith)
            ∙ others xs i high j (λ q. omega arith) (λ q. omega arith) (λ q. omega arith) (λ q. omega arith)
            ∙ s.high j (omega arith) k

        tails : offset (get_or xs (length ws - 4 - i) 0) ≡ end_at n ws (length ws - 1 - (i + 4))
        tails =
            let e : length ws - 4 - i ≡ suc (length ws - 1 - (i + 4)) = omega arith in
            ap offset (s.mid (length ws - 4 - i) (omega arith) (omega arith) ∙ ap (λ (x : ℕ). get_or ws x 0) e) ∙ sym (run_begins n ws (suc (length ws - 1 - (i + 4))) (omega arith))
