-- Laws of reading given one by one.
use Prim.Native.Nat.{ℕ, zero, suc, ◌+◌, ◌-◌, ◌≤◌, ◌<◌, ◌^◌}
use mathlib.Core.Path.{◌≡◌, refl, sym, ap, ap₂, ◌∙◌, subst}
use mathlib.Core.Bool.{Bool, true, false, not, cond}
use mathlib.Core.List.{List, [], ◌∷◌, ◌++◌, map, append_assoc, append-nil}
use native.Mathlib.Omega.{arith}
use lib.ListN.{length, take}
use lib.Dec.{ltb, eqb}
use borrow.Author.Tests.{lt-ltb, le-ltb, ltb-true, eqb-true, eqb-false}
use Rattle.base.specs.Parts.{over}
use Rattle.base.proofs.Bools.{false_true}
use Rattle.codec.specs.Codes.{Read, got, end, read_delta}
use Rattle.codec.specs.Sets.{Within, map_bits, ids_of, absent, ReadIds, given, none, then_id, and_ids, read_gaps}
use Rattle.codec.specs.Inside.Gaps.{with_ids, absent_from, numbers, ids_in, is_given, Put, Kept}
use Rattle.codec.proofs.Laws.Filled.{put_all, put_front}
use Rattle.codec.proofs.Laws.Sets.{gaps_only, and_ids_lem, cond_ids, then_ids}

pub after_nil : (r : ReadIds) → r ≡ with_ids [] r
after_nil (given xs rest) = refl
after_nil none = refl

pub after_then : (xs : List ℕ) (x : ℕ) (r : ReadIds) → with_ids xs (then_id x r) ≡ with_ids (xs ++ (x ∷ [])) r
after_then xs x (given ys rest) = ap (λ (l : List ℕ). given l rest) (sym (append_assoc xs (x ∷ []) ys))
after_then xs x none = refl

pub gaps_step : (m from top g : ℕ) (bits rest : List Bool) → read_delta bits ≡ got g rest → from + g < top → read_gaps (suc m) from top bits ≡ then_id (from + g) (read_gaps m (from + g + 1) top rest)
unfolding read_gaps
gaps_step m from top g bits rest e h = rw (e, lt-ltb (from + g) top h)

pub gaps_high : (m from top g : ℕ) (bits rest : List Bool) → read_delta bits ≡ got g rest → top ≤ from + g → read_gaps (suc m) from top bits ≡ none
unfolding read_gaps
gaps_high m from top g bits rest e h = rw (e, le-ltb (from + g) top h)

pub gaps_refused : (m from top : ℕ) (bits : List Bool) → ((v : ℕ) (rest : List Bool) → read_delta bits ≡ got v rest → 2 ^ 20 < v) → top ≤ 2 ^ 20 → read_gaps (suc m) from top bits ≡ none
unfolding read_gaps
gaps_refused m from top bits h t = go (read_delta bits) refl
  where
    go : (r : Read) → read_delta bits ≡ r → and_ids r (λ g rest. cond (ltb (from + g) top) (then_id (from + g) (read_gaps m (from + g + 1) top rest)) none) ≡ none
    go end e = refl
    go (got v rest) e = rw (le-ltb (from + v) top (omega (arith, h v rest e)))

pub gaps_done : (from top : ℕ) (bits : List Bool) → read_gaps 0 from top bits ≡ given [] bits
unfolding read_gaps
gaps_done from top bits = refl

-- the ids and the bits behind them, of an answer that has them
pub given_is : (r : ReadIds) → is_given r ≡ true → (xs : List ℕ) × (rest : List Bool) × (r ≡ given xs rest)
given_is (given xs rest) e = (xs, rest, refl)
given_is none e = false_true e

pub none_ids : {A : Type 0} {r : ReadIds} {xs : List ℕ} {rest : List Bool} → r ≡ given xs rest → r ≡ none → A
none_ids {r = r} {xs = xs} {rest = rest} p q = let x : ◌≡◌ {A = ℕ} 0 1 = cc in absurd (omega arith)

-- the answer to all n given, with i of them read
module _ (all : ReadIds) (xs : List ℕ) (n i from top : ℕ) (bits : List Bool) (more : i < n) (so : all ≡ with_ids xs (read_gaps (n - i) from top bits)) where
  left : n - i ≡ suc (n - (i + 1))
  left = omega arith

  pub ahead : (g : ℕ) (rest : List Bool) → read_delta bits ≡ got g rest → from + g < top → all ≡ with_ids (xs ++ ((from + g) ∷ [])) (read_gaps (n - (i + 1)) (from + g + 1) top rest)
  ahead g rest e h = so ∙ ap (λ (k : ℕ). with_ids xs (read_gaps k from top bits)) left ∙ ap (with_ids xs) (gaps_step (n - (i + 1)) from top g bits rest e h) ∙ after_then xs (from + g) (read_gaps (n - (i + 1)) (from + g + 1) top rest)

  pub stuck : read_gaps (suc (n - (i + 1))) from top bits ≡ none → all ≡ none
  stuck e = so ∙ ap (λ (k : ℕ). with_ids xs (read_gaps k from top bits)) left ∙ ap (with_ids xs) e

pub arrived : (all : ReadIds) (xs : List ℕ) (n i from top : ℕ) (bits : List Bool) → n ≤ i → all ≡ with_ids xs (read_gaps (n - i) from top bits) → all ≡ given xs bits
arrived all xs n i from top bits h so =
    let z : n - i ≡ 0 = omega arith in
    so ∙ ap (λ (k : ℕ). with_ids xs (read_gaps k from top bits)) z ∙ ap (with_ids xs) (gaps_done from top bits) ∙ ap (λ (l : List ℕ). given l bits) (append-nil xs)

-- ---- ids that are put in what is lent for them

pub put_refused : (r : ReadIds) (old new : List ℕ) → r ≡ none → Put r old new
put_refused r old new e = subst (λ (q : ReadIds). Put q old new) (sym e) tt

pub put_given : (r : ReadIds) (xs : List ℕ) (rest : List Bool) (old new : List ℕ) → r ≡ given xs rest → new ≡ over (take (length old) xs) old → Put r old new
put_given r xs rest old new e p = subst (λ (q : ReadIds). Put q old new) (sym e) p

-- none are read
pub kept_none : (n top : ℕ) (bits : List Bool) (room : List ℕ) → n ≡ 0 → Kept (read_gaps n 0 top bits) n room
unfolding read_gaps
kept_none n top bits room e = subst (λ (k : ℕ). Kept (read_gaps k 0 top bits) k room) (sym e) (λ g h. refl)

module _ (n top : ℕ) (bits : List Bool) where
  pub put_kept : (old new : List ℕ) → Put (read_gaps n 0 top bits) old new → Kept (read_gaps n 0 top bits) n new
  put_kept old new = go (read_gaps n 0 top bits) refl
    where
      go : (r : ReadIds) → read_gaps n 0 top bits ≡ r → Put r old new → Kept r n new
      go (given xs rest) e p = λ g h. ap (take n) p ∙ put_front xs old n (gaps_only n 0 top bits xs rest e).count (subst (λ (l : List ℕ). n ≤ length l) p h)
      go none e p = λ g. false_true g

  pub put_ids : (old new : List ℕ) → is_given (read_gaps n 0 top bits) ≡ true → Put (read_gaps n 0 top bits) old new → n ≤ length old → new ≡ over (ids_in (read_gaps n 0 top bits)) old
  put_ids old new g p h =
      let a = given_is (read_gaps n 0 top bits) g in
      let count : length a.0 ≡ n = (gaps_only n 0 top bits a.0 a.1 a.2).count in
      subst (λ (q : ReadIds). Put q old new) a.2 p ∙ put_all a.0 old (omega arith) ∙ ap (λ (r : ReadIds). over (ids_in r) old) (sym a.2)

-- ---- ids that are known to be there

-- the ids that are read from here on, with i of n read
pub record Left (n i from top : ℕ) (bits : List Bool) (ys : List ℕ) : Type 0 where
  pub last : List Bool
  pub read : read_gaps (n - i) from top bits ≡ given ys last

-- the next of them, and those behind it
pub record Turn (n i from top g : ℕ) (rest : List Bool) (ys : List ℕ) : Type 0 where
  pub tail : List ℕ
  pub are : ys ≡ (from + g) ∷ tail
  pub below : from + g < top
  pub later : Left n (i + 1) (from + g + 1) top rest tail

module _ (n i from top : ℕ) (bits : List Bool) (ys : List ℕ) (h : Left n i from top bits ys) where
  pub left_within : Within from top ys
  left_within = (gaps_only (n - i) from top bits ys h.last h.read).within

  pub left_count : length ys ≡ n - i
  left_count = (gaps_only (n - i) from top bits ys h.last h.read).count

  pub left_none : n ≤ i → ys ≡ []
  left_none g =
      let z : n - i ≡ 0 = omega arith in
      let e : given ys h.last ≡ given [] bits = sym h.read ∙ ap (λ (k : ℕ). read_gaps k from top bits) z ∙ gaps_done from top bits in
      cc

  module _ (more : i < n) where
    one_more : read_gaps (suc (n - (i + 1))) from top bits ≡ given ys h.last
    one_more = ap (λ (k : ℕ). read_gaps k from top bits) less ∙ h.read
      where
        less : suc (n - (i + 1)) ≡ n - i
        less = omega arith

    pub left_turn : (g : ℕ) (rest : List Bool) → read_delta bits ≡ got g rest → Turn n i from top g rest ys
    unfolding read_gaps
    left_turn g rest e =
        let a = and_ids_lem (read_delta bits) _ ys h.last one_more in
        let r : got a.0 a.1 ≡ got g rest = sym a.2 ∙ e in
        let v : a.0 ≡ g = cc in
        let s : a.1 ≡ rest = cc in
        let b = cond_ids (ltb (from + a.0) top) _ ys h.last a.3 in
        let c = then_ids (from + a.0) (read_gaps (n - (i + 1)) (from + a.0 + 1) top a.1) ys h.last b.1 in
        record {
          tail = c.0;
          are = c.1 ∙ ap (λ (k : ℕ). (from + k) ∷ c.0) v;
          below = subst (λ (k : ℕ). from + k < top) v (ltb-true (from + a.0) top b.0);
          later = record { last = h.last; read = ap₂ (λ (k : ℕ) (l : List Bool). read_gaps (n - (i + 1)) (from + k + 1) top l) (sym v) (sym s) ∙ c.2 };
        }

    -- so a code is there
    pub left_there : {A : Type 0} → top ≤ 2 ^ 20 → ((v : ℕ) (rest : List Bool) → read_delta bits ≡ got v rest → 2 ^ 20 < v) → A
    left_there t missing = none_ids one_more (gaps_refused (n - (i + 1)) from top bits missing t)

-- all of them, at the start
pub left_all : (n top : ℕ) (bits : List Bool) (ys : List ℕ) (last : List Bool) → read_gaps n 0 top bits ≡ given ys last → Left n 0 0 top bits ys
left_all n top bits ys last e = record { last = last; read = ap (λ (k : ℕ). read_gaps k 0 top bits) (same n) ∙ e }
  where
    same : (n : ℕ) → n - 0 ≡ n
    same n = omega arith

pub within_room : (ys : List ℕ) (from top : ℕ) → from ≤ top → Within from top ys → from + length ys ≤ top
within_room [] from top h w = omega arith
within_room (y ∷ ys) from top h w = omega (arith, w.0, within_room ys (y + 1) top (omega (arith, w.1)) w.2)

-- the next id leaves room for those behind it
pub turn_room : (n i from top g : ℕ) (rest : List Bool) (ys : List ℕ) → i < n → Turn n i from top g rest ys → from + g + n ≤ top + i
turn_room n i from top g rest ys h t =
    let l = t.later in
    omega (arith, t.below, left_count n (i + 1) (from + g + 1) top rest t.tail l, within_room t.tail (from + g + 1) top (omega (arith, t.below)) (left_within n (i + 1) (from + g + 1) top rest t.tail l))

-- ---- the ids left out between them

pub length_numbers : (k from : ℕ) → length (numbers from k) ≡ k
unfolding numbers
length_numbers zero from = refl
length_numbers (suc k) from = ap suc (length_numbers k (from + 1))

pub numbers_more : (k from : ℕ) → numbers from k ++ ((from + k) ∷ []) ≡ numbers from (k + 1)
unfolding numbers
numbers_more zero from = ap (λ (n : ℕ). n ∷ []) (same from)
  where
    same : (n : ℕ) → n + 0 ≡ n
    same n = omega arith
numbers_more (suc k) from = ap (λ (l : List ℕ). from ∷ l) (ap (λ (n : ℕ). numbers (from + 1) k ++ (n ∷ [])) (shift from k) ∙ numbers_more k (from + 1)) ∙ ap (numbers from) (sums k)
  where
    shift : (n k : ℕ) → n + suc k ≡ n + 1 + k
    shift n k = omega arith

    sums : (k : ℕ) → suc (k + 1) ≡ suc k + 1
    sums k = omega arith

pub absent_end : (n from : ℕ) → absent_from from n [] ≡ numbers from n
unfolding absent_from ids_of map_bits numbers
absent_end zero from = refl
absent_end (suc n) from = ap (λ (l : List ℕ). from ∷ l) (absent_end n (from + 1))

absent_next : (n from top x : ℕ) (ys : List ℕ) → top ≡ from + n → from ≤ x → x < top → absent_from from n (x ∷ ys) ≡ numbers from (x - from) ++ absent_from (x + 1) (top - (x + 1)) ys
unfolding absent_from ids_of map_bits numbers
absent_next zero from top x ys e l h = absurd (omega arith)
absent_next (suc n) from top x ys e l h = go (eqb from x) refl (absent_next n (from + 1) top x ys (omega arith))
  where
    go : (t : Bool) → eqb from x ≡ t → (from + 1 ≤ x → x < top → absent_from (from + 1) n (x ∷ ys) ≡ numbers (from + 1) (x - (from + 1)) ++ absent_from (x + 1) (top - (x + 1)) ys)
        → ids_of from (not t ∷ map not (map_bits (from + 1) n (cond t ys (x ∷ ys)))) ≡ numbers from (x - from) ++ absent_from (x + 1) (top - (x + 1)) ys
    go true q ih =
        let s : from ≡ x = eqb-true from x q in
        let z : x - from ≡ 0 = omega arith in
        let m : n ≡ top - (x + 1) = omega arith in
        rw z (ap₂ (λ (a b : ℕ). absent_from (a + 1) b ys) s m)
    go false q ih =
        let s : from ≡ x → ⊥ = eqb-false from x q in
        let z : x - from ≡ suc (x - (from + 1)) = omega (arith, s) in
        rw z (ap (λ (l : List ℕ). from ∷ l) (ih (omega (arith, s)) h))

-- the ids left out up to x, and those behind it
pub absent_run : (from top x : ℕ) (ys : List ℕ) → from ≤ x → x < top → absent_from from (top - from) (x ∷ ys) ≡ numbers from (x - from) ++ absent_from (x + 1) (top - (x + 1)) ys
absent_run from top x ys l h = absent_next (top - from) from top x ys (omega arith) l h

pub absent_all : (top : ℕ) (ys : List ℕ) → absent top ys ≡ absent_from 0 (top - 0) ys
unfolding absent absent_from
absent_all top ys = ap (λ (n : ℕ). ids_of 0 (map not (map_bits 0 n ys))) (same top)
  where
    same : (n : ℕ) → n ≡ n - 0
    same n = omega arith
