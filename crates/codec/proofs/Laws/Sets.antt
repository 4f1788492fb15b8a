-- Laws of sets as bits, for every N.
use Prim.Native.Nat.{ℕ, zero, suc, ◌+◌, ◌-◌, ◌*◌, ◌/◌, ◌≤◌, ◌<◌}
use mathlib.Core.Path.{◌≡◌, refl, sym, ap, ap₂, ◌∙◌, subst}
use mathlib.Core.Bool.{Bool, true, false, not, cond}
use mathlib.Core.List.{List, [], ◌∷◌, ◌++◌, map, append_assoc}
use native.Mathlib.Omega.{arith}
use lib.ListN.{length, take, drop, replicate, length-append, length-map, length-replicate, take-append-drop}
use lib.Seq.{take_at, drop_at, length-take-le}
use lib.Dec.{leb, ltb, eqb}
use borrow.Author.Tests.{lt-ltb, le-leb, eq-eqb, ne_eqb, ltb-true, leb-true, eqb-true, eqb-false}
use Rattle.base.proofs.Bools.{and_true}
use Rattle.codec.specs.Bits.{bits_of, AreBytes}
use Rattle.codec.specs.Codes.{delta, Read, got, end, read_delta}
use Rattle.codec.specs.Sets.{Within, past, map_bits, ids_of, absent, gap_bits, Regime, empty, sparse, bitmap, dense, regime, body_bits, set_bits, encode_set}
use Rattle.codec.specs.Sets.{ReadIds, given, none, then_id, and_ids, read_gaps, read_map, left_out, read_body, read_set, padding, set, no_set, padded, decode_set}
use Rattle.codec.proofs.Laws.Codes.{delta_read, delta_only}
use Rattle.codec.proofs.Laws.Bits.{packed, bits_of_pack}

-- ---- given as N bits

ids_map : (n from top : ℕ) (xs : List ℕ) → top ≡ from + n → Within from top xs → ids_of from (map_bits from n xs) ≡ xs
unfolding ids_of map_bits
ids_map zero from top [] e w = refl
ids_map zero from top (x ∷ xs) e w = absurd (omega (arith, w.0, w.1))
ids_map (suc n) from top [] e w = ids_map n (from + 1) top [] (omega arith) tt
ids_map (suc n) from top (x ∷ xs) e w = go (eqb from x) refl (ids_map n (from + 1) top xs (omega arith)) (ids_map n (from + 1) top (x ∷ xs) (omega arith))
  where
    go : (t : Bool) → eqb from x ≡ t → (Within (from + 1) top xs → ids_of (from + 1) (map_bits (from + 1) n xs) ≡ xs)
        → (Within (from + 1) top (x ∷ xs) → ids_of (from + 1) (map_bits (from + 1) n (x ∷ xs)) ≡ x ∷ xs)
        → ids_of from (t ∷ map_bits (from + 1) n (cond t xs (x ∷ xs))) ≡ x ∷ xs
    go true q here later =
        let s : from ≡ x = eqb-true from x q in
        ap₂ (λ (y : ℕ) (l : List ℕ). y ∷ l) s (here (subst (λ (k : ℕ). Within k top xs) (ap (λ (k : ℕ). k + 1) (sym s)) w.2))
    go false q here later =
        let s : from ≡ x → ⊥ = eqb-false from x q in
        later (omega (arith, w.0, s), w.1, w.2)

within_ids : (bits : List Bool) (from top : ℕ) → top ≡ from + length bits → Within from top (ids_of from bits)
unfolding ids_of
within_ids [] from top e = tt
within_ids (true ∷ bits) from top e = (omega arith, omega arith, within_ids bits (from + 1) top (omega arith))
within_ids (false ∷ bits) from top e = later (ids_of (from + 1) bits) (within_ids bits (from + 1) top (omega arith))
  where
    later : (xs : List ℕ) → Within (from + 1) top xs → Within from top xs
    later [] w = tt
    later (x ∷ xs) w = (omega (arith, w.0), w.1, w.2)

map_skip : (n from top : ℕ) (xs : List ℕ) → Within (from + 1) top xs → map_bits from (suc n) xs ≡ false ∷ map_bits (from + 1) n xs
unfolding map_bits
map_skip n from top [] w = refl
map_skip n from top (x ∷ xs) w = rw (ne_eqb from x (λ q. omega (arith, w.0, q)))

map_ids : (bits : List Bool) (from : ℕ) → map_bits from (length bits) (ids_of from bits) ≡ bits
unfolding ids_of map_bits
map_ids [] from = refl
map_ids (true ∷ bits) from = rw (eq-eqb from from refl) (ap (λ (l : List Bool). true ∷ l) (map_ids bits (from + 1)))
map_ids (false ∷ bits) from = map_skip (length bits) from (from + 1 + length bits) (ids_of (from + 1) bits) (within_ids bits (from + 1) (from + 1 + length bits) refl) ∙ ap (λ (l : List Bool). false ∷ l) (map_ids bits (from + 1))

pub length_map_bits : (n from : ℕ) (xs : List ℕ) → length (map_bits from n xs) ≡ n
unfolding map_bits
length_map_bits zero from xs = refl
length_map_bits (suc n) from xs = ap suc (length_map_bits n (from + 1) (past from xs))

not_not : (bits : List Bool) → map not (map not bits) ≡ bits
not_not [] = refl
not_not (true ∷ bits) = ap (λ (l : List Bool). true ∷ l) (not_not bits)
not_not (false ∷ bits) = ap (λ (l : List Bool). false ∷ l) (not_not bits)

count_not : (bits : List Bool) (from : ℕ) → length (ids_of from bits) + length (ids_of from (map not bits)) ≡ length bits
unfolding ids_of
count_not [] from = refl
count_not (true ∷ bits) from = omega (arith, count_not bits (from + 1))
count_not (false ∷ bits) from = omega (arith, count_not bits (from + 1))

module _ (N : ℕ) (xs : List ℕ) (w : Within 0 N xs) where
  all_bits : length (map not (map_bits 0 N xs)) ≡ N
  all_bits = length-map (map_bits 0 N xs) not ∙ length_map_bits N 0 xs

  pub absent_within : Within 0 N (absent N xs)
  unfolding absent
  absent_within = within_ids (map not (map_bits 0 N xs)) 0 N (omega (arith, all_bits))

  pub absent_count : length xs + length (absent N xs) ≡ N
  unfolding absent
  absent_count = ap (λ (l : List ℕ). length l + length (absent N xs)) (sym (ids_map N 0 N xs (omega arith) w)) ∙ count_not (map_bits 0 N xs) 0 ∙ length_map_bits N 0 xs

  absent_absent : absent N (absent N xs) ≡ xs
  unfolding absent
  absent_absent =
      let b : List Bool = map not (map_bits 0 N xs) in
      let m : map_bits 0 N (ids_of 0 b) ≡ b = subst (λ (k : ℕ). map_bits 0 k (ids_of 0 b) ≡ b) all_bits (map_ids b 0) in
      ap (λ (l : List Bool). ids_of 0 (map not l)) m ∙ ap (ids_of 0) (not_not (map_bits 0 N xs)) ∙ ids_map N 0 N xs (omega arith) w

-- ---- given as gaps

gaps_read : (xs : List ℕ) (from top : ℕ) (rest : List Bool) → Within from top xs → read_gaps (length xs) from top (gap_bits from xs ++ rest) ≡ given xs rest
unfolding read_gaps gap_bits
gaps_read [] from top rest w = refl
gaps_read (x ∷ xs) from top rest w =
    let e : from + (x - from) ≡ x = omega (arith, w.0) in
    rw (append_assoc (delta (x - from)) (gap_bits (x + 1) xs) rest, delta_read (x - from) (gap_bits (x + 1) xs ++ rest), e, lt-ltb x top w.1, gaps_read xs (x + 1) top rest w.2)

-- what an answer of given came from

ids_none : {A : Type 0} {xs : List ℕ} {rest : List Bool} → none ≡ given xs rest → A
ids_none {xs = xs} {rest = rest} e = let x : ◌≡◌ {A = ℕ} 0 1 = cc in absurd (omega arith)

pub and_ids_lem : (r : Read) (f : ℕ → List Bool → ReadIds) (xs : List ℕ) (rest : List Bool) → and_ids r f ≡ given xs rest → (v : ℕ) × (mid : List Bool) × (r ≡ got v mid) × (f v mid ≡ given xs rest)
and_ids_lem (got v mid) f xs rest e = (v, mid, refl, e)
and_ids_lem end f xs rest e = ids_none e

pub cond_ids : (t : Bool) (r : ReadIds) (xs : List ℕ) (rest : List Bool) → cond t r none ≡ given xs rest → (t ≡ true) × (r ≡ given xs rest)
cond_ids true r xs rest e = (refl, e)
cond_ids false r xs rest e = ids_none e

pub then_ids : (x : ℕ) (r : ReadIds) (xs : List ℕ) (rest : List Bool) → then_id x r ≡ given xs rest → (ys : List ℕ) × (xs ≡ x ∷ ys) × (r ≡ given ys rest)
then_ids x (given ys mid) xs rest e = (ys, cc, cc)
then_ids x none xs rest e = ids_none e

pub left_ids : (N : ℕ) (r : ReadIds) (xs : List ℕ) (rest : List Bool) → left_out N r ≡ given xs rest → (ys : List ℕ) × (xs ≡ absent N ys) × (r ≡ given ys rest)
left_ids N (given ys mid) xs rest e = (ys, cc, cc)
left_ids N none xs rest e = ids_none e

map_read : (N : ℕ) (xs : List ℕ) (rest : List Bool) → Within 0 N xs → read_map N (length xs) (map_bits 0 N xs ++ rest) ≡ given xs rest
unfolding read_map
map_read N xs rest w =
    let t : take N (map_bits 0 N xs ++ rest) ≡ map_bits 0 N xs = take_at (map_bits 0 N xs) rest N (length_map_bits N 0 xs) in
    let d : drop N (map_bits 0 N xs ++ rest) ≡ rest = drop_at (map_bits 0 N xs) rest N (length_map_bits N 0 xs) in
    let l : N ≤ length (map_bits 0 N xs ++ rest) = simp (length-append, length_map_bits) (omega arith) in
    rw (t, d, le-leb N (length (map_bits 0 N xs ++ rest)) l, ids_map N 0 N xs (omega arith) w, eq-eqb (length xs) (length xs) refl)

pub record Gaps (n from top : ℕ) (bits : List Bool) (xs : List ℕ) (rest : List Bool) : Type 0 where
  pub within : Within from top xs
  pub count : length xs ≡ n
  pub bits_are : bits ≡ gap_bits from xs ++ rest

pub gaps_only : (n from top : ℕ) (bits : List Bool) (xs : List ℕ) (rest : List Bool) → read_gaps n from top bits ≡ given xs rest → Gaps n from top bits xs rest
unfolding read_gaps gap_bits
gaps_only zero from top bits xs rest e =
    let p : xs ≡ [] = cc in
    let q : bits ≡ rest = cc in
    subst (λ (l : List ℕ). Gaps 0 from top bits l rest) (sym p) (record { within = tt; count = refl; bits_are = q })
gaps_only (suc n) from top bits xs rest e =
    let a = and_ids_lem (read_delta bits) _ xs rest e in
    let x : ℕ = from + a.0 in
    let b = cond_ids (ltb x top) _ xs rest a.3 in
    let c = then_ids x (read_gaps n (x + 1) top a.1) xs rest b.1 in
    let i = gaps_only n (x + 1) top a.1 c.0 rest c.2 in
    let g : a.0 ≡ x - from = omega arith in
    subst (λ (l : List ℕ). Gaps (suc n) from top bits l rest) (sym c.1) (record {
      within = (omega arith, ltb-true x top b.0, i.within);
      count = ap suc i.count;
      bits_are = delta_only a.0 bits a.1 a.2 ∙ ap₂ (λ (m : ℕ) (l : List Bool). delta m ++ l) g i.bits_are ∙ sym (append_assoc (delta (x - from)) (gap_bits (x + 1) c.0) rest);
    })

-- ---- sets

gaps_read_n : (n N : ℕ) (xs : List ℕ) (rest : List Bool) → Within 0 N xs → length xs ≡ n → read_gaps n 0 N (gap_bits 0 xs ++ rest) ≡ given xs rest
gaps_read_n n N xs rest w e = rw (← e) (gaps_read xs 0 N rest w)

regime_suc : (a b : Bool) → cond a sparse (cond b bitmap dense) ≡ empty → ⊥
regime_suc true b e = let x : ◌≡◌ {A = ℕ} 0 1 = cc in omega arith
regime_suc false true e = let x : ◌≡◌ {A = ℕ} 0 1 = cc in omega arith
regime_suc false false e = let x : ◌≡◌ {A = ℕ} 0 1 = cc in omega arith

pub regime_none : (N n : ℕ) → n ≡ 0 → regime N n ≡ empty
unfolding regime
regime_none N n e = rw e

pub regime_some : (N n : ℕ) → 0 < n → regime N n ≡ cond (ltb n (N / 4)) sparse (cond (ltb n (3 * N / 4)) bitmap dense)
unfolding regime
regime_some N zero h = absurd (omega arith)
regime_some N (suc n) h = refl

empty_of : (N n : ℕ) → regime N n ≡ empty → n ≡ 0
unfolding regime
empty_of N zero e = refl
empty_of N (suc n) e = absurd (regime_suc (ltb (suc n) (N / 4)) (ltb (suc n) (3 * N / 4)) e)

no_ids : (xs : List ℕ) → length xs ≡ 0 → [] ≡ xs
no_ids [] e = refl
no_ids (x ∷ xs) e = absurd (omega arith)

body_read : (r : Regime) (N : ℕ) (xs : List ℕ) (rest : List Bool) → Within 0 N xs → regime N (length xs) ≡ r → read_body r N (length xs) (body_bits r N xs ++ rest) ≡ given xs rest
body_read empty N xs rest w e = ap (λ (l : List ℕ). given l rest) (no_ids xs (empty_of N (length xs) e))
body_read sparse N xs rest w e = gaps_read xs 0 N rest w
body_read bitmap N xs rest w e = map_read N xs rest w
body_read dense N xs rest w e =
    let c : length xs + length (absent N xs) ≡ N = absent_count N xs w in
    rw (le-leb (length xs) N (omega (arith, c)), gaps_read_n (N - length xs) N (absent N xs) rest (absent_within N xs w) (omega (arith, c)), absent_absent N xs w)

pub set_read : (N : ℕ) (xs : List ℕ) (rest : List Bool) → Within 0 N xs → read_set N (set_bits N xs ++ rest) ≡ given xs rest
unfolding read_set set_bits
set_read N xs rest w =
    rw (append_assoc (delta (length xs)) (body_bits (regime N (length xs)) N xs) rest, delta_read (length xs) (body_bits (regime N (length xs)) N xs ++ rest))
    (body_read (regime N (length xs)) N xs rest w refl)

pub record Body (r : Regime) (N len : ℕ) (bits : List Bool) (xs : List ℕ) (rest : List Bool) : Type 0 where
  pub within : Within 0 N xs
  pub count : length xs ≡ len
  pub bits_are : bits ≡ body_bits r N xs ++ rest

pub map_only : (N len : ℕ) (bits : List Bool) (xs : List ℕ) (rest : List Bool) → read_map N len bits ≡ given xs rest → Body bitmap N len bits xs rest
unfolding read_map
map_only N len bits xs rest e =
    let a = cond_ids _ _ xs rest e in
    let t = and_true (leb N (length bits)) (eqb (length (ids_of 0 (take N bits))) len) a.0 in
    let k : length (take N bits) ≡ N = length-take-le N bits (leb-true N (length bits) t.0) in
    let i : ids_of 0 (take N bits) ≡ xs = cc in
    let r : drop N bits ≡ rest = cc in
    let m : map_bits 0 N xs ≡ take N bits = rw (← i) (subst (λ (n : ℕ). map_bits 0 n (ids_of 0 (take N bits)) ≡ take N bits) k (map_ids (take N bits) 0)) in
    record {
      within = subst (Within 0 N) i (within_ids (take N bits) 0 N (omega (arith, k)));
      count = sym (ap length i) ∙ eqb-true (length (ids_of 0 (take N bits))) len t.1;
      bits_are = rw (m, ← r) (sym (take-append-drop N bits));
    }

pub body_only : (r : Regime) (N len : ℕ) (bits : List Bool) (xs : List ℕ) (rest : List Bool) → regime N len ≡ r → read_body r N len bits ≡ given xs rest → Body r N len bits xs rest
body_only empty N len bits xs rest q e =
    let p : [] ≡ xs = cc in
    let s : bits ≡ rest = cc in
    subst (λ (l : List ℕ). Body empty N len bits l rest) p (record { within = tt; count = sym (empty_of N len q); bits_are = s })
body_only sparse N len bits xs rest q e = let g = gaps_only len 0 N bits xs rest e in record { within = g.within; count = g.count; bits_are = g.bits_are }
body_only bitmap N len bits xs rest q e = map_only N len bits xs rest e
body_only dense N len bits xs rest q e =
    let a = cond_ids (leb len N) _ xs rest e in
    let b = left_ids N (read_gaps (N - len) 0 N bits) xs rest a.1 in
    let g = gaps_only (N - len) 0 N bits b.0 rest b.2 in
    let h : len ≤ N = leb-true len N a.0 in
    let c : length b.0 + length (absent N b.0) ≡ N = absent_count N b.0 g.within in
    subst (λ (l : List ℕ). Body dense N len bits l rest) (sym b.1) (record {
      within = absent_within N b.0 g.within;
      count = omega (arith, c, g.count);
      bits_are = rw (absent_absent N b.0 g.within) g.bits_are;
    })

pub set_only : (N : ℕ) (bits : List Bool) (xs : List ℕ) (rest : List Bool) → read_set N bits ≡ given xs rest → Within 0 N xs × (bits ≡ set_bits N xs ++ rest)
unfolding read_set set_bits
set_only N bits xs rest e =
    let a = and_ids_lem (read_delta bits) _ xs rest e in
    let b = body_only (regime N a.0) N a.0 a.1 xs rest refl a.3 in
    (b.within, rw (b.count, append_assoc) (delta_only a.0 bits a.1 a.2 ∙ ap (λ (l : List Bool). delta a.0 ++ l) b.bits_are))

-- ---- payloads

padding_read : (k : ℕ) → padding (replicate k false) ≡ true
unfolding padding
padding_read zero = refl
padding_read (suc k) = padding_read k

padding_only : (bits : List Bool) → padding bits ≡ true → bits ≡ replicate (length bits) false
unfolding padding
padding_only [] e = refl
padding_only (false ∷ bits) e = ap (λ (l : List Bool). false ∷ l) (padding_only bits e)
padding_only (true ∷ bits) e = let x : ◌≡◌ {A = ℕ} 0 1 = cc in absurd (omega arith)

pub decode_encode : (N : ℕ) (xs : List ℕ) → Within 0 N xs → decode_set N (encode_set N xs) ≡ set xs
unfolding decode_set encode_set
decode_encode N xs w =
    let p = bits_of_pack (set_bits N xs) in
    rw (p.1, set_read N xs (replicate p.0 false) w, length-replicate p.0 false, lt-ltb p.0 8 p.2, padding_read p.0)

cond_set : (t : Bool) (xs ys : List ℕ) → cond t (set xs) no_set ≡ set ys → (t ≡ true) × (xs ≡ ys)
cond_set true xs ys e = (refl, cc)
cond_set false xs ys e = let x : ◌≡◌ {A = ℕ} 0 1 = cc in absurd (omega arith)

pub padded_set : (r : ReadIds) (xs : List ℕ) → padded r ≡ set xs → (rest : List Bool) × (r ≡ given xs rest) × (length rest < 8) × (rest ≡ replicate (length rest) false)
padded_set none xs e = let x : ◌≡◌ {A = ℕ} 0 1 = cc in absurd (omega arith)
padded_set (given ys rest) xs e =
    let c = cond_set _ ys xs e in
    let t = and_true (ltb (length rest) 8) (padding rest) c.0 in
    (rest, ap (λ (l : List ℕ). given l rest) c.1, ltb-true (length rest) 8 t.0, padding_only rest t.1)

-- a payload is read as a set exactly when it is that set's written form
pub decode_only : (N : ℕ) (payload : List ℕ) (xs : List ℕ) → AreBytes payload → decode_set N payload ≡ set xs → Within 0 N xs × (payload ≡ encode_set N xs)
unfolding decode_set encode_set
decode_only N payload xs h e =
    let p = padded_set (read_set N (bits_of payload)) xs e in
    let s = set_only N (bits_of payload) xs p.0 p.1 in
    (s.0, sym (packed payload (set_bits N xs) (length p.0) h (s.1 ∙ ap (λ (l : List Bool). set_bits N xs ++ l) p.3) p.2))
