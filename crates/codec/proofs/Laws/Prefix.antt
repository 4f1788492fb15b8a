-- Laws of LEB128, for every number of groups.
use Prim.Native.Nat.{ℕ, zero, suc, ◌+◌, ◌-◌, ◌*◌, ◌/◌, ◌%◌, ◌^◌, ◌≤◌, ◌<◌}
use mathlib.Core.Path.{◌≡◌, refl, sym, ap, ap₂, ◌∙◌, subst}
use mathlib.Core.Bool.{Bool, true, false, not, cond, ◌||◌, ◌&&◌}
use mathlib.Core.List.{List, [], ◌∷◌, ◌++◌}
use native.Mathlib.Nat.{pow-suc, div-lt_iff_lt-mul, mul_assoc, mul_comm, mul-add, add_assoc}
use native.Mathlib.Numerals.{add-one}
use lib.Seq.{drop-cons}
use lib.Arith.{digits_lt}
use lib.Pow.{pow-add}
use native.Mathlib.Decide.{dec_lt}
use native.Mathlib.Omega.{arith}
use lib.ListN.{length, get_or, drop, drop_of_length-le, length-drop}
use lib.Dec.{ltb, eqb, lit<}
use borrow.Author.Tests.{lt-ltb, le-ltb, eq-eqb, ne_eqb, ltb-true, ltb-false}
use Rattle.codec.specs.Prefix.{prefix_in}
use Rattle.codec.specs.Inside.Prefixes.{last_of}
use Rattle.base.specs.Answers.{refused, done}
use Rattle.codec.specs.Bits.{AreBytes}
use Rattle.codec.specs.Prefix.{leb_in, prefix_of, ReadLeb, whole, cut, bad, lift, read_leb, narrow, read_prefix}

-- what a last group that is no needless zero is
abbrev pub Last : Bool → ℕ → Type 0
Last true n = Unit {0}
Last false n = 0 < n

last_ok : (first : Bool) (n : ℕ) → Last first n → first || not (eqb n 0) ≡ true
last_ok true n h = refl
last_ok false n h = rw (ne_eqb n 0 (λ e. omega arith))

last_only : (first : Bool) (n : ℕ) → first || not (eqb n 0) ≡ true → Last first n
last_only true n e = tt
last_only false n e = go (dec_lt 0 n)
  where
    go : Dec (0 < n) → 0 < n
    go (yes h) = h
    go (no h) = let z : n ≡ 0 = omega arith in let q : eqb n 0 ≡ true = eq-eqb n 0 z in let x : ◌≡◌ {A = Bool} true false = sym e ∙ ap not q in let y : ◌≡◌ {A = ℕ} 0 1 = cc in absurd (omega arith)

short_read : (k n : ℕ) (first : Bool) (rest : List ℕ) → n < 128 → Last first n → read_leb (suc k) first (leb_in (suc k) n ++ rest) ≡ whole n rest
unfolding read_leb leb_in
short_read k n first rest h l = rw (lt-ltb n 128 h, lt-ltb n 128 h, last_ok first n l)

pub leb_read : (k n : ℕ) (first : Bool) (rest : List ℕ) → n < 128 ^ suc k → Last first n → read_leb (suc k) first (leb_in (suc k) n ++ rest) ≡ whole n rest
unfolding read_leb leb_in
leb_read zero n first rest h l = short_read 0 n first rest h l
leb_read (suc k) n first rest h l = go (dec_lt n 128) (leb_read k (n / 128) false rest)
  where
    go : Dec (n < 128) → (n / 128 < 128 ^ suc k → 0 < n / 128 → read_leb (suc k) false (leb_in (suc k) (n / 128) ++ rest) ≡ whole (n / 128) rest)
        → read_leb (suc (suc k)) first (leb_in (suc (suc k)) n ++ rest) ≡ whole n rest
    go (yes s) ih = short_read (suc k) n first rest s l
    go (no s) ih =
        let b : ℕ = n % 128 + 128 in
        let q : n / 128 < 128 ^ suc k = (div-lt_iff_lt-mul (lit< tt)).1 (subst (λ (x : ℕ). n < x) (pow-suc 128 (suc k)) h) in
        let v : b % 128 + 128 * (n / 128) ≡ n = omega arith in
        rw (le-ltb n 128 (omega arith), le-ltb b 128 (omega arith), ih q (omega arith), v)

whole_cut : {A : Type 0} {n : ℕ} {rest : List ℕ} → cut ≡ whole n rest → A
whole_cut {n = n} {rest = rest} e = let x : ◌≡◌ {A = ℕ} 0 1 = cc in absurd (omega arith)

whole_bad : {A : Type 0} {n : ℕ} {rest : List ℕ} → bad ≡ whole n rest → A
whole_bad {n = n} {rest = rest} e = let x : ◌≡◌ {A = ℕ} 0 1 = cc in absurd (omega arith)

lift_whole : (low scale : ℕ) (r : ReadLeb) (n : ℕ) (rest : List ℕ) → lift low scale r ≡ whole n rest → (m : ℕ) × (n ≡ low + scale * m) × (r ≡ whole m rest)
lift_whole low scale (whole m rest') n rest e = (m, cc, cc)
lift_whole low scale cut n rest e = whole_cut e
lift_whole low scale bad n rest e = whole_bad e

power : (k : ℕ) → 1 ≤ 128 ^ k
power zero = omega arith
power (suc k) = omega (arith, pow-suc 128 k, power k)

pub record Written (k n : ℕ) (first : Bool) (bytes rest : List ℕ) : Type 0 where
  pub fits : n < 128 ^ k
  pub last : Last first n
  pub are : bytes ≡ leb_in k n ++ rest

last_less : (first : Bool) (n m : ℕ) → n ≤ m → Last first n → Last first m
last_less true n m h l = tt
last_less false n m h l = omega arith

pub leb_only : (k n : ℕ) (first : Bool) (bytes rest : List ℕ) → AreBytes bytes → read_leb k first bytes ≡ whole n rest → Written k n first bytes rest
unfolding read_leb leb_in
leb_only zero n first bytes rest h e = whole_bad e
leb_only (suc k) n first [] rest h e = whole_cut e
leb_only (suc k) n first (b ∷ bytes) rest h e = go (ltb b 128) refl e (λ m. leb_only k m false bytes rest (λ i. h (suc i)))
  where
    go : (t : Bool) → ltb b 128 ≡ t → cond t (cond (first || not (eqb b 0)) (whole b bytes) bad) (lift (b % 128) 128 (read_leb k false bytes)) ≡ whole n rest
        → ((m : ℕ) → read_leb k false bytes ≡ whole m rest → Written k m false bytes rest) → Written (suc k) n first (b ∷ bytes) rest
    go true q e ih = last (first || not (eqb b 0)) refl e
      where
        last : (t : Bool) → first || not (eqb b 0) ≡ t → cond t (whole b bytes) bad ≡ whole n rest → Written (suc k) n first (b ∷ bytes) rest
        last true w e =
            let p : b ≡ n = cc in
            let r : bytes ≡ rest = cc in
            let l : b < 128 = ltb-true b 128 q in
            subst (λ (m : ℕ). Written (suc k) m first (b ∷ bytes) rest) p (record {
              fits = omega (arith, l, pow-suc 128 k, power k);
              last = last_only first b w;
              are = rw (lt-ltb b 128 l, r);
            })
        last false w e = whole_bad e
    go false q e ih =
        let t = lift_whole (b % 128) 128 (read_leb k false bytes) n rest e in
        let i = ih t.0 t.2 in
        let g : 128 ≤ b = ltb-false b 128 q in
        let byte : b < 256 = h 0 in
        let d : n / 128 ≡ t.0 = omega (arith, t.1) in
        let r : n % 128 + 128 ≡ b = omega (arith, t.1) in
        let z : 128 ≤ n = omega (arith, t.1, i.last) in
        record {
          fits = omega (arith, t.1, i.fits, pow-suc 128 k);
          last = last_less first 1 n (omega arith) (one first);
          are = rw (le-ltb n 128 z, d, r) (ap (λ (l : List ℕ). b ∷ l) i.are);
        }
      where
        one : (first : Bool) → Last first 1
        one true = tt
        one false = omega arith

-- ---- a prefix read group by group

lift_one : (r : ReadLeb) → r ≡ lift 0 1 r
lift_one (whole n rest) = ap (λ (m : ℕ). whole m rest) (one n)
  where
    one : (n : ℕ) → n ≡ 0 + 1 * n
    one n = omega arith
lift_one cut = refl
lift_one bad = refl

lift_lift : (a s b t : ℕ) (r : ReadLeb) → lift a s (lift b t r) ≡ lift (a + b * s) (s * t) r
lift_lift a s b t (whole n rest) = ap (λ (m : ℕ). whole m rest) (sums a s b t n)
  where
    sums : (a s b t n : ℕ) → a + s * (b + t * n) ≡ a + b * s + s * t * n
    sums a s b t n = rw (mul-add s b (t * n), mul_comm s b, mul_assoc s t n) (sym (add_assoc a (b * s) (s * (t * n))))
lift_lift a s b t cut = refl
lift_lift a s b t bad = refl

-- the answer with i groups read, whose value is v
abbrev pub Sofar : List ℕ → ℕ → ℕ → Type 0
Sofar bytes v i = (v < 2 ^ (7 * i)) × (read_leb 5 true bytes ≡ lift v (2 ^ (7 * i)) (read_leb (5 - i) (eqb i 0) (drop i bytes)))

pub sofar_none : (bytes : List ℕ) → Sofar bytes 0 0
sofar_none bytes = (omega arith, lift_one (read_leb 5 true bytes))

step_pow : (i : ℕ) → 2 ^ (7 * (i + 1)) ≡ 2 ^ (7 * i) * 128
step_pow i =
    let e : 7 * (i + 1) ≡ 7 * i + 7 = omega arith in
    ap (λ (k : ℕ). 2 ^ k) e ∙ pow-add 2 (7 * i) 7

module _ (bytes : List ℕ) (v i b : ℕ) (more : i < 5) (s : Sofar bytes v i) where
  groups : 5 - i ≡ suc (5 - (i + 1))
  groups = omega arith

  pub sofar_cut : length bytes ≤ i → read_prefix bytes ≡ cut
  unfolding read_prefix read_leb
  sofar_cut h =
      let d : drop i bytes ≡ [] = drop_of_length-le bytes {i = i} h in
      let e : read_leb 5 true bytes ≡ cut = s.1 ∙ ap₂ (λ (k : ℕ) (l : List ℕ). lift v (2 ^ (7 * i)) (read_leb k (eqb i 0) l)) groups d in
      ap narrow e

  module _ (has : i < length bytes) (is : b ≡ get_or bytes i 0) where
    split : drop i bytes ≡ b ∷ drop (suc i) bytes
    split = rw is (drop-cons bytes i 0 has)

    here : read_leb 5 true bytes ≡ lift v (2 ^ (7 * i)) (read_leb (suc (5 - (i + 1))) (eqb i 0) (b ∷ drop (suc i) bytes))
    here = s.1 ∙ ap₂ (λ (k : ℕ) (l : List ℕ). lift v (2 ^ (7 * i)) (read_leb k (eqb i 0) l)) groups split

    pub sofar_more : 128 ≤ b → b < 256 → Sofar bytes (v + (b - 128) * 2 ^ (7 * i)) (i + 1)
    unfolding read_leb
    sofar_more g l =
        let m : b % 128 ≡ b - 128 = omega arith in
        let rest : ReadLeb = read_leb (5 - (i + 1)) false (drop (suc i) bytes) in
        let e : read_leb (suc (5 - (i + 1))) (eqb i 0) (b ∷ drop (suc i) bytes) ≡ lift (b - 128) 128 rest = rw (le-ltb b 128 g, m) in
        let f : eqb (i + 1) 0 ≡ false = ne_eqb (i + 1) 0 (λ z. omega arith) in
        let n : drop (i + 1) bytes ≡ drop (suc i) bytes = ap (λ (k : ℕ). drop k bytes) (add-one i) in (
          rw (step_pow i) (omega (arith, s.0, digits_lt {q = b - 128} {m = 128} (omega arith) s.0)),
          rw (f, step_pow i, n) (here ∙ ap (lift v (2 ^ (7 * i))) e ∙ lift_lift v (2 ^ (7 * i)) (b - 128) 128 rest),
        )

    pub sofar_last : b < 128 → read_prefix bytes ≡ narrow (lift v (2 ^ (7 * i)) (cond (eqb i 0 || not (eqb b 0)) (whole b (drop (suc i) bytes)) bad))
    unfolding read_prefix read_leb
    sofar_last l =
        let e : read_leb (suc (5 - (i + 1))) (eqb i 0) (b ∷ drop (suc i) bytes) ≡ cond (eqb i 0 || not (eqb b 0)) (whole b (drop (suc i) bytes)) bad = rw (lt-ltb b 128 l) in
        ap narrow (here ∙ ap (lift v (2 ^ (7 * i))) e)

pub sofar_bad : (bytes : List ℕ) (v i : ℕ) → i ≡ 5 → Sofar bytes v i → read_prefix bytes ≡ bad
unfolding read_prefix read_leb
sofar_bad bytes v i e s = let z : 5 - i ≡ 0 = omega arith in ap narrow (s.1 ∙ ap (λ (k : ℕ). lift v (2 ^ (7 * i)) (read_leb k (eqb i 0) (drop i bytes))) z)

pub prefix_in_last : (bytes : List ℕ) (v i b : ℕ) → i < length bytes
    → prefix_in (length bytes) (narrow (lift v (2 ^ (7 * i)) (cond (eqb i 0 || not (eqb b 0)) (whole b (drop (suc i) bytes)) bad))) ≡ last_of v b i
prefix_in_last bytes v i b h = go (eqb i 0 || not (eqb b 0)) (ltb (v + 2 ^ (7 * i) * b) (2 ^ 32)) refl
  where
    n : length bytes - length (drop (suc i) bytes) ≡ i + 1
    n = simp length-drop (omega arith)

    go : (t u : Bool) → ltb (v + 2 ^ (7 * i) * b) (2 ^ 32) ≡ u
        → prefix_in (length bytes) (narrow (lift v (2 ^ (7 * i)) (cond t (whole b (drop (suc i) bytes)) bad))) ≡ cond (u && t) (done ((v + 2 ^ (7 * i) * b) ∷ (i + 1) ∷ [])) (refused 5)
    go true true e = rw (e, n)
    go true false e = rw e
    go false true e = refl
    go false false e = refl

-- a written prefix is read
pub prefix_read : (n : ℕ) (rest : List ℕ) → n < 2 ^ 32 → read_prefix (prefix_of n ++ rest) ≡ whole n rest
unfolding read_prefix prefix_of
prefix_read n rest h =
    let l : n < 128 ^ 5 = omega arith in
    ap narrow (leb_read 4 n true rest l tt) ∙ ap (λ (t : Bool). cond t (whole n rest) bad) (lt-ltb n (2 ^ 32) h)

-- ---- what is behind a prefix

leb_behind : (k : ℕ) (first : Bool) (bytes : List ℕ) (n : ℕ) (rest : List ℕ) → read_leb k first bytes ≡ whole n rest → (i : ℕ) × (i ≤ length bytes) × (rest ≡ drop i bytes)
unfolding read_leb
leb_behind zero first bytes n rest e = whole_bad e
leb_behind (suc k) first [] n rest e = whole_cut e
leb_behind (suc k) first (b ∷ bytes) n rest e = go (ltb b 128) (first || not (eqb b 0)) e (λ m. leb_behind k false bytes m rest)
  where
    go : (t u : Bool) → cond t (cond u (whole b bytes) bad) (lift (b % 128) 128 (read_leb k false bytes)) ≡ whole n rest
        → ((m : ℕ) → read_leb k false bytes ≡ whole m rest → (i : ℕ) × (i ≤ length bytes) × (rest ≡ drop i bytes)) → (i : ℕ) × (i ≤ length (b ∷ bytes)) × (rest ≡ drop i (b ∷ bytes))
    go true true e ih = (1, omega arith, cc)
    go true false e ih = whole_bad e
    go false u e ih =
        let t = lift_whole (b % 128) 128 (read_leb k false bytes) n rest e in
        let i = ih t.0 t.2 in
        (suc i.0, omega (arith, i.1), i.2)

-- the number and the length that the answer tells, and the bytes behind that length
pub prefix_behind : (bytes : List ℕ) (v len : ℕ) → done (v ∷ len ∷ []) ≡ prefix_in (length bytes) (read_prefix bytes) → (read_prefix bytes ≡ whole v (drop len bytes)) × (len ≤ length bytes) × (v < 2 ^ 32)
unfolding read_prefix
prefix_behind bytes v len e = go (read_leb 5 true bytes) refl e
  where
    go : (r : ReadLeb) → read_leb 5 true bytes ≡ r → done (v ∷ len ∷ []) ≡ prefix_in (length bytes) (narrow r) → (narrow r ≡ whole v (drop len bytes)) × (len ≤ length bytes) × (v < 2 ^ 32)
    go cut q e = let x : ◌≡◌ {A = ℕ} 0 1 = cc in absurd (omega arith)
    go bad q e = let x : ◌≡◌ {A = ℕ} 0 1 = cc in absurd (omega arith)
    go (whole n rest) q e = small (ltb n (2 ^ 32)) refl e
      where
        small : (t : Bool) → ltb n (2 ^ 32) ≡ t → done (v ∷ len ∷ []) ≡ prefix_in (length bytes) (cond t (whole n rest) bad) → (cond t (whole n rest) bad ≡ whole v (drop len bytes)) × (len ≤ length bytes) × (v < 2 ^ 32)
        small false p e = let x : ◌≡◌ {A = ℕ} 0 1 = cc in absurd (omega arith)
        small true p e =
            let b = leb_behind 5 true bytes n rest q in
            let m : n ≡ v = cc in
            let l : length bytes - length rest ≡ len = cc in
            let i : b.0 ≡ len = omega (arith, l, b.1, ap length b.2, length-drop b.0 bytes) in
            (ap₂ whole m (b.2 ∙ ap (λ (k : ℕ). drop k bytes) i), omega arith, subst (λ (k : ℕ). k < 2 ^ 32) m (ltb-true n (2 ^ 32) p))
