-- Laws of lists that hold for any runs.
use Prim.Native.Nat.{ℕ, zero, suc, ◌+◌, ◌-◌, ◌%◌, ◌≤◌, ◌<◌}
use mathlib.Core.Path.{◌≡◌, refl, sym, ap, ap₂, ◌∙◌}
use mathlib.Core.List.{List, [], ◌∷◌, ◌++◌, reverse, reverse-cons}
use native.Mathlib.Omega.{arith}
use native.Mathlib.Nat.{add-zero}
use native.Mathlib.Numerals.{add-one}
use native.Mathlib.Decide.{dec_lt}
use lib.ListN.{length, take, drop, get_or, set, length-set, take-append-drop, replicate, length-append, length-drop, get_or-append}
use lib.Seq.{drop-cons, get_or-append-add, get_or-drop, get_or-take, length-take-le, take-suc, take-suc-set, drop-set-lt, drop-drop, take_all}
use Rattle.std.proofs.Math.Nat.{add-mod-mod, add-mod_left, add-mod_right, mod-add-mod, mod-eq_of_lt, mod-lt}
use Rattle.base.specs.Parts.{over}
use Rattle.base.proofs.All.{All, all_append, all_take, all_drop}

-- k equal elements from place a on
pub split_run : {A : Type 0} (xs : List A) (a k : ℕ) (d z : A) → a + k ≤ length xs → ((v : ℕ) → a ≤ v → v < a + k → get_or xs v z ≡ d) → drop a xs ≡ replicate k d ++ drop (a + k) xs
split_run {A = A} xs a zero d z h same = ap (λ (n : ℕ). drop n xs) (sym (add-zero a))
split_run {A = A} xs a (suc k) d z h same =
    let e : a + suc k ≡ suc a + k = omega arith in
    let r : drop (suc a) xs ≡ replicate k d ++ drop (suc a + k) xs = split_run xs (suc a) k d z (omega arith) (λ v l m. same v (omega arith) (omega arith)) in
    let here : get_or xs a z ≡ d = same a (omega arith) (omega arith) in
    drop-cons xs a z (omega arith) ∙ ap₂ (λ (x : A) (l : List A). x ∷ l) here (r ∙ ap (λ (n : ℕ). replicate k d ++ drop n xs) (sym e))

-- an element behind the first list
pub get_or_behind : {A : Type 0} (xs ys : List A) (v : ℕ) (z : A) → length xs ≤ v → get_or (xs ++ ys) v z ≡ get_or ys (v - length xs) z
get_or_behind xs ys v z h =
    let e : v ≡ length xs + (v - length xs) = omega arith in
    ap (λ (n : ℕ). get_or (xs ++ ys) n z) e ∙ get_or-append-add xs ys (v - length xs) z

replicate_snoc : {A : Type 0} (k : ℕ) (d : A) → replicate k d ++ (d ∷ []) ≡ d ∷ replicate k d
replicate_snoc zero d = refl
replicate_snoc {A = A} (suc k) d = ap (λ (l : List A). d ∷ l) (replicate_snoc k d)

pub reverse_replicate : {A : Type 0} (k : ℕ) (d : A) → reverse (replicate k d) ≡ replicate k d
reverse_replicate zero d = refl
reverse_replicate {A = A} (suc k) d = reverse-cons d (replicate k d) ∙ ap (λ (l : List A). l ++ (d ∷ [])) (reverse_replicate k d) ∙ replicate_snoc k d

-- the elements of a turned list
module _ {A : Type 0} (p : ℕ) (xs : List A) (z : A) (inside : p ≤ length xs) where
  pub length_turn : length (drop p xs ++ take p xs) ≡ length xs
  length_turn = simp (length-append, length-drop) (omega (arith, length-take-le p xs inside))

  pub turn_front : (v : ℕ) → v < length xs - p → get_or (drop p xs ++ take p xs) v z ≡ get_or xs (p + v) z
  turn_front v h =
      let l : v < length (drop p xs) = simp length-drop (omega arith) in
      get_or-append (drop p xs) (take p xs) z v l ∙ get_or-drop p xs v z

  pub turn_back : (v : ℕ) → length xs - p ≤ v → v < length xs → get_or (drop p xs ++ take p xs) v z ≡ get_or xs (v - (length xs - p)) z
  turn_back v h g =
      let l : length (drop p xs) ≡ length xs - p = length-drop p xs in
      let b : v - (length xs - p) < p = omega arith in
      get_or_behind (drop p xs) (take p xs) v z (omega arith) ∙ ap (λ (n : ℕ). get_or (take p xs) (v - n) z) l ∙ get_or-take p xs (v - (length xs - p)) z b

-- turned left by pivot mod n, place v has what place (v + pivot) mod n had
pub turned_at : {A : Type 0} (pivot : ℕ) (xs : List A) (z : A) (v : ℕ) → v < length xs → get_or (drop (pivot % length xs) xs ++ take (pivot % length xs) xs) v z ≡ get_or xs ((v + pivot) % length xs) z
turned_at {A} pivot xs z v h = go (dec_lt (v + p) n)
  where
    n : ℕ
    n = length xs

    p : ℕ
    p = pivot % length xs

    low : p < n
    low = mod-lt pivot (omega (arith, h))

    same : (v + p) % n ≡ (v + pivot) % n
    same = add-mod-mod v pivot n

    go : Dec (v + p < n) → get_or (drop p xs ++ take p xs) v z ≡ get_or xs ((v + pivot) % n) z
    go (yes a) =
        let e : p + v ≡ v + p = omega arith in
        turn_front p xs z (omega (arith, low)) v (omega (arith, a)) ∙ ap (λ (k : ℕ). get_or xs k z) (e ∙ sym (mod-eq_of_lt a) ∙ same)
    go (no a) =
        let k : v - (n - p) < n = omega (arith, h, low) in
        let e : v + p ≡ n + (v - (n - p)) = omega (arith, a, low) in
        turn_back p xs z (omega (arith, low)) v (omega (arith, a, low)) h ∙ ap (λ (k : ℕ). get_or xs k z) (sym (mod-eq_of_lt k) ∙ sym (add-mod_left n (v - (n - p))) ∙ ap (λ (j : ℕ). j % n) (sym e) ∙ same)

-- and each place is some place turned
pub turned_onto : (pivot n w : ℕ) → w < n → (v : ℕ) × (v < n) × ((v + pivot) % n ≡ w)
turned_onto pivot n w h =
    let some : 0 < n = omega arith in
    let low : pivot % n < n = mod-lt pivot some in
    let e : w + (n - pivot % n) + pivot % n ≡ w + n = omega (arith, low) in (
      (w + (n - pivot % n)) % n,
      mod-lt (w + (n - pivot % n)) some,
      mod-add-mod (w + (n - pivot % n)) n pivot ∙ sym (add-mod-mod (w + (n - pivot % n)) pivot n) ∙ ap (λ (k : ℕ). k % n) e ∙ add-mod_right w n ∙ mod-eq_of_lt h,
    )

pub all_turn : {A : Type 0} (P : A → Type 0) (k : ℕ) (xs : List A) → All P xs → All P (drop k xs ++ take k xs)
all_turn P k xs a = all_append P (drop k xs) (take k xs) (all_drop P k xs a) (all_take P k xs a)

-- i elements of a list put to the front of an output
pub record Filled {A : Type 0} (xs from out : List A) (i : ℕ) : Type 0 where
  pub long : length out ≡ length from
  pub done : take i out ≡ take i xs
  pub kept : drop i out ≡ drop i from

pub fill_more : {A : Type 0} (xs from out : List A) (i : ℕ) (x z : A) → i < length xs → i < length out → x ≡ get_or xs i z → Filled xs from out i → Filled xs from (set out i x) (i + 1)
fill_more {A = A} xs from out i x z h g e f =
    record {
      long = length-set out i x ∙ f.long;
      done = ap (λ (k : ℕ). take k (set out i x)) (add-one i) ∙ take-suc-set out i x g ∙ ap₂ (λ (l : List A) (y : A). l ++ (y ∷ [])) f.done e ∙ sym (take-suc xs i z h) ∙ ap (λ (k : ℕ). take k xs) (sym (add-one i));
      kept = drop-set-lt (i + 1) out i x (omega arith) ∙ sym (drop-drop 1 i out) ∙ ap (drop 1) f.kept ∙ drop-drop 1 i from;
    }

pub fill_end : (xs from out : List ℕ) (i : ℕ) → i ≡ length xs → Filled xs from out i → out ≡ over xs from
unfolding over
fill_end xs from out i e f =
    let h : length xs ≤ i = omega arith in
    sym (take-append-drop i out) ∙ ap₂ (λ (a b : List ℕ). a ++ b) (f.done ∙ take_all i xs h) (f.kept ∙ ap (λ (k : ℕ). drop k from) e)
