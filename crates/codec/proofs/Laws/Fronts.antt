-- Buffers of which the front is told, and what lies behind a place is as it was.
use Prim.Native.Nat.{ℕ, ◌+◌, ◌-◌, ◌≤◌}
use mathlib.Core.Path.{◌≡◌, refl, sym, ap, ap₂, ◌∙◌, subst}
use mathlib.Core.List.{List, [], ◌++◌, append_assoc}
use native.Mathlib.Omega.{arith}
use lib.ListN.{length, take, drop, take-append-drop}
use lib.Seq.{take_at, drop-append-add, drop-drop, length-take-le}
use Rattle.base.specs.Parts.{over}
use Rattle.base.proofs.Parts.{length_over}
use Rattle.codec.specs.Inside.Bitmaps.{Front}
use Rattle.codec.proofs.Laws.Filled.{over_take}

pub front_none : (count : ℕ) (old : List ℕ) → Front [] count old old
front_none count old = record { front = refl; behind = refl; size = refl }

pub front_start : (k count : ℕ) (old : List ℕ) → k ≤ length old → Front (take k old) count old old
front_start k count old h = record { front = ap (λ (n : ℕ). take n old) (length-take-le k old h); behind = refl; size = refl }

-- what is written over a buffer
pub front_over : (xs old : List ℕ) (count : ℕ) → length xs ≤ count → count ≤ length old → Front xs count old (over xs old)
unfolding over
front_over xs old count h l =
    let d : ℕ = count - length xs in
    let e : count ≡ length xs + d = omega arith in
    record {
      front = over_take xs old (length xs) refl;
      behind = ap (λ (n : ℕ). drop n (xs ++ drop (length xs) old)) e ∙ drop-append-add xs (drop (length xs) old) d ∙ drop-drop d (length xs) old ∙ ap (λ (n : ℕ). drop n old) (sym e);
      size = length_over xs old (omega arith);
    }

module _ (xs : List ℕ) (count : ℕ) (old out : List ℕ) where
  -- less is told
  pub front_wider : (n : ℕ) → count ≤ n → Front xs count old out → Front xs n old out
  front_wider n h so =
      let e : n ≡ count + (n - count) = omega arith in
      let far : (l : List ℕ) → drop n l ≡ drop (n - count) (drop count l) = λ l. ap (λ (k : ℕ). drop k l) e ∙ sym (drop-drop (n - count) count l) in
      record { front = so.front; behind = far out ∙ ap (drop (n - count)) so.behind ∙ sym (far old); size = so.size }

  pub front_part : (ys : List ℕ) → Front (xs ++ ys) count old out → Front xs count old out
  front_part ys so =
      let n : ℕ = length (xs ++ ys) in
      let e : out ≡ xs ++ (ys ++ drop n out) = sym (take-append-drop n out) ∙ ap (λ (l : List ℕ). l ++ drop n out) so.front ∙ append_assoc xs ys (drop n out) in
      record { front = ap (take (length xs)) e ∙ take_at xs (ys ++ drop n out) (length xs) refl; behind = so.behind; size = so.size }

  -- more of it is told
  pub front_more : (k : ℕ) (ys last : List ℕ) → length xs ≡ k → Front xs count old out → Front (take k out ++ ys) count out last → Front (xs ++ ys) count old last
  front_more k ys last e so next =
      let f : take k out ≡ xs = ap (λ (n : ℕ). take n out) (sym e) ∙ so.front in
      let told : Front (xs ++ ys) count out last = subst (λ (l : List ℕ). Front (l ++ ys) count out last) f next in
      record { front = told.front; behind = told.behind ∙ so.behind; size = told.size ∙ so.size }

  -- all of it is told
  pub front_all : length xs ≡ count → Front xs count old out → out ≡ over xs old
  unfolding over
  front_all e so =
      sym (take-append-drop (length xs) out) ∙ ap₂ (λ (a b : List ℕ). a ++ b) so.front (ap (λ (n : ℕ). drop n out) e ∙ so.behind ∙ ap (λ (n : ℕ). drop n old) (sym e))
