-- Which calls of a list are accepted, seen from the plain store.
use Prim.Native.Nat.{ℕ, zero, suc, ◌+◌, ◌*◌, ◌<◌}
use mathlib.Core.Path.{◌≡◌, refl, sym, ap, ◌∙◌}
use mathlib.Core.Bool.{Bool, true, false, not, ◌||◌}
use mathlib.Core.List.{List, [], ◌∷◌, ◌++◌, map, append_assoc, append-nil}
use mathlib.Core.Option.{Option, none, some}
use native.Mathlib.Omega.{arith}
use native.Mathlib.Nat.{add-zero}
use lib.ListN.{length, get_or, length-append}
use lib.Dec.{eqb}
use borrow.Author.Tests.{eq-eqb, ne_eqb}
use Rattle.base.specs.Tests.{◌when◌else◌}
use Rattle.runs.specs.Words.{coordinate_of}
use Rattle.store.specs.Demand.{LentCall, accepted_from, all_seen, as_seen, if_accepted, out_of, sent, set_for, sets_in, showing, updating}
use Rattle.store.specs.Once.{Item, show_call, item_call, numbered_call, update_of, updates_from}
use Rattle.store.specs.Plain.{Plain, SharedLengths, Unitig, Update, Verdict, Way, accept, accepted, add, add_tests, again, close, close_effect, close_tests, effect, join, join_tests, plain_run, plain_step, plain_update, refuse, repeat, tests, verdict}
use Rattle.store.proofs.Laws.Gates.{found_later, verdict_accept}

-- ---- a repeated answer comes of the last number alone

refuse_repeat : (n a : ℕ) (t : Bool) (v : Verdict) → ◌when◌else◌ (refuse n) t v ≡ repeat a → v ≡ repeat a
refuse_repeat n a t v e = (found_later t (λ z. let x : ◌≡◌ {A = ℕ} 0 1 = cc in omega arith) e).1

accept_repeat : (a : ℕ) → accept ≡ repeat a → ⊥
accept_repeat a e = let z : ◌≡◌ {A = ℕ} 0 1 = cc in omega arith

close_not_repeat : (closed : List Unitig) (l : SharedLengths) (way : Way) (c : Option Unitig) (a : ℕ) → close_tests closed l way c ≡ repeat a → ⊥
unfolding close_tests
close_not_repeat closed l way none a e = let z : ◌≡◌ {A = ℕ} 0 1 = cc in omega arith
close_not_repeat closed l way (some u) a e = accept_repeat a (refuse_repeat _ a _ _ (refuse_repeat _ a _ _ e))

pub tests_not_repeat : (p : Plain) (u : Update) (a : ℕ) → tests p u ≡ repeat a → ⊥
unfolding tests add_tests join_tests
tests_not_repeat p (add ids) a e = accept_repeat a (refuse_repeat _ a _ _ (refuse_repeat _ a _ _ e))
tests_not_repeat p (join n reversed piece) a e =
    accept_repeat a (refuse_repeat _ a _ _ (refuse_repeat _ a _ _ (refuse_repeat _ a _ _ (refuse_repeat _ a _ _ (refuse_repeat _ a _ _ e)))))
tests_not_repeat p (close way) a e = close_not_repeat p.closed p.shared way p.cell.current a e

verdict_repeat : (p : Plain) (i : ℕ) (u : Update) (a : ℕ) → verdict p i u ≡ repeat a → eqb i p.cell.last ≡ true
unfolding verdict ◌when◌else◌
verdict_repeat p i u a e = go (eqb i p.cell.last) (refuse_repeat 10 a (eqb i 0 || not (eqb i p.cell.last || eqb i (p.cell.last + 1))) _ e)
  where
    go : (t : Bool) → ◌when◌else◌ (again p.cell.call u) t (tests p u) ≡ repeat a → t ≡ true
    go true e = refl
    go false e = absurd (tests_not_repeat p u a e)

-- ---- one numbered_call call of a list

-- the accepted calls of a list that the plain store runs from p on
abbrev pub acc : Plain → List LentCall → List (ℕ × Update)
acc p cs = accepted_from p.cell.last cs (all_seen cs (plain_run p (map sent cs)).0)

-- it is passed over, or it is accepted
pub data Taken (p : Plain) (i : ℕ) (u : Update) : Plain → List (ℕ × Update) → List (ℕ × Update) → Type 0 where
  passed : {y : List (ℕ × Update)} → Taken p i u p y y
  taking : {y : List (ℕ × Update)} → i ≡ p.cell.last + 1 → tests p u ≡ accept → Taken p i u (accepted p i u (effect p u)) (((effect p u).0, u) ∷ y) y

module _ (p : Plain) (i : ℕ) (u : Update) where
  taken_by : (v : Verdict) → verdict p i u ≡ v → (rest : ℕ → List (ℕ × Update))
      → Taken p i u (plain_update v p i u).1 (if_accepted (as_seen (plain_update v p i u).0 (out_of (updating i u))).answer p.cell.last i u rest) (rest (plain_update v p i u).1.cell.last)
  unfolding if_accepted plain_update as_seen ◌when◌else◌ accepted
  taken_by (refuse n) e rest = passed
  taken_by (repeat a) e rest = rw (verdict_repeat p i u a e) passed
  taken_by accept e rest =
      let g = verdict_accept p i u e in
      let n : i ≡ p.cell.last → ⊥ = λ q. omega (arith, g.0) in
      rw (ne_eqb i p.cell.last n) (taking g.0 g.1)

  pub taken : (cs : List LentCall) → Taken p i u (plain_step p (sent (updating i u))).1 (acc p (updating i u ∷ cs)) (acc (plain_step p (sent (updating i u))).1 cs)
  unfolding plain_run all_seen accepted_from plain_step sent
  taken cs = taken_by (verdict p i u) refl (λ l. accepted_from l cs (all_seen cs (plain_run (plain_update (verdict p i u) p i u).1 (map sent cs)).0))

-- ---- S is what was accepted

pub close_sets : (p : Plain) (way : Way) (c : Option Unitig) → (close_effect p way c).1 ≡ p.cell.S
unfolding close_effect
close_sets p way none = refl
close_sets p way (some u) = refl

grown_sets : (p : Plain) (u : Update) (us : List (ℕ × Update)) → (effect p u).1 ++ sets_in us ≡ p.cell.S ++ sets_in (((effect p u).0, u) ∷ us)
unfolding effect sets_in
grown_sets p (add ids) us = append_assoc p.cell.S (ids ∷ []) (sets_in us)
grown_sets p (join n reversed piece) us = refl
grown_sets p (close way) us = rw (close_sets p way p.cell.current)

sets_step : {p : Plain} {i : ℕ} {u : Update} {q : Plain} {x y : List (ℕ × Update)} → Taken p i u q x y → (final : List (List ℕ)) → final ≡ q.cell.S ++ sets_in y → final ≡ p.cell.S ++ sets_in x
unfolding accepted
sets_step passed final h = h
sets_step {p} {u = u} (taking {y} n go) final h = h ∙ grown_sets p u y

pub sets_run : (p : Plain) (cs : List LentCall) → (plain_run p (map sent cs)).1.cell.S ≡ p.cell.S ++ sets_in (acc p cs)
unfolding plain_run all_seen accepted_from sets_in plain_step sent
sets_run p [] = sym (append-nil p.cell.S)
sets_run p (showing k v out ∷ cs) = sets_run p cs
sets_run p (updating i u ∷ cs) = sets_step (taken p i u cs) _ (sets_run (plain_step p (sent (updating i u))).1 cs)

-- ---- the first accepted add that answered a coordinate

coord_self : (W k : ℕ) → eqb (coordinate_of W k) (coordinate_of W (k + 0)) ≡ true
coord_self W k = eq-eqb _ _ (ap (coordinate_of W) (sym (add-zero k)))

coord_other : (W k j : ℕ) → eqb (coordinate_of W k) (coordinate_of W (k + suc j)) ≡ false
coord_other W k j =
    let n : W + 256 * k ≡ W + 256 * (k + suc j) → ⊥ = λ e. omega arith in
    ne_eqb _ _ n

abbrev Firsts : ℕ → ℕ → List (ℕ × Update) → Type 0
Firsts W k us = (j : ℕ) → j < length (sets_in us) → set_for (coordinate_of W (k + j)) us ≡ some (get_or (sets_in us) j [])

first_done : (p : Plain) (u : Update) (us : List (ℕ × Update)) → Firsts p.cell.W (length (effect p u).1) us → Firsts p.cell.W (length p.cell.S) (((effect p u).0, u) ∷ us)
unfolding effect sets_in set_for ◌when◌else◌
first_done p (add ids) us h zero l = rw (coord_self p.cell.W (length p.cell.S))
first_done p (add ids) us h (suc j) l =
    let g : j < length (sets_in us) = omega arith in
    let m : length (p.cell.S ++ (ids ∷ [])) + j ≡ length p.cell.S + suc j = omega (arith, length-append p.cell.S (ids ∷ [])) in
    rw (coord_other p.cell.W (length p.cell.S) j) (ap (λ (n : ℕ). set_for (coordinate_of p.cell.W n) us) (sym m) ∙ h j g)
first_done p (join n reversed piece) us h j l = h j l
first_done p (close way) us h j l = ap (λ (S : List (List ℕ)). set_for (coordinate_of p.cell.W (length S + j)) us) (sym (close_sets p way p.cell.current)) ∙ h j l

first_step : {p : Plain} {i : ℕ} {u : Update} {q : Plain} {x y : List (ℕ × Update)} → Taken p i u q x y → Firsts q.cell.W (length q.cell.S) y → Firsts p.cell.W (length p.cell.S) x
unfolding accepted
first_step passed h = h
first_step {p} {u = u} (taking {y} n go) h = first_done p u y h

pub first_run : (p : Plain) (cs : List LentCall) → Firsts p.cell.W (length p.cell.S) (acc p cs)
unfolding plain_run all_seen accepted_from sets_in plain_step sent
first_run p [] = λ j l. absurd (omega arith)
first_run p (showing k v out ∷ cs) = first_run p cs
first_run p (updating i u ∷ cs) = first_step (taken p i u cs) (first_run (plain_step p (sent (updating i u))).1 cs)

-- ---- each number with one call: the accepted calls are 1 to m, each once and in order

pub record Once (updates : ℕ → Update) (last final : ℕ) (us : List (ℕ × Update)) : Type 0 where
  pub m : ℕ
  pub sum : final ≡ last + m
  pub those : map update_of us ≡ updates_from updates (last + 1) m

once_step : {p : Plain} {i : ℕ} (updates : ℕ → Update) {q : Plain} {x y : List (ℕ × Update)} (final : ℕ) → Taken p i (updates i) q x y → Once updates q.cell.last final y → Once updates p.cell.last final x
unfolding accepted updates_from
once_step updates final passed h = h
once_step updates final (taking n go) h =
    record { m = suc h.m; sum = omega (arith, h.sum); those = rw (← n, h.those) }

pub once_run : (updates : ℕ → Update) (items : List Item) (p : Plain) → Once updates p.cell.last (plain_run p (map sent (map (item_call updates) items))).1.cell.last (acc p (map (item_call updates) items))
unfolding plain_run all_seen accepted_from plain_step sent item_call updates_from
once_run updates [] p = record { m = 0; sum = sym (add-zero p.cell.last); those = refl }
once_run updates (show_call k v out ∷ items) p = once_run updates items p
once_run updates (numbered_call i ∷ items) p =
    once_step updates _ (taken p i (updates i) (map (item_call updates) items)) (once_run updates items (plain_step p (sent (updating i (updates i)))).1)
