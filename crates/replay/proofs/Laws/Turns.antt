-- One call more of a tape.
use Prim.Native.Nat.{ℕ, zero, suc, ◌+◌, ◌-◌, ◌<◌, ◌≤◌, min}
use mathlib.Core.Path.{◌≡◌, refl, sym, ap, ap₂, ◌∙◌}
use mathlib.Core.Bool.{Bool, true, false, not}
use mathlib.Core.List.{List, [], ◌∷◌, ◌++◌, map, map-append, append_assoc}
use mathlib.Core.Option.{Option, none, some}
use native.Mathlib.Omega.{arith}
use native.Mathlib.Nat.{add-zero, zero-add}
use native.Mathlib.Numerals.{add-one}
use lib.ListN.{length, get_or, set, take, drop, length-append, length-map, length-drop}
use lib.Seq.{drop-cons, set_at, take_at, drop_at, length-take-le}
use lib.Dec.{ltb, eqb}
use borrow.Rule.Slice.PartMut.{mid_of, put_mid}
use borrow.Author.Tests.{le-ltb, ne_eqb, ltb-false}
use Rattle.base.specs.Tests.{◌when◌else◌}
use Rattle.base.specs.Answers.{Answer, refused, done}
use Rattle.base.specs.Parts.{over}
use Rattle.base.proofs.Parts.{length_over, over_behind}
use Rattle.codec.specs.Flat.{flat}
use Rattle.store.specs.Plain.{Update, add, join, close, line, cycle}
use Rattle.store.specs.State.{Bufs, lengths_of}
use Rattle.store.specs.Show.{show_step, shown_by, vertex_set, no_place}
use Rattle.store.specs.Altered.{altered}
use Rattle.store.specs.Demand.{LentCall, updating, showing, Seen, seen, store_step, store_run}
use Rattle.store.specs.declared.state.Store.{Store}
use Rattle.store.proofs.Laws.Flats.{flat_more}
use Rattle.replay.specs.declared.Head.{Head}
use Rattle.replay.specs.declared.Call.{Call}
use Rattle.replay.specs.declared.Call.TheVariants as call
use Rattle.store.specs.declared.state.Way.TheVariants.{Line, Cycle}
use Rattle.replay.specs.Tape.{refusal_of, value_of, refusal_in, value_in, out_in, part, head_at, lent_of, room_of, call_of, lent_to, call_at, calls_to, placed, Tape, tape, keep}
use Rattle.replay.specs.Inside.{lent_by, room_by}

-- ---- a list of calls with one more

abbrev pub add_end : List Seen × Store × Bufs → LentCall → List Seen × Store × Bufs
add_end r c = (r.0 ++ ((store_step r.1 r.2 c).0 ∷ []), (store_step r.1 r.2 c).1, (store_step r.1 r.2 c).2)

run_more : (s : Store) (b : Bufs) (cs : List LentCall) (c : LentCall) → store_run s b (cs ++ (c ∷ [])) ≡ add_end (store_run s b cs) c
unfolding store_run
run_more s b [] c = refl
run_more s b (x ∷ cs) c = rw (run_more (store_step s b x).1 (store_step s b x).2 cs c)

run_long : (s : Store) (b : Bufs) (cs : List LentCall) → length (store_run s b cs).0 ≡ length cs
unfolding store_run
run_long s b [] = refl
run_long s b (x ∷ cs) = ap suc (run_long (store_step s b x).1 (store_step s b x).2 cs)

calls_long : (words ids pieces shown : List ℕ) (i : ℕ) → length (calls_to words ids pieces shown i) ≡ i
unfolding calls_to
calls_long words ids pieces shown zero = refl
calls_long words ids pieces shown (suc i) = length-append (calls_to words ids pieces shown i) _ ∙ omega (arith, calls_long words ids pieces shown i)

lent_more : (cs : List LentCall) (c : LentCall) → lent_to (cs ++ (c ∷ [])) ≡ lent_to cs + lent_to (c ∷ [])
unfolding lent_to
lent_more [] c = sym (zero-add (lent_to (c ∷ [])))
lent_more (updating i d ∷ cs) c = lent_more cs c
lent_more (showing u v out ∷ cs) c = omega (arith, lent_more cs c)

-- ---- an output keeps its length

shown_long : (o : Option (List ℕ)) (out : List ℕ) → length (shown_by o out).1 ≡ length out
unfolding shown_by ◌when◌else◌
shown_long none out = refl
shown_long (some ids) out = go (ltb (length out) (length ids)) refl
  where
    go : (t : Bool) → ltb (length out) (length ids) ≡ t → length (◌when◌else◌ {A = Answer × List ℕ} (refused 3, out) t (done (length ids ∷ []), over ids out)).1 ≡ length out
    go true e = refl
    go false e = length_over ids out (ltb-false _ _ e)

test_long : (t u : Bool) (out : List ℕ) (x : Answer × List ℕ) → length x.1 ≡ length out → length (◌when◌else◌ {A = Answer × List ℕ} (refused 15, out) t (◌when◌else◌ {A = Answer × List ℕ} (refused 14, out) u x)).1 ≡ length out
unfolding ◌when◌else◌
test_long true u out x e = refl
test_long false true out x e = refl
test_long false false out x e = e

show_long : (s : Store) (b : Bufs) (u v : ℕ) (out : List ℕ) → length (show_step s b u v out).1 ≡ length out
unfolding show_step
show_long s b u v out = test_long (altered s (lengths_of b)) (no_place s.shared b.shared.table u v) out (shown_by (vertex_set s b u v) out) (shown_long (vertex_set s b u v) out)

out_long : (s : Store) (b : Bufs) (c : LentCall) → length (out_in (store_step s b c).0) ≡ lent_to (c ∷ [])
unfolding store_step lent_to
out_long s b (updating i d) = refl
out_long s b (showing u v out) = show_long s b u v out ∙ sym (add-zero (length out))

lent_none : 0 ≡ lent_to []
unfolding lent_to
lent_none = refl

lent_cons : (c : LentCall) (cs : List LentCall) → lent_to (c ∷ cs) ≡ lent_to (c ∷ []) + lent_to cs
unfolding lent_to
lent_cons (updating i d) cs = sym (zero-add (lent_to cs))
lent_cons (showing u v out) cs = omega arith

outs_long : (s : Store) (b : Bufs) (cs : List LentCall) → length (flat out_in (store_run s b cs).0) ≡ lent_to cs
unfolding store_run flat
outs_long s b [] = lent_none
outs_long s b (c ∷ cs) =
    length-append (out_in (store_step s b c).0) (flat out_in (store_run (store_step s b c).1 (store_step s b c).2 cs).0)
    ∙ ap₂ (λ (m n : ℕ). m + n) (out_long s b c) (outs_long (store_step s b c).1 (store_step s b c).2 cs)
    ∙ sym (lent_cons c cs)

-- ---- the call that a head's numbers mean, and the places that it is lent

module _ (h : Head) where
  pub lent_is : (ids pieces out : List ℕ) → lent_by (call_of h) ids pieces out ≡ lent_of h ids pieces out
  unfolding call_of lent_of lent_by ◌when◌else◌
  lent_is ids pieces out = go (eqb h.kind 0) (eqb h.kind 1) (eqb h.kind 2) (eqb h.kind 3)
    where
      go : (a b c d : Bool)
          → lent_by (◌when◌else◌ (call.Add h.a h.from h.count) a (◌when◌else◌ (call.Join h.a h.b (not (eqb h.c 0)) h.from h.count) b (◌when◌else◌ (call.Close h.a Line) c (◌when◌else◌ (call.Close h.a (Cycle h.b)) d (call.Show h.a h.b h.count))))) ids pieces out
          ≡ ◌when◌else◌ (updating h.a (add (part ids h.from h.count))) a (◌when◌else◌ (updating h.a (join h.b (not (eqb h.c 0)) (part pieces h.from h.count))) b (◌when◌else◌ (updating h.a (close line)) c (◌when◌else◌ (updating h.a (close (cycle h.b))) d (showing h.a h.b out))))
      go true b c d = refl
      go false true c d = refl
      go false false true d = refl
      go false false false true = refl
      go false false false false = refl

  pub room_is : (left : ℕ) → room_by (call_of h) left ≡ room_of h left
  unfolding call_of room_of room_by ◌when◌else◌
  room_is left = go h.kind
    where
      go : (k : ℕ)
          → room_by (◌when◌else◌ (call.Add h.a h.from h.count) (eqb k 0) (◌when◌else◌ (call.Join h.a h.b (not (eqb h.c 0)) h.from h.count) (eqb k 1) (◌when◌else◌ (call.Close h.a Line) (eqb k 2) (◌when◌else◌ (call.Close h.a (Cycle h.b)) (eqb k 3) (call.Show h.a h.b h.count))))) left
          ≡ ◌when◌else◌ 0 (ltb k 4) (min h.count left)
      go zero = refl
      go (suc zero) = refl
      go (suc (suc zero)) = refl
      go (suc (suc (suc zero))) = refl
      go (suc (suc (suc (suc k)))) =
          let a : suc (suc (suc (suc k))) ≡ 0 → ⊥ = λ z. omega arith in
          let b : suc (suc (suc (suc k))) ≡ 1 → ⊥ = λ z. omega arith in
          let c : suc (suc (suc (suc k))) ≡ 2 → ⊥ = λ z. omega arith in
          let d : suc (suc (suc (suc k))) ≡ 3 → ⊥ = λ z. omega arith in
          let l : 4 ≤ suc (suc (suc (suc k))) = omega arith in
          rw (ne_eqb _ _ a, ne_eqb _ _ b, ne_eqb _ _ c, ne_eqb _ _ d, le-ltb _ _ l)

lent_one : (i : ℕ) (d : Update) → lent_to (updating i d ∷ []) ≡ 0
unfolding lent_to
lent_one i d = refl

lent_showing : (u v : ℕ) (out : List ℕ) → lent_to (showing u v out ∷ []) ≡ length out
unfolding lent_to
lent_showing u v out = add-zero (length out)

-- it is lent as many places as its room
room_lent : (c : Call) (ids pieces shown : List ℕ) (at : ℕ) → at ≤ length shown → lent_to (lent_by c ids pieces (take (room_by c (length shown - at)) (drop at shown)) ∷ []) ≡ room_by c (length shown - at)
unfolding lent_by room_by
room_lent (call.Add i from count) ids pieces shown at l = lent_one _ _
room_lent (call.Join i n reversed from count) ids pieces shown at l = lent_one _ _
room_lent (call.Close i Line) ids pieces shown at l = lent_one _ _
room_lent (call.Close i (Cycle pivot)) ids pieces shown at l = lent_one _ _
room_lent (call.Show unitig vertex count) ids pieces shown at l =
    let d : min count (length shown - at) ≤ length (drop at shown) = omega (arith, length-drop at shown) in
    lent_showing _ _ _ ∙ length-take-le (min count (length shown - at)) (drop at shown) d

-- ---- what is told of one call more

over_more : (xs ys : List ℕ) (v i : ℕ) → length xs ≡ i → i < length ys → set (over xs ys) i v ≡ over (xs ++ (v ∷ [])) ys
unfolding over
over_more xs ys v i e h =
    rw (length-append xs (v ∷ []), e, add-one i, drop-cons ys i 0 h, append_assoc xs (v ∷ []) (drop (suc i) ys))
    (set_at xs (get_or ys i 0) (drop (suc i) ys) v i e)

told_more : (f : Seen → ℕ) (xs : List Seen) (x : Seen) (ys : List ℕ) (i : ℕ) → length xs ≡ i → i < length ys → set (over (map f xs) ys) i (f x) ≡ over (map f (xs ++ (x ∷ []))) ys
told_more f xs x ys i e h =
    rw (map-append f xs (x ∷ [])) (over_more (map f xs) ys (f x) i (length-map xs f ∙ e) h)

-- the part of the output that is lent next holds what it held at first
next_part : (front ys : List ℕ) (at room : ℕ) → length front ≡ at → take room (drop at (over front ys)) ≡ take room (drop at ys)
unfolding over
next_part front ys at room e = ap (take room) (drop_at front (drop (length front) ys) at e ∙ ap (λ (k : ℕ). drop k ys) e)

placed_more : (front ys out : List ℕ) (at room : ℕ) → length front ≡ at → length out ≡ room → placed at room out (over front ys) ≡ over (front ++ out) ys
unfolding over
placed_more front ys out at room e h =
    ap₂ (λ (u v : List ℕ). u ++ (out ++ drop room v)) (take_at front (drop (length front) ys) at e) (drop_at front (drop (length front) ys) at e ∙ ap (λ (k : ℕ). drop k ys) e)
    ∙ ap₂ (λ (j k : ℕ). front ++ (out ++ drop j (drop k ys))) (sym h) (sym e)
    ∙ over_behind front out ys

module _ (words ids pieces z₀ : List ℕ) where
  abbrev to : ℕ → List LentCall
  to i = calls_to words ids pieces z₀ i

  pub lent_zero : 0 ≡ lent_to (to 0)
  unfolding calls_to
  lent_zero = lent_none

  calls_more : (i : ℕ) → to (i + 1) ≡ to i ++ (call_at words ids pieces z₀ i (lent_to (to i)) ∷ [])
  unfolding calls_to
  calls_more i = ap to (add-one i)

  module _ (i at room : ℕ) (head : Head) (meant : Call) (inside : at ≤ length z₀) (ea : at ≡ lent_to (to i)) (eh : head ≡ head_at words i) (ec : meant ≡ call_of head) (er : room ≡ room_by meant (length z₀ - at)) where
    room_here : room ≡ room_of head (length z₀ - at)
    room_here = er ∙ ap (λ (c : Call). room_by c (length z₀ - at)) ec ∙ room_is head (length z₀ - at)

    here_is : call_at words ids pieces z₀ i (lent_to (to i)) ≡ lent_by meant ids pieces (take room (drop at z₀))
    here_is = rw (← ea, ← eh, ← room_here) (sym (ap (λ (c : Call). lent_by c ids pieces (take room (drop at z₀))) ec ∙ lent_is head ids pieces (take room (drop at z₀))))

    room_kept : lent_to (lent_by meant ids pieces (take room (drop at z₀)) ∷ []) ≡ room
    room_kept = ap (λ (k : ℕ). lent_to (lent_by meant ids pieces (take k (drop at z₀)) ∷ [])) er ∙ room_lent meant ids pieces z₀ at inside ∙ sym er

    pub lent_next : at + room ≡ lent_to (to (i + 1))
    lent_next =
        sym (ap lent_to (calls_more i) ∙ lent_more (to i) _ ∙ ap₂ (λ (m : ℕ) (c : LentCall). m + lent_to (c ∷ [])) (sym ea) here_is ∙ ap (λ (k : ℕ). at + k) room_kept)

pub keep_none : (s₀ : Store) (b₀ : Bufs) (words ids pieces x₀ y₀ z₀ : List ℕ) → tape s₀ b₀ x₀ y₀ z₀ ≡ keep (store_run s₀ b₀ (calls_to words ids pieces z₀ 0)) x₀ y₀ z₀
unfolding keep over store_run calls_to flat
keep_none s₀ b₀ words ids pieces x₀ y₀ z₀ = refl

module _ (s₀ : Store) (b₀ : Bufs) (words ids pieces x₀ y₀ z₀ : List ℕ) where
  module _ (i at room : ℕ) (head : Head) (meant : Call) (hx : i < length x₀) (hy : i < length y₀) (inside : at ≤ length z₀) (ea : at ≡ lent_to (calls_to words ids pieces z₀ i)) (eh : head ≡ head_at words i) (ec : meant ≡ call_of head) (er : room ≡ room_by meant (length z₀ - at)) where
    abbrev calls : ℕ → List LentCall
    calls j = calls_to words ids pieces z₀ j

    pub keep_more : (s s' : Store) (b b' : Bufs) (x y z out : List ℕ) (a : Answer)
        → tape s b x y z ≡ keep (store_run s₀ b₀ (calls i)) x₀ y₀ z₀
        → ◌≡◌ {A = Seen × Store × Bufs} (seen a out, s', b') (store_step s b (lent_by meant ids pieces (take room (drop at z))))
        → tape s' b' (set x i (refusal_of a)) (set y i (value_of a)) (placed at room out z) ≡ keep (store_run s₀ b₀ (calls (i + 1))) x₀ y₀ z₀
    unfolding keep
    keep_more s s' b b' x y z out a e f =
        let r = store_run s₀ b₀ (calls i) in
        let front : List ℕ = flat out_in r.0 in
        let long : length r.0 ≡ i = run_long s₀ b₀ (calls i) ∙ calls_long words ids pieces z₀ i in
        let wide : length (flat out_in r.0) ≡ at = outs_long s₀ b₀ (calls i) ∙ sym ea in
        let es : s ≡ r.1 = ap (λ (q : Tape). q.store) e in
        let eb : b ≡ r.2 = ap (λ (q : Tape). q.lent) e in
        let ex : x ≡ over (map refusal_in r.0) x₀ = ap (λ (q : Tape). q.refusals) e in
        let ey : y ≡ over (map value_in r.0) y₀ = ap (λ (q : Tape). q.answers) e in
        let ez : z ≡ over (flat out_in r.0) z₀ = ap (λ (q : Tape). q.shown) e in
        let p : take room (drop at z) ≡ take room (drop at z₀) = ap (λ (l : List ℕ). take room (drop at l)) ez ∙ next_part front z₀ at room wide in
        let c : LentCall = lent_by meant ids pieces (take room (drop at z₀)) in
        let k = store_step r.1 r.2 c in
        let g : ◌≡◌ {A = Seen × Store × Bufs} (seen a out, s', b') (store_step r.1 r.2 (lent_by meant ids pieces (take room (drop at z₀)))) =
        f ∙ ap (λ (l : List ℕ). store_step s b (lent_by meant ids pieces l)) p ∙ ap₂ (λ (q : Store) (w : Bufs). store_step q w (lent_by meant ids pieces (take room (drop at z₀)))) es eb
        in
        let t0 : refusal_of a ≡ refusal_in k.0 = ap (λ (q : Seen × Store × Bufs). refusal_in q.0) g in
        let t1 : value_of a ≡ value_in k.0 = ap (λ (q : Seen × Store × Bufs). value_in q.0) g in
        let t2 : s' ≡ k.1 = ap (λ (q : Seen × Store × Bufs). q.1) g in
        let t3 : b' ≡ k.2 = ap (λ (q : Seen × Store × Bufs). q.2) g in
        let t4 : out ≡ out_in k.0 = ap (λ (q : Seen × Store × Bufs). out_in q.0) g in
        let lo : length (out_in k.0) ≡ room = out_long r.1 r.2 c ∙ room_kept words ids pieces z₀ i at room head meant inside ea eh ec er in
        let u0 : set x i (refusal_of a) ≡ over (map refusal_in (r.0 ++ (k.0 ∷ []))) x₀ = ap₂ (λ (l : List ℕ) (v : ℕ). set l i v) ex t0 ∙ told_more refusal_in r.0 k.0 x₀ i long hx in
        let u1 : set y i (value_of a) ≡ over (map value_in (r.0 ++ (k.0 ∷ []))) y₀ = ap₂ (λ (l : List ℕ) (v : ℕ). set l i v) ey t1 ∙ told_more value_in r.0 k.0 y₀ i long hy in
        let u2 : placed at room out z ≡ over (flat out_in (r.0 ++ (k.0 ∷ []))) z₀ = ap₂ (placed at room) t4 ez ∙ placed_more front z₀ (out_in k.0) at room wide lo ∙ ap (λ (l : List ℕ). over l z₀) (sym (flat_more out_in r.0 k.0)) in
        let run : store_run s₀ b₀ (calls (i + 1)) ≡ add_end r c = ap (store_run s₀ b₀) (calls_more words ids pieces z₀ i ∙ ap (λ (d : LentCall). calls i ++ (d ∷ [])) (here_is words ids pieces z₀ i at room head meant inside ea eh ec er)) ∙ run_more s₀ b₀ (calls i) c in
        rw (t2, t3, u0, u1, u2, run)

    -- the same where the part that is lent ends at `at + room`
    pub keep_turn : (s s' : Store) (b b' : Bufs) (x y z out : List ℕ) (a : Answer)
        → tape s b x y z ≡ keep (store_run s₀ b₀ (calls i)) x₀ y₀ z₀
        → ◌≡◌ {A = Seen × Store × Bufs} (seen a out, s', b') (store_step s b (lent_by meant ids pieces (mid_of at (at + room - at) z)))
        → tape s' b' (set x i (refusal_of a)) (set y i (value_of a)) (put_mid at (at + room - at) z out) ≡ keep (store_run s₀ b₀ (calls (i + 1))) x₀ y₀ z₀
    keep_turn s s' b b' x y z out a e f =
        let d : at + room - at ≡ room = omega arith in
        ap (λ (k : ℕ). tape s' b' (set x i (refusal_of a)) (set y i (value_of a)) (placed at k out z)) d
        ∙ keep_more s s' b b' x y z out a e (f ∙ ap (λ (k : ℕ). store_step s b (lent_by meant ids pieces (take k (drop at z)))) d)

room_again : (c : Call) (left : ℕ) → room_by c (room_by c left) ≡ room_by c left
unfolding room_by
room_again (call.Add i from count) left = refl
room_again (call.Join i n reversed from count) left = refl
room_again (call.Close i way) left = refl
room_again (call.Show unitig vertex count) left = omega arith

-- the part of the output that a call is lent is as long as its room
pub part_roomy : (c : Call) (at room : ℕ) (shown : List ℕ) → room ≡ room_by c (length shown - at) → room ≤ length shown - at → room_by c (length (mid_of at (at + room - at) shown)) ≡ length (mid_of at (at + room - at) shown)
part_roomy c at room shown e h =
    let d : at + room - at ≡ room = omega arith in
    let f : room ≤ length (drop at shown) = omega (arith, length-drop at shown) in
    let l : length (take (at + room - at) (drop at shown)) ≡ room = ap (λ (k : ℕ). length (take k (drop at shown))) d ∙ length-take-le room (drop at shown) f in
    ap (room_by c) (l ∙ e) ∙ room_again c (length shown - at) ∙ sym (l ∙ e)

-- the loop of `replay`: i calls are done, and `at` places of the output are lent
pub record Turned (words ids pieces : List ℕ) (t₀ t : Tape) (at i : ℕ) : Type 0 where
  pub inside : at ≤ length t₀.shown
  pub places : at ≡ lent_to (calls_to words ids pieces t₀.shown i)
  pub done : t ≡ keep (store_run t₀.store t₀.lent (calls_to words ids pieces t₀.shown i)) t₀.refusals t₀.answers t₀.shown
