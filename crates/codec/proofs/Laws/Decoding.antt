-- Laws of what is found in a payload: the ids by each regime, the padding, the set.
use Prim.Native.Nat.{ℕ, ◌+◌, ◌-◌, ◌*◌, ◌/◌, ◌^◌, ◌≤◌, ◌<◌}
use mathlib.Core.Path.{◌≡◌, refl, sym, ap, ap₂, ◌∙◌, subst}
use mathlib.Core.Bool.{Bool, true, false, cond, ◌&&◌}
use mathlib.Core.List.{List, [], ◌∷◌}
use native.Mathlib.Decide.{dec_lt}
use native.Mathlib.Omega.{arith}
use lib.ListN.{length, take, drop, length-drop}
use lib.Seq.{drop-drop}
use Rattle.std.specs.Bool.{then_some}
use lib.Dec.{leb, ltb, eqb}
use borrow.Author.Tests.{lt-ltb, le-ltb, le-leb, lt-leb, eq-eqb, ne_eqb, leb-true, eqb-true, eqb-false}
use Rattle.base.specs.Parts.{over}
use Rattle.base.proofs.Bools.{and_both, and_left_no, and_right_no}
use Rattle.codec.specs.Bits.{value_of, bits_of}
use Rattle.codec.specs.Codes.{Read, got, end, read_delta}
use Rattle.codec.specs.Sets.{ids_of, absent, Regime, sparse, bitmap, dense, regime, given, none, and_ids, read_gaps, read_map, read_body, read_set, padding, set, no_set, padded, decode_set}
use Rattle.codec.specs.Inside.Payloads.{regime_of, set_ids}
use Rattle.codec.specs.Inside.Bodies.{bits_in, map_in, IdsAt, KeptBy, KeptIn, IsBody, PayloadOf, KeptOf}
use Rattle.std.specs.Prelude.{Option, Some, None}
use Rattle.codec.specs.declared.body.Body.{Body}
use Rattle.codec.specs.declared.sets.Kind.{Kind}
use Rattle.codec.proofs.Laws.Low.{length_bits}
use Rattle.codec.proofs.Laws.Sets.{cond_ids, left_ids, regime_some, body_only, padded_set}

-- ---- by each regime

module _ (N len : ℕ) (bits : List Bool) where
  by_test : (t : Bool) → leb N (length bits) && eqb (length (ids_of 0 (take N bits))) len ≡ t → read_map N len bits ≡ cond t (given (ids_of 0 (take N bits)) (drop N bits)) none
  unfolding read_map
  by_test t e = rw e

  pub map_short : length bits < N → read_map N len bits ≡ none
  map_short h = by_test false (and_left_no _ _ (lt-leb N (length bits) h))

  pub map_other : (length (ids_of 0 (take N bits)) ≡ len → ⊥) → read_map N len bits ≡ none
  map_other h = by_test false (and_right_no (leb N (length bits)) _ (ne_eqb _ len h))

  pub map_given : N ≤ length bits → length (ids_of 0 (take N bits)) ≡ len → read_map N len bits ≡ given (ids_of 0 (take N bits)) (drop N bits)
  map_given h e = by_test true (and_both _ _ (le-leb N (length bits) h) (eq-eqb _ len e))

  -- what is given came so
  pub map_told : (xs : List ℕ) (rest : List Bool) → read_map N len bits ≡ given xs rest → (N ≤ length bits) × (ids_of 0 (take N bits) ≡ xs)
  unfolding read_map
  map_told xs rest e =
      let a = cond_ids _ _ xs rest e in
      (leb-true N (length bits) (Rattle.base.proofs.Bools.and_true _ _ a.0).0, cc)

-- by what the test says
pub map_tested : (b : Body) (count : ℕ) → b.colors.n ≤ 8 * length b.source.bytes.now - b.at → count ≡ length (ids_of 0 (map_in b))
    → IdsAt (read_map b.colors.n b.count) b (then_some (eqb count b.count) (b.at + b.colors.n))
map_tested b count h e = go (eqb count b.count) refl
  where
    bytes : List ℕ
    bytes = b.source.bytes.now

    go : (t : Bool) → eqb count b.count ≡ t → IdsAt (read_map b.colors.n b.count) b (then_some t (b.at + b.colors.n))
    go true q = ((ids_of 0 (map_in b), map_given b.colors.n b.count (bits_in b) (simp length-drop (omega (arith, length_bits bytes))) (sym e ∙ eqb-true count b.count q) ∙ ap (given (ids_of 0 (map_in b))) (drop-drop b.colors.n b.at (bits_of bytes))), omega (arith, b.place))
    go false q = map_other b.colors.n b.count (bits_in b) (λ z. eqb-false count b.count q (e ∙ z))

pub dense_few : (N len : ℕ) (bits : List Bool) → N < len → read_body dense N len bits ≡ none
dense_few N len bits h = rw (lt-leb len N h)

pub dense_at : (b : Body) (r : Option ℕ) → b.count ≤ b.colors.n → IdsAt (read_gaps (b.colors.n - b.count) 0 b.colors.n) b r → IdsAt (read_body dense b.colors.n b.count) b r
dense_at b (Some next) h i = ((absent b.colors.n i.0.0, rw (le-leb b.count b.colors.n h, i.0.1)), i.1)
dense_at b None h i = rw (le-leb b.count b.colors.n h, i)

pub dense_told : (N len : ℕ) (bits : List Bool) (xs : List ℕ) (rest : List Bool) → read_body dense N len bits ≡ given xs rest → (len ≤ N) × ((ys : List ℕ) × (xs ≡ absent N ys) × (read_gaps (N - len) 0 N bits ≡ given ys rest))
dense_told N len bits xs rest e =
    let a = cond_ids (leb len N) _ xs rest e in
    (leb-true len N a.0, left_ids N (read_gaps (N - len) 0 N bits) xs rest a.1)

-- the regime that a kind is
module _ (b : Body) (k x : Kind) (told : k ≡ x) (is : regime_of k ≡ regime b.colors.n b.count) where
  pub body_at : (r : Option ℕ) → IdsAt (read_body (regime_of x) b.colors.n b.count) b r → IdsAt (read_body (regime b.colors.n b.count) b.colors.n b.count) b r
  body_at r i = subst (λ (g : Regime). IdsAt (read_body g b.colors.n b.count) b r) (sym (ap regime_of told) ∙ is) i

  pub kept_at : (room : List ℕ) → KeptBy (regime_of x) b.colors.n b.count (bits_in b) room → KeptIn b room
  kept_at room i = subst (λ (g : Regime). KeptBy g b.colors.n b.count (bits_in b) room) (sym (ap regime_of told) ∙ is) i

  pub kept_told : (room : List ℕ) → KeptIn b room → KeptBy (regime_of x) b.colors.n b.count (bits_in b) room
  kept_told room i = subst (λ (g : Regime). KeptBy g b.colors.n b.count (bits_in b) room) (sym is ∙ ap regime_of told) i

-- no set has more than N ids
large_none : (N len : ℕ) (bits : List Bool) → N < len → read_body (regime N len) N len bits ≡ none
large_none N len bits h =
    let r : regime N len ≡ dense = regime_some N len (omega arith) ∙ ap₂ (λ (a b : Bool). cond a sparse (cond b bitmap dense)) (le-ltb len (N / 4) (omega arith)) (le-ltb len (3 * N / 4) (omega arith)) in
    ap (λ (x : Regime). read_body x N len bits) r ∙ dense_few N len bits h

-- ---- padding

padding_zero : (bits : List Bool) → value_of bits ≡ 0 → padding bits ≡ true
unfolding padding value_of
padding_zero [] e = refl
padding_zero (false ∷ bits) e = padding_zero bits (omega arith)
padding_zero (true ∷ bits) e = absurd (omega arith)

padding_some : (bits : List Bool) → 0 < value_of bits → padding bits ≡ false
unfolding padding value_of
padding_some [] h = absurd (omega arith)
padding_some (false ∷ bits) h = padding_some bits (omega arith)
padding_some (true ∷ bits) h = refl

pub padding_test : (bits : List Bool) (r : ℕ) → r ≡ value_of bits → length bits < 8 → eqb r 0 ≡ (ltb (length bits) 8 && padding bits)
padding_test bits r e h = go (dec_lt 0 r)
  where
    go : Dec (0 < r) → eqb r 0 ≡ (ltb (length bits) 8 && padding bits)
    go (yes p) = ne_eqb r 0 (λ z. omega arith) ∙ sym (and_right_no (ltb (length bits) 8) _ (padding_some bits (omega arith)))
    go (no p) = eq-eqb r 0 (omega arith) ∙ sym (and_both _ _ (lt-ltb (length bits) 8 h) (padding_zero bits (omega arith)))

-- ---- the set of a payload

pub no_length : (N : ℕ) (payload : List ℕ) → N ≤ 2 ^ 20 → ((v : ℕ) (rest : List Bool) → read_delta (bits_of payload) ≡ got v rest → 2 ^ 20 < v) → decode_set N payload ≡ no_set
unfolding decode_set read_set
no_length N payload h missing = ap padded (go (read_delta (bits_of payload)) refl)
  where
    go : (r : Read) → read_delta (bits_of payload) ≡ r → and_ids r (λ len rest. read_body (regime N len) N len rest) ≡ none
    go end e = refl
    go (got v rest) e = large_none N v rest (omega (arith, missing v rest e))

module _ (N : ℕ) (payload : List ℕ) (len : ℕ) (rest : List Bool) (e : read_delta (bits_of payload) ≡ got len rest) where
  by_body : decode_set N payload ≡ padded (read_body (regime N len) N len rest)
  unfolding decode_set read_set
  by_body = ap (λ (r : Read). padded (and_ids r (λ n left. read_body (regime N n) N n left))) e

  pub no_body : read_body (regime N len) N len rest ≡ none → decode_set N payload ≡ no_set
  no_body b = by_body ∙ ap padded b

  module _ (xs : List ℕ) (left : List Bool) (b : read_body (regime N len) N len rest ≡ given xs left) where
    pub padded_body : (t : Bool) → t ≡ (ltb (length left) 8 && padding left) → decode_set N payload ≡ cond t (set xs) no_set
    padded_body t p = by_body ∙ ap padded b ∙ ap (λ (u : Bool). cond u (set xs) no_set) (sym p)

    pub body_count : len ≡ length xs
    body_count = sym (body_only (regime N len) N len rest xs left refl b).count

-- by what the test of the padding says
pub payload_tested : (b : Body) (xs : List ℕ) (left : List Bool) (room : List ℕ) (t : Bool) → read_delta (bits_of b.source.bytes.now) ≡ got b.count (bits_in b)
    → read_body (regime b.colors.n b.count) b.colors.n b.count (bits_in b) ≡ given xs left → KeptIn b room → t ≡ (ltb (length left) 8 && padding left)
    → PayloadOf b.colors.n b.source.bytes.now (then_some t b) × KeptOf (then_some t b) room
payload_tested b xs left room true e is kept p =
    let bytes : List ℕ = b.source.bytes.now in
    ((refl, refl, record { ids = xs; are = padded_body b.colors.n bytes b.count _ e xs left is true p; count = body_count b.colors.n bytes b.count _ e xs left is; head = e }), kept)
payload_tested b xs left room false e is kept p = (padded_body b.colors.n b.source.bytes.now b.count _ e xs left is false p, tt)

-- what a set's payload holds, by its regime
module _ (b : Body) (p : IsBody b) where
  pub payload_body : (k x : Kind) → k ≡ x → regime_of k ≡ regime b.colors.n b.count → (rest : List Bool) × (read_body (regime_of x) b.colors.n b.count (bits_in b) ≡ given p.ids rest)
  unfolding decode_set read_set
  payload_body k x told is =
      let s = padded_set (read_set b.colors.n (bits_of b.source.bytes.now)) p.ids p.are in
      let r : regime_of x ≡ regime b.colors.n b.count = sym (ap regime_of told) ∙ is in
      (s.0, ap (λ (g : Regime). read_body g b.colors.n b.count (bits_in b)) r ∙ sym (ap (λ (q : Read). and_ids q (λ len rest. read_body (regime b.colors.n len) b.colors.n len rest)) p.head) ∙ s.1)

  -- what is filled with these ids is filled with the set's
  pub payload_over : (xs out : List ℕ) → xs ≡ p.ids → over xs out ≡ over (set_ids (decode_set b.colors.n b.source.bytes.now)) out
  payload_over xs out e = ap (λ (ys : List ℕ). over ys out) (e ∙ sym (ap set_ids p.are))
