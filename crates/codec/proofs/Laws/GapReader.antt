-- Laws of reading on from a place: one id more, or a run of them.
use Prim.Native.Nat.{ℕ, zero, suc, ◌+◌, ◌-◌, ◌*◌, ◌≤◌, ◌<◌}
use mathlib.Core.Path.{◌≡◌, refl, sym, ap, ◌∙◌}
use mathlib.Core.Bool.{Bool, true}
use mathlib.Core.List.{List, [], ◌∷◌, ◌++◌, append_assoc, append-nil}
use native.Mathlib.Nat.{suc-add}
use native.Mathlib.Decide.{dec_lt}
use Rattle.std.specs.Prelude.{Option, min, Some, None}
use native.Mathlib.Omega.{arith}
use lib.ListN.{length, take, drop, replicate, set, length-append, length-take}
use lib.Seq.{take_all, take_at, take-append-add, take-append-le, length-take-le}
use Rattle.base.specs.Parts.{over}
use Rattle.base.proofs.Parts.{length_over}
use Rattle.codec.specs.Bits.{bits_of, low_bits}
use Rattle.codec.specs.Codes.{got, gamma, delta, high_bit, high_in, read_delta}
use Rattle.codec.specs.Sets.{ReadIds, given, none, then_id, read_gaps}
use Rattle.codec.specs.Inside.Gaps.{with_ids, numbers, Put}
use Rattle.codec.specs.Inside.Bodies.{bits_in, gaps_in, IdsAt}
use Rattle.codec.specs.Inside.GapReader.{ReadTo, ReadOn, to_read}
use Rattle.codec.specs.Inside.Places.{ReadCodeAt}
use Rattle.codec.specs.declared.body.Body.{Body}
use Rattle.codec.specs.declared.gap_reader.Reached.{Reached}
use Rattle.codec.proofs.Laws.Codes.{delta_read}
use Rattle.codec.proofs.Laws.Filled.{put_none, put_set_lem, over_all, over_take, over_over}
use Rattle.codec.proofs.Laws.Gaps.{after_nil, gaps_step, gaps_high, gaps_refused, ahead, arrived, put_given, put_refused, length_numbers}

-- ---- runs of ones

one_read : (bits : List Bool) → read_delta (true ∷ bits) ≡ got 0 bits
unfolding delta gamma high_bit high_in low_bits
one_read bits = delta_read 0 bits

then_with : (x : ℕ) (xs : List ℕ) (r : ReadIds) → then_id x (with_ids xs r) ≡ with_ids (x ∷ xs) r
then_with x xs (given ys rest) = refl
then_with x xs none = refl

with_with : (xs ys : List ℕ) (r : ReadIds) → with_ids xs (with_ids ys r) ≡ with_ids (xs ++ ys) r
with_with xs ys (given zs rest) = ap (λ (l : List ℕ). given l rest) (sym (append_assoc xs ys zs))
with_with xs ys none = refl

-- k ones are the codes of k numbers that go up by one
pub gaps_ones : (k m from top : ℕ) (bits : List Bool) → from + k ≤ top → read_gaps (k + m) from top (replicate k true ++ bits) ≡ with_ids (numbers from k) (read_gaps m (from + k) top bits)
unfolding numbers
gaps_ones zero m from top bits h =
    let z : 0 + m ≡ m = omega arith in
    let f : from ≡ from + 0 = omega arith in
    ap (λ (n : ℕ). read_gaps n from top bits) z ∙ ap (λ (n : ℕ). read_gaps m n top bits) f ∙ after_nil (read_gaps m (from + 0) top bits)
gaps_ones (suc k) m from top bits h =
    let f : from + 0 + 1 ≡ from + 1 = omega arith in
    let g : from + 1 + k ≡ from + suc k = omega arith in
    let z : from + 0 ≡ from = omega arith in
    ap (λ (n : ℕ). read_gaps n from top (true ∷ (replicate k true ++ bits))) (suc-add k m)
    ∙ gaps_step (k + m) from top 0 (true ∷ (replicate k true ++ bits)) (replicate k true ++ bits) (one_read (replicate k true ++ bits)) (omega arith)
    ∙ ap (then_id (from + 0)) (ap (λ (n : ℕ). read_gaps (k + m) n top (replicate k true ++ bits)) f ∙ gaps_ones k m (from + 1) top bits (omega arith) ∙ ap (λ (n : ℕ). with_ids (numbers (from + 1) k) (read_gaps m n top bits)) g)
    ∙ then_with (from + 0) (numbers (from + 1) k) (read_gaps m (from + suc k) top bits)
    ∙ ap (λ (n : ℕ). with_ids (n ∷ numbers (from + 1) k) (read_gaps m (from + suc k) top bits)) z

-- no more of them than are left
pub gaps_too_many : (k m from top : ℕ) (bits : List Bool) → from ≤ top → top < from + k → read_gaps (k + m) from top (replicate k true ++ bits) ≡ none
gaps_too_many zero m from top bits l h = absurd (omega arith)
gaps_too_many (suc k) m from top bits l h =
    ap (λ (n : ℕ). read_gaps n from top (true ∷ (replicate k true ++ bits))) (suc-add k m) ∙ go (dec_lt from top) (gaps_too_many k m (from + 1) top bits)
  where
    go : Dec (from < top) → (from + 1 ≤ top → top < from + 1 + k → read_gaps (k + m) (from + 1) top (replicate k true ++ bits) ≡ none) → read_gaps (suc (k + m)) from top (true ∷ (replicate k true ++ bits)) ≡ none
    go (yes s) later =
        let f : from + 0 + 1 ≡ from + 1 = omega arith in
        gaps_step (k + m) from top 0 (true ∷ (replicate k true ++ bits)) (replicate k true ++ bits) (one_read (replicate k true ++ bits)) (omega arith)
        ∙ ap (then_id (from + 0)) (ap (λ (n : ℕ). read_gaps (k + m) n top (replicate k true ++ bits)) f ∙ later (omega arith) (omega arith))
    go (no s) later = gaps_high (k + m) from top 0 (true ∷ (replicate k true ++ bits)) (replicate k true ++ bits) (one_read (replicate k true ++ bits)) (omega arith)

-- ---- elements put behind those that fit

module _ (xs ys old room new : List ℕ) (i : ℕ) (e : length xs ≡ i) (so : room ≡ over (take (length old) xs) old) where
  cut : length (take (length old) xs) ≤ length old
  cut = omega (arith, length-take (length old) xs)

  same : length room ≡ length old
  same = ap length so ∙ length_over (take (length old) xs) old cut

  front : take i room ≡ take (length old) xs
  front = go (dec_lt (length old) i)
    where
      go : Dec (length old < i) → take i room ≡ take (length old) xs
      go (yes l) =
          let all : length (take (length old) xs) ≡ length old = length-take-le (length old) xs (omega arith) in
          take_all i room (omega (arith, same)) ∙ so ∙ over_all (take (length old) xs) old all
      go (no l) =
          let all : take (length old) xs ≡ xs = take_all (length old) xs (omega arith) in
          ap (take i) (so ∙ ap (λ (l : List ℕ). over l old) all) ∙ over_take xs old i e ∙ sym all

  split : take (length old) (xs ++ ys) ≡ take (length old) xs ++ take (length old - i) ys
  split = go (dec_lt (length old) i)
    where
      go : Dec (length old < i) → take (length old) (xs ++ ys) ≡ take (length old) xs ++ take (length old - i) ys
      go (yes l) =
          let z : length old - i ≡ 0 = omega arith in
          take-append-le (length old) xs ys (omega arith) ∙ sym (ap (λ (n : ℕ). take (length old) xs ++ take n ys) z ∙ append-nil (take (length old) xs))
      go (no l) =
          let n : length old ≡ length xs + (length old - i) = omega arith in
          ap (λ (m : ℕ). take m (xs ++ ys)) n ∙ take-append-add xs ys (length old - i) ∙ ap (λ (l : List ℕ). l ++ take (length old - i) ys) (sym (take_all (length old) xs (omega arith)))

  pub put_more : new ≡ over (take i room ++ take (length room - i) ys) room → new ≡ over (take (length old) (xs ++ ys)) old
  put_more is =
      is ∙ ap (λ (n : ℕ). over (take i room ++ take (n - i) ys) room) same ∙ ap (λ (l : List ℕ). over (l ++ take (length old - i) ys) room) front
      ∙ ap (λ (l : List ℕ). over (take (length old) xs ++ take (length old - i) ys) l) so
      ∙ over_over (take (length old) xs) (take (length old) xs ++ take (length old - i) ys) old (omega (arith, length-append (take (length old) xs) (take (length old - i) ys)))
      ∙ ap (λ (l : List ℕ). over l old) (sym split)

-- ---- numbers that go up by one

pub numbers_add : (k m from : ℕ) → numbers from (k + m) ≡ numbers from k ++ numbers (from + k) m
unfolding numbers
numbers_add zero m from =
    let z : 0 + m ≡ m = omega arith in
    let f : from ≡ from + 0 = omega arith in
    ap (numbers from) z ∙ ap (λ (n : ℕ). numbers n m) f
numbers_add (suc k) m from =
    let f : from + 1 + k ≡ from + suc k = omega arith in
    ap (numbers from) (suc-add k m) ∙ ap (λ (l : List ℕ). from ∷ l) (numbers_add k m (from + 1) ∙ ap (λ (n : ℕ). numbers (from + 1) k ++ numbers n m) f)

pub numbers_take : (n k from : ℕ) → take n (numbers from k) ≡ numbers from (min k n)
numbers_take n k from = go (dec_lt k n)
  where
    go : Dec (k < n) → take n (numbers from k) ≡ numbers from (min k n)
    go (yes l) =
        let m : k ≡ min k n = omega arith in
        take_all n (numbers from k) (omega (arith, length_numbers k from)) ∙ ap (numbers from) m
    go (no l) =
        let s : k ≡ n + (k - n) = omega arith in
        let m : n ≡ min k n = omega arith in
        ap (λ (i : ℕ). take n (numbers from i)) s ∙ ap (take n) (numbers_add n (k - n) from) ∙ take_at (numbers from n) (numbers (from + n) (k - n)) n (length_numbers n from) ∙ ap (numbers from) m

-- ---- on from a place

-- where what is left is no ids, there are none
pub none_left : (b : Body) (r : Reached) → to_read b r ≡ none → (old room : List ℕ) → ReadTo b old room r → gaps_in b ≡ none
none_left b r e old room h = h.rest ∙ ap (with_ids h.ids) e

module _ (b : Body) (r : Reached) where
  abbrev N : ℕ
  N = b.colors.n

  abbrev bits : List Bool
  bits = drop r.place (bits_of b.source.bytes.now)

  module _ (more : r.i < b.count) where
    one_less : b.count - r.i ≡ suc (b.count - (r.i + 1))
    one_less = omega arith

    -- a code of an id that is too large, and one that no id has
    pub code_high : (v : ℕ) (rest : List Bool) → read_delta bits ≡ got v rest → N ≤ r.from + v → to_read b r ≡ none
    code_high v rest e h = ap (λ (n : ℕ). read_gaps n r.from N bits) one_less ∙ gaps_high (b.count - (r.i + 1)) r.from N v bits rest e h

    pub code_missing : ReadCodeAt read_delta b.source.bytes.now r.place None → to_read b r ≡ none
    code_missing h = ap (λ (n : ℕ). read_gaps n r.from N bits) one_less ∙ gaps_refused (b.count - (r.i + 1)) r.from N bits h b.colors.few

    pub code_on : (v next : ℕ) → read_delta bits ≡ got v (drop next (bits_of b.source.bytes.now)) → r.from + v < N
        → (old room : List ℕ) → ReadTo b old room r → ReadTo b old (set room r.i (r.from + v)) (record { i = r.i + 1; from = r.from + v + 1; place = next })
    code_on v next e h old room so = record {
      ids = so.ids ++ ((r.from + v) ∷ []);
      count = length-append so.ids ((r.from + v) ∷ []) ∙ ap (λ (n : ℕ). n + 1) so.count;
      put = ap (λ (l : List ℕ). set l r.i (r.from + v)) so.put ∙ put_set_lem so.ids old r.i (r.from + v) so.count;
      rest = ahead (gaps_in b) so.ids b.count r.i r.from N bits more so.rest v (drop next (bits_of b.source.bytes.now)) e h;
    }

  module _ (k : ℕ) (more : r.i + k ≤ b.count) (ones : bits ≡ replicate k true ++ drop (r.place + k) (bits_of b.source.bytes.now)) where
    abbrev behind : List Bool
    behind = drop (r.place + k) (bits_of b.source.bytes.now)

    k_less : b.count - r.i ≡ k + (b.count - (r.i + k))
    k_less = omega arith

    pub run_high : r.from ≤ N → N < r.from + k → to_read b r ≡ none
    run_high l h = ap (λ (n : ℕ). read_gaps n r.from N bits) k_less ∙ ap (read_gaps (k + (b.count - (r.i + k))) r.from N) ones ∙ gaps_too_many k (b.count - (r.i + k)) r.from N behind l h

    pub run_on : r.from + k ≤ N → (old room new : List ℕ) → new ≡ over (take r.i room ++ take (length room - r.i) (numbers r.from k)) room → ReadTo b old room r
        → ReadTo b old new (record { i = r.i + k; from = r.from + k; place = r.place + k })
    run_on h old room new is so = record {
      ids = so.ids ++ numbers r.from k;
      count = length-append so.ids (numbers r.from k) ∙ omega (arith, so.count, length_numbers k r.from);
      put = put_more so.ids (numbers r.from k) old room new r.i so.count so.put is;
      rest =
          so.rest ∙ ap (λ (n : ℕ). with_ids so.ids (read_gaps n r.from N bits)) k_less
          ∙ ap (with_ids so.ids) (ap (read_gaps (k + (b.count - (r.i + k))) r.from N) ones ∙ gaps_ones k (b.count - (r.i + k)) r.from N behind h)
          ∙ with_with so.ids (numbers r.from k) (read_gaps (b.count - (r.i + k)) (r.from + k) N behind);
    }

-- further on is no less than on
pub read_on : (b : Body) (r : Reached) (room new : List ℕ) (o : Option Reached) → ReadOn 1 b r room new o → ReadOn 0 b r room new o
read_on b r room new (Some s) h = (h.0, omega (arith, h.1), h.2)
read_on b r room new None h = h

-- ---- from the start to the end

pub read_start : (b : Body) (room : List ℕ) → ReadTo b room room (record { i = 0; from = 0; place = b.at })
read_start b room =
    let n : b.count ≡ b.count - 0 = omega arith in
    record { ids = []; count = refl; put = put_none room; rest = after_nil (gaps_in b) ∙ ap (λ (k : ℕ). with_ids [] (read_gaps k 0 b.colors.n (bits_in b))) n }

pub read_all : (b : Body) (r : Reached) (old room : List ℕ) → b.count ≤ r.i → r.place ≤ 8 * length b.source.bytes.now → ReadTo b old room r
    → IdsAt (read_gaps b.count 0 b.colors.n) b (Some r.place) × Put (gaps_in b) old room
read_all b r old room h p so =
    let e = arrived (gaps_in b) so.ids b.count r.i r.from b.colors.n (drop r.place (bits_of b.source.bytes.now)) h so.rest in
    (((so.ids, e), p), put_given (gaps_in b) so.ids _ old room e so.put)

pub read_none : (b : Body) (old room : List ℕ) → gaps_in b ≡ none → IdsAt (read_gaps b.count 0 b.colors.n) b None × Put (gaps_in b) old room
read_none b old room e = (e, put_refused (gaps_in b) old room e)
