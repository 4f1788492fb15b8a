-- Laws of making an index: one record, and the records passed.
use Prim.Native.Nat.{ℕ, suc, ◌+◌, ◌-◌, ◌^◌, ◌≤◌, ◌<◌}
use mathlib.Core.Path.{◌≡◌, refl, sym, ap, ◌∙◌, subst}
use mathlib.Core.List.{List, [], ◌∷◌, ◌++◌, append_assoc}
use native.Mathlib.Numerals.{add-one}
use native.Mathlib.Omega.{arith}
use lib.ListN.{length, take, drop, get_or, set, length-append, length-drop, length-set, drop_of_length-le}
use lib.Seq.{drop-cons, drop-drop, drop-set-lt, take-suc-set, take_all, set_split, length-take-le}
use lib.Dec.{ltb}
use borrow.Author.Tests.{lt-ltb, le-ltb, le-leb, lt-leb}
use Rattle.base.specs.Answers.{Answer, refused, done, number_of}
use Rattle.base.specs.Parts.{over}
use Rattle.base.specs.declared.Refusal.{Refusal}
use Rattle.base.specs.declared.Refusal.TheVariants as refusal
use Rattle.std.specs.Prelude.{Result, Ok, Err, IfOk, IfErr}
use Rattle.base.proofs.Tests.{when_yes, when_no}
use Rattle.codec.specs.Prefix.{ReadLeb, whole, cut, bad, read_leb, read_prefix, prefix_in}
use Rattle.codec.specs.Index.{Indexed, entries, stopped, and_entry, behind, index_from, index_of, index_by, make_index}
use Rattle.codec.specs.Inside.Indexes.{SteppedAt, outcome, entries_in}
use Rattle.codec.proofs.Laws.Prefix.{prefix_behind}

-- ---- one record

-- what the prefix at `at` answers
abbrev pub Says : List ℕ → ℕ → Answer → Type 0
Says bytes at a = prefix_in (length (drop at bytes)) (read_prefix (drop at bytes)) ≡ a

-- the part of the bytes from `at` on, as the code takes it
pub part_says : (bytes : List ℕ) (at : ℕ) {a : Answer}
    → a ≡ prefix_in (length (take (length bytes - at) (drop at bytes))) (read_prefix (take (length bytes - at) (drop at bytes))) → Says bytes at a
part_says bytes at e =
    let part : take (length bytes - at) (drop at bytes) ≡ drop at bytes = take_all (length bytes - at) (drop at bytes) (omega (arith, length-drop at bytes)) in
    ap (λ (l : List ℕ). prefix_in (length l) (read_prefix l)) (sym part) ∙ sym e

-- no byte is a prefix cut short, and a byte below 128 is a whole one
pub says_none : (bytes : List ℕ) (at : ℕ) → length bytes ≤ at → Says bytes at (refused 4)
unfolding read_prefix read_leb
says_none bytes at h = rw (drop_of_length-le bytes {i = at} h)

one_byte : (b : ℕ) (rest : List ℕ) → b < 128 → prefix_in (length (b ∷ rest)) (read_prefix (b ∷ rest)) ≡ done (b ∷ 1 ∷ [])
unfolding read_prefix read_leb
one_byte b rest h =
    let n : length (b ∷ rest) - length rest ≡ 1 = omega arith in
    rw (lt-ltb b 128 h, lt-ltb b (2 ^ 32) (omega arith), n)

pub says_byte : (bytes : List ℕ) (at : ℕ) → at < length bytes → get_or bytes at 0 < 128 → Says bytes at (done (get_or bytes at 0 ∷ 1 ∷ []))
says_byte bytes at h b = rw (drop-cons bytes at 0 h) (one_byte (get_or bytes at 0) (drop (suc at) bytes) b)

module _ (bytes : List ℕ) (at : ℕ) (inside : at ≤ length bytes) where
  pub step_up : (k : ℕ) → Says bytes at (refused k) → (count : ℕ) → index_from (suc count) at (drop at bytes) ≡ stopped k
  unfolding index_from
  step_up k e count = go (read_prefix (drop at bytes)) e
    where
      go : (r : ReadLeb) → prefix_in (length (drop at bytes)) r ≡ refused k → behind (λ (next : ℕ) (rest : List ℕ). index_from count next rest) at (length (drop at bytes)) r ≡ stopped k
      go (whole n rest) e = let z : ◌≡◌ {A = ℕ} 0 1 = cc in absurd (omega arith)
      go cut e = let v : 4 ≡ k = cc in ap stopped v
      go bad e = let v : 5 ≡ k = cc in ap stopped v

  module _ (n len : ℕ) (e : Says bytes at (done (n ∷ len ∷ []))) where
    there : (read_prefix (drop at bytes) ≡ whole n (drop len (drop at bytes))) × (len ≤ length (drop at bytes)) × (n < 2 ^ 32)
    there = prefix_behind (drop at bytes) n len (sym e)

    pub step_start_lem : at + len ≤ length bytes
    step_start_lem = omega (arith, there.1, length-drop at bytes)

    rest_is : drop len (drop at bytes) ≡ drop (at + len) bytes
    rest_is = drop-drop len at bytes

    left_is : length (drop len (drop at bytes)) ≡ length bytes - (at + len)
    left_is = ap length rest_is ∙ length-drop (at + len) bytes

    from_is : (count : ℕ) → index_from (suc count) at (drop at bytes)
        ≡ behind (λ (next : ℕ) (rest : List ℕ). index_from count next rest) at (length (drop at bytes)) (whole n (drop len (drop at bytes)))
    unfolding index_from
    from_is count = ap (behind (λ (next : ℕ) (rest : List ℕ). index_from count next rest) at (length (drop at bytes))) there.0

    pub step_cut : length bytes - (at + len) < n → SteppedAt bytes at (Err refusal.Cut)
    step_cut h count = from_is count ∙ rw (lt-leb n (length (drop len (drop at bytes))) (omega (arith, left_is)))

    pub step_next : n ≤ length bytes - (at + len) → SteppedAt bytes at (Ok (at + len + n))
    step_next h =
        let place : at + (length (drop at bytes) - length (drop len (drop at bytes))) + n ≡ at + len + n = omega (arith, left_is, length-drop at bytes, step_start_lem) in
        let later : drop n (drop len (drop at bytes)) ≡ drop (at + len + n) bytes = ap (drop n) rest_is ∙ drop-drop n (at + len) bytes in (
          λ count. from_is count ∙ rw (le-leb n (length (drop len (drop at bytes))) (omega (arith, left_is)), place, later),
          omega (arith, step_start_lem),
        )

    -- by what tells whether the payload is there
    pub step_by : (r : Result ℕ Refusal) → IfOk r (λ end. (end ≡ at + len + n) × (end ≤ length bytes)) → IfErr r (λ x. (number_of x ≡ 4) × (length bytes < at + len + n)) → SteppedAt bytes at r
    step_by (Ok end) there missing = rw there.0 (step_next (omega arith))
    step_by (Err x) there missing = λ count. step_cut (omega (arith, step_start_lem)) count ∙ ap stopped (sym missing.0)

-- ---- the records passed, without their entries

pub outcome_entry : (at : ℕ) (r : Indexed) → outcome (and_entry at r) ≡ outcome r
outcome_entry at (entries es) = refl
outcome_entry at (stopped n) = refl

-- the entries `es`, and those of an index behind them
abbrev pub with_entries : List ℕ → Indexed → Indexed
with_entries es (entries fs) = entries (es ++ fs)
with_entries es (stopped n) = stopped n

after_none : (r : Indexed) → r ≡ with_entries [] r
after_none (entries fs) = refl
after_none (stopped n) = refl

after_entry : (es : List ℕ) (at : ℕ) (r : Indexed) → with_entries es (and_entry at r) ≡ with_entries (es ++ (at ∷ [])) r
after_entry es at (entries fs) = ap entries (sym (append_assoc es (at ∷ []) fs))
after_entry es at (stopped n) = refl

module _ (bytes : List ℕ) (count : ℕ) where
  -- `left` records are to come, from `at` on
  pub record Checking (at left : ℕ) : Type 0 where
    pub inside : at ≤ length bytes
    pub same : outcome (index_of count bytes) ≡ outcome (index_from left at (drop at bytes))

  pub checking_none : Checking 0 (count - 0)
  unfolding index_of
  checking_none = let z : count ≡ count - 0 = omega arith in record { inside = omega arith; same = ap (λ (k : ℕ). outcome (index_from k 0 bytes)) z }

  module _ (at i : ℕ) (some : i < count) (c : Checking at (count - i)) where
    one_less : count - i ≡ suc (count - (i + 1))
    one_less = omega arith

    pub checking_more : (next : ℕ) → SteppedAt bytes at (Ok next) → Checking next (count - (i + 1))
    checking_more next s = record {
      inside = s.1;
      same = c.same ∙ ap (λ (k : ℕ). outcome (index_from k at (drop at bytes))) one_less ∙ ap outcome (s.0 (count - (i + 1))) ∙ outcome_entry at (index_from (count - (i + 1)) next (drop next bytes));
    }

    pub checking_stop : (x : Refusal) → SteppedAt bytes at (Err x) → refused (number_of x) ≡ outcome (index_of count bytes)
    checking_stop x s = sym (c.same ∙ ap (λ (k : ℕ). outcome (index_from k at (drop at bytes))) one_less ∙ ap outcome (s (count - (i + 1))))

  pub checking_end : (at i : ℕ) → count ≤ i → Checking at (count - i) → done [] ≡ outcome (index_of count bytes)
  unfolding index_from
  checking_end at i all c = let z : count - i ≡ 0 = omega arith in sym (c.same ∙ ap (λ (k : ℕ). outcome (index_from k at (drop at bytes))) z)

  -- the entries of i records stand in the front of `out`, and what was behind them is as it was
  pub record Filling (old out : List ℕ) (at i : ℕ) : Type 0 where
    pub inside : at ≤ length bytes
    pub passed : i ≤ count
    pub size : length out ≡ length old
    pub kept : drop i out ≡ drop i old
    pub index : index_of count bytes ≡ with_entries (take i out) (index_from (count - i) at (drop at bytes))

  pub filling_none : (old : List ℕ) → Filling old old 0 0
  unfolding index_of
  filling_none old =
      let z : count ≡ count - 0 = omega arith in
      record {
        inside = omega arith;
        passed = omega arith;
        size = refl;
        kept = refl;
        index = after_none (index_from count 0 bytes) ∙ ap (λ (k : ℕ). with_entries [] (index_from k 0 bytes)) z;
      }

  module _ (old out : List ℕ) (at i : ℕ) (room : count < length old) (f : Filling old out at i) where
    module _ (more : i < count) where
      one_left : count - i ≡ suc (count - (i + 1))
      one_left = omega arith

      pub filling_more : (next : ℕ) → SteppedAt bytes at (Ok next) → Filling old (set out i at) next (i + 1)
      filling_more next s =
          let rest : Indexed = index_from (count - (i + 1)) next (drop next bytes) in
          let front : take (i + 1) (set out i at) ≡ take i out ++ (at ∷ []) = ap (λ (k : ℕ). take k (set out i at)) (add-one i) ∙ take-suc-set out i at (omega (arith, f.size)) in
          record {
            inside = s.1;
            passed = omega arith;
            size = length-set out i at ∙ f.size;
            kept = drop-set-lt (i + 1) out i at (omega arith) ∙ sym (drop-drop 1 i out) ∙ ap (drop 1) f.kept ∙ drop-drop 1 i old;
            index = f.index ∙ ap (λ (k : ℕ). with_entries (take i out) (index_from k at (drop at bytes))) one_left ∙ ap (with_entries (take i out)) (s.0 (count - (i + 1)))
                ∙ after_entry (take i out) at rest ∙ ap (λ (es : List ℕ). with_entries es rest) (sym front);
          }

      pub filling_stop : (x : Refusal) → outcome (index_of count bytes) ≡ done [] → SteppedAt bytes at (Err x) → ⊥
      filling_stop x good s =
          let e : outcome (index_of count bytes) ≡ refused (number_of x) = ap outcome (f.index ∙ ap (λ (k : ℕ). with_entries (take i out) (index_from k at (drop at bytes))) one_left ∙ ap (with_entries (take i out)) (s (count - (i + 1)))) in
          let z : ◌≡◌ {A = ℕ} 0 1 = cc in
          omega arith

    pub filling_end : i ≡ count → set out count at ≡ over (entries_in (index_of count bytes)) old
    unfolding index_from over
    filling_end all =
        let es : List ℕ = take count out ++ (at ∷ []) in
        let none : count - i ≡ 0 = omega arith in
        let index : index_of count bytes ≡ entries es = f.index ∙ ap (λ (k : ℕ). with_entries (take i out) (index_from k at (drop at bytes))) none ∙ ap (λ (k : ℕ). entries (take k out ++ (at ∷ []))) all in
        let long : length es ≡ suc count = length-append (take count out) (at ∷ []) ∙ ap (λ (k : ℕ). k + 1) (length-take-le count out (omega (arith, f.size))) ∙ add-one count in
        let behind : drop (suc count) out ≡ drop (length es) old =
        ap (λ (k : ℕ). drop k out) (sym (add-one count)) ∙ sym (drop-drop 1 count out) ∙ ap (drop 1) (subst (λ (k : ℕ). drop k out ≡ drop k old) all f.kept) ∙ drop-drop 1 count old ∙ ap (λ (k : ℕ). drop k old) (add-one count ∙ sym long)
        in
        set_split out count at (omega (arith, f.size)) ∙ ap (λ (l : List ℕ). take count out ++ (at ∷ l)) behind ∙ sym (append_assoc (take count out) (at ∷ []) (drop (length es) old))
        ∙ sym (ap (λ (r : Indexed). entries_in r ++ drop (length (entries_in r)) old) index)

-- ---- what making an index answers

by_stopped : (r : Indexed) (out : List ℕ) (n : ℕ) → refused n ≡ outcome r → (refused n, out) ≡ index_by r out
by_stopped (entries es) out n e = let z : ◌≡◌ {A = ℕ} 0 1 = cc in absurd (omega arith)
by_stopped (stopped m) out n e = ap (λ (a : Answer). (a, out)) e

by_entries : (r : Indexed) (out : List ℕ) → done [] ≡ outcome r → (done [], over (entries_in r) out) ≡ index_by r out
by_entries (entries es) out e = refl
by_entries (stopped n) out e = let z : ◌≡◌ {A = ℕ} 0 1 = cc in absurd (omega arith)

module _ (count : ℕ) (bytes out : List ℕ) where
  pub make_short : length out ≤ count → (refused 3, out) ≡ make_index count bytes out
  unfolding make_index
  make_short h = sym (when_yes (refused 3, out) (ltb (length out) (count + 1)) (index_by (index_of count bytes) out) (lt-ltb (length out) (count + 1) (omega arith)))

  module _ (room : count < length out) where
    enough : make_index count bytes out ≡ index_by (index_of count bytes) out
    unfolding make_index
    enough = when_no (refused 3, out) (ltb (length out) (count + 1)) (index_by (index_of count bytes) out) (le-ltb (length out) (count + 1) (omega arith))

    pub make_stopped : (x : Refusal) → refused (number_of x) ≡ outcome (index_of count bytes) → (refused (number_of x), out) ≡ make_index count bytes out
    make_stopped x e = by_stopped (index_of count bytes) out (number_of x) e ∙ sym enough

    pub make_done : (after : List ℕ) → outcome (index_of count bytes) ≡ done [] → after ≡ over (entries_in (index_of count bytes)) out → (done [], after) ≡ make_index count bytes out
    make_done after good new = ap (λ (l : List ℕ). (done [], l)) new ∙ by_entries (index_of count bytes) out (sym good) ∙ sym enough
