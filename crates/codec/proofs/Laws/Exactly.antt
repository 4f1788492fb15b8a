-- Section 4 of 01: reading a record answers a result exactly when the input begins with the record of a set, given space for its ids.
use Prim.Native.Nat.{ℕ, ◌-◌, ◌^◌, ◌≤◌}
use mathlib.Core.Path.{◌≡◌, refl, sym, ap, ap₂, ◌∙◌}
use mathlib.Core.Logic.{◌↔◌}
use mathlib.Core.Bool.{Bool, true, false}
use mathlib.Core.List.{List, [], ◌∷◌, ◌++◌}
use native.Mathlib.Omega.{arith}
use lib.ListN.{length, length-append}
use lib.Dec.{ltb}
use borrow.Author.Tests.{le-ltb, ltb-false}
use Rattle.base.specs.Tests.{◌when◌else◌}
use Rattle.base.specs.Answers.{Answer, refused, done}
use Rattle.base.specs.Parts.{over}
use Rattle.base.proofs.Tests.{when_no}
use Rattle.codec.specs.Bits.{AreBytes}
use Rattle.codec.specs.Sets.{Within}
use Rattle.codec.specs.Records.{record_of, ReadRecord, found, short, damaged, read_record, read_by, read_into}
use Rattle.codec.proofs.Laws.Reading.{in_limits}
use Rattle.codec.proofs.Laws.Records.{record_read, record_only}

-- the input begins with the record of a set, for whose ids the output has space, and these are what reading gives and what the output then holds
pub record Reads (N : ℕ) (input out : List ℕ) (answer : List ℕ) (after : List ℕ) : Type 0 where
  pub ids : List ℕ
  pub rest : List ℕ
  pub set : Within 0 N ids
  pub begins : input ≡ record_of N ids ++ rest
  pub space : length ids ≤ length out
  pub answers : answer ≡ length ids ∷ length (record_of N ids) ∷ []
  pub output : after ≡ over ids out

reads_found : (ids rest out : List ℕ) (total : ℕ) → length ids ≤ length out → read_by (found ids rest) total out ≡ (done (length ids ∷ (total - length rest) ∷ []), over ids out)
unfolding read_by
reads_found ids rest out total h = when_no _ _ _ (le-ltb (length out) (length ids) h)

found_done : (r : ReadRecord) (total : ℕ) (out answer after : List ℕ) → read_by r total out ≡ (done answer, after)
    → (ids : List ℕ) × (rest : List ℕ) × (r ≡ found ids rest) × (length ids ≤ length out) × (answer ≡ length ids ∷ (total - length rest) ∷ []) × (after ≡ over ids out)
unfolding read_by ◌when◌else◌
found_done short total out answer after e = let a : refused 4 ≡ done answer = ap (λ (p : Answer × List ℕ). p.0) e in let z : ◌≡◌ {A = ℕ} 0 1 = cc in absurd (omega arith)
found_done damaged total out answer after e = let a : refused 5 ≡ done answer = ap (λ (p : Answer × List ℕ). p.0) e in let z : ◌≡◌ {A = ℕ} 0 1 = cc in absurd (omega arith)
found_done (found ids rest) total out answer after e = go (ltb (length out) (length ids)) refl e
  where
    go : (t : Bool) → ltb (length out) (length ids) ≡ t → ◌≡◌ {A = Answer × List ℕ} ((refused 3, out) when t else (done (length ids ∷ (total - length rest) ∷ []), over ids out)) (done answer, after)
        → (js : List ℕ) × (more : List ℕ) × (found ids rest ≡ found js more) × (length js ≤ length out) × (answer ≡ length js ∷ (total - length more) ∷ []) × (after ≡ over js out)
    go true q e = let a : refused 3 ≡ done answer = ap (λ (p : Answer × List ℕ). p.0) e in let z : ◌≡◌ {A = ℕ} 0 1 = cc in absurd (omega arith)
    go false q e =
        let a : done (length ids ∷ (total - length rest) ∷ []) ≡ done answer = ap (λ (p : Answer × List ℕ). p.0) e in
        let b : over ids out ≡ after = ap (λ (p : Answer × List ℕ). p.1) e in
        let c : length ids ∷ (total - length rest) ∷ [] ≡ answer = cc in
        (ids, rest, refl, ltb-false (length out) (length ids) q, sym c, sym b)

taken_is : (bytes rest input : List ℕ) → input ≡ bytes ++ rest → length input - length rest ≡ length bytes
taken_is bytes rest input e = omega (arith, ap length e, length-append bytes rest)

-- reading answers a result exactly when the input begins with the record of a set, given space for its ids
pub reads_exactly : (N : ℕ) → 1 ≤ N → N ≤ 2 ^ 20 → (input out answer after : List ℕ) → AreBytes input → read_into N input out ≡ (done answer, after) ↔ Reads N input out answer after
unfolding read_into
reads_exactly N some most input out answer after bytes = (there, back)
  where
    by : read_into N input out ≡ read_by (read_record N input) (length input) out
    by = when_no _ _ _ (in_limits N some most)

    there : read_into N input out ≡ (done answer, after) → Reads N input out answer after
    there e =
        let f = found_done (read_record N input) (length input) out answer after (sym by ∙ e) in
        let o = record_only N input f.0 f.1 bytes f.2 in
        record {
          ids = f.0;
          rest = f.1;
          set = o.0;
          begins = o.1;
          space = f.3;
          answers = f.4 ∙ ap (λ (k : ℕ). length f.0 ∷ k ∷ []) (taken_is (record_of N f.0) f.1 input o.1);
          output = f.5;
        }

    back : Reads N input out answer after → read_into N input out ≡ (done answer, after)
    back r =
        let read : read_record N input ≡ found r.ids r.rest = ap (read_record N) r.begins ∙ record_read N some most r.ids r.rest r.set in
        by ∙ ap (λ (q : ReadRecord). read_by q (length input) out) read ∙ reads_found r.ids r.rest out (length input) r.space
        ∙ ap₂ (λ (a b : List ℕ). (done a, b)) (ap (λ (k : ℕ). length r.ids ∷ k ∷ []) (taken_is (record_of N r.ids) r.rest input r.begins) ∙ sym r.answers) (sym r.output)
