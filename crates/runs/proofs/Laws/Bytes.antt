-- Laws of run bytes.
use Prim.Native.Nat.{ℕ, zero, suc, ◌+◌, ◌-◌, ◌*◌, ◌/◌, ◌%◌, ◌^◌, ◌≤◌, ◌<◌}
use mathlib.Core.Path.{◌≡◌, refl, sym, ap, ap₂, ◌∙◌, subst}
use mathlib.Core.Bool.{Bool, true, false}
use Rattle.std.specs.Prelude.{Result, Ok, Err}
use Rattle.std.specs.Int.{w64, from_le_bytes, to_le_bytes}
use Rattle.std.proofs.Common.{inl, inr}
use mathlib.Core.List.{List, [], ◌∷◌, ◌++◌, append_assoc}
use native.Mathlib.Omega.{arith}
use native.Mathlib.Nat.{pow-suc, div-lt_iff_lt-mul}
use borrow.Author.Tests.{lt-ltb, le-ltb, ltb-false}
use lib.ListN.{length, take, drop, get_or, length-append, length-drop, take-append-drop}
use lib.Seq.{drop-cons, drop-append-add, take_at, drop_at, take-add, drop-drop, length-take-le, drop-append_seam, take-append_seam, get_or-drop, get_or-append-add}
use lib.Dec.{ltb, lit<}
use Rattle.base.specs.Tests.{◌when◌else◌}
use Rattle.base.specs.Answers.{Answer, refused, done, number_of, of_written}
use Rattle.base.specs.declared.Refusal.{Refusal}
use Rattle.base.specs.Parts.{over}
use Rattle.base.proofs.Tests.{when_yes, when_no}
use Rattle.base.proofs.Parts.{over_behind, tail_is, put_tail}
use Rattle.codec.specs.Bits.{AreBytes}
use Rattle.codec.specs.Flat.{flat}
use Rattle.codec.specs.Prefix.{prefix_of, ReadLeb, whole, cut, bad, read_prefix, of_prefix, prefix_in, write_prefix}
use Rattle.codec.proofs.Laws.Prefix.{prefix_read, prefix_behind}
use Rattle.codec.proofs.Laws.Records.{prefix_only}
use Rattle.runs.specs.Words.{AreWords}
use Rattle.runs.specs.Bytes.{le_bytes, le_value, run_bytes, words, ReadRuns, found, short, after_count, read_runs, write_runs, given_in, read_runs_into, write_rotated, sharp_colour_in}
use Rattle.runs.specs.Orders.{most_vertices, steady}
use Rattle.runs.specs.Rotate.{rotate_runs}
use Rattle.runs.specs.Inside.Blocks.{IsRead}
use Rattle.std.proofs.lemmas.List.{length_push, get_or_default}
use Rattle.runs.proofs.Laws.Lists.{Filled}
use Rattle.runs.proofs.Laws.Orders.{taken}
use Rattle.runs.proofs.Laws.Answers.{rotated_written}

pub length_le : (k w : ℕ) → length (le_bytes k w) ≡ k
unfolding le_bytes
length_le zero w = refl
length_le (suc k) w = ap suc (length_le k (w / 256))

pub length_flat : (ws : List ℕ) → length (flat (le_bytes 8) ws) ≡ 8 * length ws
unfolding flat
length_flat [] = refl
length_flat (w ∷ ws) = length-append (le_bytes 8 w) (flat (le_bytes 8) ws) ∙ omega (arith, length_le 8 w, length_flat ws)

pub length_bytes : (ws : List ℕ) → length (run_bytes ws) ≡ length (prefix_of (length ws)) + 8 * length ws
unfolding run_bytes
length_bytes ws = length-append (prefix_of (length ws)) (flat (le_bytes 8) ws) ∙ ap (λ (k : ℕ). length (prefix_of (length ws)) + k) (length_flat ws)

-- the bytes from run i on
flat_drop : (i : ℕ) (ws : List ℕ) → drop (8 * i) (flat (le_bytes 8) ws) ≡ flat (le_bytes 8) (drop i ws)
unfolding flat
flat_drop zero ws = refl
flat_drop (suc i) [] = nothing (8 * suc i)
  where
    nothing : (k : ℕ) → ◌≡◌ {A = List ℕ} (drop k []) []
    nothing zero = refl
    nothing (suc k) = refl
flat_drop (suc i) (w ∷ ws) =
    let e : 8 * suc i ≡ length (le_bytes 8 w) + 8 * i = omega (arith, length_le 8 w) in
    ap (λ (k : ℕ). drop k (le_bytes 8 w ++ flat (le_bytes 8) ws)) e ∙ drop-append-add (le_bytes 8 w) (flat (le_bytes 8) ws) (8 * i) ∙ flat_drop i ws

pub block : (ws : List ℕ) (i : ℕ) → i < length ws → take 8 (drop (8 * i) (flat (le_bytes 8) ws)) ≡ le_bytes 8 (get_or ws i 0)
unfolding flat
block ws i h =
    ap (take 8) (flat_drop i ws ∙ ap (flat (le_bytes 8)) (drop-cons ws i 0 h))
    ∙ take_at (le_bytes 8 (get_or ws i 0)) (flat (le_bytes 8) (drop (suc i) ws)) 8 (length_le 8 (get_or ws i 0))

-- a block of bytes put behind those that are there
pub fill_block : (all from out after blk : List ℕ) (k m : ℕ) → Filled all from out k → k + m ≤ length from → length blk ≡ m → take m (drop k all) ≡ blk → after ≡ take k out ++ blk ++ drop (k + m) out → Filled all from after (k + m)
fill_block all from out after blk k m f h l b e =
    let t : length (take k out) ≡ k = length-take-le k out (omega (arith, f.long)) in
    let q : length (take k out ++ blk) ≡ k + m = length-append (take k out) blk ∙ omega arith in
    record {
      long = ap length e ∙ length-append (take k out ++ blk) (drop (k + m) out) ∙ omega (arith, length-drop (k + m) out, f.long);
      done = ap (take (k + m)) e ∙ take_at (take k out ++ blk) (drop (k + m) out) (k + m) q ∙ ap₂ (λ (x y : List ℕ). x ++ y) f.done (sym b) ∙ sym (take-add k m all);
      kept = ap (drop (k + m)) e ∙ drop_at (take k out ++ blk) (drop (k + m) out) (k + m) q ∙ sym (drop-drop m k out) ∙ ap (drop m) f.kept ∙ drop-drop m k from;
    }

-- the block of an element put at its number
pub fill_next_block : (all from out after : List ℕ) (xs : List (ℕ × ℕ)) (i x : ℕ) → (i ≡ length xs) × (length xs < length all) × (x ≡ get_or all (length xs) x) → 8 * i + 8 ≤ length out
    → after ≡ take (8 * i) out ++ le_bytes 8 x ++ drop (8 * i + 8) out → Filled (flat (le_bytes 8) all) from out (8 * length xs) → Filled (flat (le_bytes 8) all) from after (8 * length (xs ++ ((i, x) ∷ [])))
fill_next_block all from out after xs i x h room e f =
    let k : ℕ = length xs in
    let g : 8 * k + 8 ≡ 8 * (k + 1) = omega arith in
    let same : get_or all k 0 ≡ x = get_or_default all k 0 x h.1 ∙ sym h.2 in
    let put : after ≡ take (8 * k) out ++ le_bytes 8 x ++ drop (8 * k + 8) out = e ∙ ap (λ (j : ℕ). take (8 * j) out ++ le_bytes 8 x ++ drop (8 * j + 8) out) h.0 in
    rw (length_push xs (i, x)) (subst (Filled (flat (le_bytes 8) all) from after) g (fill_block (flat (le_bytes 8) all) from out after (le_bytes 8 x) (8 * k) 8 f (omega (arith, f.long, h.0)) (length_le 8 x) (block all k h.1 ∙ ap (le_bytes 8) same) put))

-- eight bytes, and the number that they give
pull : (k at after : ℕ) (xs : List ℕ) → at < length xs → after ≡ suc at → take (suc k) (drop at xs) ≡ get_or xs at 0 ∷ take k (drop after xs)
pull k at after xs h e = ap (take (suc k)) (drop-cons xs at 0 h) ∙ ap (λ (n : ℕ). get_or xs at 0 ∷ take k (drop n xs)) (sym e)

pub take_8 : (xs : List ℕ) (at : ℕ) → at + 8 ≤ length xs → take 8 (drop at xs) ≡ get_or xs at 0 ∷ get_or xs (at + 1) 0 ∷ get_or xs (at + 2) 0 ∷ get_or xs (at + 3) 0 ∷ get_or xs (at + 4) 0 ∷ get_or xs (at + 5) 0 ∷ get_or xs (at + 6) 0 ∷ get_or xs (at + 7) 0 ∷ []
take_8 xs at h = pull 7 at (at + 1) xs (omega arith) (omega arith) ∙ ap (λ (l : List ℕ). get_or xs at 0 ∷ l) (pull 6 (at + 1) (at + 2) xs (omega arith) (omega arith) ∙ ap (λ (l : List ℕ). get_or xs (at + 1) 0 ∷ l) (pull 5 (at + 2) (at + 3) xs (omega arith) (omega arith) ∙ ap (λ (l : List ℕ). get_or xs (at + 2) 0 ∷ l) (pull 4 (at + 3) (at + 4) xs (omega arith) (omega arith) ∙ ap (λ (l : List ℕ). get_or xs (at + 3) 0 ∷ l) (pull 3 (at + 4) (at + 5) xs (omega arith) (omega arith) ∙ ap (λ (l : List ℕ). get_or xs (at + 4) 0 ∷ l) (pull 2 (at + 5) (at + 6) xs (omega arith) (omega arith) ∙ ap (λ (l : List ℕ). get_or xs (at + 5) 0 ∷ l) (pull 1 (at + 6) (at + 7) xs (omega arith) (omega arith) ∙ ap (λ (l : List ℕ). get_or xs (at + 6) 0 ∷ l) (pull 0 (at + 7) (at + 8) xs (omega arith) (omega arith))))))))

pub value_8 : (b0 b1 b2 b3 b4 b5 b6 b7 : ℕ) → b0 + 256 * (b1 + 256 * (b2 + 256 * (b3 + 256 * (b4 + 256 * (b5 + 256 * (b6 + 256 * b7)))))) ≡ le_value (b0 ∷ b1 ∷ b2 ∷ b3 ∷ b4 ∷ b5 ∷ b6 ∷ b7 ∷ [])
unfolding le_value
value_8 b0 b1 b2 b3 b4 b5 b6 b7 =
    let e : b7 ≡ b7 + 256 * 0 = omega arith in
    ap (λ (x : ℕ). b0 + 256 * (b1 + 256 * (b2 + 256 * (b3 + 256 * (b4 + 256 * (b5 + 256 * (b6 + 256 * x))))))) e

-- the number by std's word
pub word_from : (xs : List ℕ) (at : ℕ) → at + 8 ≤ length xs → from_le_bytes w64 (take 8 (drop at xs)) ≡ le_value (take 8 (drop at xs))
word_from xs at h =
    let v = take_8 xs at h in
    ap (from_le_bytes w64) v ∙ eight _ _ _ _ _ _ _ _ ∙ sym (ap le_value v)
  where
    eight : (b0 b1 b2 b3 b4 b5 b6 b7 : ℕ) → from_le_bytes w64 (b0 ∷ b1 ∷ b2 ∷ b3 ∷ b4 ∷ b5 ∷ b6 ∷ b7 ∷ []) ≡ le_value (b0 ∷ b1 ∷ b2 ∷ b3 ∷ b4 ∷ b5 ∷ b6 ∷ b7 ∷ [])
    eight b0 b1 b2 b3 b4 b5 b6 b7 =
        let e : from_le_bytes w64 (b0 ∷ b1 ∷ b2 ∷ b3 ∷ b4 ∷ b5 ∷ b6 ∷ b7 ∷ []) ≡ b0 + 256 * (b1 + 256 * (b2 + 256 * (b3 + 256 * (b4 + 256 * (b5 + 256 * (b6 + 256 * b7)))))) = omega arith in
        e ∙ value_8 b0 b1 b2 b3 b4 b5 b6 b7

-- the bytes by std's word
pub word_to : (w : ℕ) → to_le_bytes w64 w ≡ le_bytes 8 w
unfolding le_bytes
word_to w =
    let e2 : w / 65536 ≡ w / 256 / 256 = omega arith in
    let e3 : w / 16777216 ≡ w / 256 / 256 / 256 = omega arith in
    let e4 : w / 4294967296 ≡ w / 256 / 256 / 256 / 256 = omega arith in
    let e5 : w / 1099511627776 ≡ w / 256 / 256 / 256 / 256 / 256 = omega arith in
    let e6 : w / 281474976710656 ≡ w / 256 / 256 / 256 / 256 / 256 / 256 = omega arith in
    let e7 : w / 72057594037927936 ≡ w / 256 / 256 / 256 / 256 / 256 / 256 / 256 = omega arith in
    rw (e2, e3, e4, e5, e6, e7)

-- a part of eight bytes, lent and back
pub put_block : (out new : List ℕ) (at w : ℕ) → new ≡ to_le_bytes w64 w → take at out ++ (new ++ drop (at + 8 - at) (drop at out)) ≡ take at out ++ le_bytes 8 w ++ drop (at + 8) out
put_block out new at w e =
    let k : at + 8 - at ≡ 8 = omega arith in
    ap₂ (λ (x : List ℕ) (n : ℕ). take at out ++ (x ++ drop n (drop at out))) (e ∙ word_to w) k
    ∙ ap (λ (l : List ℕ). take at out ++ (le_bytes 8 w ++ l)) (drop-drop 8 at out)
    ∙ sym (append_assoc (take at out) (le_bytes 8 w) (drop (at + 8) out))

-- ---- words

pub length_words : (k : ℕ) (bytes : List ℕ) → length (words k bytes) ≡ k
unfolding words
length_words zero bytes = refl
length_words (suc k) bytes = ap suc (length_words k (drop 8 bytes))

pub word_is : (k : ℕ) (bytes : List ℕ) (i : ℕ) → i < k → get_or (words k bytes) i 0 ≡ le_value (take 8 (drop (8 * i) bytes))
unfolding words
word_is zero bytes i h = absurd (none h)
  where
    none : i < 0 → ⊥
    none h = omega arith
word_is (suc k) bytes zero h = refl
word_is (suc k) bytes (suc i) h =
    let e : 8 + 8 * i ≡ 8 * suc i = omega arith in
    word_is k (drop 8 bytes) i (omega arith) ∙ ap (λ (l : List ℕ). le_value (take 8 l)) (drop-drop (8 * i) 8 bytes ∙ ap (λ (n : ℕ). drop n bytes) e)

-- a number of 64 bits comes back
pub value_bytes : (k w : ℕ) → w < 256 ^ k → le_value (le_bytes k w) ≡ w
unfolding le_value le_bytes
value_bytes zero w h = omega arith
value_bytes (suc k) w h =
    let q : w / 256 < 256 ^ k = (div-lt_iff_lt-mul (lit< tt)).1 (subst (λ (x : ℕ). w < x) (pow-suc 256 k) h) in
    let r : le_value (le_bytes k (w / 256)) ≡ w / 256 = value_bytes k (w / 256) q in
    omega arith

-- the word at its place in the bytes is the run
pub word_there : (bytes : List ℕ) (at count i w : ℕ) → i < count → w ≡ le_value (take 8 (drop (at + 8 * i) bytes)) → w ≡ get_or (words count (drop at bytes)) i 0
word_there bytes at count i w h e = e ∙ ap (λ (x : List ℕ). le_value (take 8 x)) (sym (drop-drop (8 * i) at bytes)) ∙ sym (word_is count (drop at bytes) i h)

-- ---- writing

module _ (ws out : List ℕ) where
  pub write_6 : 4294967295 < length ws → ◌≡◌ {A = Answer × List ℕ} (refused 6, out) (write_runs ws out)
  unfolding write_runs
  write_6 h = sym (when_yes _ _ _ (lt-ltb _ _ h))

  pub write_3 : (k : ℕ) → length ws ≤ 4294967295 → k ≡ length (prefix_of (length ws)) + 8 * length ws → length out < k → ◌≡◌ {A = Answer × List ℕ} (refused 3, out) (write_runs ws out)
  unfolding write_runs
  write_3 k h e l =
      let z : length out < length (run_bytes ws) = omega (arith, length_bytes ws) in
      sym (when_no _ _ _ (le-ltb _ _ h) ∙ when_yes _ _ _ (lt-ltb _ _ z))

  pub write_done : (k : ℕ) (after : List ℕ) → length ws ≤ 4294967295 → k ≡ length (prefix_of (length ws)) + 8 * length ws → k ≤ length out → after ≡ over (run_bytes ws) out
      → ◌≡◌ {A = Answer × List ℕ} (done (k ∷ []), after) (write_runs ws out)
  unfolding write_runs
  write_done k after h e l a =
      let q : k ≡ length (run_bytes ws) = e ∙ sym (length_bytes ws) in
      let z : length (run_bytes ws) ≤ length out = omega arith in
      ap₂ (λ (x : ℕ) (y : List ℕ). (done (x ∷ []), y)) q a ∙ sym (when_no _ _ _ (le-ltb _ _ h) ∙ when_no _ _ _ (le-ltb _ _ z))

-- the count, and the runs behind it
module _ (k : ℕ) (out : List ℕ) (p : ℕ) (mid : List ℕ) (q : p ≡ length (prefix_of k)) (m : mid ≡ over (prefix_of k) out) where
  front : take p mid ≡ prefix_of k
  unfolding over
  front = ap₂ take q m ∙ take-append_seam (prefix_of k) (drop (length (prefix_of k)) out)

  back : drop p mid ≡ drop (length (prefix_of k)) out
  unfolding over
  back = ap₂ drop q m ∙ drop-append_seam (prefix_of k) (drop (length (prefix_of k)) out)

  pub room : p + 8 * k ≤ length out → 8 * k ≤ length (take (length mid - p) (drop p mid))
  room h = rw (tail_is p mid, back, length-drop (length (prefix_of k)) out) (omega arith)

  pub wrote : (ws : List ℕ) → length ws ≡ k → (part : List ℕ) → part ≡ over (flat (le_bytes 8) ws) (take (length mid - p) (drop p mid)) → take p mid ++ (part ++ drop (length mid - p) (drop p mid)) ≡ over (run_bytes ws) out
  unfolding run_bytes
  wrote ws l part e =
      put_tail p mid part
      ∙ ap₂ (λ (x y : List ℕ). x ++ y) front (e ∙ ap (over (flat (le_bytes 8) ws)) (tail_is p mid ∙ back))
      ∙ over_behind (prefix_of k) (flat (le_bytes 8) ws) out
      ∙ ap (λ (x : ℕ). over (prefix_of x ++ flat (le_bytes 8) ws) out) (sym l)

-- a count that was written
pub counted : (k : ℕ) (r : Result ℕ Refusal) (out after : List ℕ) → length (prefix_of k) ≤ length out → ◌≡◌ {A = Answer × List ℕ} (of_written r, after) (write_prefix k out) → (r ≡ Ok (length (prefix_of k))) × (after ≡ over (prefix_of k) out)
unfolding write_prefix
counted k r out after h e = (told r (ap (λ (x : Answer × List ℕ). x.0) fits), ap (λ (x : Answer × List ℕ). x.1) fits)
  where
    fits : ◌≡◌ {A = Answer × List ℕ} (of_written r, after) (done (length (prefix_of k) ∷ []), over (prefix_of k) out)
    fits = e ∙ when_no _ _ _ (le-ltb _ _ h)

    told : (r : Result ℕ Refusal) → of_written r ≡ done (length (prefix_of k) ∷ []) → r ≡ Ok (length (prefix_of k))
    told (Ok n) t = let same : n ≡ length (prefix_of k) = cc in ap Ok same
    told (Err x) t = let z : ◌≡◌ {A = ℕ} 0 1 = cc in absurd (omega arith)

-- ---- reading

pub words_flat : (ws rest : List ℕ) → AreWords ws → words (length ws) (flat (le_bytes 8) ws ++ rest) ≡ ws
unfolding words flat
words_flat [] rest h = refl
words_flat (w ∷ ws) rest h =
    let e : (le_bytes 8 w ++ flat (le_bytes 8) ws) ++ rest ≡ le_bytes 8 w ++ (flat (le_bytes 8) ws ++ rest) = append_assoc (le_bytes 8 w) (flat (le_bytes 8) ws) rest in
    ap (λ (l : List ℕ). le_value (take 8 l) ∷ words (length ws) (drop 8 l)) e
    ∙ ap₂ (λ (x : List ℕ) (y : List ℕ). le_value x ∷ words (length ws) y) (take_at (le_bytes 8 w) (flat (le_bytes 8) ws ++ rest) 8 (length_le 8 w)) (drop_at (le_bytes 8 w) (flat (le_bytes 8) ws ++ rest) 8 (length_le 8 w))
    ∙ ap₂ (λ (x : ℕ) (l : List ℕ). x ∷ l) (value_bytes 8 w (h 0)) (words_flat ws rest (λ i. h (suc i)))

-- what is written is read
pub read_back : (ws rest : List ℕ) → length ws < 2 ^ 32 → AreWords ws → read_runs (run_bytes ws ++ rest) ≡ found ws rest
unfolding read_runs run_bytes after_count
read_back ws rest h a =
    let bs : List ℕ = flat (le_bytes 8) ws in
    let l : length (bs ++ rest) ≡ 8 * length ws + length rest = length-append bs rest ∙ ap (λ (k : ℕ). k + length rest) (length_flat ws) in
    let t : 8 * length ws ≤ length (bs ++ rest) = omega (arith, l) in
    ap (λ (x : List ℕ). after_count (read_prefix x)) (append_assoc (prefix_of (length ws)) bs rest)
    ∙ ap after_count (prefix_read (length ws) (bs ++ rest) h)
    ∙ when_no _ _ _ (le-ltb _ _ t)
    ∙ ap₂ found (words_flat ws rest a) (drop_at bs rest (8 * length ws) (length_flat ws))

-- and only that is accepted
value_lt : (k : ℕ) (bs : List ℕ) → AreBytes bs → le_value (take k bs) < 256 ^ k
unfolding le_value
value_lt zero bs h = omega arith
value_lt (suc k) [] h = pos (suc k)
  where
    pos : (j : ℕ) → 0 < 256 ^ j
    pos zero = omega arith
    pos (suc j) = omega (arith, pow-suc 256 j, pos j)
value_lt (suc k) (b ∷ bs) h = omega (arith, h 0, pow-suc 256 k, value_lt k bs (λ i. h (suc i)))

bytes_value : (k : ℕ) (bs : List ℕ) → k ≤ length bs → AreBytes bs → le_bytes k (le_value (take k bs)) ≡ take k bs
unfolding le_value le_bytes
bytes_value zero bs l h = refl
bytes_value (suc k) [] l h = absurd (omega arith)
bytes_value (suc k) (b ∷ bs) l h =
    let v : ℕ = le_value (take k bs) in
    let q : b < 256 = h 0 in
    let m : (b + 256 * v) % 256 ≡ b = omega arith in
    let d : (b + 256 * v) / 256 ≡ v = omega arith in
    ap₂ (λ (x : ℕ) (y : List ℕ). x ∷ y) m (ap (le_bytes k) d ∙ bytes_value k bs (omega arith) (λ i. h (suc i)))

bytes_drop : (k : ℕ) (bs : List ℕ) → AreBytes bs → AreBytes (drop k bs)
bytes_drop k bs h i = subst (λ (x : ℕ). x < 256) (sym (get_or-drop k bs i 0)) (h (k + i))

words_only : (k : ℕ) (bs : List ℕ) → 8 * k ≤ length bs → AreBytes bs → AreWords (words k bs) × (flat (le_bytes 8) (words k bs) ≡ take (8 * k) bs)
unfolding words flat
words_only zero bs l h = ((λ i. omega arith), refl)
words_only (suc k) bs l h =
    let r = words_only k (drop 8 bs) (simp length-drop (omega arith)) (bytes_drop 8 bs h) in
    let e : 8 + 8 * k ≡ 8 * suc k = omega arith in
    (first r.0, ap₂ (λ (x y : List ℕ). x ++ y) (bytes_value 8 bs (omega arith) h) r.1 ∙ sym (take-add 8 (8 * k) bs) ∙ ap (λ (n : ℕ). take n bs) e)
  where
    first : AreWords (words k (drop 8 bs)) → AreWords (le_value (take 8 bs) ∷ words k (drop 8 bs))
    first a zero = value_lt 8 bs h
    first a (suc i) = a i

pub record RunsAccepted (bytes ws rest : List ℕ) : Type 0 where
  pub count : length ws < 2 ^ 32
  pub words : AreWords ws
  pub are : bytes ≡ run_bytes ws ++ rest

pub read_only : (bytes ws rest : List ℕ) → AreBytes bytes → read_runs bytes ≡ found ws rest → RunsAccepted bytes ws rest
unfolding read_runs after_count ◌when◌else◌ run_bytes
read_only bytes ws rest h e = go (read_prefix bytes) refl e
  where
    go : (r : ReadLeb) → read_prefix bytes ≡ r → after_count r ≡ found ws rest → RunsAccepted bytes ws rest
    go cut q e = let z : ◌≡◌ {A = ℕ} 0 1 = cc in absurd (omega arith)
    go bad q e = let z : ◌≡◌ {A = ℕ} 0 1 = cc in absurd (omega arith)
    go (whole k more) q e = room (ltb (length more) (8 * k)) refl e
      where
        p : (bytes ≡ prefix_of k ++ more) × (k < 2 ^ 32)
        p = prefix_only bytes k more h q

        more_bytes : AreBytes more
        more_bytes i = subst (λ (x : ℕ). x < 256) (ap (λ (l : List ℕ). get_or l (length (prefix_of k) + i) 0) p.0 ∙ get_or-append-add (prefix_of k) more i 0) (h (length (prefix_of k) + i))

        all : 8 * k ≤ length more → RunsAccepted bytes (words k more) (drop (8 * k) more)
        all l =
            let r = words_only k more l more_bytes in
            let n : length (words k more) ≡ k = length_words k more in
            record {
              count = subst (λ (x : ℕ). x < 2 ^ 32) (sym n) p.1;
              words = r.0;
              are =
                  p.0
                  ∙ ap (λ (x : List ℕ). prefix_of k ++ x) (sym (take-append-drop (8 * k) more) ∙ ap (λ (x : List ℕ). x ++ drop (8 * k) more) (sym r.1))
                  ∙ sym (append_assoc (prefix_of k) (flat (le_bytes 8) (words k more)) (drop (8 * k) more))
                  ∙ ap (λ (x : ℕ). (prefix_of x ++ flat (le_bytes 8) (words k more)) ++ drop (8 * k) more) (sym n);
            }

        room : (t : Bool) → ltb (length more) (8 * k) ≡ t → (short when t else found (words k more) (drop (8 * k) more)) ≡ found ws rest → RunsAccepted bytes ws rest
        room true b e = let z : ◌≡◌ {A = ℕ} 0 1 = cc in absurd (omega arith)
        room false b e =
            let v : words k more ≡ ws = cc in
            let d : drop (8 * k) more ≡ rest = cc in
            subst (λ (x : List ℕ). RunsAccepted bytes x rest) v (subst (λ (x : List ℕ). RunsAccepted bytes (words k more) x) d (all (ltb-false _ _ b)))

-- ---- what reading answers, behind a count of k

module _ (k : ℕ) (rest : List ℕ) where
  pub after_short : length rest < 8 * k → after_count (whole k rest) ≡ short
  unfolding after_count
  after_short h = when_yes _ _ _ (lt-ltb _ _ h)

  pub after_found : 8 * k ≤ length rest → after_count (whole k rest) ≡ found (words k rest) (drop (8 * k) rest)
  unfolding after_count
  after_found h = when_no _ _ _ (le-ltb _ _ h)

-- ---- by what reading found

-- no list was found
module _ (bytes : List ℕ) (r : Refusal) (e : IsRead bytes (Err r)) where
  pub read_none : (out : List ℕ) → ◌≡◌ {A = Answer × List ℕ} (refused (number_of r), out) (read_runs_into bytes out)
  unfolding given_in
  read_none out = go e
    where
      go : IsRead bytes (Err r) → ◌≡◌ {A = Answer × List ℕ} (refused (number_of r), out) (given_in (length bytes) (read_runs bytes) out)
      go (inl h) = rw (h.0, h.1)
      go (inr h) = rw (h.0, h.1)

  pub color_none : (n vertex : ℕ) → refused (number_of r) ≡ sharp_colour_in n vertex (read_runs bytes)
  unfolding sharp_colour_in
  color_none n vertex = go e
    where
      go : IsRead bytes (Err r) → refused (number_of r) ≡ sharp_colour_in n vertex (read_runs bytes)
      go (inl h) = rw (h.0, h.1)
      go (inr h) = rw (h.0, h.1)

-- a list was found
module _ (bytes ws rest out : List ℕ) (e : read_runs bytes ≡ found ws rest) where
  pub read_3 : length out < length ws → ◌≡◌ {A = Answer × List ℕ} (refused 3, out) (read_runs_into bytes out)
  unfolding given_in
  read_3 l = sym (ap (λ (r : ReadRuns). given_in (length bytes) r out) e ∙ when_yes _ _ _ (lt-ltb _ _ l))

  pub read_done : (k taken : ℕ) (after : List ℕ) → length ws ≤ length out → k ≡ length ws → taken ≡ length bytes - length rest → after ≡ over ws out
      → ◌≡◌ {A = Answer × List ℕ} (done (k ∷ taken ∷ []), after) (read_runs_into bytes out)
  unfolding given_in
  read_done k taken after l i b a =
      ap₂ (λ (x : Answer) (y : List ℕ). (x, y)) (ap₂ (λ (x y : ℕ). done (x ∷ y ∷ [])) i b) a
      ∙ sym (ap (λ (r : ReadRuns). given_in (length bytes) r out) e ∙ when_no _ _ _ (le-ltb _ _ l))

-- ---- by what is read of the count

module _ (bytes : List ℕ) where
  by_count : (q : ReadLeb) → read_prefix bytes ≡ q → read_runs bytes ≡ after_count q
  unfolding read_runs
  by_count q e = ap after_count e

  pub count_none : (r : Refusal) → of_prefix (Err r) ≡ prefix_in (length bytes) (read_prefix bytes) → IsRead bytes (Err r)
  unfolding after_count
  count_none r e = go (read_prefix bytes) refl e
    where
      go : (q : ReadLeb) → read_prefix bytes ≡ q → of_prefix (Err r) ≡ prefix_in (length bytes) q → IsRead bytes (Err r)
      go (whole n rest) s e = let x : ◌≡◌ {A = ℕ} 0 1 = cc in absurd (omega arith)
      go cut s e = let v : number_of r ≡ 4 = cc in inl (by_count cut s, v)
      go bad s e = let v : number_of r ≡ 5 = cc in inr (by_count bad s, v)

  module _ (k len : ℕ) (e : of_prefix (Ok (record { value = k; len = len })) ≡ prefix_in (length bytes) (read_prefix bytes)) where
    pub count_behind : (read_runs bytes ≡ after_count (whole k (drop len bytes))) × (len ≤ length bytes)
    count_behind = let b = prefix_behind bytes k len e in (by_count _ b.0, b.1)

    pub count_cut : length bytes - len < 8 * k → read_runs bytes ≡ short
    count_cut h = count_behind.0 ∙ after_short k (drop len bytes) (omega (arith, length-drop len bytes))

    pub count_found : 8 * k ≤ length bytes - len → read_runs bytes ≡ found (words k (drop len bytes)) (drop (8 * k) (drop len bytes))
    count_found h = count_behind.0 ∙ after_found k (drop len bytes) (omega (arith, length-drop len bytes))

-- ---- the turned cycle as bytes, by the two tests of its list

pub write_turned_lem : (ws : List ℕ) (n pivot : ℕ) (r : Bool) (out : List ℕ) → n ≤ most_vertices → steady n ws ≡ true → write_runs (rotate_runs n pivot r ws) out ≡ write_rotated ws n pivot r out
write_turned_lem ws n pivot r out h s = rotated_written ws n pivot r out (taken n ws h s)
