-- One unitig more in the run file and its table.
use Prim.Native.Nat.{ℕ, zero, suc, ◌+◌, ◌*◌, ◌≤◌, ◌<◌}
use mathlib.Core.Path.{◌≡◌, refl, sym, ap, ◌∙◌}
use mathlib.Core.List.{List, [], ◌∷◌, ◌++◌, append_assoc}
use native.Mathlib.Omega.{arith}
use native.Mathlib.Nat.{zero-add, add-zero}
use native.Mathlib.Numerals.{add-one}
use lib.ListN.{length, get_or, take, set, length-append, length-set}
use lib.Seq.{take-suc-set}
use Rattle.base.proofs.All.{all_append, all_less}
use Rattle.codec.specs.Flat.{flat}
use Rattle.store.specs.Demand.{table_of}
use Rattle.store.specs.Plain.{SharedLengths, Unitig, bytes_of, closed_bytes, no_unitig}
use Rattle.store.specs.State.{SharedBufs, put}
use Rattle.store.specs.declared.state.Shared.{Shared}
use Rattle.store.proofs.Laws.Flats.{flat_more}
use Rattle.store.proofs.Laws.Puts.{put_length, put_take}
use Rattle.store.proofs.Laws.Rep.{Closed, Good, SharedRep}
use Rattle.store.proofs.Laws.Unitigs.{good_more}

table_more : (at : ℕ) (us : List Unitig) (v : Unitig) → table_of at (us ++ (v ∷ [])) ≡ table_of at us ++ ((at + length (closed_bytes us)) ∷ length v.coords ∷ [])
unfolding table_of flat
table_more at [] v = rw add-zero
table_more at (u ∷ us) v =
    let e : at + length (bytes_of u) + length (flat bytes_of us) ≡ at + length (bytes_of u ++ flat bytes_of us) = omega (arith, length-append (bytes_of u) (flat bytes_of us)) in
    ap (λ (l : List ℕ). at ∷ length u.coords ∷ l) (table_more (at + length (bytes_of u)) us v ∙ ap (λ (n : ℕ). table_of (at + length (bytes_of u)) us ++ (n ∷ length v.coords ∷ [])) e)

-- two numbers more
two_more : (l : List ℕ) (k a n : ℕ) → k + 2 ≤ length l → take (suc (suc k)) (set (set l k a) (k + 1) n) ≡ take k l ++ (a ∷ n ∷ [])
two_more l k a n h =
    let x : k < length l = omega arith in
    let y : suc k < length (set l k a) = omega (arith, length-set l k a) in
    rw (add-one k, take-suc-set (set l k a) (suc k) n y, take-suc-set l k a x)
    (append_assoc (take k l) (a ∷ []) (n ∷ []))

module _ {names : ℕ → Type 0} {us : List Unitig} {used unitigs : ℕ} {file table : List ℕ} (c : Closed names us used unitigs file table) (v : Unitig) (ok : Good names v) (room : length (closed_bytes us) + length (bytes_of v) ≤ length file) (pair : 2 * length us + 2 ≤ length table) where
  long_bytes : length (closed_bytes (us ++ (v ∷ []))) ≡ length (closed_bytes us) + length (bytes_of v)
  long_bytes = ap length (flat_more bytes_of us v) ∙ length-append (closed_bytes us) (bytes_of v)

  long_us : length (us ++ (v ∷ [])) ≡ length us + 1
  long_us = length-append us (v ∷ [])

  pub closed_one : Closed names (us ++ (v ∷ [])) (used + length (bytes_of v)) (unitigs + 1) (put used (bytes_of v) file) (set (set table (2 * unitigs) used) (2 * unitigs + 1) (length v.coords))
  closed_one =
      let u : used ≡ length (closed_bytes us) = c.far in
      let m : unitigs ≡ length us = c.many in
      let fits : used + length (bytes_of v) ≤ length file = omega arith in
      let pl = length-set (set table (2 * unitigs) used) (2 * unitigs + 1) (length v.coords) ∙ length-set table (2 * unitigs) used in
      let tw : 2 * (length us + 1) ≡ suc (suc (2 * length us)) = omega arith in
      record {
        far = omega (arith, long_bytes);
        many = omega (arith, long_us);
        room = omega (arith, long_bytes, put_length used (bytes_of v) file fits);
        pairs = omega (arith, long_us, pl);
        bytes = rw (long_bytes, ← u, put_take used (bytes_of v) file fits, u, c.bytes) (sym (flat_more bytes_of us v));
        places =
            rw (long_us, tw, m, two_more table (2 * length us) used (length v.coords) pair, u, c.places)
            (sym (table_more 0 us v ∙ ap (λ (n : ℕ). table_of 0 us ++ (n ∷ length v.coords ∷ [])) (zero-add (length (closed_bytes us)))));
        each = all_append (Good names) us (v ∷ []) c.each (ok, tt);
      }

-- what is named stays named
pub closed_more : {P Q : ℕ → Type 0} {us : List Unitig} {used unitigs : ℕ} {file table : List ℕ} → ((c : ℕ) → P c → Q c) → Closed P us used unitigs file table → Closed Q us used unitigs file table
closed_more {P} {Q} {us} h c =
    record {
      far = c.far;
      many = c.many;
      room = c.room;
      pairs = c.pairs;
      bytes = c.bytes;
      places = c.places;
      each = all_less {P = Good P} {Q = Good Q} (λ u g. good_more h g) us c.each;
    }

pub shared_more : {P Q : ℕ → Type 0} {us : List Unitig} {l : SharedLengths} {s : Shared} {b : SharedBufs} → ((c : ℕ) → P c → Q c) → SharedRep P us l s b → SharedRep Q us l s b
shared_more h r = record { run_size = r.run_size; table_size = r.table_size; closed = closed_more h r.closed }

-- the table's two numbers of unitig k
two_suc : (k : ℕ) → 2 * suc k ≡ suc (suc (2 * k))
two_suc k = omega arith

pub start_at_table : (at : ℕ) (us : List Unitig) (k : ℕ) → k < length us → get_or (table_of at us) (2 * k) 0 ≡ at + length (flat bytes_of (take k us))
unfolding table_of flat
start_at_table at [] k h = omega arith
start_at_table at (u ∷ us) zero h = sym (add-zero at)
start_at_table at (u ∷ us) (suc k) h =
    let g : k < length us = omega arith in
    let e : at + length (bytes_of u) + length (flat bytes_of (take k us)) ≡ at + length (bytes_of u ++ flat bytes_of (take k us)) = omega (arith, length-append (bytes_of u) (flat bytes_of (take k us))) in
    rw (two_suc k) (start_at_table (at + length (bytes_of u)) us k g ∙ e)

pub count_at_table : (at : ℕ) (us : List Unitig) (k : ℕ) → k < length us → get_or (table_of at us) (suc (2 * k)) 0 ≡ length (get_or us k no_unitig).coords
unfolding table_of
count_at_table at [] k h = omega arith
count_at_table at (u ∷ us) zero h = refl
count_at_table at (u ∷ us) (suc k) h =
    let g : k < length us = omega arith in
    rw (two_suc k) (count_at_table (at + length (bytes_of u)) us k g)
