-- The empty set: what an add of it is told and files, and what a show of it gives.
use Prim.Native.Nat.{ℕ}
use mathlib.Core.Path.{◌≡◌, refl, sym, ap, ◌∙◌}
use mathlib.Core.Bool.{true, false}
use mathlib.Core.List.{List, [], ◌∷◌, ◌++◌, append-nil}
use mathlib.Core.Option.{some}
use native.Mathlib.Omega.{arith}
use lib.ListN.{length}
use borrow.Author.Tests.{le-ltb, leb-false}
use Rattle.base.specs.Answers.{done}
use Rattle.base.specs.Parts.{over}
use Rattle.base.specs.Tests.{◌when◌else◌}
use Rattle.base.proofs.Bools.{or_none}
use Rattle.codec.proofs.Promise.{promise}
use Rattle.store.specs.Demand.{LentCall, as_seen, out_of, record_file, seen, showing}
use Rattle.store.specs.Empty.{EmptySetStatement, EmptySetAfter, empty_reply, no_space_for_empty}
use Rattle.store.specs.Plain.{Plain, Reply, all_below, ascends, ids_at, is_set, no_space_for_set, no_vertex, plain_show}
use Rattle.store.specs.Start.{bad_lengths, bad_limits}
use Rattle.store.specs.State.{Bufs, lengths_of}
use Rattle.store.specs.WhileOpen.{add_reply}
use Rattle.store.proofs.Laws.Demand.{began, left, plain, runs_agree, sent_set, shows_plain}
use Rattle.store.proofs.Laws.Trace.{step_ok}
use Rattle.store.proofs.Laws.WhileOpen.{while_open}

-- ---- the plain store

module _ (p : Plain) where
  -- an add of it is one of any ids
  no_space_is : no_space_for_set p.N p.cell [] ≡ no_space_for_empty p
  no_space_is = rw (promise.empty_record p.N)

  empty_told : add_reply p [] ≡ empty_reply p
  unfolding add_reply empty_reply is_set ascends all_below ◌when◌else◌
  empty_told = rw no_space_is

  -- an output of any length has the places
  nothing_shown : (k v : ℕ) (out : List ℕ) → no_vertex p k v ≡ false → ids_at p k v ≡ [] → as_seen (plain_show p k v (length out)) out ≡ seen (done (0 ∷ [])) out
  unfolding plain_show as_seen over ◌when◌else◌
  nothing_shown k v out h e = rw (h, e, le-ltb (length out) 0 (omega arith))

  empty_ok : is_set p.N [] ≡ true
  unfolding is_set ascends all_below
  empty_ok = refl

-- ---- the store

module _ (N W : ℕ) (b : Bufs) (x : bad_limits N W ≡ false) (y : bad_lengths (lengths_of b) ≡ false) (calls : List LentCall) where
  empty_fresh : EmptySetAfter N W b calls (left N W b x y calls)
  unfolding no_vertex out_of
  empty_fresh =
      let p : Plain = plain N W b x y calls in
      let r = (runs_agree N W b x y calls).rep in
      let a = while_open r in
      record {
        added = a.added [] ∙ ap (λ (x : Reply). as_seen x []) (empty_told p);
        filed =
            λ f.
            (a.filed [] (empty_ok p) (no_space_is p ∙ f)).file ∙ ap (λ (bytes : List ℕ). record_file (left N W b x y calls).1.cell (left N W b x y calls).2.cell ++ bytes) (promise.empty_record p.N);
        shown =
            λ k v out h s.
            let z = or_none _ _ h in
            let i : some (ids_at p k v) ≡ some [] = sym (sent_set N W b x y calls calls [] k v (sym (append-nil calls)) (leb-false _ _ z.0) (leb-false _ _ z.1)) ∙ s in
            (step_ok r (showing k v out)).same ∙ shows_plain p k v out ∙ nothing_shown p k v out h cc;
      }

pub empty_set_lem : EmptySetStatement
empty_set_lem N W b b' s e calls =
    let k = began N W b b' s e in
    rw (k.state, k.bufs) (empty_fresh N W b k.limits k.lengths calls)
