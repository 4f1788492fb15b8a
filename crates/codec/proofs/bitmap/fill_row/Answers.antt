use Prim.Native.Nat.{ℕ, ◌+◌, ◌-◌}
use mathlib.Core.Path.{◌≡◌, sym, ap, ◌∙◌}
use mathlib.Core.List.{List, [], ◌∷◌, ◌++◌, append_assoc}
use native.Mathlib.Numerals.{add-one}
use native.Mathlib.Omega.{arith}
use lib.ListN.{length, take, length-append}
use lib.Seq.{length-take-le}
use Rattle.base.specs.Parts.{over}
use Rattle.codec.specs.Bits.{low_bits}
use Rattle.codec.specs.Sets.{ids_of}
use Rattle.codec.proofs.Laws.Filled.{over_start, over_next}
use Rattle.codec.proofs.Laws.Fronts.{front_over, front_part}
use Rattle.codec.proofs.Laws.Rows.{row, row_more, row_ids, length_row, count_moved}
use Rattle.codec.proofs.Laws.Tables.{count_is}
use Rattle.codec.proofs.bitmap.fill_row.Goals as goal

pub loop-j-init : goal.loop-j-init
unfolding row
loop-j-init c = over_start c.args.out.now c.args.k (omega arith)

pub loop-j-preserved : goal.loop-j-preserved
loop-j-preserved c =
    let a = c.args in
    let old : List ℕ = a.out.now in
    let ids : List ℕ = ids_of 0 (low_bits 4 a.four) in
    let j : ℕ = c.loop-j.j in
    let next : row a.base ids j ++ ((a.base + c.place_in.result) ∷ []) ≡ row a.base ids (j + 1) =
    ap (λ (x : ℕ). row a.base ids j ++ ((a.base + x) ∷ [])) c.place_in.ensures.0 ∙ sym (row_more a.base ids j) ∙ ap (row a.base ids) (sym (add-one j))
    in
    over_next old a.k (omega arith) c.loop-j.out (row a.base ids j) (a.k + j) (a.base + c.place_in.result) (omega (arith, length_row a.base ids j)) (omega arith) c.loop-j.invariant
    ∙ ap (λ (l : List ℕ). over (take a.k old ++ l) old) next

pub returns-clause-told : goal.returns-clause-told
returns-clause-told c = ap (λ (n : ℕ). c.args.k + n) ((count_is c.args.four (omega arith)).0 ∙ sym (count_moved c.args.base (low_bits 4 c.args.four)))

pub returns-clause-filled : goal.returns-clause-filled
returns-clause-filled c =
    let a = c.args in
    let old : List ℕ = a.out.now in
    let bits = low_bits 4 a.four in
    let ids : List ℕ = ids_of a.base bits in
    let rest : List ℕ = row a.base [] (a.places - length (ids_of 0 bits)) in
    let all_places : c.loop-j.j ≡ a.places = omega arith in
    let told : row a.base (ids_of 0 bits) c.loop-j.j ≡ ids ++ rest = ap (row a.base (ids_of 0 bits)) all_places ∙ row_ids a.base bits a.places (omega (arith, c.requires.space, count_moved a.base bits)) in
    let all : List ℕ = (take a.k old ++ ids) ++ rest in
    let is : c.loop-j.out ≡ over all old = c.loop-j.invariant ∙ ap (λ (l : List ℕ). over (take a.k old ++ l) old) told ∙ ap (λ (l : List ℕ). over l old) (sym (append_assoc (take a.k old) ids rest)) in
    let long : length all ≡ a.k + a.places =
    ap length (append_assoc (take a.k old) ids rest) ∙ length-append (take a.k old) (ids ++ rest) ∙ omega (arith, length-take-le a.k old (omega arith), ap length told, length_row a.base (ids_of 0 bits) c.loop-j.j)
    in
    front_part (take a.k old ++ ids) (a.k + a.places) old c.loop-j.out rest (rw is (front_over all old (a.k + a.places) (omega (arith, long)) (omega arith)))
