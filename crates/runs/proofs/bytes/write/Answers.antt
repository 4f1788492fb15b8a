-- `runs::bytes::write` meets its contract.
use Rattle.std.proofs.Common.{ℕ, ◌≡◌, ◌≤◌, ◌+◌, ◌*◌, length, sym, ap, ◌∙◌, Ok, Err, arith}
use Rattle.base.specs.Parts.{over}
use Rattle.base.proofs.Parts.{length_over}
use Rattle.codec.specs.Prefix.{prefix_of}
use Rattle.runs.proofs.Laws.Bytes.{write_3, write_done, room, wrote, counted}
use Rattle.runs.proofs.bytes.write.Goals as goal
use Rattle.runs.proofs.bytes.write.Goals.{Else-out-total, In_ok-p}

-- there is space for the count
fits : (g : _) (c : Else-out-total g) → length (prefix_of c.args.count) ≤ length c.args.out.now
fits g c = omega (arith, c.bytes_for-total.ensures.0, c.if-out-total.false)

-- how long it is, and what it left
written : (g : _) (c : In_ok-p g) → (c.in_ok-p.p ≡ length (prefix_of c.args.count)) × (c.write_varint.new.out ≡ over (prefix_of c.args.count) c.args.out.now)
written g c =
    let w = counted c.args.count (Ok c.in_ok-p.p) c.args.out.now _ (fits g (goal.at.slice_bounds-fill_bytes-count g c).Else-out-total) c.in_ok-p.ensures in
    let p : c.in_ok-p.p ≡ length (prefix_of c.args.count) = cc in
    (p, w.1)

pub returns-then-out-total : goal.returns-then-out-total
returns-then-out-total g c = λ all e l.
    write_3 all c.args.out.now _ (omega (arith, c.ranges.count)) (c.bytes_for-total.ensures.0 ∙ ap (λ (k : ℕ). length (prefix_of k) + 8 * k) (sym l)) c.if-out-total.true

pub returns-in_err-p : goal.returns-in_err-p
returns-in_err-p g c = λ all e l.
    let w = counted c.args.count (Err c.in_err-p.field-0.0) c.args.out.now _ (fits g (goal.at.returns-in_err-p g c).Else-out-total) c.in_err-p.ensures in
    let z : ◌≡◌ {A = ℕ} 0 1 = cc in
    absurd (omega arith)

pub slice_bounds-fill_bytes-count : goal.slice_bounds-fill_bytes-count
slice_bounds-fill_bytes-count g c =
    let w = written g c in
    omega (arith, w.0, ap length w.1, length_over (prefix_of c.args.count) c.args.out.now (fits g (goal.at.slice_bounds-fill_bytes-count g c).Else-out-total))

pub slice_bounds-fill_bytes-start : goal.slice_bounds-fill_bytes-start
slice_bounds-fill_bytes-start g c = omega (arith, slice_bounds-fill_bytes-count g c)

pub fill_bytes-requires : goal.fill_bytes-requires
fill_bytes-requires g c =
    let w = written g (goal.at.fill_bytes-requires g c).In_ok-p in
    let space = room c.args.count c.args.out.now c.in_ok-p.p _ w.0 w.1 (omega (arith, w.0, c.bytes_for-total.ensures.0, c.if-out-total.false)) in
    let given = c.requires in
    record { asked = given.asked; ends = (given.ends.0, omega (arith, given.ends.1, space)); all = given.all; gives = given.gives; few = omega (arith, given.few, space) }

pub returns : goal.returns
returns g c = λ all e l.
    let w = written g (goal.at.returns g c).In_ok-p in
    write_done all c.args.out.now _ _ (omega (arith, c.ranges.count)) (c.bytes_for-total.ensures.0 ∙ ap (λ (k : ℕ). length (prefix_of k) + 8 * k) (sym l)) c.if-out-total.false (wrote c.args.count c.args.out.now c.in_ok-p.p _ w.0 w.1 all l _ (c.fill_bytes.ensures all e))
