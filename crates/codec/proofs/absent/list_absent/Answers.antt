-- `absent::list_absent` meets its contract.
use Prim.Native.Nat.{ℕ, ◌+◌, ◌-◌, ◌*◌}
use mathlib.Core.Path.{◌≡◌, sym, ap, ◌∙◌, subst}
use native.Mathlib.Nat.{le_refl}
use native.Mathlib.Omega.{arith}
use lib.ListN.{length, take}
use Rattle.codec.specs.Inside.Gaps.{Listed}
use Rattle.codec.proofs.Laws.Absent.{numbers_at, listed_none, listed_eight, listed_all}
use Rattle.codec.proofs.absent.list_absent.Goals as goal
use Rattle.codec.proofs.absent.list_absent.Goals.{then-set-i, else-set-i}

pub loop-eight-init : goal.loop-eight-init
loop-eight-init c = let s = c.args.set in listed_none s.colors.n s.ids.now c.args.room.now s.within

pub loop-eight-preserved : goal.loop-eight-preserved
loop-eight-preserved c =
    let s = c.args.set in
    let l = c.loop-eight in
    let e : 8 * l.eight + 8 ≡ 8 * (l.eight + 1) = omega arith in
    subst (λ (n : ℕ). Listed s.colors.n s.ids.now (record { i = n; from = c.if-set-i.from }) c.if-set-i.room) e
    (elim c.if-set-i.branch [
      | then-set-i w ↦ rw (w.room-is, w.from-is) (listed_eight s.colors.n s.ids.now l.room (8 * l.eight) l.from l.invariant (omega arith) w.if-set-i.true)
      | else-set-i w ↦ rw (w.room-is, w.from-is) w.list_up_to-from.ensures
    ])

pub returns : goal.returns
returns c =
    let s = c.args.set in
    let n : ℕ = length s.ids.now in
    let from : ℕ = c.list_up_to-from-2.result in
    let room = c.list_up_to-from-2.new.room in
    let so = c.list_up_to-from-2.ensures in
    let k : from - n + (s.colors.n - from) ≡ s.colors.n - n = omega (arith, so.passed, so.ahead.below) in
    ap (λ (j : ℕ). take j c.list_many.new.room) (sym k)
    ∙ numbers_at room c.list_many.new.room (from - n) (s.colors.n - from) (s.colors.n - from) from (omega arith) (le_refl (s.colors.n - from)) c.list_many.ensures
    ∙ sym (listed_all s.colors.n s.ids.now room n from so (le_refl n))
