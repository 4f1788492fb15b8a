-- `runs::append::fill_appended` meets its contract.
use Prim.Native.Nat.{ℕ, ◌-◌}
use mathlib.Core.Path.{◌≡◌, sym, ap, ◌∙◌}
use native.Mathlib.Omega.{arith}
use Rattle.std.specs.Int.{from_bool}
use lib.ListN.{length, drop}
use lib.Seq.{paste}
use Rattle.runs.specs.Reverse.{oriented}
use Rattle.runs.specs.Append.{shifted}
use Rattle.runs.proofs.Laws.Reverse.{oriented_long}
use Rattle.runs.proofs.Laws.Append.{length_shifted}
use Rattle.runs.proofs.Laws.Fill.{length_rest, put_behind}
use Rattle.runs.proofs.append.fill_appended.Goals as goal

pub fill_rest-requires : goal.fill_rest-requires
fill_rest-requires c =
    let q : from_bool c.args.drops ≡ 1 = ap from_bool c.if-drops.true in
    omega (arith, q)

pub fill-requires : goal.fill-requires
fill-requires c =
    let q : from_bool c.args.drops ≡ 0 = ap from_bool c.if-drops.false in
    omega (arith, q)

pub returns-then-drops : goal.returns-then-drops
returns-then-drops c =
    let list = c.args.piece.now.list in
    let out = c.args.out.now in
    let k = c.args.piece.now.shift in
    let os = oriented list.reversed list.n list.runs.now in
    let q : from_bool c.args.drops ≡ 1 = ap from_bool c.if-drops.true in
    let j : ℕ = length list.runs.now - from_bool c.args.drops in
    put_behind c.args.used out (shifted k (drop 1 os)) _ j (length_rest k os ∙ omega (arith, oriented_long list.reversed list.n list.runs.now)) c.fill_rest.ensures
    ∙ ap (λ (f : ℕ). paste out c.args.used (shifted k (drop f os)) j) (sym q)

pub returns-else-drops : goal.returns-else-drops
returns-else-drops c =
    let list = c.args.piece.now.list in
    let out = c.args.out.now in
    let k = c.args.piece.now.shift in
    let os = oriented list.reversed list.n list.runs.now in
    let q : from_bool c.args.drops ≡ 0 = ap from_bool c.if-drops.false in
    let j : ℕ = length list.runs.now - from_bool c.args.drops in
    put_behind c.args.used out (shifted k os) _ j (length_shifted k os ∙ omega (arith, oriented_long list.reversed list.n list.runs.now)) c.fill.ensures
    ∙ ap (λ (f : ℕ). paste out c.args.used (shifted k (drop f os)) j) (sym q)
