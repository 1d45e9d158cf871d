-- `record_fields::BitWriter::zeros` meets its contract: the bits that fill no byte, eight, and then bytes, all 0.
-- Assumes nothing.
use mathlib.Core.Path.{◌≡◌, refl, ◌∙◌}
use lib.ListN.{length}
use native.Mathlib.Omega.{arith}
use Prim.Native.Nat.{◌+◌, ◌-◌, ◌*◌, ◌/◌, ◌%◌, ◌≤◌}
use Rattle.bits.specs.Stream.{next, ends}
use Rattle.record_fields.proofs.Streams.{left}
use Rattle.record_fields.proofs.Zeros.{zeros-wait, zeros-behind, all-zeros}
use Rattle.record_fields.proofs.BitWriter.zeros.Goals as goal

pub append-requires-2 : goal.append-requires-2
append-requires-2 c = let A = c.append.ensures.wrote in
    let r = c.requires.1 in
    (omega arith, left (c.args.width % 8) 8 A c.append.ensures.moves (omega (arith, c.requires.0, r.0), r.1))

pub slice_bounds-fill-end : goal.slice_bounds-fill-end
slice_bounds-fill-end c = let A = c.append.ensures.wrote in
    let B = c.append-2.ensures.wrote in
    omega (arith, c.requires.0, c.requires.1.0, c.requires.1.1, c.append.ensures.moves, c.append-2.ensures.moves, A.size, B.size)

pub overflow_add-self : goal.overflow_add-self
overflow_add-self c = let A = c.append.ensures.wrote in
    let B = c.append-2.ensures.wrote in
    omega (arith, c.requires.0, c.requires.1.0, c.append.ensures.moves, c.append-2.ensures.moves)

pub returns-clause-wrote : goal.returns-clause-wrote
returns-clause-wrote c = let A = c.append.ensures.wrote in
    let B = c.append-2.ensures.wrote in
    let v = c.append-2.new.self in
    let w = c.args.width in
    let none : v.waiting ≡ 0 = c.append-2.ensures.waits ∙ zeros-wait _ in
    let room : v.at + 8 * (w / 8 - 1) ≤ 8 * length v.out.now = omega (arith, c.requires.0, c.requires.1.0, c.requires.1.1, c.append.ensures.moves, c.append-2.ensures.moves, A.size, B.size) in
    let whole = zeros-behind v.out.now v.at (w / 8 - 1) _ v.waiting c.fill.new.self none room (omega arith) (c.fill.ensures.after (λ y e. e)) in
    ends _ _ (all-zeros w c.requires.0) refl (next _ _ refl (next _ _ refl A B) whole)
