-- `record_fields::BitWriter::sets` meets its contract: after s turns the sets of the subjects below s are appended.
-- Assumes nothing.
use mathlib.Core.Path.{◌≡◌, refl, ap, ◌∙◌}
use mathlib.Core.Bool.{Bool}
use mathlib.Core.List.{List, [], ◌++◌}
use native.Mathlib.Omega.{arith}
use lib.ListN.{take, get_or}
use Prim.Native.Nat.{◌+◌, ◌*◌}
use Rattle.bits.specs.Bits.{to_bits}
use Rattle.bits.specs.Stream.{stay, next, ends}
use Rattle.model.specs.Layout.{sets_bits}
use Rattle.record_fields.proofs.Words.{pair-bits}
use Rattle.record_fields.proofs.Streams.{appended-less, sets_more, all-sets, no-sets}
use Rattle.record_fields.proofs.BitWriter.sets.Goals as goal

pub loop-s-init : goal.loop-s-init
loop-s-init c = let w = c.args.self.now in
    (omega arith, omega arith, omega arith, refl, refl, ends [] (sets_bits [] []) no-sets (omega arith) (stay w.out.now w.at w.waiting c.requires.1))

pub loop-s-preserved : goal.loop-s-preserved
loop-s-preserved c = let I = c.loop-s.invariant in
    let a = c.args in
    let s = c.loop-s.s in
    let x = c.side_by_side-x.result in
    let more : sets_bits (take s a.rights) (take s a.held) ++ to_bits 8 x ≡ sets_bits (take (s + 1) a.rights) (take (s + 1) a.held) =
    ap (λ (l : List Bool). sets_bits (take s a.rights) (take s a.held) ++ l) (ap (to_bits 8) c.side_by_side-x.ensures ∙ pair-bits 4 (get_or a.rights s 0) (get_or a.held s 0) (omega arith))
    ∙ sets_more s a.rights a.held (omega (arith, I.1)) (omega (arith, I.2)) in
    let A = appended-less c.loop-s.self.out.now _ (c.loop-s.self.at + 8 * s) c.loop-s.self.waiting 8 x _ (omega arith) (omega (arith, I.4, I.5.size, c.requires.0.0, c.requires.0.1, c.loop-s-test.true)) c.append-self.ensures in (
      omega arith,
      I.1,
      I.2,
      I.3,
      I.4,
      ends _ _ more (omega (arith, I.4)) (next _ _ (omega (arith, I.4)) I.5 A),
    )

pub returns-clause-moves : goal.returns-clause-moves
returns-clause-moves c = omega (arith, c.loop-s.invariant.4)

pub returns-clause-wrote : goal.returns-clause-wrote
returns-clause-wrote c = let I = c.loop-s.invariant in
    let end : c.loop-s.s ≡ 16 = omega (arith, I.0, c.loop-s-test.false) in
    ends _ _ (all-sets c.loop-s.s c.args.rights c.args.held end I.1 I.2) (omega (arith, I.4, end)) I.5
