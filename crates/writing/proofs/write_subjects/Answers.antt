-- `writing::write_subjects` meets its contract.
-- Assumes nothing.
use mathlib.Core.Path.{refl, ap, ◌∙◌}
use mathlib.Core.List.{[], ◌++◌}
use native.Mathlib.Omega.{arith}
use lib.ListN.{take}
use Rattle.bits.specs.Stream.{stay, next, ends}
use Rattle.unit.proofs.Tabulated.{tabulate-length}
use Rattle.writing.proofs.Streams.{join_more, join-all, no-records}
use Rattle.model.specs.Levels.{Label}
use Rattle.model.specs.State.{subject_count, nobody}
use Rattle.model.specs.Layout.{label_bits, subject_bits, table_bits}
use Rattle.unit.specs.Rows.{subject_in, subjects_in}
use Rattle.writing.proofs.write_subjects.Goals as goal

pub loop-s-init : goal.loop-s-init
loop-s-init c = (omega arith, refl, omega arith, ends [] (table_bits []) no-records refl (stay _ _ _ c.requires.1))

pub label-requires : goal.label-requires
label-requires c = let I = c.loop-s.invariant in
    (omega (arith, I.2, c.loop-s-test.true, c.requires.0.0), omega (arith, I.3.size, c.requires.0.1))

pub loop-s-preserved : goal.loop-s-preserved
loop-s-preserved c = let I = c.loop-s.invariant in
    let u = c.args.unit.now in
    let s = c.loop-s.s in
    let l = subjects_in u in
    let one = ap (λ (k : Label). table_bits (take s l) ++ label_bits k) c.clearance_of.ensures in
    let more = join_more subject_bits s l nobody (omega (arith, c.loop-s-test.true, tabulate-length subject_count (subject_in u))) in
    (omega arith, c.label.ensures.same_buffer ∙ I.1, omega (arith, I.2, c.label.ensures.moves), ends _ _ (one ∙ more) refl (next _ _ refl I.3 c.label.ensures.wrote))

pub returns-clause-moves : goal.returns-clause-moves
returns-clause-moves c = omega (arith, c.loop-s.invariant.0, c.loop-s.invariant.2, c.loop-s-test.false)

pub returns-clause-wrote : goal.returns-clause-wrote
returns-clause-wrote c = let u = c.args.unit.now in
    ends _ _ (join-all subject_bits c.loop-s.s subject_count (subjects_in u) (omega arith) (tabulate-length subject_count (subject_in u))) refl c.loop-s.invariant.3
