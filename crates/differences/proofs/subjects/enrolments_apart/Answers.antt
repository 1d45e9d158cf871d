-- The first subject that is enrolled in one of them only.
-- Assumes nothing.
use Rattle.std.proofs.Common.{rules}
use Rattle.model.specs.State.{clearance_at}
use Rattle.unit.specs.Rows.{subjects_in}
use Rattle.differences.specs.Records.{enrolment_apart, enrolments_apart}
use Rattle.differences.proofs.Searching.{found-first}
use Rattle.differences.proofs.subjects.enrolments_apart.Goals as goal

pub returns : goal.returns
unfolding enrolments_apart
returns c = let a = subjects_in c.args.a.now in
    let b = subjects_in c.args.b.now in
    found-first 16 (λ s. enrolment_apart s (clearance_at a s) (clearance_at b s))
    (λ x r f k. search rules) (λ x r l k. search rules) _ c.find_map.ensures.runs
