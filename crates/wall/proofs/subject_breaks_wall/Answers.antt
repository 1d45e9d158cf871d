-- `wall::subject_breaks_wall` meets its contract.
-- Assumes nothing.
use Rattle.std.proofs.Common.{rules, tests, refl, arith, sym, ap, ◌∙◌, false, not}
use Rattle.model.specs.State.{object_at}
use Rattle.unit.specs.Rows.{object_in, objects_in}
use Rattle.unit.proofs.Tabulated.{tabulate-length}
use Rattle.star.proofs.Listed.{listed-numbers}
use Rattle.wall.specs.Lists.{accessed_by}
use Rattle.wall.proofs.Wall.{joined-some, joined-none, wall-listed}
use Rattle.wall.proofs.subject_breaks_wall.Goals as goal

pub join_numbers-requires : goal.join_numbers-requires
join_numbers-requires c = let a = c.args in
    let listed = c.list_where-accessed.ensures (accessed_by a.s (object_at (objects_in a.unit.now))) (λ o h r p. search (rules, tests)) in
    record { s_lt_subject_count = (c.requires.s_lt_subject_count, listed-numbers _ _ _ 64 listed (omega arith)) }

pub altered_confined-requires : goal.altered_confined-requires
altered_confined-requires c = let a = c.args in
    let listed = c.list_where-accessed.ensures (accessed_by a.s (object_at (objects_in a.unit.now))) (λ o h r p. search (rules, tests)) in
    record { s_lt_subject_count = (c.requires.s_lt_subject_count, listed-numbers _ _ _ 64 listed (omega arith)) }

pub returns-in-Some : goal.returns-in-Some
returns-in-Some c = let a = c.args in
    let l = objects_in a.unit.now in
    let listed = c.list_where-accessed.ensures (accessed_by a.s (object_at l)) (λ o h r p. search (rules, tests)) in
    let found = joined-some _ _ _ (sym c.in-Some.is ∙ c.join_numbers.ensures) in
    ap not (wall-listed a.s l (tabulate-length 64 (object_in a.unit.now)) _ listed _ _ _ found.0 found.1 c.altered_confined.ensures)

pub returns-in-None : goal.returns-in-None
returns-in-None c = let a = c.args in
    let l = objects_in a.unit.now in
    let listed = c.list_where-accessed.ensures (accessed_by a.s (object_at l)) (λ o h r p. search (rules, tests)) in
    let none = joined-none _ _ (sym c.in-None.is ∙ c.join_numbers.ensures) in
    ap not (wall-listed a.s l (tabulate-length 64 (object_in a.unit.now)) _ listed false _ _ (sym none) refl refl)
