-- `unit::rows::label_in` meets its contract.
-- Assumes nothing.
use Rattle.unit.specs.Rows.{label_in}
use lib.ListN.{get_or}
use borrow.Author.Tests.{eq-eqb, ne_eqb}
use Rattle.unit.proofs.rows.label_in.Goals as goal

pub returns-then-row-eq1 : goal.returns-then-row-eq1
unfolding label_in
returns-then-row-eq1 c = rw (eq-eqb (get_or c.args.row 2 0) 1 c.if-row-eq1.true, c.level_in.ensures)

pub returns-else-row-eq1 : goal.returns-else-row-eq1
unfolding label_in
returns-else-row-eq1 c = rw (ne_eqb (get_or c.args.row 2 0) 1 c.if-row-eq1.false)
