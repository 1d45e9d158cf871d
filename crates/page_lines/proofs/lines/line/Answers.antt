-- `page_lines::lines::line` meets its contract.
-- Assumes nothing.
use native.Mathlib.Omega.{arith}
use Rattle.page_lines.specs.Lines.{line}
use Rattle.page_sets.proofs.Counts.{count_small}
use Rattle.page_lines.proofs.lines.line.Goals as goal

pub overflow_add-held_count : goal.overflow_add-held_count
overflow_add-held_count c = omega (arith, c.count-held_count.ensures, count_small c.args.held)

pub returns : goal.returns
unfolding line
returns c = rw (c.two_digits.ensures, c.marks.ensures, c.marks-2.ensures, c.count-held_count.ensures)
