-- `page_lines::last::last_line` meets its contract: the sum over the modes is the sum down the lines, and so small that no part of it overflows.
-- Assumes nothing.
use native.Mathlib.Omega.{arith}
use mathlib.Core.List.{[], ◌∷◌, map}
use Rattle.std.proofs.lemmas.Grind.{common_steps}
use Rattle.model.specs.declared.Mode.TheVariants.{Read, Write, Append, Execute}
use mathlib.Core.Path.{◌≡◌, ap, ◌∙◌}
use Rattle.bits.specs.Bits.{join}
use Rattle.model.specs.State.{object}
use Rattle.model.specs.Buffers.{two_digits}
use Rattle.unit.specs.Rows.{state_in}
use Rattle.page_lines.specs.Lines.{holders, total, last_line}
use Rattle.page_sets.proofs.Counts.{over-modes}
use Rattle.page_lines.proofs.Sizes.{total-small, total-over-modes}
use Rattle.page_lines.proofs.last.last_line.Goals as goal

pub overflow_add-read-3 : goal.overflow_add-read-3
overflow_add-read-3 c = let start = c in
    let ob = object (state_in start.args.unit.now) start.args.o in
    omega (arith, over-modes (holders ob), total-over-modes ob, total-small ob, c.holders-read.ensures, c.holders-write.ensures, c.holders-append.ensures, c.holders-execute.ensures)

pub overflow_add-read : goal.overflow_add-read
overflow_add-read c = omega (arith, overflow_add-read-3 c)

pub overflow_add-read-2 : goal.overflow_add-read-2
overflow_add-read-2 c = omega (arith, overflow_add-read-3 c)

pub returns : goal.returns
unfolding last_line join
returns c = let start = c in
    let ob = object (state_in start.args.unit.now) start.args.o in
    let shown : c.map.result ≡ map two_digits (holders ob Read ∷ holders ob Write ∷ holders ob Append ∷ holders ob Execute ∷ []) = grind (arith, common_steps, c.holders-read.ensures, c.holders-write.ensures, c.holders-append.ensures, c.holders-execute.ensures) in
    let all : c.two_digits-all.result ≡ two_digits (total ob) = c.two_digits-all.ensures
    ∙ ap two_digits
    (omega (arith, over-modes (holders ob), total-over-modes ob, c.holders-read.ensures, c.holders-write.ensures, c.holders-append.ensures, c.holders-execute.ensures)) in
    rw (all, shown)
