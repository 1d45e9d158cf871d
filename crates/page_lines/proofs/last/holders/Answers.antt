-- `page_lines::last::holders` meets its contract: after s turns the holders among the subjects below s are counted.
-- Assumes nothing.
use Prim.Native.Nat.{◌+◌}
use native.Mathlib.Omega.{arith}
use mathlib.Core.Path.{◌≡◌, ap, ap₂, ◌∙◌}
use Rattle.bits.specs.Bits.{bit}
use Rattle.model.specs.Modes.{has}
use Rattle.model.specs.State.{subject_count, object, held_by}
use Rattle.unit.specs.Rows.{state_in}
use Rattle.orders.specs.Sums.{sum_below}
use Rattle.page_lines.specs.Lines.{holders}
use Rattle.orders.proofs.Sums.{no-sum, sum_more}
use Rattle.page_sets.proofs.Counts.{bit-most}
use Rattle.page_lines.proofs.last.holders.Goals as goal

pub loop-s-init : goal.loop-s-init
loop-s-init c = (omega arith, omega arith, no-sum _)

pub loop-s-preserved : goal.loop-s-preserved
loop-s-preserved c = let held = c.held_by in
    let loop = c.loop-s in
    let start = c in
    let x = start.args.x in
    let ob = object (state_in start.args.unit.now) start.args.o in (
      omega (arith, c.loop-s-test.true),
      omega (arith, loop.invariant.1, c.bit_of-count.ensures, bit-most (has x held.result)),
      ap₂ (λ n k. n + k) loop.invariant.2 (c.bit_of-count.ensures ∙ ap (λ h. bit (has x h)) held.ensures)
          ∙ sum_more loop.s (λ t. bit (has x (held_by ob t))),
    )

pub returns : goal.returns
unfolding holders
returns c = let loop = c.loop-s in
    let start = c in
    let end : loop.s ≡ subject_count = omega (arith, loop.invariant.0, c.loop-s-test.false) in
    loop.invariant.2 ∙ ap (λ n. sum_below n (λ t. bit (has start.args.x (held_by (object (state_in start.args.unit.now) start.args.o) t)))) end
