-- `page_lines::lines::put_lines` meets its contract: after s turns the lines of the subjects below s are put.
-- Assumes nothing.
use Prim.Native.Nat.{◌*◌}
use native.Mathlib.Omega.{arith}
use mathlib.Core.Path.{ap, ap₂, ◌∙◌}
use Rattle.model.specs.State.{object}
use Rattle.model.specs.Buffers.{put}
use Rattle.model.proofs.Buffers.{put-none, put-more}
use Rattle.unit.specs.Rows.{state_in}
use Rattle.page_lines.specs.Lines.{line, lines}
use Rattle.page_lines.proofs.Sizes.{lines-length, lines_more, no_lines}
use Rattle.page_lines.proofs.lines.put_lines.Goals as goal

pub loop-s-init : goal.loop-s-init
loop-s-init c = (omega arith, put-none _ 0 ∙ ap (put _ 0) (no_lines _))

pub loop-s-preserved : goal.loop-s-preserved
loop-s-preserved c = let held = c.held_by-held in
    let rights = c.rights_of-rights in
    let loop = c.loop-s in
    let start = c in
    let ob = object (state_in start.args.unit.now) start.args.o in
    let s = loop.s in (
      omega (arith, c.loop-s-test.true),
      c.put_bytes.ensures
          ∙ ap (λ k. put loop.out (15 * k) c.line.result) c.from.ensures
          ∙ ap₂ (λ x y. put x (15 * s) y) loop.invariant.1 c.line.ensures
          ∙ put-more start.args.out.now 0 (lines ob s) (line s rights.result held.result) (15 * s) (omega (arith, lines-length ob s)) (omega arith)
          ∙ ap (put start.args.out.now 0) (lines_more ob s rights.result held.result rights.ensures held.ensures),
    )
