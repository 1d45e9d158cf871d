-- `test_load::fill` meets its contract.
-- Assumes nothing.
use mathlib.Core.Path.{ap, ◌∙◌}
use Rattle.model.specs.Requests.{pack}
use Rattle.test_load.proofs.Filling.{zero-answer, start, further, ended}
use Rattle.test_load.proofs.fill.Goals as goal

pub returns-then-seed-eq0 : goal.returns-then-seed-eq0
returns-then-seed-eq0 c = let r = zero-answer c.args.seed c.args.out.now c.if-seed-eq0.true in record { answer = r.0; filled = r.1 }

pub loop-i-init : goal.loop-i-init
loop-i-init c = start _ _

pub loop-i-preserved : goal.loop-i-preserved
loop-i-preserved c = let drawn = c.request.ensures in
    further _ _ _ _ _ _ c.loop-i.invariant _ _ _ c.loop-i-test.true (c.pack-bytes.ensures ∙ ap pack drawn.0) drawn.1 c.put_bytes.ensures

pub returns : goal.returns
returns c = let r = ended _ _ _ _ _ _ c.loop-i.invariant c.if-seed-eq0.false c.loop-i-test.false in record { answer = r.0; filled = r.1 }
