-- `beginning::write_begun` meets its contract.
-- Assumes nothing.
use mathlib.Core.Path.{ap}
use native.Mathlib.Omega.{arith}
use Rattle.model.specs.Decisions.{checked}
use Rattle.model.proofs.Buffers.{writing-short}
use Rattle.beginning.proofs.Begun.{size, begun-put}
use Rattle.beginning.proofs.write_begun.Goals as goal

pub returns-then-out-lt-IMAGE_BYTES : goal.returns-then-out-lt-IMAGE_BYTES
unfolding checked
returns-then-out-lt-IMAGE_BYTES c =
    let short = writing-short _ c.args.out.now c.if-out-lt-IMAGE_BYTES.true in
    (ap checked short.0, short.1)

pub put_bytes-requires : goal.put_bytes-requires
put_bytes-requires c = omega (arith, size c.args.table.now c.requires)

pub returns : goal.returns
unfolding checked
returns c =
    let done = begun-put c.args.table.now c.requires (λ i. omega (arith, c.type_inv.table i)) c.args.out.now _ _ (omega arith) c.put_bytes.ensures c.put_bytes-2.ensures in
    (ap checked done.0, done.1)
