-- `turns::run` meets its contract.
-- Assumes nothing.
use mathlib.Core.Path.{sym, ap, ◌∙◌}
use Prim.Native.Nat.{min}
use native.Mathlib.Omega.{arith}
use lib.ListN.{length}
use Rattle.turns.proofs.Runs.{start, further, ended, length-pieces}
use Rattle.turns.proofs.run.Goals as goal

pub loop-i-init : goal.loop-i-init
loop-i-init c = record {
  bound = omega arith;
  counted = c.min-count.ensures ∙ ap (λ k. min k (length c.args.out.now)) c.piece_count.ensures;
  so_far = start _ _ _;
}

pub loop-i-preserved : goal.loop-i-preserved
loop-i-preserved c = let loop = c.loop-i in
    let L = loop.invariant in
    let h = c.loop-i-test.true in
    let r = c.ask.ensures in
    record {
      bound = omega (arith, h);
      counted = L.counted;
      so_far = further _ _ _ _ _ loop.i _ _ _ c.told-unit L.so_far (omega (arith, h, L.counted, length-pieces c.args.requests.now)) (omega (arith, h, L.counted)) (sym c.piece.ensures) r.1 (c.from.ensures ∙ r.0);
    }

pub returns : goal.returns
returns c = let r = ended _ _ _ _ _ _ _ c.loop-i.invariant c.loop-i-test.false in record { left = r.0; written = r.1 }
