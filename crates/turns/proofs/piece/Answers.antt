-- `turns::piece` meets its contract.
-- Assumes nothing.
use Prim.Native.Nat.{◌-◌, ◌*◌}
use mathlib.Core.Path.{sym, ap, ◌∙◌}
use lib.ListN.{take, drop}
use Rattle.turns.proofs.Runs.{piece-at}
use Rattle.turns.proofs.piece.Goals as goal

pub returns : goal.returns
returns c = let requests = c.args.requests.now in
    let i = c.args.i in
    ap (λ k. take (k - i * 6) (drop (i * 6) requests)) c.min-end.ensures ∙ sym (piece-at requests i c.requires)
