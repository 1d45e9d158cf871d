-- `replay::program` meets its contract.
-- Assumes nothing.
use Prim.Native.Nat.{ℕ}
use mathlib.Core.Path.{refl, sym, ap, ◌∙◌}
use lib.ListN.{replicate, length-replicate}
use Rattle.model.specs.Decisions.{number}
use Rattle.model.proofs.Checked.{refusal, passes}
use Rattle.image.proofs.Sizes.{table-begun}
use Rattle.replay.proofs.Printing.{prints-refusal, prints-replies}
use Rattle.replay.proofs.program.Goals as goal

pub returns-in-Err : goal.returns-in-Err
returns-in-Err c =
    let r = refusal _ _ (sym c.start_widest.ensures.0 ∙ c.in-Err.is) in
    prints-refusal _ _ c.min-end.ensures _ (table-begun _ _ _ _ refl c.start_widest.ensures.1) r.0 _ (c.from.ensures ∙ ap number r.1) _ _ _ c.put_line-len.ensures.0 c.put_line-len.ensures.1

pub returns : goal.returns
returns c =
    prints-replies _ _ c.min-end.ensures _ (table-begun _ _ _ _ refl c.start_widest.ensures.1) (passes _ (sym c.start_widest.ensures.0 ∙ c.in_default.is)) _ c.min-last.ensures
    (replicate {A = ℕ} 4096 0) _ (length-replicate {A = ℕ} 4096 0) c.run.ensures.written _ c.piece_count-count.ensures _ _ _ c.put_lines-len.ensures.0 c.put_lines-len.ensures.1
