-- `start_order::wanted::breaks` meets its contract.
-- Assumes nothing.
use mathlib.Core.Path.{ap₂, ◌∙◌}
use mathlib.Core.Bool.{Bool, not, ◌&&◌}
use lib.Dec.{eqb}
use Rattle.model.specs.Companies.{wall_kept}
use Rattle.model.specs.ModePairs.{entry, kept}
use Rattle.start_order.specs.Answers.{breaks}
use Rattle.start_order.proofs.wanted.breaks.Goals as goal

pub returns : goal.returns
unfolding breaks
returns c = let v = c.args.v in
    let w = c.args.w in
    let labels = c.labels_keep-labels.ensures ∙ ap₂ (kept (entry v.mode w.mode)) c.label_of.ensures c.label_of-2.ensures in
    let numbers = c.companies_keep-numbers.ensures ∙ ap₂ (wall_kept v.mode w.mode) c.companies_of.ensures c.companies_of-2.ensures in
    ap₂ (λ (j k : Bool). eqb v.subject w.subject && not (j && k)) labels numbers
