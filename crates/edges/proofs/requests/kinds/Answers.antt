-- `edges::requests::kinds` meets its contract.
-- Assumes nothing.
use Rattle.std.proofs.Common.{ap, ◌∙◌}
use Rattle.model.specs.declared.Fields.{Fields}
use Rattle.model.specs.Requests.{pack}
use Rattle.asking.specs.Asked.{asked}
use Rattle.edges.specs.Trials.{left}
use Rattle.edges.proofs.requests.kinds.Goals as goal

pub returns : goal.returns
unfolding left
returns c = c.ask-labelled.ensures ∙ ap (λ (f : Fields). asked (pack f) c.args.one) c.without_level-3.ensures
