-- `edges::requests::subjects` meets its contract.
-- Assumes nothing.
use Rattle.std.proofs.Common.{ap, ◌∙◌}
use Rattle.model.specs.declared.Fields.{Fields}
use Rattle.model.specs.Requests.{pack}
use Rattle.asking.specs.Asked.{asked}
use Rattle.edges.specs.Trials.{left}
use Rattle.edges.proofs.requests.subjects.Goals as goal

pub returns : goal.returns
unfolding left
returns c = c.ask-one.ensures ∙ ap (λ (f : Fields). asked (pack f) c.args.fresh) c.create-4.ensures
