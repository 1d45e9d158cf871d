-- `start_order::search::Gets::wanted_at` meets its contract.
-- Assumes nothing.
use native.Mathlib.Omega.{arith}
use mathlib.Core.Path.{ap, ◌∙◌}
use mathlib.Core.List.{[]}
use lib.ListN.{get_or}
use Rattle.model.specs.declared.Profile.{Profile}
use Rattle.model.specs.Program.{pieces}
use Rattle.turns.proofs.Runs.{length-pieces}
use Rattle.start_order.specs.Answers.{wanted}
use Rattle.start_order.proofs.search.Gets.wanted_at.Goals as goal

pub wanted_at-requires : goal.wanted_at-requires
wanted_at-requires c = omega (arith, c.requires, length-pieces c.args.self.now.requests.now)

pub returns : goal.returns
returns c = c.wanted_at.ensures ∙ ap (λ (p : Profile). wanted p (get_or (pieces c.args.self.now.requests.now) c.args.i [])) c.profile_of.ensures
