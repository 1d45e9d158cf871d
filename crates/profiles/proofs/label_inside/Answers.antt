-- `profiles::label_inside` meets its contract.
-- Assumes nothing.
use mathlib.Core.Path.{sym, ap, ◌∙◌}
use Rattle.model.specs.Profiles.{label_inside}
use Rattle.profiles.proofs.label_inside.Goals as goal

pub returns-in-None : goal.returns-in-None
unfolding label_inside
returns-in-None c = ap (label_inside c.args.p) (sym c.in-None.is)

pub returns-in-Some : goal.returns-in-Some
unfolding label_inside
returns-in-Some c = c.at_least.ensures ∙ ap (label_inside c.args.p) (sym c.in-Some.is)
