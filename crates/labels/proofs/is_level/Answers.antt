-- `labels::is_level` meets its contract: equal levels have equal classes and equal needs.
-- Assumes nothing.
use Rattle.std.specs.Prelude.{Some, None, ◌≡◌}
use mathlib.Core.Path.{refl, ◌∙◌}
use Rattle.std.specs.Option.{option_eq}
use Rattle.model.specs.contracts.LevelPartialEq.TheImpl.{eq-value}
use Rattle.model.specs.declared.Level.{Level}
use Rattle.model.specs.Levels.{Label, same_label}
use Rattle.labels.proofs.is_level.Goals as goal

equal-levels : (l : Label) (v : Level) → option_eq eq-value.it l (Some v) ≡ same_label l (Some v)
unfolding same_label
equal-levels None v = refl
equal-levels (Some x) v = refl

pub returns : goal.returns
returns c = c.eq.ensures ∙ equal-levels c.args.l c.args.v
