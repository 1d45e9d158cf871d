-- `start_order::search::Gets::clashes_at` meets its contract.
-- Assumes nothing.
use mathlib.Core.Path.{sym, ap, ◌∙◌, subst}
use mathlib.Core.Bool.{◌&&◌}
use Rattle.std.specs.Prelude.{Some}
use Rattle.unit.specs.Rows.{state_in}
use Rattle.start_order.specs.Answers.{Wanted, Fits, alone, breaks}
use Rattle.start_order.proofs.Trying.{wanted-fits}
use Rattle.start_order.proofs.search.Gets.clashes_at.Goals as goal

pub breaks-requires : goal.breaks-requires
unfolding Fits
breaks-requires c = record {
  objects = (c.requires.inside.0, (subst Fits (sym c.wanted_at.ensures ∙ c.in-Some.is) (wanted-fits _ _)).1);
}

pub returns-in-None : goal.returns-in-None
unfolding alone
returns-in-None c = let m = state_in c.args.self.now.unit.now in
    sym (ap (λ (w : Wanted). alone m w && breaks m (Some c.args.first) w) (sym c.wanted_at.ensures ∙ c.in-None.is))
