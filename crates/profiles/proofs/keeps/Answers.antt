-- `profiles::keeps` meets its contract.
-- Assumes nothing.
use mathlib.Core.Bool.{◌&&◌}
use Rattle.model.specs.Profiles.{absent_beyond, levels_inside}
use Rattle.profiles.proofs.keeps.Goals as goal

pub returns : goal.returns
unfolding absent_beyond levels_inside
returns c = let s = c.subjects_kept-subjects.ensures in
    let o = c.objects_kept-objects.ensures in
    λ i. record { absent = (s i).absent && (o i).absent; inside = (s i).inside && (o i).inside }
