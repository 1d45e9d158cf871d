-- Two tests of a state beside its profile at a time: its records beyond the profile, and its levels (change request §8).
-- Assumes nothing.
use Rattle.std.specs.Prelude.{ℕ}
use Rattle.model.specs.declared.Monitor.{Monitor}
use Rattle.model.specs.Tests.{all_below}
use Rattle.model.specs.Profiles.{subject_inside, object_inside, absent_beyond, clearance_inside, object_label_inside, levels_inside}
use Rattle.profiles.specs.declared.Kept.{Kept}

-- of the subjects below k
abbrev pub subjects_kept : Monitor → ℕ → Kept
subjects_kept m k = record { absent = all_below k (subject_inside m); inside = all_below k (clearance_inside m) }

-- of the objects below k
abbrev pub objects_kept : Monitor → ℕ → Kept
objects_kept m k = record { absent = all_below k (object_inside m); inside = all_below k (object_label_inside m) }

-- of the whole state
abbrev pub kept : Monitor → Kept
kept m = record { absent = absent_beyond m; inside = levels_inside m }
