-- The checks of a beginning behind its length.
-- Assumes nothing.
use Rattle.std.specs.Prelude.{Bool, ◌&&◌}
use Rattle.model.specs.declared.Decision.{Decision}
use Rattle.model.specs.declared.Decision.TheVariants.{StrayBits, OutsideProfile}
use Rattle.model.specs.Tests.{unless}
use Rattle.profiles.specs.declared.Kept.{Kept}

-- 11, by whether the records have their form and those beyond the profile are absent; 16, "directly after 11"; then what the later checks gave
abbrev pub settled : Bool → Kept → Decision → Decision
settled formed k later = unless (formed && k.absent) StrayBits (unless k.inside OutsideProfile later)
