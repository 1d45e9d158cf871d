-- `profiles::fits` meets its contract.
-- Assumes nothing.
use mathlib.Core.Path.{refl}
use Rattle.model.specs.Profiles.{profile_fits}
use Rattle.profiles.proofs.fits.Goals as goal

pub returns : goal.returns
unfolding profile_fits
returns c = refl
