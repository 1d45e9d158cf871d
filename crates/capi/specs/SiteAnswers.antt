-- Two images told apart under a profile that may be outside its ranges (change request §8).
-- Assumes nothing.
use Rattle.std.specs.Prelude.{ℕ, cond, List}
use Rattle.model.specs.declared.Profile.{Profile}
use Rattle.model.specs.declared.Decision.TheVariants.{OutsideProfile}
use Rattle.model.specs.Profiles.{profile_fits}
use Rattle.model.specs.Decisions.{number}
use Rattle.images_apart.specs.Apart.{distinguish_number, distinguish_bytes}

-- "16, a profile outside these ranges, before anything else is read"
unfoldable pub apart_number : Profile → List ℕ → List ℕ → List ℕ → ℕ
apart_number p a b buffer = cond (profile_fits p) (distinguish_number p a b buffer) (number OutsideProfile)

-- it leaves every byte
unfoldable pub apart_bytes : Profile → List ℕ → List ℕ → List ℕ → List ℕ
apart_bytes p a b buffer = cond (profile_fits p) (distinguish_bytes p a b buffer) buffer
