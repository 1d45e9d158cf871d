-- What every request keeps: a state that is well formed, inside its profile (change request §8), secure, and with its objects under each other as
-- change request §11 has it.
-- Assumes nothing.
use Rattle.model.specs.declared.Monitor.{Monitor}
use Rattle.model.specs.State.{WellFormed}
use Rattle.model.specs.Profiles.{Inside}
use Rattle.model.specs.Properties.{Secure}
use Rattle.model.specs.Hierarchy.{Hierarchy}

pub record Sound (m : Monitor) : Type 0 where
  pub formed : WellFormed m
  pub inside : Inside m
  pub secure : Secure m
  pub hierarchy : Hierarchy m
