-- Beginnings, and the monitors that they and lists of requests and takings-back after them reach (demands 2 and 3).
-- Assumes nothing.
use Rattle.std.specs.Prelude.{ℕ, ◌≡◌, List, [], ◌∷◌}
use Rattle.bits.specs.Bits.{Bytes}
use Rattle.model.specs.declared.Profile.{Profile}
use Rattle.model.specs.declared.Monitor.{Monitor}
use Rattle.model.specs.declared.Decision.TheVariants.{Granted}
use Rattle.model.specs.declared.Response.{Response}
use Rattle.model.specs.Journal.{Journaled, without_entries, Act, acted}
use Rattle.model.specs.Reading.{read_table, read_image}

-- "begun from an accepted table or image", under a profile
pub data Beginning : Type 0 where
  table : Profile → List ℕ → Beginning
  image : Profile → List ℕ → Beginning

-- what the reader returns
abbrev pub begun : Beginning → Response
begun (table p b) = read_table p b
begun (image p b) = read_image p b

-- "A table is accepted exactly when none of its checks refuses it"
abbrev pub Accepted : Beginning → Type 0
Accepted b = (begun b).decision ≡ Granted

-- the monitor that a list of requests and takings-back leaves, with its journal and without it
abbrev pub left_with : Beginning → List Act → Journaled
left_with b l = acted l (without_entries (begun b).monitor)

abbrev pub left : Beginning → List Act → Monitor
left b l = (left_with b l).monitor

-- a monitor "begun from an accepted table or image" and "after its own list of requests"; "A monitor reached by takings-back counts with those
-- reached by requests" (change request §9)
pub record Reached (m : Monitor) : Type 0 where
  pub beginning : Beginning
  pub accepted : Accepted beginning
  pub list : List Act
  pub reaches : left beginning list ≡ m

-- lists of byte strings: each element of each is a byte
abbrev pub AllBytes : List (List ℕ) → Type 0
AllBytes [] = Unit {0}
AllBytes (b ∷ bs) = Bytes b × AllBytes bs
