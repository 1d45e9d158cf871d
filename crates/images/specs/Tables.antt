-- Tables whose clearances fit and are inside a profile, and their bytes, for the round trip of tables; the profile of a beginning.
-- Assumes nothing.
use Rattle.std.specs.Prelude.{ℕ, ◌<◌, ◌≡◌, true, List, length}
use Rattle.bits.specs.Bits.{bits_to_bytes}
use Rattle.model.specs.declared.Subject.{Subject}
use Rattle.model.specs.declared.Profile.{Profile}
use Rattle.model.specs.Levels.{present}
use Rattle.model.specs.State.{subject_count, clearance_at, LabelFits}
use Rattle.model.specs.Profiles.{ProfileFits, LabelInside}
use Rattle.model.specs.Layout.{table_size, table_bits}
use Rattle.model.specs.Beginnings.{Beginning, table, image}

-- "The table is 16 subject records of 21 bits": 42 bytes
unfoldable pub table_of : List Subject → List ℕ
table_of l = bits_to_bytes table_size (table_bits l)

-- "16 subject records", each absent or with a class of 4 bits and needs of 16
pub record TableFits (l : List Subject) : Type 0 where
  pub subjects_length : length l ≡ subject_count
  pub clearances_fit : (s : ℕ) → LabelFits (clearance_at l s)

-- a profile in its ranges, and every enrolled subject and every clearance inside it (change request §8)
pub record TableInside (p : Profile) (l : List Subject) : Type 0 where
  pub fitting_profile : ProfileFits p
  pub subjects_inside : (s : ℕ) → present (clearance_at l s) ≡ true → s < p.subjects
  pub clearances_inside : (s : ℕ) → LabelInside p (clearance_at l s)

-- the profile under which a monitor is begun
abbrev pub beginning_profile : Beginning → Profile
beginning_profile (table p b) = p
beginning_profile (image p b) = p
