-- Every beginning, refused ones too, has sixteen subjects and sixty-four objects; so the rows of its monitor say it.
-- Assumes nothing.
use mathlib.Core.Path.{◌≡◌, refl, ap, ◌∙◌}
use Prim.Native.Nat.{ℕ}
use mathlib.Core.List.{List}
use lib.ListN.{length, length-map}
use Rattle.bits.specs.Records.{length_cut}
use Rattle.model.specs.declared.Profile.{Profile}
use Rattle.model.specs.declared.Monitor.{Monitor}
use Rattle.model.specs.declared.Decision.{Decision}
use Rattle.model.specs.State.{fresh, empty_monitor}
use Rattle.model.specs.Decisions.{refuses}
use Rattle.model.specs.Reading.{begin, table_from, objects_from, monitor_from, table_checks, image_checks, read_table, read_image}
use Rattle.model.specs.Beginnings.{Beginning, table, image, begun}
use Rattle.model.proofs.Tests.{cond-all}
use Rattle.unit.specs.Rows.{Rows, state_in}
use Rattle.unit.specs.Stored.{unit_of}
use Rattle.unit.proofs.Units.{unit-says}

record Sized (m : Monitor) : Type 0 where
  subjects : length m.subjects ≡ 16
  objects : length m.objects ≡ 64

begin-sized : (d : Decision) (m : Monitor) → Sized m → Sized (begin d m).monitor
unfolding begin
begin-sized d m z = cond-all Sized (refuses d) empty_monitor m (λ e. record { subjects = refl; objects = refl }) (λ e. z)

table-sized : (p : Profile) (b : List ℕ) → Sized (fresh p (table_from b))
unfolding table_from
table-sized p b = record { subjects = simp (length-map, length_cut); objects = refl }

image-sized : (p : Profile) (b : List ℕ) → Sized (monitor_from p b)
unfolding monitor_from table_from objects_from
image-sized p b = record { subjects = simp (length-map, length_cut); objects = simp (length-map, length_cut) }

begun_sized : (b : Beginning) → Sized (begun b).monitor
unfolding read_table read_image
begun_sized (table p b) = begin-sized (table_checks p b) (fresh p (table_from b)) (table-sized p b)
begun_sized (image p b) = begin-sized (image_checks p b) (monitor_from p b) (image-sized p b)

pub begun-says : (b : Beginning) → state_in (unit_of (begun b).monitor) ≡ (begun b).monitor
begun-says b = unit-says (begun b).monitor (begun_sized b).subjects (begun_sized b).objects

-- what the bytes of a table or an image say, accepted or not
pub fresh-says : (p : Profile) (b : List ℕ) → state_in (unit_of (fresh p (table_from b))) ≡ fresh p (table_from b)
fresh-says p b = unit-says (fresh p (table_from b)) (table-sized p b).subjects (table-sized p b).objects

pub read-says : (p : Profile) (b : List ℕ) → state_in (unit_of (monitor_from p b)) ≡ monitor_from p b
read-says p b = unit-says (monitor_from p b) (image-sized p b).subjects (image-sized p b).objects

-- the decision and the rows that are left, as the reader's response
pub table-begun : (p : Profile) (b : List ℕ) (d : Decision) (u : Rows) → d ≡ (read_table p b).decision → u ≡ unit_of (read_table p b).monitor
    → record { decision = d; monitor = state_in u } ≡ read_table p b
table-begun p b d u e f = let m = ap state_in f ∙ begun-says (table p b) in λ i. record { decision = e i; monitor = m i }
