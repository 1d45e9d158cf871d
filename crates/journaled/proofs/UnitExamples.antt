-- The size of a unit, and what stands behind a monitor that was begun, computed.
-- Assumes nothing.
use Prim.Native.Nat.{◌*◌}
use mathlib.Core.Path.{◌≡◌, refl}
use lib.ListN.{replicate}
use Rattle.model.specs.State.{empty_monitor}
use Rattle.unit.specs.Rows.{row_at, tabulate}
use Rattle.unit.specs.Stored.{monitor_row, unit_of}
use Rattle.journaled.specs.Units.{unit_rows, begun_rows}

-- 308 rows of sixteen bytes
pub unit_size : (unit_rows ≡ 308) × (unit_rows * 16 ≡ 4928)
unit_size = (refl, refl)

-- the first row of the journal, and the last one
pub begun-stands : (row_at (begun_rows empty_monitor) 209 ≡ replicate 16 0) × (row_at (begun_rows empty_monitor) 307 ≡ replicate 16 0)
unfolding begun_rows unit_of tabulate monitor_row
begun-stands = (refl, refl)
