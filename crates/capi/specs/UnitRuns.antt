-- A unit started from a table or opened from an image, then asked and taken back in any order, then saved.
-- Assumes nothing.
use Rattle.std.specs.Prelude.{ℕ, List, map}
use Rattle.model.specs.Journal.{Act, asks}
use Rattle.model.specs.Writing.{written}
use Rattle.model.specs.Beginnings.{Beginning, begun}
use Rattle.unit.specs.Rows.{Rows, state_in}
use Rattle.journaled.specs.Units.{begun_rows, acted_unit, answers_of}

-- what `circmon_start_in` or `circmon_open_in` leaves, under the widest profile also `circmon_start` or `circmon_open`
abbrev pub begun_unit : Beginning → Rows
begun_unit b = begun_rows (begun b).monitor

-- what `circmon_ask` and `circmon_take_back` leave, called in the order of a list
abbrev pub unit_after : Beginning → List Act → Rows
unit_after b l = acted_unit l (begun_unit b)

-- what `circmon_ask` leaves, asked each byte string of a list in turn, and what it returns
abbrev pub unit_asked : List (List ℕ) → Rows → Rows
unit_asked bs u = acted_unit (map asks bs) u

abbrev pub unit_replies : List (List ℕ) → Rows → List ℕ
unit_replies bs u = answers_of (map asks bs) u

-- what `circmon_save` leaves in a buffer
abbrev pub saved : Rows → List ℕ → List ℕ
saved u buffer = written (state_in u) buffer
