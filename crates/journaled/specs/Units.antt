-- A unit is 308 rows: those of a monitor, and behind them those of its journal (change request §9). What it says, and what is left of it.
-- Assumes nothing.
use Rattle.std.specs.Prelude.{ℕ, ◌+◌, ◌%◌, Bool, cond, ◌&&◌, List, [], ◌∷◌, ◌++◌, length, take, drop, eqb, Some, None}
use Rattle.model.specs.declared.Monitor.{Monitor}
use Rattle.model.specs.Requests.{Decoded, request_size, fields, decode}
use Rattle.model.specs.State.{object_count}
use Rattle.model.specs.Decisions.{number}
use Rattle.model.specs.Rules.{target, step}
use Rattle.model.specs.Journal.{Entry, Journaled, takes_children, Act, asks, takes_back, taking_back}
use Rattle.model.specs.Runs.{reply}
use Rattle.unit.specs.Rows.{Rows, row_count, held_row, rest_row, row_at, state_in}
use Rattle.unit.specs.Stored.{set_object, unit_of}
use Rattle.asking.specs.Asked.{asked}
use Rattle.journal.specs.Ring.{journal_rows, entry_count, entry_in, slot_of, journal_in}
use Rattle.journaled.specs.declared.Unit.{Unit}
use Rattle.journal.specs.Stored.{entered_rows, left_rows, no_entries}

abbrev pub unit_rows : ℕ
unit_rows = row_count + journal_rows

-- the rows of a unit, one behind the other
abbrev pub rows_of : Unit → Rows
rows_of u = u.rows

abbrev pub monitor_part : Rows → Rows
monitor_part u = take row_count u

abbrev pub journal_part : Rows → Rows
journal_part u = drop row_count u

-- the monitor and the journal that a unit says
unfoldable pub said_by : Rows → Journaled
said_by u = record { monitor = state_in u; journal = journal_in (journal_part u) }

-- a unit of a monitor that was begun: "has an empty one"
unfoldable pub begun_rows : Monitor → Rows
begun_rows m = unit_of m ++ no_entries

-- ---- a request

-- the object that six bytes name, whatever they say of it; of other bytes some object
unfoldable pub named : List ℕ → ℕ
named b = cond (eqb (length b) request_size) ((fields b).object % object_count) 0

-- the journal's rows with those of object o, as they are before the request, as the latest entry
abbrev pub entered_at : Rows → ℕ → Rows
entered_at u o = entered_rows (journal_part u) o (row_at u o) (row_at u (held_row o)) (row_at u (rest_row o))

-- six bytes of the kind that deletes
unfoldable pub deletes : List ℕ → Bool
deletes b = eqb (length b) request_size && eqb (fields b).kind 6

-- "for each reply 0"; "A deletion that took children empties the journal" (change request §11)
abbrev pub journal_said : Decoded → Rows → Rows
journal_said None u = journal_part u
journal_said (Some q) u =
    cond (eqb (number (step q (state_in u)).decision) 0) (cond (takes_children q (state_in u)) no_entries (entered_at u (target q))) (journal_part u)

unfoldable pub asked_unit : List ℕ → Rows → Rows
asked_unit b u = asked b (monitor_part u) ++ journal_said (decode (state_in u).profile b) u

-- ---- taking back

-- the latest entry
abbrev pub latest_in : Rows → Entry
latest_in u = entry_in (journal_part u) (slot_of (journal_part u) 0)

-- its record is restored, and it goes
unfoldable pub restored_unit : Rows → Rows
restored_unit u = set_object (monitor_part u) (latest_in u).place (latest_in u).was ++ left_rows (journal_part u)

-- an empty journal leaves every byte
unfoldable pub taken_unit : Rows → Rows
taken_unit u = cond (eqb (entry_count (journal_part u)) 0) u (restored_unit u)

-- ---- a list of both

abbrev pub act_unit : Act → Rows → Rows
act_unit (asks b) u = asked_unit b u
act_unit takes_back u = taken_unit u

unfoldable pub acted_unit : List Act → Rows → Rows
acted_unit [] u = u
acted_unit (a ∷ l) u = acted_unit l (act_unit a u)

-- the numbers that are returned
abbrev pub answer_of : Act → Rows → ℕ
answer_of (asks b) u = reply b (state_in u)
answer_of takes_back u = number (taking_back (said_by u).journal)

unfoldable pub answers_of : List Act → Rows → List ℕ
answers_of [] u = []
answers_of (a ∷ l) u = answer_of a u ∷ answers_of l (act_unit a u)
