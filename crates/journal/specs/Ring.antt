-- The journal of a unit (change request §9): 99 rows of sixteen bytes, a ring of 32 slots. Three rows for each slot are the rows of an object as
-- they were, two rows have the numbers of these objects, the last row says which slot the next entry
-- takes and how many entries there are. Every content says a journal.
-- Assumes nothing.
use Rattle.std.specs.Prelude.{ℕ, ◌+◌, ◌-◌, ◌*◌, ◌/◌, ◌%◌, min, List}
use Rattle.model.specs.State.{object_count}
use Rattle.model.specs.Journal.{Entry, journal_size}
use Rattle.unit.specs.Rows.{Rows, row_at, byte_at, object_of, tabulate}

-- the rows of slot k: the rights, the accesses held, the rest of the record
abbrev pub rights_row : ℕ → ℕ
rights_row k = 3 * k

abbrev pub held_row : ℕ → ℕ
held_row k = 3 * k + 1

abbrev pub rest_row : ℕ → ℕ
rest_row k = 3 * k + 2

-- the row that has the number of the object of slot k, sixteen of them in a row, and its byte
abbrev pub place_row : ℕ → ℕ
place_row k = 3 * journal_size + k / 16

abbrev pub place_byte : ℕ → ℕ
place_byte k = k % 16

-- the last row, and how many there are
abbrev pub ring_row : ℕ
ring_row = 3 * journal_size + 2

abbrev pub journal_rows : ℕ
journal_rows = 3 * journal_size + 3

-- byte 0 of the last row: the slot that the next entry takes
abbrev pub next_slot : Rows → ℕ
next_slot j = byte_at (row_at j ring_row) 0 % journal_size

-- byte 1 of it: how many entries there are, "up to 32"
abbrev pub entry_count : Rows → ℕ
entry_count j = min (byte_at (row_at j ring_row) 1) journal_size

-- what slot k has
abbrev pub entry_in : Rows → ℕ → Entry
entry_in j k =
    record {
      place = byte_at (row_at j (place_row k)) (place_byte k) % object_count;
      was = object_of (row_at j (rights_row k)) (row_at j (held_row k)) (row_at j (rest_row k));
    }

-- the slot of entry i, the latest being entry 0
abbrev pub slot_of : Rows → ℕ → ℕ
slot_of j i = (next_slot j + (journal_size - 1) - i) % journal_size

-- the journal that the rows say, the latest entry first
unfoldable pub journal_in : Rows → List Entry
journal_in j = tabulate (entry_count j) (λ i. entry_in j (slot_of j i))
