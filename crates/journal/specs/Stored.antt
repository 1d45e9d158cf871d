-- What is stored into the rows of a journal.
-- Assumes nothing.
use Rattle.std.specs.Prelude.{ℕ, ◌+◌, ◌-◌, ◌*◌, ◌%◌, ◌<◌, ◌≤◌, min, ◌≡◌, List, length, set, replicate}
use Rattle.model.specs.State.{subject_count}
use Rattle.model.specs.Journal.{journal_size}
use Rattle.unit.specs.Rows.{Rows, row_at}
use Rattle.journal.specs.Ring.{rights_row, held_row, rest_row, place_row, place_byte, ring_row, journal_rows, next_slot, entry_count, slot_of}

-- byte i of row r becomes n
abbrev pub set_byte : Rows → ℕ → ℕ → ℕ → Rows
set_byte j r i n = set j r (set (row_at j r) i n)

-- where the next entry goes, and how many there are
abbrev pub set_ring : Rows → ℕ → ℕ → Rows
set_ring j next count = set_byte (set_byte j ring_row 0 next) ring_row 1 count

-- the rows of an object, and its number, into slot k
abbrev pub set_slot : Rows → ℕ → ℕ → List ℕ → List ℕ → List ℕ → Rows
set_slot j k o rights held rest =
    set_byte (set (set (set j (rights_row k) rights) (held_row k) held) (rest_row k) rest) (place_row k) (place_byte k) o

-- one entry more: in the place of the oldest, where all slots are taken
unfoldable pub entered_rows : Rows → ℕ → List ℕ → List ℕ → List ℕ → Rows
entered_rows j o rights held rest =
    set_ring (set_slot j (next_slot j) o rights held rest) ((next_slot j + 1) % journal_size) (min (entry_count j + 1) journal_size)

-- the latest entry goes
unfoldable pub left_rows : Rows → Rows
left_rows j = set_ring j (slot_of j 0) (entry_count j - 1)

-- "an empty one"
abbrev pub no_entries : Rows
no_entries = replicate journal_rows (replicate subject_count 0)

-- as many rows as a journal has, and sixteen bytes in those of which single bytes are stored
pub record Whole (j : Rows) : Type 0 where
  pub rows : length j ≡ journal_rows
  pub bytes : (i : ℕ) → 3 * journal_size ≤ i → i < journal_rows → length (row_at j i) ≡ subject_count
