-- Where an entry stands among the rows of a journal, computed: the first one of an empty journal, and the one that takes the place of the oldest.
-- Assumes nothing.
use Prim.Native.Nat.{ℕ}
use mathlib.Core.Path.{◌≡◌, refl}
use mathlib.Core.List.{List, ◌∷◌}
use lib.ListN.{set, replicate}
use Rattle.unit.specs.Rows.{Rows, row_at, byte_at}
use Rattle.journal.specs.Stored.{entered_rows, left_rows, no_entries}

abbrev ones : List ℕ
ones = replicate 16 1

abbrev twos : List ℕ
twos = replicate 16 2

abbrev threes : List ℕ
threes = replicate 16 3

-- object 5 into an empty journal: slot 0
abbrev first : Rows
first = entered_rows no_entries 5 ones twos threes

pub first-stands : (row_at first 0 ≡ ones) × (row_at first 1 ≡ twos) × (row_at first 2 ≡ threes) × (byte_at (row_at first 96) 0 ≡ 5)
    × (row_at first 98 ≡ 1 ∷ 1 ∷ replicate 14 0)
unfolding entered_rows
first-stands = (refl, refl, refl, refl, refl)

-- object 63 where all slots are taken, and the next is the last: slot 31, and the next is then slot 0
abbrev full : Rows
full = set no_entries 98 (31 ∷ 32 ∷ replicate 14 9)

abbrev last : Rows
last = entered_rows full 63 ones twos threes

pub last-stands : (row_at last 93 ≡ ones) × (row_at last 94 ≡ twos) × (row_at last 95 ≡ threes) × (byte_at (row_at last 97) 15 ≡ 63)
    × (row_at last 98 ≡ 0 ∷ 32 ∷ replicate 14 9)
unfolding entered_rows
last-stands = (refl, refl, refl, refl, refl)

-- the latest goes again: its rows stay, and the slot before the next is the next
pub latest-gone : (row_at (left_rows last) 98 ≡ 31 ∷ 31 ∷ replicate 14 9) × (row_at (left_rows last) 93 ≡ ones) × (row_at (left_rows first) 98 ≡ replicate 16 0)
unfolding entered_rows left_rows
latest-gone = (refl, refl, refl)

-- an empty journal: 99 rows of sixteen bytes, every byte 0
pub none-stands : no_entries ≡ replicate 99 (replicate 16 0)
none-stands = refl
