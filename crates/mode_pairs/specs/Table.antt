-- The table of mode pairs as numbers, and the sets of modes that are made from it.
-- Assumes nothing.
use Rattle.std.specs.Prelude.{ℕ, cond, eqb}
use Rattle.std.specs.Int.Bits.{bit_and, bit_or}
use Rattle.model.specs.declared.Mode.{Mode}
use Rattle.model.specs.declared.Mode.TheVariants.{Read, Write, Append, Execute}
use Rattle.model.specs.Modes.{weight}
use Rattle.model.specs.ModePairs.{Asked, neither, wanted, held, both, entry}

-- the row of a mode and its place in each row
abbrev pub place : Mode → ℕ
place Read = 0
place Write = 1
place Append = 2
place Execute = 3

-- an entry as a number: 1 where it asks that the label of the object wanted dominate, 2 that of the object held, and their sum
abbrev pub coded : Asked → ℕ
coded neither = 0
coded wanted = 1
coded held = 2
coded both = 3

-- all that the entries in the row of a mode ask, as such a number
abbrev pub row_asks : Mode → ℕ
row_asks x = bit_or (bit_or (bit_or (coded (entry x Read)) (coded (entry x Write))) (coded (entry x Append))) (coded (entry x Execute))

-- a mode as a set where its row asks it of the label that k names, 1 or 2, or of one of both, 3; else no mode
abbrev pub if_asking : Mode → ℕ → ℕ
if_asking x k = cond (eqb (bit_and (row_asks x) k) 0) 0 (weight x)

-- the modes whose rows ask it
abbrev pub modes_asking : ℕ → ℕ
modes_asking k = bit_or (bit_or (bit_or (if_asking Read k) (if_asking Write k)) (if_asking Append k)) (if_asking Execute k)
