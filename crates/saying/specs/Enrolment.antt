-- A table in 1,275 bytes.
-- Assumes nothing.
use Rattle.std.specs.Prelude.{ℕ, List, ◌∷◌, ◌++◌, replicate}

-- subject 0 has (1, 0001), subject 1 (3, 0003), subject 2 (0, 0000), subject 15 (15, FFFF); zeros behind the table
abbrev pub enrolled : List ℕ
enrolled = 0x88 ∷ 0x00 ∷ 0x0C ∷ 0xC0 ∷ 0x00 ∷ 0xE0 ∷ (replicate 33 0 ++ (0x1F ∷ 0xFF ∷ 0xFF ∷ replicate 1417 0))
