-- The same generator on 32 bits in a row, the highest first: the words of change request §5, bit by bit.
-- Assumes nothing.
use Rattle.std.specs.Prelude.{ℕ, ◌-◌, Bool, false, length, take, drop, replicate}
use Rattle.std.specs.Bool.{xor}
use mathlib.Core.List.{List, ◌++◌, zip_with}

-- "shift left", "high bits dropped": the first k bits leave, zeros come behind the last one
abbrev pub moved_left : ℕ → List Bool → List Bool
moved_left k b = drop k b ++ replicate k false

-- "right": the last k bits leave, zeros come before the first one
abbrev pub moved_right : ℕ → List Bool → List Bool
moved_right k b = replicate k false ++ take (length b - k) b

-- "each combined by exclusive or": bit by bit
abbrev pub combined : (List Bool → List Bool) → List Bool → List Bool
combined move b = zip_with xor b (move b)

-- "shift left 13, right 17, left 5"
unfoldable pub next_row : List Bool → List Bool
next_row b = combined (moved_left 5) (combined (moved_right 17) (combined (moved_left 13) b))
