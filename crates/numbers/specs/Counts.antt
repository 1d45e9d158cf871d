-- A number with a count beside it, returned to C as one number of 64 bits.
-- Assumes nothing.
use Rattle.std.specs.Prelude.{ℕ, ◌+◌, ◌*◌, ◌%◌, ◌^◌}

-- the number in the low byte and the count, cut to 56 bits, above it
abbrev pub with_count : ℕ → ℕ → ℕ
with_count number count = number + 256 * (count % 2 ^ 56)
