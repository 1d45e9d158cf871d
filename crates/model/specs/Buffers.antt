-- Lent buffers of any length: whether one is too short, what is put into it, and numbers in decimal.
-- Assumes nothing.
use Rattle.std.specs.Prelude.{ℕ, ◌+◌, ◌/◌, ◌%◌, Bool, cond, List, [], ◌∷◌, ◌++◌, length, take, drop, ltb}

-- there is no room for n bytes
unfoldable pub too_short : ℕ → List ℕ → Bool
too_short n buffer = ltb (length buffer) n

-- n new bytes in front, every later one left
abbrev pub front : ℕ → List ℕ → List ℕ → List ℕ
front n new buffer = new ++ drop n buffer

-- a buffer without the room is left, every byte of it; any other has the n new bytes in front
abbrev pub filled : ℕ → ℕ → List ℕ → List ℕ → List ℕ
filled room n new buffer = cond (too_short room buffer) buffer (front n new buffer)

-- the new bytes from a place on, every other byte left
unfoldable pub put : List ℕ → ℕ → List ℕ → List ℕ
put buffer at new = take at buffer ++ (new ++ drop (at + length new) buffer)

-- "in decimal": a digit, and two of them
abbrev pub digit : ℕ → ℕ
digit n = 48 + n

abbrev pub two_digits : ℕ → List ℕ
two_digits n = digit (n / 10) ∷ digit (n % 10) ∷ []
