-- Lists of byte strings that are whole requests.
-- Assumes nothing.
use Rattle.std.specs.Prelude.{ℕ, ◌≡◌, List, [], ◌∷◌, length}

-- "six-byte requests": each has six bytes
abbrev pub SixEach : List (List ℕ) → Type 0
SixEach [] = Unit {0}
SixEach (b ∷ bs) = (length b ≡ 6) × SixEach bs
