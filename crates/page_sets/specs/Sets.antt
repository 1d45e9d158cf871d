-- "Access page" (change request §1): what a page shows of a set of modes, the letters and how many there are.
-- Assumes nothing.
use Rattle.std.specs.Prelude.{ℕ, cond, List, [], ◌∷◌, map}
use Rattle.bits.specs.Bits.{bit}
use Rattle.model.specs.declared.Mode.{Mode}
use Rattle.model.specs.declared.Mode.TheVariants.{Read, Write, Append, Execute}
use Rattle.model.specs.Modes.{has}
use Rattle.orders.specs.Sums.{sum_over}

abbrev pub dash : ℕ
dash = 45

-- "r, w, a, e"
abbrev pub letter : Mode → ℕ
letter Read = 114
letter Write = 119
letter Append = 97
letter Execute = 101

-- the four modes as the page has them
abbrev pub modes : List Mode
modes = Read ∷ Write ∷ Append ∷ Execute ∷ []

-- "as r, w, a, e or `-`": the letter where the mode is in the set
unfoldable pub mark : ℕ → Mode → ℕ
mark set x = cond (has x set) (letter x) dash

abbrev pub marks : ℕ → List ℕ
marks set = map (mark set) modes

-- "how many are held"
unfoldable pub mode_count : ℕ → ℕ
mode_count set = sum_over modes (λ x. bit (has x set))
