-- "Access page" (change request §1): the sixteen lines of a page and the last one, as bytes.
-- Assumes nothing.
use Rattle.std.specs.Prelude.{ℕ, zero, suc, ◌+◌, ◌*◌, List, [], ◌∷◌, ◌++◌, map}
use Rattle.bits.specs.Bits.{bit, join}
use Rattle.model.specs.declared.Mode.{Mode}
use Rattle.model.specs.declared.Object.{Object}
use Rattle.model.specs.Modes.{has}
use Rattle.model.specs.State.{subject_count, rights_of, held_by}
use Rattle.model.specs.Buffers.{digit, two_digits}
use Rattle.orders.specs.Sums.{sum_below}
use Rattle.page_sets.specs.Sets.{modes, marks, mode_count}

-- ---- characters

abbrev pub space : ℕ
space = 32

abbrev pub newline : ℕ
newline = 10

-- ---- the sixteen lines

-- "subject in two digits, space, the rights as r, w, a, e or `-`, space, the held accesses likewise, space, how many are held in one
-- digit", a newline
unfoldable pub line : ℕ → ℕ → ℕ → List ℕ
line s rights held =
    two_digits s ++ (space ∷ marks rights) ++ (space ∷ marks held) ++ (space ∷ digit (mode_count held) ∷ newline ∷ [])

-- "14 characters and a newline"
abbrev pub line_size : ℕ
line_size = 14 + 1

-- the lines of the subjects below n at an object
unfoldable pub lines : Object → ℕ → List ℕ
lines ob zero = []
lines ob (suc s) = lines ob s ++ line s (rights_of ob s) (held_by ob s)

-- ---- the last line

-- "holders of r, w, a and e": how many subjects hold the mode
unfoldable pub holders : Object → Mode → ℕ
holders ob x = sum_below subject_count (λ s. bit (has x (held_by ob s)))

-- "The total is the sum down the lines"
unfoldable pub total : Object → ℕ
total ob = sum_below subject_count (λ s. mode_count (held_by ob s))

-- a space and a number in two digits
abbrev pub spaced : ℕ → List ℕ
spaced n = space ∷ two_digits n

-- "`to`, space, the counts of holders of r, w, a and e in two digits with a space between, space, the total in two digits", a newline
unfoldable pub last_line : Object → List ℕ
last_line ob = 116 ∷ 111 ∷ (join (map (λ x. spaced (holders ob x)) modes) ++ spaced (total ob) ++ (newline ∷ []))

-- "17 characters and a newline"
abbrev pub last_size : ℕ
last_size = 17 + 1

-- ---- the size of a page

-- "the page's 258 bytes"
abbrev pub page_size : ℕ
page_size = line_size * subject_count + last_size
