-- What a reader of a page finds at each place of it, by its characters alone.
-- Assumes nothing.
use Rattle.std.specs.Prelude.{ℕ, ◌+◌, ◌-◌, ◌*◌, ◌≤◌, Bool, List, get_or, eqb}
use Rattle.model.specs.declared.Mode.{Mode}
use Rattle.model.specs.declared.Mode.TheVariants.{Read, Write, Append, Execute}
use Rattle.model.specs.State.{subject_count}
use Rattle.page_sets.specs.Sets.{letter}
use Rattle.page_lines.specs.Lines.{line_size}

-- the character at a place, and one of a line
abbrev pub char_at : List ℕ → ℕ → ℕ
char_at p at = get_or p at 0

abbrev pub line_char : List ℕ → ℕ → ℕ → ℕ
line_char p s k = char_at p (line_size * s + k)

-- one of the last line
abbrev pub last_char : List ℕ → ℕ → ℕ
last_char p k = char_at p (line_size * subject_count + k)

-- r, w, a, e: first, second, third, fourth
abbrev pub place : Mode → ℕ
place Read = 0
place Write = 1
place Append = 2
place Execute = 3

-- the mode's letter stands among "the rights" of a line, and among "the held accesses"
abbrev pub right_shown : List ℕ → ℕ → Mode → Bool
right_shown p s x = eqb (line_char p s (3 + place x)) (letter x)

abbrev pub access_shown : List ℕ → ℕ → Mode → Bool
access_shown p s x = eqb (line_char p s (8 + place x)) (letter x)

-- a decimal digit, 0 to 9
abbrev pub IsDigit : ℕ → Type 0
IsDigit c = (48 ≤ c) × (c ≤ 57)

-- the number that a digit stands for, "in one digit", and that two stand for, "in two digits"
abbrev pub value_of : ℕ → ℕ
value_of c = c - 48

abbrev pub value_of_two : ℕ → ℕ → ℕ
value_of_two c d = 10 * value_of c + value_of d

-- a line's "subject in two digits", and "how many are held in one digit"
abbrev pub subject_printed : List ℕ → ℕ → ℕ
subject_printed p s = value_of_two (line_char p s 0) (line_char p s 1)

abbrev pub held_printed : List ℕ → ℕ → ℕ
held_printed p s = value_of (line_char p s 13)

-- the last line's "counts of holders of r, w, a and e in two digits", and "the total in two digits"
abbrev pub holders_printed : List ℕ → Mode → ℕ
holders_printed p x = value_of_two (last_char p (3 + 3 * place x)) (last_char p (4 + 3 * place x))

abbrev pub total_printed : List ℕ → ℕ
total_printed p = value_of_two (last_char p 15) (last_char p 16)

-- two modes are the same: they have the same place
abbrev pub same_mode : Mode → Mode → Bool
same_mode x y = eqb (place x) (place y)
