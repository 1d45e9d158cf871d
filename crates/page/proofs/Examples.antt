-- Pages of small objects, computed: each expected list is a line of text, character by character.
-- Assumes nothing.
use Prim.Native.Nat.{ℕ}
use native.Mathlib.Omega.{arith}
use mathlib.Core.Path.{◌≡◌, refl}
use mathlib.Core.Bool.{true, false}
use mathlib.Core.List.{List, [], ◌∷◌, ◌++◌}
use lib.ListN.{take, drop, replicate}
use Rattle.bits.specs.Bits.{join}
use Rattle.model.specs.declared.Mode.TheVariants.{Read, Write, Append, Execute}
use Rattle.model.specs.declared.Object.{Object}
use Rattle.model.specs.declared.Decision.TheVariants.{MalformedRequest, NotLive, ShortBuffer, Granted}
use Rattle.model.specs.Tests.{unless}
use Rattle.model.specs.Modes.{has}
use Rattle.model.specs.State.{no_object, with_owner, with_rows, with_object, empty_monitor}
use Rattle.model.specs.Buffers.{too_short}
use Rattle.orders.specs.Sums.{sum_below, sum_over}
use Rattle.page_sets.specs.Sets.{mark, mode_count}
use Rattle.page_lines.specs.Lines.{line, lines, holders, total, last_line}
use Rattle.page.specs.Page.{page, paging}
use Rattle.page.specs.Printed.{IsDigit, right_shown, access_shown, subject_printed, held_printed, holders_printed, total_printed}

-- subject 1 has r, w and e and holds r and e; subject 2 has a and holds it; subject 15 has and holds all four
abbrev shared : Object
shared = with_rows (with_owner no_object 1) (0 ∷ 13 ∷ 2 ∷ (replicate 12 0 ++ (15 ∷ []))) (0 ∷ 9 ∷ 2 ∷ (replicate 12 0 ++ (15 ∷ [])))

-- `01 rw-e r--e 2`
pub line-of-one : line 1 13 9 ≡ 48 ∷ 49 ∷ 32 ∷ 114 ∷ 119 ∷ 45 ∷ 101 ∷ 32 ∷ 114 ∷ 45 ∷ 45 ∷ 101 ∷ 32 ∷ 50 ∷ 10 ∷ []
unfolding line mark mode_count has sum_over
line-of-one = refl

-- `15 rwae rwae 4`
pub line-of-fifteen : line 15 15 15 ≡ 49 ∷ 53 ∷ 32 ∷ 114 ∷ 119 ∷ 97 ∷ 101 ∷ 32 ∷ 114 ∷ 119 ∷ 97 ∷ 101 ∷ 32 ∷ 52 ∷ 10 ∷ []
unfolding line mark mode_count has sum_over
line-of-fifteen = refl

-- numbers above 15 are no sets of four modes: they show their four low bits
-- `10 -wa- r--- 1`
pub line-above-fifteen : line 10 246 24 ≡ 49 ∷ 48 ∷ 32 ∷ 45 ∷ 119 ∷ 97 ∷ 45 ∷ 32 ∷ 114 ∷ 45 ∷ 45 ∷ 45 ∷ 32 ∷ 49 ∷ 10 ∷ []
unfolding line mark mode_count has sum_over
line-above-fifteen = refl

-- subject 0 has and holds nothing
-- `00 ---- ---- 0`
pub first-line : take 15 (page shared) ≡ 48 ∷ 48 ∷ 32 ∷ 45 ∷ 45 ∷ 45 ∷ 45 ∷ 32 ∷ 45 ∷ 45 ∷ 45 ∷ 45 ∷ 32 ∷ 48 ∷ 10 ∷ []
unfolding page lines last_line join line mark mode_count holders total has sum_over sum_below
first-line = refl

-- r is held by subjects 1 and 15, w by 15, a by 2 and 15, e by 1 and 15
-- `to 02 01 02 02 07`
pub last-of-shared : drop 240 (page shared) ≡ 116 ∷ 111 ∷ 32 ∷ 48 ∷ 50 ∷ 32 ∷ 48 ∷ 49 ∷ 32 ∷ 48 ∷ 50 ∷ 32 ∷ 48 ∷ 50 ∷ 32 ∷ 48 ∷ 55 ∷ 10 ∷ []
unfolding page lines last_line join line mark mode_count holders total has sum_over sum_below
last-of-shared = refl

-- the most that can be held
-- `to 16 16 16 16 64`
pub last-of-all : drop 240 (page (with_rows shared (replicate 16 15) (replicate 16 15))) ≡ 116 ∷ 111 ∷ 32 ∷ 49 ∷ 54 ∷ 32 ∷ 49 ∷ 54 ∷ 32 ∷ 49 ∷ 54 ∷ 32 ∷ 49 ∷ 54 ∷ 32 ∷ 54 ∷ 52 ∷ 10 ∷ []
unfolding page lines last_line join line mark mode_count holders total has sum_over sum_below
last-of-all = refl

-- "in the order 2, 4, 13": where several apply, the first of them; and a buffer of 257 bytes is too short, one of 258 is not
pub above-first : (paging empty_monitor 64 [] ≡ MalformedRequest) × (paging empty_monitor 63 [] ≡ NotLive)
unfolding paging unless
above-first = (refl, refl)

pub room-for-a-page : (paging (with_object empty_monitor 0 shared) 0 (replicate 257 7) ≡ ShortBuffer) × (paging (with_object empty_monitor 0 shared) 0 (replicate 258 7) ≡ Granted)
unfolding paging unless too_short
room-for-a-page = (refl, refl)

-- ten characters are digits, their neighbours are none
pub only-digits : (IsDigit 47 → ⊥) × IsDigit 48 × IsDigit 57 × (IsDigit 58 → ⊥)
only-digits = (λ d. absurd (omega (arith, d.0)), (omega arith, omega arith), (omega arith, omega arith), λ d. absurd (omega (arith, d.1)))

-- what is read off characters, whatever stands around them: a line `15 rwae -w-- 7`, alone and behind fifteen other bytes
abbrev odd-line : List ℕ
odd-line = 49 ∷ 53 ∷ 32 ∷ 114 ∷ 119 ∷ 97 ∷ 101 ∷ 32 ∷ 45 ∷ 119 ∷ 45 ∷ 45 ∷ 32 ∷ 55 ∷ 10 ∷ []

pub line_read : (subject_printed odd-line 0 ≡ 15) × (subject_printed (replicate 15 0 ++ odd-line) 1 ≡ 15) × (held_printed odd-line 0 ≡ 7) × (held_printed (replicate 15 0 ++ odd-line) 1 ≡ 7)
    × (right_shown odd-line 0 Append ≡ true) × (access_shown odd-line 0 Write ≡ true) × (access_shown odd-line 0 Read ≡ false)
line_read = (refl, refl, refl, refl, refl, refl, refl)

-- and a last line `to 10 23 45 67 89`
pub last-read : (p : List ℕ) → p ≡ replicate 240 0 ++ (116 ∷ 111 ∷ 32 ∷ 49 ∷ 48 ∷ 32 ∷ 50 ∷ 51 ∷ 32 ∷ 52 ∷ 53 ∷ 32 ∷ 54 ∷ 55 ∷ 32 ∷ 56 ∷ 57 ∷ 10 ∷ [])
    → (holders_printed p Read ≡ 10) × (holders_printed p Write ≡ 23) × (holders_printed p Append ≡ 45) × (holders_printed p Execute ≡ 67) × (total_printed p ≡ 89)
last-read p e = rw e (refl, refl, refl, refl, refl)
