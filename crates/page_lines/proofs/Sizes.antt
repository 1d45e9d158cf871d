-- How large the numbers of a page are, how many bytes its lines have, and that the columns add up to the total.
-- Assumes nothing.
use Prim.Native.Nat.{ℕ, zero, suc, ◌+◌, ◌*◌, ◌≤◌}
use native.Mathlib.Omega.{arith}
use mathlib.Core.Path.{◌≡◌, refl, sym, ap, ap₂, ◌∙◌}
use mathlib.Core.List.{List, [], ◌++◌}
use lib.ListN.{length, length-append}
use Rattle.bits.specs.Bits.{bit, join}
use Rattle.model.specs.declared.Mode.{Mode}
use Rattle.model.specs.declared.Object.{Object}
use Rattle.model.specs.Modes.{has}
use Rattle.model.specs.State.{subject_count, rights_of, held_by}
use Rattle.model.specs.Buffers.{put}
use Rattle.model.proofs.Buffers.{length-put}
use Rattle.orders.specs.Sums.{sum_over}
use Rattle.orders.specs.Orders.{OrderOf}
use Rattle.page_sets.specs.Sets.{modes, mode_count}
use Rattle.page_sets.proofs.Counts.{bit-most, count_small}
use Rattle.page_lines.specs.Lines.{line, lines, line_size, holders, total, last_line, last_size, page_size}
use Rattle.orders.proofs.Sums.{sum-order, sum-columns, sum-below-most}

-- ---- numbers

-- a mode has at most sixteen holders, and there are at most 64 accesses
pub holders-small : (ob : Object) (x : Mode) → holders ob x ≤ 16
unfolding holders
holders-small ob x = sum-below-most subject_count 1 (λ s. bit (has x (held_by ob s))) (λ s. bit-most (has x (held_by ob s)))

pub total-small : (ob : Object) → total ob ≤ 64
unfolding total
total-small ob = sum-below-most subject_count 4 (λ s. mode_count (held_by ob s)) (λ s. count_small (held_by ob s))

-- ---- the total

-- the sum over the four modes is the total
pub total-over-modes : (ob : Object) → sum_over modes (holders ob) ≡ total ob
unfolding holders total mode_count
total-over-modes ob = sym (sum-columns subject_count modes (λ s x. bit (has x (held_by ob s))))

-- "the sum over the four modes in any order is the same number"
pub total-in-any-order : (ob : Object) (ms : List Mode) → OrderOf modes ms → sum_over ms (holders ob) ≡ total ob
total-in-any-order ob ms d = sym (sum-order (holders ob) d) ∙ total-over-modes ob

-- ---- bytes

pub line-length : (s rights held : ℕ) → length (line s rights held) ≡ line_size
unfolding line
line-length s rights held = refl

pub lines-length : (ob : Object) (n : ℕ) → length (lines ob n) ≡ line_size * n
unfolding lines
lines-length ob zero = refl
lines-length ob (suc s) =
    length-append (lines ob s) (line s (rights_of ob s) (held_by ob s))
    ∙ omega (arith, lines-length ob s, line-length s (rights_of ob s) (held_by ob s))

pub last-length : (ob : Object) → length (last_line ob) ≡ last_size
unfolding last_line join
last-length ob = refl

-- ---- lines put one behind the other

pub no_lines : (ob : Object) → [] ≡ lines ob 0
unfolding lines
no_lines ob = refl

-- there is room for them, and the buffer keeps its length
pub lines-put : (out : List ℕ) (ob : Object) (n : ℕ) → n ≤ subject_count → page_size ≤ length out → length (put out 0 (lines ob n)) ≡ length out
lines-put out ob n h room = length-put out 0 (lines ob n) (omega (arith, h, room, lines-length ob n))

pub lines_more : (ob : Object) (s rights held : ℕ) → rights ≡ rights_of ob s → held ≡ held_by ob s → lines ob s ++ line s rights held ≡ lines ob (s + 1)
unfolding lines
lines_more ob s rights held r h =
    ap₂ (λ x y. lines ob s ++ line s x y) r h ∙ ap (lines ob) (let e : suc s ≡ s + 1 = omega arith in e)
