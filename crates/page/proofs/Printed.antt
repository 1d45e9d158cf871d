-- What stands in a page, place by place: the second entry of its definition, from the words of the change request.
-- Assumes nothing.
use Prim.Native.Nat.{ℕ, zero, suc, ◌+◌, ◌*◌, ◌/◌, ◌%◌, ◌<◌, ◌≤◌}
use native.Mathlib.Omega.{arith}
use mathlib.Core.Path.{◌≡◌, refl, sym, ap, ap₂, subst, ◌∙◌}
use mathlib.Core.Logic.{⊎_elim}
use mathlib.Core.Bool.{Bool, true, false, cond}
use mathlib.Core.List.{List, ◌++◌}
use lib.ListN.{get_or, get_or-append}
use lib.Seq.{get_or-append-add}
use lib.Dec.{eqb}
use Rattle.bits.specs.Bits.{bit, join}
use Rattle.model.specs.declared.Mode.{Mode}
use Rattle.model.specs.declared.Mode.TheVariants.{Read, Write, Append, Execute}
use Rattle.model.specs.declared.Object.{Object}
use Rattle.model.specs.Modes.{has}
use Rattle.model.specs.State.{subject_count, rights_of, held_by}
use Rattle.model.specs.Buffers.{digit}
use Rattle.model.proofs.Tests.{le-or-lt}
use Rattle.orders.specs.Sums.{sum_below, sum_over}
use Rattle.orders.specs.Orders.{OrderOf}
use Rattle.page_sets.specs.Sets.{dash, letter, modes, mark, mode_count}
use Rattle.page_lines.specs.Lines.{space, newline, line, lines, line_size, holders, total, last_line}
use Rattle.page.specs.Page.{page}
use Rattle.page.specs.Printed.{line_char, last_char, place, right_shown, access_shown, IsDigit, value_of, value_of_two, subject_printed, held_printed, holders_printed, total_printed}
use Rattle.orders.proofs.Sums.{sum_same, sum-over-same}
use Rattle.page_sets.proofs.Counts.{count_small}
use Rattle.page_lines.proofs.Sizes.{holders-small, total-small, total-in-any-order, lines-length}

-- ---- places

-- the character k of the line of a subject
lines_at : (ob : Object) (n s k : ℕ) → s < n → k < line_size → line_char (lines ob n) s k ≡ get_or (line s (rights_of ob s) (held_by ob s)) k 0
unfolding lines
lines_at ob zero s k h b = absurd (omega arith)
lines_at ob (suc n) s k h b =
    let new = line n (rights_of ob n) (held_by ob n) in
    ⊎_elim
    (λ (le : n ≤ s).
    let e : n ≡ s = omega arith in
    ap (λ i. get_or (lines ob n ++ new) i 0) (omega (arith, e, lines-length ob n)) ∙ get_or-append-add (lines ob n) new k 0 ∙ ap (λ i. get_or (line i (rights_of ob i) (held_by ob i)) k 0) e)
    (λ (lt : s < n). get_or-append (lines ob n) new 0 (line_size * s + k) (omega (arith, lines-length ob n)) ∙ lines_at ob n s k lt b)
    (le-or-lt n s)

module _ (ob : Object) where
  pub line_at : (s k : ℕ) → s < subject_count → k < line_size → line_char (page ob) s k ≡ get_or (line s (rights_of ob s) (held_by ob s)) k 0
  unfolding page
  line_at s k h b =
      get_or-append (lines ob subject_count) (last_line ob) 0 (line_size * s + k) (omega (arith, lines-length ob subject_count)) ∙ lines_at ob subject_count s k h b

  pub last-at : (k : ℕ) → last_char (page ob) k ≡ get_or (last_line ob) k 0
  unfolding page
  last-at k = ap (λ i. get_or (lines ob subject_count ++ last_line ob) i 0) (omega (arith, lines-length ob subject_count)) ∙ get_or-append-add (lines ob subject_count) (last_line ob) k 0

-- ---- digits

-- two digits say a number below 100 and are digits
two-read : (n : ℕ) → value_of_two (digit (n / 10)) (digit (n % 10)) ≡ n
two-read n = omega arith

two_digits : (n : ℕ) → n < 100 → IsDigit (digit (n / 10)) × IsDigit (digit (n % 10))
two_digits n h = ((omega arith, omega arith), (omega arith, omega arith))

-- ---- letters

-- a mark is its letter where the mode is in the set, and else a dash, which is no letter
mark_on : (set : ℕ) (x : Mode) → has x set ≡ true → mark set x ≡ letter x
unfolding mark
mark_on set x e = rw e

mark-off : (set : ℕ) (x : Mode) → has x set ≡ false → mark set x ≡ dash
unfolding mark
mark-off set x e = rw e

shows : (x : Mode) (b : Bool) → eqb (cond b (letter x) dash) (letter x) ≡ b
shows Read true = refl
shows Read false = refl
shows Write true = refl
shows Write false = refl
shows Append true = refl
shows Append false = refl
shows Execute true = refl
shows Execute false = refl

mark-shows : (set : ℕ) (x : Mode) → eqb (mark set x) (letter x) ≡ has x set
unfolding mark
mark-shows set x = shows x (has x set)

module _ (ob : Object) (s : ℕ) (h : s < subject_count) where
  -- "the rights as r, w, a, e or `-`": at the places 3 to 6 of a line
  right-mark : (x : Mode) → line_char (page ob) s (3 + place x) ≡ mark (rights_of ob s) x
  unfolding line
  right-mark Read = line_at ob s 3 h (omega arith)
  right-mark Write = line_at ob s 4 h (omega arith)
  right-mark Append = line_at ob s 5 h (omega arith)
  right-mark Execute = line_at ob s 6 h (omega arith)

  pub right-letter : (x : Mode) → has x (rights_of ob s) ≡ true → line_char (page ob) s (3 + place x) ≡ letter x
  right-letter x e = right-mark x ∙ mark_on (rights_of ob s) x e

  pub right-dash : (x : Mode) → has x (rights_of ob s) ≡ false → line_char (page ob) s (3 + place x) ≡ dash
  right-dash x e = right-mark x ∙ mark-off (rights_of ob s) x e

  -- "the held accesses likewise": at the places 8 to 11
  access-mark : (x : Mode) → line_char (page ob) s (8 + place x) ≡ mark (held_by ob s) x
  unfolding line
  access-mark Read = line_at ob s 8 h (omega arith)
  access-mark Write = line_at ob s 9 h (omega arith)
  access-mark Append = line_at ob s 10 h (omega arith)
  access-mark Execute = line_at ob s 11 h (omega arith)

  pub access-letter : (x : Mode) → has x (held_by ob s) ≡ true → line_char (page ob) s (8 + place x) ≡ letter x
  access-letter x e = access-mark x ∙ mark_on (held_by ob s) x e

  pub access-dash : (x : Mode) → has x (held_by ob s) ≡ false → line_char (page ob) s (8 + place x) ≡ dash
  access-dash x e = access-mark x ∙ mark-off (held_by ob s) x e

  pub right-shown : (x : Mode) → right_shown (page ob) s x ≡ has x (rights_of ob s)
  right-shown x = ap (λ k. eqb k (letter x)) (right-mark x) ∙ mark-shows (rights_of ob s) x

  pub access-shown : (x : Mode) → access_shown (page ob) s x ≡ has x (held_by ob s)
  access-shown x = ap (λ k. eqb k (letter x)) (access-mark x) ∙ mark-shows (held_by ob s) x

  -- ---- the numbers of a line

  -- "subject in two digits"
  pub subject-printed : subject_printed (page ob) s ≡ s
  unfolding line
  subject-printed = ap₂ value_of_two (line_at ob s 0 h (omega arith)) (line_at ob s 1 h (omega arith)) ∙ two-read s

  -- what is printed is the number itself
  pub held-is : held_printed (page ob) s ≡ mode_count (held_by ob s)
  unfolding line
  held-is = ap value_of (line_at ob s 13 h (omega arith)) ∙ omega arith

  -- "how many are held in one digit": as many as the line has letters among the accesses held
  pub held-printed : held_printed (page ob) s ≡ sum_over modes (λ x. bit (access_shown (page ob) s x))
  unfolding mode_count
  held-printed =
      held-is ∙ sum-over-same modes (λ x. bit (has x (held_by ob s))) (λ x. bit (access_shown (page ob) s x)) (λ x. ap bit (sym (access-shown x)))

-- ---- the last line

module _ (ob : Object) where
  -- its two characters of each number
  holders-first : (x : Mode) → last_char (page ob) (3 + 3 * place x) ≡ digit (holders ob x / 10)
  unfolding last_line join
  holders-first Read = last-at ob 3
  holders-first Write = last-at ob 6
  holders-first Append = last-at ob 9
  holders-first Execute = last-at ob 12

  holders-second : (x : Mode) → last_char (page ob) (4 + 3 * place x) ≡ digit (holders ob x % 10)
  unfolding last_line join
  holders-second Read = last-at ob 4
  holders-second Write = last-at ob 7
  holders-second Append = last-at ob 10
  holders-second Execute = last-at ob 13

  total_first : last_char (page ob) 15 ≡ digit (total ob / 10)
  unfolding last_line join
  total_first = last-at ob 15

  total-second : last_char (page ob) 16 ≡ digit (total ob % 10)
  unfolding last_line join
  total-second = last-at ob 16

  -- what is printed is the number itself
  pub holders-are : (x : Mode) → holders_printed (page ob) x ≡ holders ob x
  holders-are x = ap₂ value_of_two (holders-first x) (holders-second x) ∙ two-read (holders ob x)

  -- "the counts of holders of r, w, a and e in two digits": in as many lines does the mode's letter stand among the accesses held
  pub holders-printed : (x : Mode) → holders_printed (page ob) x ≡ sum_below subject_count (λ s. bit (access_shown (page ob) s x))
  unfolding holders
  holders-printed x =
      holders-are x
      ∙ sum_same subject_count (λ s. bit (has x (held_by ob s))) (λ s. bit (access_shown (page ob) s x)) (λ s h. ap bit (sym (access-shown ob s h x)))

  pub total-is : total_printed (page ob) ≡ total ob
  total-is = ap₂ value_of_two total_first total-second ∙ two-read (total ob)

  -- "The total is the sum down the lines"
  pub total-printed : total_printed (page ob) ≡ sum_below subject_count (held_printed (page ob))
  unfolding total
  total-printed =
      total-is ∙ sum_same subject_count (λ s. mode_count (held_by ob s)) (held_printed (page ob)) (λ s h. sym (held-is ob s h))

  -- "and the sum over the four modes in any order is the same number"
  pub printed-in-any-order : (ms : List Mode) → OrderOf modes ms → sum_over ms (holders_printed (page ob)) ≡ total_printed (page ob)
  printed-in-any-order ms d =
      sum-over-same ms (holders_printed (page ob)) (holders ob) holders-are ∙ total-in-any-order ob ms d ∙ sym total-is

  -- every character of a number is a digit: two digits are enough for each, and one for what a subject holds
  pub holders-digits : (x : Mode) → IsDigit (last_char (page ob) (3 + 3 * place x)) × IsDigit (last_char (page ob) (4 + 3 * place x))
  holders-digits x =
      let d = two_digits (holders ob x) (omega (arith, holders-small ob x)) in
      (subst IsDigit (sym (holders-first x)) d.0, subst IsDigit (sym (holders-second x)) d.1)

  pub total-digits : IsDigit (last_char (page ob) 15) × IsDigit (last_char (page ob) 16)
  total-digits =
      let d = two_digits (total ob) (omega (arith, total-small ob)) in
      (subst IsDigit (sym total_first) d.0, subst IsDigit (sym total-second) d.1)

  pub subject-digits : (s : ℕ) → s < subject_count → IsDigit (line_char (page ob) s 0) × IsDigit (line_char (page ob) s 1)
  unfolding line
  subject-digits s h =
      let d = two_digits s (omega arith) in
      (subst IsDigit (sym (line_at ob s 0 h (omega arith))) d.0, subst IsDigit (sym (line_at ob s 1 h (omega arith))) d.1)

  pub held-digit : (s : ℕ) → s < subject_count → IsDigit (line_char (page ob) s 13)
  unfolding line
  held-digit s h = subst IsDigit (sym (line_at ob s 13 h (omega arith))) (omega arith, omega (arith, count_small (held_by ob s)))

  -- ---- spaces, newlines and `to`

  pub line-spaces : (s : ℕ) → s < subject_count → (line_char (page ob) s 2 ≡ space) × (line_char (page ob) s 7 ≡ space) × (line_char (page ob) s 12 ≡ space) × (line_char (page ob) s 14 ≡ newline)
  unfolding line
  line-spaces s h =
      (line_at ob s 2 h (omega arith), line_at ob s 7 h (omega arith), line_at ob s 12 h (omega arith), line_at ob s 14 h (omega arith))

  pub last_begins : (last_char (page ob) 0 ≡ 116) × (last_char (page ob) 1 ≡ 111)
  unfolding last_line join
  last_begins = (last-at ob 0, last-at ob 1)

  pub last-spaces : (last_char (page ob) 2 ≡ space) × (last_char (page ob) 5 ≡ space) × (last_char (page ob) 8 ≡ space) × (last_char (page ob) 11 ≡ space) × (last_char (page ob) 14 ≡ space)
  unfolding last_line join
  last-spaces = (last-at ob 2, last-at ob 5, last-at ob 8, last-at ob 11, last-at ob 14)

  pub last-ends : last_char (page ob) 17 ≡ newline
  unfolding last_line join
  last-ends = last-at ob 17
