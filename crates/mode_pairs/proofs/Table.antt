-- The table of mode pairs in numbers, and the sets of modes that are made from it.
-- Assumes nothing.
use Prim.Native.Nat.{ℕ, ◌+◌, ◌*◌, ◌<◌}
use mathlib.Core.Path.{◌≡◌, refl}
use mathlib.Core.Bool.{not}
use mathlib.Core.List.{List, [], ◌∷◌, map}
use lib.Dec.{eqb, ltb, ltb→lt}
use lib.Bits.{bit_and}
use lib.ListN.{get_or}
use borrow.Author.Tests.{eqb-true}
use Rattle.bits.specs.Bits.{bit}
use Rattle.model.specs.declared.Mode.{Mode}
use Rattle.model.specs.declared.Mode.TheVariants.{Read, Write, Append, Execute}
use Rattle.model.specs.Modes.{has, add, weight, observes, alters, any_observes, any_alters, any_needs_label}
use Rattle.model.specs.ModePairs.{Asked, neither, wanted, held, both, entry, asks_wanted, asks_held}
use Rattle.model.proofs.Tests.{to_t}
use Rattle.model.proofs.Modes.{modes-out}
use Rattle.model.proofs.ModePairs.{pairs-out}
use Rattle.mode_sets.proofs.Sets.{some-and}
use Rattle.mode_pairs.specs.Table.{place, coded, row_asks, modes_asking}

-- ---- the table

pub place-below : (x : Mode) → place x < 4
place-below x = ltb→lt _ _ (to_t (modes-out (λ x. ltb (place x) 4) refl x))

abbrev modes : List Mode
modes = Read ∷ Write ∷ Append ∷ Execute ∷ []

-- the entries, row by row
abbrev rows : List (List ℕ)
rows = map (λ x. map (λ y. coded (entry x y)) modes) modes

-- found by the places of two modes
pub entry_at : (x y : Mode) → get_or (get_or rows (place x) []) (place y) 0 ≡ coded (entry x y)
entry_at x y = eqb-true _ _ (pairs-out (λ x y. eqb (get_or (get_or rows (place x) []) (place y) 0) (coded (entry x y))) refl x y)

-- a bit for each label that is to dominate
pub coded-bits : (a : Asked) → coded a ≡ bit (asks_wanted a) + 2 * bit (asks_held a)
coded-bits neither = refl
coded-bits wanted = refl
coded-bits held = refl
coded-bits both = refl

-- read off again: the bit that names a label is there where the entry asks that label to dominate
pub coded-wanted : (a : Asked) → not (eqb (bit_and (coded a) (coded wanted)) 0) ≡ asks_wanted a
coded-wanted neither = refl
coded-wanted wanted = refl
coded-wanted held = refl
coded-wanted both = refl

pub coded-held : (a : Asked) → not (eqb (bit_and (coded a) (coded held)) 0) ≡ asks_held a
coded-held neither = refl
coded-held wanted = refl
coded-held held = refl
coded-held both = refl

-- of a row the first where its mode observes, the second where it alters
pub row-bits : (x : Mode) → row_asks x ≡ bit (observes x) + 2 * bit (alters x)
row-bits x = eqb-true _ _ (modes-out (λ x. eqb (row_asks x) (bit (observes x) + 2 * bit (alters x))) refl x)

-- ---- the sets made from it

pub alone : (x : Mode) → add x 0 ≡ weight x
unfolding has add
alone x = eqb-true _ _ (modes-out (λ x. eqb (add x 0) (weight x)) refl x)

-- the modes whose rows ask that the label of the object wanted dominate are those that observe; that of the object held, those that alter
pub observes-asking : (n : ℕ) → n < 256 → not (eqb (bit_and n (modes_asking (coded wanted))) 0) ≡ any_observes n
unfolding has
observes-asking = some-and (modes_asking (coded wanted)) any_observes refl

pub alters-asking : (n : ℕ) → n < 256 → not (eqb (bit_and n (modes_asking (coded held))) 0) ≡ any_alters n
unfolding has
alters-asking = some-and (modes_asking (coded held)) any_alters refl

-- one of the two, those that need a label
pub asks-asking : (n : ℕ) → n < 256 → not (eqb (bit_and n (modes_asking (coded both))) 0) ≡ any_needs_label n
unfolding has
asks-asking = some-and (modes_asking (coded both)) any_needs_label refl
