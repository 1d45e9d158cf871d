-- Objects listed by their numbers in an array: those that are not idle, those that a subject reads and those that it alters.
-- Assumes nothing.
use Rattle.std.specs.Prelude.{ℕ, ◌<◌, ◌≤◌, ◌≡◌, Bool, true, not, List, length, get_or}
use Rattle.model.specs.Levels.{Label, dominates}
use Rattle.model.specs.declared.Object.{Object}
use Rattle.model.specs.declared.Mode.{Mode}
use Rattle.model.specs.Tests.{all_below}
use Rattle.model.specs.Modes.{has, any_observes, any_alters}
use Rattle.model.specs.State.{object_count, held_by}
use Rattle.model.specs.ModePairs.{entry, Kept}
use Rattle.star.specs.Idle.{idle}

-- ---- which objects; `at` has the record of each number

abbrev pub read_by : ℕ → (ℕ → Object) → ℕ → Bool
read_by s at k = any_observes (held_by (at k) s)

abbrev pub altered_by : ℕ → (ℕ → Object) → ℕ → Bool
altered_by s at k = any_alters (held_by (at k) s)

-- those that a star check of the subjects from low to below end does not pass over
abbrev pub busy_for : ℕ → ℕ → (ℕ → Object) → ℕ → Bool
busy_for low end at k = not (idle (at k).held low end)

-- ---- lists

-- q numbers were looked at, `from 0` the first; those in a are the ones that pass f
pub record Listed (f : ℕ → Bool) (from : ℕ → ℕ) (a : List ℕ) (q : ℕ) : Type 0 where
  pub few : length a ≤ q
  pub sound : (j : ℕ) → j < length a → (get_or a j 0 < object_count) × (f (get_or a j 0) ≡ true)
  pub complete : (k : ℕ) → k < q → f (from k) ≡ true → (j : ℕ) × ((j < length a) × (get_or a j 0 ≡ from k))

-- of all objects, by their own numbers, or out of another list
abbrev pub itself : ℕ → ℕ
itself k = k

abbrev pub out_of : List ℕ → ℕ → ℕ
out_of a k = get_or a k 0

-- the numbers in a list are those of objects
pub record Numbers (a : List ℕ) : Type 0 where
  pub few : length a ≤ object_count
  pub below : (j : ℕ) → j < length a → get_or a j 0 < object_count

-- and none is left out that a subject reads or alters
pub record Covers (s : ℕ) (at : ℕ → Object) (a : List ℕ) : Type 0 where
  pub numbers : Numbers a
  pub reads : (k : ℕ) → k < object_count → read_by s at k ≡ true → (j : ℕ) × ((j < length a) × (get_or a j 0 ≡ k))
  pub alters : (k : ℕ) → k < object_count → altered_by s at k ≡ true → (j : ℕ) × ((j < length a) × (get_or a j 0 ≡ k))

-- ---- pairs

-- the label of the object that is listed at j
abbrev pub label_at : (ℕ → Object) → List ℕ → ℕ → Label
label_at at a j = (at (get_or a j 0)).label

-- the label of each object that is altered dominates that of each one that is read
unfoldable pub pairs_kept : (ℕ → Object) → List ℕ → List ℕ → Bool
pairs_kept at read altered =
    all_below (length read) (λ i. all_below (length altered) (λ j. dominates (label_at at altered j) (label_at at read i)))

-- ---- the table over all of them

-- of every two accesses that subject s holds, the entry is kept by the labels; `at` has the record of each number
abbrev pub TabledFor : ℕ → (ℕ → Object) → Type 0
TabledFor s at =
    (p q : ℕ) → p < object_count → q < object_count → (x y : Mode) → has x (held_by (at p) s) ≡ true → has y (held_by (at q) s) ≡ true
    → Kept (entry x y) (at p).label (at q).label
