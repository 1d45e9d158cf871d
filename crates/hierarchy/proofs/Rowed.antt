-- The three rows of an object, and those that a deletion leaves.
-- Assumes nothing.
use Prim.Native.Nat.{ℕ, ◌%◌, ◌≤◌, ◌<◌}
use native.Mathlib.Omega.{arith}
use mathlib.Core.Path.{◌≡◌, refl, sym, ap, ◌∙◌}
use mathlib.Core.Logic.{◌≢◌}
use mathlib.Core.Bool.{Bool, true, false, cond, ◌&&◌}
use mathlib.Core.List.{[], ◌∷◌}
use lib.ListN.{length}
use lib.Seq.{ext_get_or}
use borrow.Author.Tests.{lt-ltb, le-ltb}
use Rattle.model.specs.declared.Object.{Object}
use Rattle.model.specs.State.{no_modes, no_object, object_at}
use Rattle.unit.specs.Rows.{Rows, row_count, held_row, rest_row, clearance_row, profile_row, row_at, label_in, object_of, object_in, objects_in}
use Rattle.unit.specs.Stored.{label_bytes, row_of, rest_of, set_rows, set_object}
use Rattle.unit.proofs.Tabulated.{tabulate-length, tabulate-at}
use Rattle.unit.proofs.Stores.{object-others, object-rights, object-held, object-rest}
use Rattle.unit.proofs.Units.{in_parts}
use Rattle.hierarchy.specs.Removed.{gone, row_left, removed}

-- ---- the three rows of object y; sixteen zeros three times are no object

abbrev pub trio : Rows → ℕ → Rows
trio u y = row_at u y ∷ row_at u (held_row y) ∷ row_at u (rest_row y) ∷ []

abbrev pub cleared : Rows
cleared = no_modes ∷ no_modes ∷ no_modes ∷ []

-- the record that three rows say
abbrev said : Rows → Object
said t = object_of (row_at t 0) (row_at t 1) (row_at t 2)

said_at : (u : Rows) (y : ℕ) → y < 64 → object_at (objects_in u) y ≡ said (trio u y)
said_at u y h = tabulate-at 64 (object_in u) y no_object h

said-cleared : said cleared ≡ no_object
unfolding object_of label_in
said-cleared = refl

pub same_object : (u w : Rows) (y : ℕ) → y < 64 → trio w y ≡ trio u y → object_at (objects_in w) y ≡ object_at (objects_in u) y
same_object u w y h e = said_at w y h ∙ ap said e ∙ sym (said_at u y h)

pub cleared-object : (w : Rows) (y : ℕ) → y < 64 → trio w y ≡ cleared → object_at (objects_in w) y ≡ no_object
cleared-object w y h e = said_at w y h ∙ ap said e ∙ said-cleared

-- ---- the rows of one object are set to zeros

pub rows-cleared : (u : Rows) (o : ℕ) (w : Rows) → w ≡ set_rows u o no_modes no_modes no_modes → w ≡ set_object u o no_object
unfolding set_object row_of label_bytes
rows-cleared u o w e = e

pub no-rest : rest_of no_object ≡ no_modes
unfolding row_of label_bytes
no-rest = refl

module _ (u : Rows) (o : ℕ) (n : length u ≡ row_count) (h : o < 64) where
  pub clear_self : trio (set_object u o no_object) o ≡ cleared
  clear_self =
      let a = object-rights u o no_object n h in
      let b = object-held u o no_object n h in
      let c = object-rest u o no_object n h ∙ no-rest in
      λ i. a i ∷ b i ∷ c i ∷ []

  pub clear-other : (y : ℕ) → y < 64 → y ≢ o → trio (set_object u o no_object) y ≡ trio u y
  clear-other y b z =
      let other = object-others u o no_object n h in
      let p = other y z (λ e. absurd (omega arith)) (λ e. absurd (omega arith)) in
      let q = other (held_row y) (λ e. absurd (omega arith)) (λ e. z (omega arith)) (λ e. absurd (omega arith)) in
      let r = other (rest_row y) (λ e. absurd (omega arith)) (λ e. absurd (omega arith)) (λ e. z (omega arith)) in
      λ i. p i ∷ q i ∷ r i ∷ []

  pub clear_behind : (i : ℕ) → 192 ≤ i → row_at (set_object u o no_object) i ≡ row_at u i
  clear_behind i b = object-others u o no_object n h i (λ e. absurd (omega arith)) (λ e. absurd (omega arith)) (λ e. absurd (omega arith))

-- ---- the rows after a deletion

pub removed-length : (u : Rows) (o : ℕ) → length (removed u o) ≡ length u
unfolding removed
removed-length u o = tabulate-length (length u) (row_left u o)

module _ (u : Rows) (o : ℕ) (n : length u ≡ row_count) where
  removed-row : (i : ℕ) → i < row_count → row_at (removed u o) i ≡ row_left u o i
  unfolding removed
  removed-row i h = tabulate-at (length u) (row_left u o) i [] (omega (arith, n, h))

  pub removed-behind : (i : ℕ) → 192 ≤ i → i < row_count → row_at (removed u o) i ≡ row_at u i
  removed-behind i a b =
      removed-row i b ∙ ap (λ (t : Bool). cond (t && gone (objects_in u) o (i % 64)) no_modes (row_at u i)) (le-ltb i 192 a)

  -- a row of object y
  of-object : (y i : ℕ) → i < 192 → i % 64 ≡ y → row_at (removed u o) i ≡ cond (gone (objects_in u) o y) no_modes (row_at u i)
  of-object y i b e =
      removed-row i (omega arith)
      ∙ ap (λ (t : Bool). cond (t && gone (objects_in u) o (i % 64)) no_modes (row_at u i)) (lt-ltb i 192 b)
      ∙ ap (λ (k : ℕ). cond (gone (objects_in u) o k) no_modes (row_at u i)) e

  module _ (y : ℕ) (h : y < 64) where
    removed-trio : (b : Bool) → gone (objects_in u) o y ≡ b
        → trio (removed u o) y ≡ (cond b no_modes (row_at u y) ∷ cond b no_modes (row_at u (held_row y)) ∷ cond b no_modes (row_at u (rest_row y)) ∷ [])
    removed-trio b g =
        let row : (i : ℕ) → i < 192 → i % 64 ≡ y → row_at (removed u o) i ≡ cond b no_modes (row_at u i) =
        λ i l e. of-object y i l e ∙ ap (λ (t : Bool). cond t no_modes (row_at u i)) g in
        let p = row y (omega arith) (omega arith) in
        let q = row (held_row y) (omega arith) (omega arith) in
        let r = row (rest_row y) (omega arith) (omega arith) in
        λ i. p i ∷ q i ∷ r i ∷ []

    pub removed-gone : gone (objects_in u) o y ≡ true → trio (removed u o) y ≡ cleared
    removed-gone g = removed-trio true g

    pub removed-kept : gone (objects_in u) o y ≡ false → trio (removed u o) y ≡ trio u y
    removed-kept g = removed-trio false g

  -- rows that have what it leaves, object by object and behind them
  pub is_removed : (w : Rows) → length w ≡ row_count → ((y : ℕ) → y < 64 → trio w y ≡ trio (removed u o) y)
      → ((i : ℕ) → 192 ≤ i → i < row_count → row_at w i ≡ row_at u i) → w ≡ removed u o
  is_removed w whole each behind =
      ext_get_or [] w (removed u o) (whole ∙ sym (removed-length u o ∙ n))
      (λ i b. in_parts (λ k. row_at w k ≡ row_at (removed u o) k)
      (λ y l. ap (λ (t : Rows). row_at t 0) (each y l))
      (λ y l. ap (λ (t : Rows). row_at t 1) (each y l))
      (λ y l. ap (λ (t : Rows). row_at t 2) (each y l))
      (λ s l. same (clearance_row s) (omega arith) (omega arith))
      (same profile_row (omega arith) (omega arith)) i (omega (arith, whole, b)))
    where
      same : (i : ℕ) → 192 ≤ i → i < row_count → row_at w i ≡ row_at (removed u o) i
      same i a b = behind i a b ∙ sym (removed-behind i a b)
