-- The journal that the rows say after an entry more, and after the latest has gone, for every content of 99 rows of sixteen bytes; and that of rows
-- which are all 0.
-- Assumes nothing.
use Prim.Native.Nat.{ℕ, zero, suc, ◌+◌, ◌-◌, ◌%◌, ◌<◌, ◌≤◌, min}
use native.Mathlib.Omega.{arith}
use mathlib.Core.Path.{◌≡◌, refl, sym, ap, ap₂, ◌∙◌}
use mathlib.Core.Logic.{⊎_elim}
use mathlib.Core.List.{List, [], ◌∷◌}
use lib.ListN.{length, take, replicate, length-replicate, get_or-replicate}
use lib.Seq.{take_all}
use Rattle.model.specs.State.{subject_count, object_count, no_object}
use Rattle.model.specs.Journal.{Entry, journal_size, entered}
use Rattle.model.proofs.Tests.{le-or-lt}
use Rattle.unit.specs.Rows.{Rows, object_of, tabulate}
use Rattle.unit.proofs.Tabulated.{tabulate-length, tabulate-same}
use Rattle.journal.specs.Ring.{journal_rows, next_slot, entry_count, entry_in, slot_of, journal_in}
use Rattle.journal.specs.Stored.{set_slot, entered_rows, left_rows, no_entries, Whole}
use Rattle.journal.proofs.Entries.{whole-ring, ring-next, ring-count, ring-entry, slot_whole, slot_same, slot-other}

-- a row of a journal without entries
abbrev zeros : List ℕ
zeros = replicate subject_count 0

-- the first of a tabulated list
take-tabulate : {A : Type 0} (k n : ℕ) (f : ℕ → A) → k ≤ n → take k (tabulate n f) ≡ tabulate k f
unfolding tabulate
take-tabulate zero n f h = refl
take-tabulate (suc k) zero f h = absurd (omega arith)
take-tabulate (suc k) (suc n) f h = ap (λ (l : List _). f 0 ∷ l) (take-tabulate k n (λ i. f (suc i)) (omega arith))

take-entries : (k n : ℕ) (f : ℕ → Entry) → take k (tabulate n f) ≡ tabulate (min n k) f
take-entries k n f =
    ⊎_elim
    (λ (h : n ≤ k). let e : min n k ≡ n = omega (arith, h) in take_all k (tabulate n f) (omega (arith, tabulate-length n f, h)) ∙ ap (λ i. tabulate i f) (sym e))
    (λ (h : k < n). let e : min n k ≡ k = omega (arith, h) in take-tabulate k n f (omega arith) ∙ ap (λ i. tabulate i f) (sym e))
    (le-or-lt n k)

abbrev no_entry : Entry
no_entry = record { place = 0; was = no_object }

-- "up to 32 entries", whatever the rows are
pub entries_fit : (j : Rows) → length (journal_in j) ≤ journal_size
unfolding journal_in
entries_fit j = omega (arith, tabulate-length (entry_count j) (λ i. entry_in j (slot_of j i)))

-- ---- an entry more

module _ (j : Rows) (W : Whole j) (o : ℕ) (rights held rest : List ℕ) where
  pub entered-whole : Whole (entered_rows j o rights held rest)
  unfolding entered_rows
  entered-whole = whole-ring _ _ _ (slot_whole j W (next_slot j) o rights held rest (omega arith))

  -- where the entries stand behind it
  next-moved : next_slot (entered_rows j o rights held rest) ≡ (next_slot j + 1) % journal_size
  unfolding entered_rows
  next-moved = ring-next _ (slot_whole j W (next_slot j) o rights held rest (omega arith)) _ _ ∙ omega arith

  count-more : entry_count (entered_rows j o rights held rest) ≡ min (entry_count j + 1) journal_size
  unfolding entered_rows
  count-more = ring-count _ (slot_whole j W (next_slot j) o rights held rest (omega arith)) _ _ ∙ omega arith

  entry_more : (k : ℕ) → k < journal_size → entry_in (entered_rows j o rights held rest) k ≡ entry_in (set_slot j (next_slot j) o rights held rest) k
  unfolding entered_rows
  entry_more k h = ring-entry _ (slot_whole j W (next_slot j) o rights held rest (omega arith)) _ _ k h

  -- the journal that the rows then say: "the oldest entry gives way"
  pub entered-says : journal_in (entered_rows j o rights held rest) ≡ entered (record { place = o % object_count; was = object_of rights held rest }) (journal_in j)
  unfolding journal_in entered tabulate
  entered-says =
      let w = entered_rows j o rights held rest in
      let n = min (entry_count j) 31 in
      let count : entry_count w ≡ suc n = count-more ∙ omega arith in
      ap (λ i. tabulate i (λ k. entry_in w (slot_of w k))) count
      ∙ ap₂ (λ (e : Entry) (l : List Entry). e ∷ l) latest (tabulate-same n (λ i. entry_in j (slot_of j i)) (λ i. entry_in w (slot_of w (suc i))) no_entry earlier)
      ∙ ap (λ (l : List Entry). record { place = o % object_count; was = object_of rights held rest } ∷ l) (sym (take-entries 31 (entry_count j) (λ i. entry_in j (slot_of j i))))
    where
      latest : entry_in (entered_rows j o rights held rest) (slot_of (entered_rows j o rights held rest) 0) ≡ record { place = o % object_count; was = object_of rights held rest }
      latest =
          let here : slot_of (entered_rows j o rights held rest) 0 ≡ next_slot j = ap (λ i. (i + (journal_size - 1) - 0) % journal_size) next-moved ∙ omega arith in
          ap (entry_in (entered_rows j o rights held rest)) here ∙ entry_more (next_slot j) (omega arith) ∙ slot_same j W (next_slot j) o rights held rest (omega arith)

      earlier : (i : ℕ) → i < min (entry_count j) 31 → entry_in (entered_rows j o rights held rest) (slot_of (entered_rows j o rights held rest) (suc i)) ≡ entry_in j (slot_of j i)
      earlier i h =
          let there : slot_of (entered_rows j o rights held rest) (suc i) ≡ slot_of j i =
          ap (λ k. (k + (journal_size - 1) - suc i) % journal_size) next-moved ∙ omega (arith, h) in
          ap (entry_in (entered_rows j o rights held rest)) there ∙ entry_more (slot_of j i) (omega arith)
          ∙ slot-other j W (next_slot j) o rights held rest (omega arith) (slot_of j i) (omega arith) (λ e. absurd (omega (arith, e, h)))

-- ---- the latest goes

pub latest-said : (j : Rows) (n : ℕ) → entry_count j ≡ suc n → journal_in j ≡ entry_in j (slot_of j 0) ∷ tabulate n (λ i. entry_in j (slot_of j (suc i)))
unfolding journal_in tabulate
latest-said j n some = ap (λ i. tabulate i (λ k. entry_in j (slot_of j k))) some

-- the slots behind it, counted from the one that is then the next
one-back : (k i : ℕ) → k < journal_size → i < 31 → ((k + (journal_size - 1) - 0) % journal_size % journal_size + (journal_size - 1) - i) % journal_size ≡ (k + (journal_size - 1) - suc i) % journal_size
one-back zero i h l = omega (arith, l)
one-back (suc k) i h l = let before : (suc k + (journal_size - 1) - 0) % journal_size % journal_size ≡ k = omega (arith, h) in ap (λ n. (n + (journal_size - 1) - i) % journal_size) before ∙ omega (arith, l)

module _ (j : Rows) (W : Whole j) (n : ℕ) (some : entry_count j ≡ suc n) where
  pub left-whole : Whole (left_rows j)
  unfolding left_rows
  left-whole = whole-ring j _ _ W

  pub left-says : journal_in (left_rows j) ≡ tabulate n (λ i. entry_in j (slot_of j (suc i)))
  unfolding journal_in left_rows
  left-says =
      let w = left_rows j in
      let count : entry_count w ≡ n = ring-count j W _ _ ∙ omega (arith, some) in
      ap (λ i. tabulate i (λ k. entry_in w (slot_of w k))) count
      ∙ tabulate-same n (λ i. entry_in j (slot_of j (suc i))) (λ i. entry_in w (slot_of w i)) no_entry
      (λ i h.
      let there : slot_of w i ≡ slot_of j (suc i) =
      ap (λ k. (k + (journal_size - 1) - i) % journal_size) (ring-next j W _ _) ∙ one-back (next_slot j) i (omega arith) (omega (arith, h, some)) in
      ap (entry_in w) there ∙ ring-entry j W _ _ (slot_of j (suc i)) (omega arith))

-- ---- no entry

pub none-whole : Whole no_entries
none-whole =
    record {
      rows = length-replicate journal_rows zeros;
      bytes = λ i a b. ap length (get_or-replicate journal_rows i zeros [] b);
    }

pub none-says : journal_in no_entries ≡ []
unfolding journal_in tabulate
none-says = refl
