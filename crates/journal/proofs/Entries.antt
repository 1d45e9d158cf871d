-- Bytes and slots that are stored into the rows of a journal, for every content of 99 rows of sixteen bytes.
-- Assumes nothing.
use Prim.Native.Nat.{ℕ, ◌*◌, ◌%◌, ◌<◌, min}
use native.Mathlib.Omega.{arith}
use mathlib.Core.Path.{◌≡◌, sym, ap, ◌∙◌}
use mathlib.Core.Logic.{◌≢◌, ⊎_elim}
use mathlib.Core.List.{List, []}
use lib.ListN.{length, set, length-set}
use lib.Seq.{get_or-set_same, get_or-set_other}
use Rattle.model.specs.State.{object_count}
use Rattle.model.specs.Journal.{journal_size}
use Rattle.unit.specs.Rows.{Rows, row_at, byte_at, object_of}
use Rattle.unit.proofs.Tabulated.{same_or_not}
use Rattle.journal.specs.Ring.{rights_row, held_row, rest_row, place_row, place_byte, ring_row, journal_rows, next_slot, entry_count, entry_in}
use Rattle.journal.specs.Stored.{set_byte, set_ring, set_slot, Whole}

-- ---- one byte that is stored

module _ (j : Rows) (r i n : ℕ) (h : r < length j) where
  byte-same : i < length (row_at j r) → byte_at (row_at (set_byte j r i n) r) i ≡ n
  byte-same l = ap (λ (row : List ℕ). byte_at row i) (get_or-set_same j r _ [] h) ∙ get_or-set_same (row_at j r) i n 0 l

  -- no byte of another row, or of this one at another place
  byte-other : (s k : ℕ) → (s ≡ r → k ≢ i) → byte_at (row_at (set_byte j r i n) s) k ≡ byte_at (row_at j s) k
  byte-other s k apart =
      ⊎_elim
      (λ (e : s ≡ r).
      ap (λ x. byte_at (row_at (set_byte j r i n) x) k) e ∙ ap (λ (row : List ℕ). byte_at row k) (get_or-set_same j r _ [] h)
      ∙ get_or-set_other (row_at j r) i k n 0 (apart e) ∙ ap (λ x. byte_at (row_at j x) k) (sym e))
      (λ (e : s ≢ r). ap (λ (row : List ℕ). byte_at row k) (get_or-set_other j r s _ [] e))
      (same_or_not s r)

  row_other : (s : ℕ) → s ≢ r → row_at (set_byte j r i n) s ≡ row_at j s
  row_other s e = get_or-set_other j r s _ [] e

  row-length : (s : ℕ) → length (row_at (set_byte j r i n) s) ≡ length (row_at j s)
  row-length s =
      ⊎_elim
      (λ (e : s ≡ r).
      ap (λ x. length (row_at (set_byte j r i n) x)) e ∙ ap length (get_or-set_same j r _ [] h) ∙ length-set (row_at j r) i n
      ∙ ap (λ x. length (row_at j x)) (sym e))
      (λ (e : s ≢ r). ap length (row_other s e))
      (same_or_not s r)

-- rows are whole after a byte is stored, or a row of a slot
whole-byte : (j : Rows) (r i n : ℕ) → r < journal_rows → Whole j → Whole (set_byte j r i n)
whole-byte j r i n h W =
    record {
      rows = length-set j r _ ∙ W.rows;
      bytes = λ s a b. row-length j r i n (omega (arith, W.rows)) s ∙ W.bytes s a b;
    }

whole_row : (j : Rows) (r : ℕ) (row : List ℕ) → r < 3 * journal_size → Whole j → Whole (set j r row)
whole_row j r row h W =
    record {
      rows = length-set j r row ∙ W.rows;
      bytes = λ s a b. ap length (get_or-set_other j r s row [] (λ e. absurd (omega (arith, e, a, h)))) ∙ W.bytes s a b;
    }

pub whole-ring : (j : Rows) (next count : ℕ) → Whole j → Whole (set_ring j next count)
whole-ring j next count W = whole-byte _ ring_row 1 count (omega arith) (whole-byte j ring_row 0 next (omega arith) W)

-- ---- the last row

module _ (j : Rows) (W : Whole j) (next count : ℕ) where
  once : Rows
  once = set_byte j ring_row 0 next

  once-whole : Whole once
  unfolding once
  once-whole = whole-byte j ring_row 0 next (omega arith) W

  pub ring-next : next_slot (set_ring j next count) ≡ next % journal_size
  unfolding once
  ring-next =
      ap (λ n. n % journal_size)
      (byte-other once ring_row 1 count (omega (arith, once-whole.rows)) ring_row 0 (λ e. λ z. absurd (omega (arith, z)))
      ∙ byte-same j ring_row 0 next (omega (arith, W.rows)) (omega (arith, W.bytes ring_row (omega arith) (omega arith))))

  pub ring-count : entry_count (set_ring j next count) ≡ min count journal_size
  unfolding once
  ring-count =
      ap (λ n. min n journal_size)
      (byte-same once ring_row 1 count (omega (arith, once-whole.rows)) (omega (arith, once-whole.bytes ring_row (omega arith) (omega arith))))

  -- no slot is changed by it
  pub ring-entry : (k : ℕ) → k < journal_size → entry_in (set_ring j next count) k ≡ entry_in j k
  unfolding once
  ring-entry k h =
      let other : (s : ℕ) → s < ring_row → row_at (set_ring j next count) s ≡ row_at j s =
      λ s l. row_other once ring_row 1 count (omega (arith, once-whole.rows)) s (λ e. absurd (omega (arith, e, l)))
      ∙ row_other j ring_row 0 next (omega (arith, W.rows)) s (λ e. absurd (omega (arith, e, l))) in
      λ i. record {
        place = byte_at (other (place_row k) (omega arith) i) (place_byte k) % object_count;
        was = object_of (other (rights_row k) (omega arith) i) (other (held_row k) (omega arith) i) (other (rest_row k) (omega arith) i);
      }

-- ---- a slot that is stored

module _ (j : Rows) (W : Whole j) (k o : ℕ) (rights held rest : List ℕ) (h : k < journal_size) where
  -- the three rows, one after the other
  one : Rows
  one = set j (rights_row k) rights

  two : Rows
  two = set one (held_row k) held

  stored : Rows
  stored = set two (rest_row k) rest

  stored-rows : length stored ≡ journal_rows
  unfolding one two stored
  stored-rows = simp length-set W.rows

  -- a row that is none of them is the one that was there
  stored_other : (s : ℕ) → s ≢ rights_row k → s ≢ held_row k → s ≢ rest_row k → row_at stored s ≡ row_at j s
  unfolding one two stored
  stored_other s a b c = get_or-set_other two (rest_row k) s rest [] c ∙ get_or-set_other one (held_row k) s held [] b ∙ get_or-set_other j (rights_row k) s rights [] a

  pub slot_whole : Whole (set_slot j k o rights held rest)
  unfolding one two stored
  slot_whole =
      whole-byte stored (place_row k) (place_byte k) o (omega arith)
      (whole_row two (rest_row k) rest (omega arith) (whole_row one (held_row k) held (omega arith) (whole_row j (rights_row k) rights (omega arith) W)))

  -- the slot has what was stored
  pub slot_same : entry_in (set_slot j k o rights held rest) k ≡ record { place = o % object_count; was = object_of rights held rest }
  unfolding one two stored
  slot_same =
      let room = stored-rows in
      let behind : (s : ℕ) → s < place_row k → row_at (set_slot j k o rights held rest) s ≡ row_at stored s =
      λ s l. row_other stored (place_row k) (place_byte k) o (omega (arith, room)) s (λ e. absurd (omega (arith, e, l))) in
      let place : byte_at (row_at (set_slot j k o rights held rest) (place_row k)) (place_byte k) ≡ o =
      byte-same stored (place_row k) (place_byte k) o (omega (arith, room))
      (omega (arith, ap length (stored_other (place_row k) (λ e. absurd (omega (arith, e))) (λ e. absurd (omega (arith, e))) (λ e. absurd (omega (arith, e)))), W.bytes (place_row k) (omega arith) (omega arith))) in
      let first = length-set j (rights_row k) rights in
      let second = length-set one (held_row k) held in
      let a : row_at (set_slot j k o rights held rest) (rights_row k) ≡ rights =
      behind (rights_row k) (omega arith) ∙ get_or-set_other two (rest_row k) (rights_row k) rest [] (λ e. absurd (omega (arith, e)))
      ∙ get_or-set_other one (held_row k) (rights_row k) held [] (λ e. absurd (omega (arith, e))) ∙ get_or-set_same j (rights_row k) rights [] (omega (arith, W.rows)) in
      let b : row_at (set_slot j k o rights held rest) (held_row k) ≡ held =
      behind (held_row k) (omega arith) ∙ get_or-set_other two (rest_row k) (held_row k) rest [] (λ e. absurd (omega (arith, e)))
      ∙ get_or-set_same one (held_row k) held [] (omega (arith, first, W.rows)) in
      let c : row_at (set_slot j k o rights held rest) (rest_row k) ≡ rest =
      behind (rest_row k) (omega arith) ∙ get_or-set_same two (rest_row k) rest [] (omega (arith, first, second, W.rows)) in
      λ i. record { place = place i % object_count; was = object_of (a i) (b i) (c i) }

  -- and another one what it had
  pub slot-other : (s : ℕ) → s < journal_size → s ≢ k → entry_in (set_slot j k o rights held rest) s ≡ entry_in j s
  unfolding one two stored
  slot-other s l apart =
      let room = stored-rows in
      let behind : (r : ℕ) → r < place_row k → r ≢ rights_row k → r ≢ held_row k → r ≢ rest_row k → row_at (set_slot j k o rights held rest) r ≡ row_at j r =
      λ r b x y z. row_other stored (place_row k) (place_byte k) o (omega (arith, room)) r (λ e. absurd (omega (arith, e, b))) ∙ stored_other r x y z in
      let place : byte_at (row_at (set_slot j k o rights held rest) (place_row s)) (place_byte s) ≡ byte_at (row_at j (place_row s)) (place_byte s) =
      byte-other stored (place_row k) (place_byte k) o (omega (arith, room)) (place_row s) (place_byte s) (λ e z. apart (omega (arith, e, z)))
      ∙ ap (λ (row : List ℕ). byte_at row (place_byte s)) (stored_other (place_row s) (λ e. absurd (omega (arith, e, l, h))) (λ e. absurd (omega (arith, e, l, h))) (λ e. absurd (omega (arith, e, l, h)))) in
      let a = behind (rights_row s) (omega arith) (λ e. apart (omega (arith, e))) (λ e. absurd (omega (arith, e))) (λ e. absurd (omega (arith, e))) in
      let b = behind (held_row s) (omega arith) (λ e. absurd (omega (arith, e))) (λ e. apart (omega (arith, e))) (λ e. absurd (omega (arith, e))) in
      let c = behind (rest_row s) (omega arith) (λ e. absurd (omega (arith, e))) (λ e. absurd (omega (arith, e))) (λ e. apart (omega (arith, e))) in
      λ i. record { place = place i % object_count; was = object_of (a i) (b i) (c i) }
