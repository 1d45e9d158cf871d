-- What is stored into the rows, and the rows of a whole monitor.
-- Assumes nothing.
use Rattle.std.specs.Prelude.{ℕ, ◌+◌, ◌-◌, ◌*◌, ◌/◌, ◌%◌, ◌<◌, ◌≤◌, ◌≡◌, cond, List, ◌∷◌, length, set, replicate, ltb, Some, None}
use Rattle.bits.specs.Bits.{bit}
use Rattle.model.specs.Levels.{Label}
use Rattle.model.specs.declared.Object.{Object}
use Rattle.model.specs.declared.Profile.{Profile}
use Rattle.model.specs.declared.Monitor.{Monitor}
use Rattle.model.specs.State.{subject_count, object_count, object_at, object, clearance, with_label, with_companies}
use Rattle.unit.specs.declared.rows.LabelBytes.{LabelBytes}
use Rattle.unit.specs.Rows.{Rows, row_count, held_row, rest_row, clearance_row, profile_row, row_at, object_in, tabulate}

-- the bytes of a label: 1, the class and the needs in two bytes; of none four times 0
unfoldable pub label_bytes : Label → LabelBytes
label_bytes None = record { present = 0; class = 0; high = 0; low = 0 }
label_bytes (Some l) = record { present = 1; class = l.class; high = l.needs / 256; low = l.needs % 256 }

-- two bytes, a label, a number in two bytes and one in one byte behind them, and seven bytes 0
unfoldable pub row_of : ℕ → ℕ → Label → ℕ → ℕ → List ℕ
row_of a b l n p =
    a ∷ b ∷ (label_bytes l).present ∷ (label_bytes l).class ∷ (label_bytes l).high ∷ (label_bytes l).low ∷ n / 256 ∷ n % 256 ∷ p ∷ replicate 7 0

-- live and owner before the label of an object, its company numbers and its parent behind it
abbrev pub rest_of : Object → List ℕ
rest_of ob = row_of (bit ob.live) ob.owner ob.label ob.companies ob.parent

-- the row of a clearance
abbrev pub clearance_of : Label → List ℕ
clearance_of l = row_of 0 0 l 0 0

-- the row of a profile
abbrev pub profile_of : Profile → List ℕ
profile_of p = row_of p.subjects p.objects (Some p.highest) 0 0

-- the set of subject s in the row of rights of object o, and in that of the accesses held, becomes n
abbrev pub set_rights : Rows → ℕ → ℕ → ℕ → Rows
set_rights u o s n = set u o (set (row_at u o) s n)

abbrev pub set_held : Rows → ℕ → ℕ → ℕ → Rows
set_held u o s n = set u (held_row o) (set (row_at u (held_row o)) s n)

-- the label of object o becomes l
abbrev pub set_label : Rows → ℕ → Label → Rows
set_label u o l = set u (rest_row o) (rest_of (with_label (object_in u o) l))

-- the company numbers of object o become n
abbrev pub set_companies : Rows → ℕ → ℕ → Rows
set_companies u o n = set u (rest_row o) (rest_of (with_companies (object_in u o) n))

-- the profile becomes another
abbrev pub set_profile : Rows → Profile → Rows
set_profile u p = set u profile_row (profile_of p)

-- the three rows of object o become others
abbrev pub set_rows : Rows → ℕ → List ℕ → List ℕ → List ℕ → Rows
set_rows u o rights held rest = set (set (set u o rights) (held_row o) held) (rest_row o) rest

-- the record of object o becomes another
unfoldable pub set_object : Rows → ℕ → Object → Rows
set_object u o ob = set_rows u o ob.rights ob.held (rest_of ob)

-- row i of a monitor
unfoldable pub monitor_row : Monitor → ℕ → List ℕ
monitor_row m i =
    cond (ltb i object_count) (object m i).rights
    (cond (ltb i (2 * object_count)) (object m (i - object_count)).held
    (cond (ltb i (3 * object_count)) (rest_of (object m (i - 2 * object_count)))
    (cond (ltb i (3 * object_count + subject_count)) (clearance_of (clearance m (i - 3 * object_count)))
    (profile_of m.profile))))

-- the rows of a monitor
unfoldable pub unit_of : Monitor → Rows
unit_of m = tabulate row_count (monitor_row m)

-- ---- rows that are stored part by part

-- the rows of the objects below o have what a list of records has
pub record ObjectsStored (l : List Object) (u : Rows) (o : ℕ) : Type 0 where
  pub bound : o ≤ object_count
  pub whole : length u ≡ row_count
  pub rights : (p : ℕ) → p < o → row_at u p ≡ (object_at l p).rights
  pub held : (p : ℕ) → p < o → row_at u (held_row p) ≡ (object_at l p).held
  pub rest : (p : ℕ) → p < o → row_at u (rest_row p) ≡ rest_of (object_at l p)

-- the clearances are what they were, and what stands behind them, the profile
pub record SameClearances (u w : Rows) : Type 0 where
  pub same : (s : ℕ) → row_at w (clearance_row s) ≡ row_at u (clearance_row s)
