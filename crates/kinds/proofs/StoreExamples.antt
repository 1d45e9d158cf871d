-- What one request of each kind stores, in every byte: the rows of a monitor become the rows of the monitor after it, so the bytes without a
-- meaning stay 0.
-- Assumes nothing.
use mathlib.Core.Path.{◌≡◌, refl}
use Prim.Native.Nat.{ℕ}
use mathlib.Core.Bool.{true, false}
use mathlib.Core.List.{[], ◌∷◌, map}
use Rattle.model.specs.declared.Mode.TheVariants.{Write, Append, Execute}
use Rattle.model.specs.declared.Request.TheVariants.{Get, Release, Give, Rescind, Create, Delete, ChangeLevel, SetCompanies}
use Rattle.model.specs.Modes.{has, add, remove}
use Rattle.model.specs.State.{object_at}
use Rattle.model.specs.Hierarchy.{meets, without}
use Rattle.model.specs.Requests.{creation}
use Rattle.model.specs.Rules.{changed, afterwards}
use Rattle.unit.specs.Rows.{label_in, object_of, tabulate, objects_in}
use Rattle.unit.specs.Stored.{label_bytes, row_of, set_object, monitor_row, unit_of}
use Rattle.unit.proofs.RowExamples.{example}
use Rattle.hierarchy.specs.Removed.{removed}
use Rattle.kinds.specs.Carried.{stores}

-- subject 5 owns object 2, on which it holds w; subject 15 has a and e there and holds e, and owns object 63
pub sets-in-rows : (stores (Get 5 2 Append) (unit_of example) ≡ unit_of (afterwards (Get 5 2 Append) example))
    × (stores (Release 5 2 Write) (unit_of example) ≡ unit_of (afterwards (Release 5 2 Write) example))
    × (stores (Give 5 0 2 Append) (unit_of example) ≡ unit_of (afterwards (Give 5 0 2 Append) example))
    × (stores (Rescind 5 15 2 Execute) (unit_of example) ≡ unit_of (afterwards (Rescind 5 15 2 Execute) example))
unfolding stores changed add remove has unit_of monitor_row tabulate object_of label_in label_bytes row_of
sets-in-rows = (refl, refl, refl, refl)

pub records-in-rows : (stores (Create 0 1 (creation false 0)) (unit_of example) ≡ unit_of (afterwards (Create 0 1 (creation false 0)) example))
    × (stores (Create 0 1 (creation true 3)) (unit_of example) ≡ unit_of (afterwards (Create 0 1 (creation true 3)) example))
    × (stores (ChangeLevel 15 63 (record { class = 7; needs = 0x0102 })) (unit_of example) ≡ unit_of (afterwards (ChangeLevel 15 63 (record { class = 7; needs = 0x0102 })) example))
    × (stores (SetCompanies 15 63 0x1203) (unit_of example) ≡ unit_of (afterwards (SetCompanies 15 63 0x1203) example))
    × (stores (ChangeLevel 5 2 (record { class = 9; needs = 0x1335 })) (unit_of example) ≡ unit_of (afterwards (ChangeLevel 5 2 (record { class = 9; needs = 0x1335 })) example))
unfolding stores changed unit_of monitor_row tabulate object_of label_in label_bytes row_of set_object
records-in-rows = (refl, refl, refl, refl, refl)

-- object 63 is the parent of object 2, which goes with it
pub deletions-in-rows : (stores (Delete 5 2) (unit_of example) ≡ unit_of (afterwards (Delete 5 2) example))
    × (stores (Delete 15 63) (unit_of example) ≡ unit_of (afterwards (Delete 15 63) example))
    × (map (λ (o : ℕ). (object_at (objects_in (stores (Delete 15 63) (unit_of example))) o).live) (2 ∷ 63 ∷ []) ≡ (false ∷ false ∷ []))
    × (map (λ (o : ℕ). (object_at (objects_in (stores (Delete 5 2) (unit_of example))) o).live) (2 ∷ 63 ∷ []) ≡ (false ∷ true ∷ []))
unfolding stores removed meets without changed unit_of monitor_row tabulate object_of label_in label_bytes row_of
deletions-in-rows = (refl, refl, refl, refl)
