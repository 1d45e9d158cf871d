-- A state with one access added ("adding that access"), what the wall asks of the access added, and a record without its accesses.
-- Assumes nothing.
use Rattle.std.specs.Prelude.{ℕ}
use Rattle.model.specs.declared.Object.{Object}
use Rattle.model.specs.declared.Monitor.{Monitor}
use Rattle.model.specs.declared.Mode.{Mode}
use Rattle.model.specs.Modes.{add}
use Rattle.model.specs.Companies.{WallAsks}
use Rattle.model.specs.State.{no_modes, object, held_by, with_rows, with_held, with_object}
use Rattle.model.specs.Properties.{Holds}

-- the state where subject s holds x on object o too, and all else is as it was
abbrev pub with_access : Monitor → ℕ → ℕ → Mode → Monitor
with_access m s o x = with_object m o (with_held (object m o) s (add x (held_by (object m o) s)))

-- the two rules of the wall (change request §10) are kept by each access that subject s holds and access x to object o
abbrev pub WallByHeld : Monitor → ℕ → ℕ → Mode → Type 0
WallByHeld m s o x = (p : ℕ) (h : Mode) → Holds m s p h → WallAsks h x (object m p).companies (object m o).companies

-- the record of an object as if nobody held an access to it
abbrev pub unheld : Object → Object
unheld ob = with_rows ob ob.rights no_modes
