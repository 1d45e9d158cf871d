-- "Four properties make a state secure", and the wall of change request §10 beside them, over all subjects, objects and modes.
-- Assumes nothing.
use Rattle.std.specs.Prelude.{ℕ, ◌≡◌, true}
use Rattle.model.specs.declared.Monitor.{Monitor}
use Rattle.model.specs.declared.Mode.{Mode}
use Rattle.model.specs.Levels.{Dominates, present}
use Rattle.model.specs.Modes.{has, observes, alters, needs_label}
use Rattle.model.specs.Companies.{Compatible, Confined}
use Rattle.model.specs.State.{clearance, object, rights_of, held_by}

-- subject s holds access x on object o
abbrev pub Holds : Monitor → ℕ → ℕ → Mode → Type 0
Holds m s o x = has x (held_by (object m o) s) ≡ true

-- the matrix has x for subject s at object o
abbrev pub Permits : Monitor → ℕ → ℕ → Mode → Type 0
Permits m s o x = has x (rights_of (object m o) s) ≡ true

-- "an access held is in the matrix"
abbrev pub Discretionary : Monitor → Type 0
Discretionary m = (s o : ℕ) (x : Mode) → Holds m s o x → Permits m s o x

-- "r, w or a is held only on a labelled object"
abbrev pub Labelled : Monitor → Type 0
Labelled m = (s o : ℕ) (x : Mode) → Holds m s o x → needs_label x ≡ true → present (object m o).label ≡ true

-- "who holds r or w on an object has a clearance that dominates its label"
abbrev pub Simple : Monitor → Type 0
Simple m = (s o : ℕ) (x : Mode) → Holds m s o x → observes x ≡ true → Dominates (clearance m s) (object m o).label

-- "where one subject holds r or w on P and a or w on Q, the label of Q dominates the label of P"
abbrev pub Star : Monitor → Type 0
Star m =
    (s p q : ℕ) (x y : Mode) → Holds m s p x → observes x ≡ true → Holds m s q y → alters y ≡ true
    → Dominates (object m q).label (object m p).label

-- the wall (change request §10), of two rules
pub record Wall (m : Monitor) : Type 0 where
  -- "For any two accesses held by one subject, each class has a 0 or equal numbers"
  pub compatible : (s p q : ℕ) (x y : Mode) → Holds m s p x → Holds m s q y → Compatible (object m p).companies (object m q).companies
  -- "Where it holds r or w on P and a or w on Q, each nonzero number of P equals that of Q"
  pub confined : (s p q : ℕ) (x y : Mode) → Holds m s p x → observes x ≡ true → Holds m s q y → alters y ≡ true
      → Confined (object m p).companies (object m q).companies

-- "Four properties make a state secure"; "The security that replies and images keep includes the wall" (change request §10): these and
-- nothing else
pub record Secure (m : Monitor) : Type 0 where
  pub discretionary : Discretionary m
  pub labelled : Labelled m
  pub simple : Simple m
  pub star : Star m
  pub wall : Wall m
