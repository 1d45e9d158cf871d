-- What is read of the rows is what the monitor has that they say.
-- Assumes nothing.
use Prim.Native.Nat.{ℕ, ◌<◌}
use mathlib.Core.Path.{◌≡◌, sym, ap, ◌∙◌}
use mathlib.Core.List.{List}
use lib.Dec.{eqb}
use Rattle.model.specs.declared.Subject.{Subject}
use Rattle.model.specs.declared.Object.{Object}
use Rattle.model.specs.Levels.{present}
use Rattle.model.specs.State.{nobody, no_object, clearance, enrolled, object, rights_of, held_by}
use Rattle.model.specs.Rules.{owns}
use Rattle.model.proofs.Tests.{split}
use Rattle.unit.specs.Rows.{Rows, held_row, rest_row, clearance_row, row_at, byte_at, label_in, companies_in, parent_in, object_of, object_in, subject_in, state_in}
use Rattle.unit.proofs.Tabulated.{tabulate-at}

module _ (u : Rows) (o : ℕ) (h : o < 64) where
  pub read-object : object_in u o ≡ object (state_in u) o
  read-object = sym (tabulate-at 64 (object_in u) o no_object h)

  pub read_live : eqb (byte_at (row_at u (rest_row o)) 0) 1 ≡ (object (state_in u) o).live
  unfolding object_of
  read_live = ap (λ (x : Object). x.live) read-object

  pub read-owner : (s : ℕ) → eqb (byte_at (row_at u (rest_row o)) 1) s ≡ owns s (object (state_in u) o)
  unfolding object_of
  read-owner s = ap (owns s) read-object

  pub read-owner-byte : byte_at (row_at u (rest_row o)) 1 ≡ (object (state_in u) o).owner
  unfolding object_of
  read-owner-byte = ap (λ (x : Object). x.owner) read-object

  pub read-label : label_in (row_at u (rest_row o)) ≡ (object (state_in u) o).label
  unfolding object_of
  read-label = ap (λ (x : Object). x.label) read-object

  pub read-companies : companies_in (row_at u (rest_row o)) ≡ (object (state_in u) o).companies
  unfolding object_of
  read-companies = ap (λ (x : Object). x.companies) read-object

  pub read-parent : parent_in (row_at u (rest_row o)) ≡ (object (state_in u) o).parent
  unfolding object_of
  read-parent = ap (λ (x : Object). x.parent) read-object

  pub read-rights : (s : ℕ) → byte_at (row_at u o) s ≡ rights_of (object (state_in u) o) s
  unfolding object_of
  read-rights s = ap (λ (x : Object). rights_of x s) read-object

  pub read-held-row : row_at u (held_row o) ≡ (object (state_in u) o).held
  unfolding object_of
  read-held-row = ap (λ (x : Object). x.held) read-object

  pub read_held : (s : ℕ) → byte_at (row_at u (held_row o)) s ≡ held_by (object (state_in u) o) s
  unfolding object_of
  read_held s = ap (λ (x : Object). held_by x s) read-object

present-in : (row : List ℕ) → eqb (byte_at row 2) 1 ≡ present (label_in row)
unfolding label_in
present-in row = split (eqb (byte_at row 2) 1) (λ e. rw e) (λ e. rw e)

module _ (u : Rows) (s : ℕ) (h : s < 16) where
  pub read-clearance : label_in (row_at u (clearance_row s)) ≡ clearance (state_in u) s
  read-clearance = sym (ap (λ (x : Subject). x.clearance) (tabulate-at 16 (subject_in u) s nobody h))

  pub read-enrolled : eqb (byte_at (row_at u (clearance_row s)) 2) 1 ≡ enrolled (state_in u) s
  read-enrolled = present-in (row_at u (clearance_row s)) ∙ ap present read-clearance

-- what a function reads of the rows, for the tactics
pub ruleset readings = (read_live, read-owner, read-owner-byte, read-label, read-companies, read-parent, read-rights, read-held-row, read_held, read-clearance, read-enrolled)
