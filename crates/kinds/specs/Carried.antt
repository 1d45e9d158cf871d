-- What a request stores into the rows of a unit, and the rows that it leaves.
-- Assumes nothing.
use Rattle.std.specs.Prelude.{ℕ, ◌≡◌, cond, Some}
use Rattle.model.specs.declared.Request.{Request}
use Rattle.model.specs.declared.Request.TheVariants.{Get, Release, Give, Rescind, Create, Delete, ChangeLevel, SetCompanies}
use Rattle.model.specs.Modes.{add, remove}
use Rattle.model.specs.State.{object, rights_of, held_by}
use Rattle.model.specs.Decisions.{number, refuses}
use Rattle.model.specs.Rules.{created, step}
use Rattle.unit.specs.Rows.{Rows, state_in}
use Rattle.unit.specs.Stored.{set_rights, set_held, set_label, set_companies, set_object}
use Rattle.hierarchy.specs.Removed.{removed}

-- what a granted request stores: one set, in rescind two, in create a record, in change of level a label, in kind 8 company numbers; a
-- deletion takes everything below the object with it
unfoldable pub stores : Request → Rows → Rows
stores (Get s o x) u = set_held u o s (add x (held_by (object (state_in u) o) s))
stores (Release s o x) u = set_held u o s (remove x (held_by (object (state_in u) o) s))
stores (Give s t o x) u = set_rights u o t (add x (rights_of (object (state_in u) o) t))
stores (Rescind s t o x) u = set_held (set_rights u o t (remove x (rights_of (object (state_in u) o) t))) o t (remove x (held_by (object (state_in u) o) t))
stores (Create s o c) u = set_object u o (created s c)
stores (Delete s o) u = removed u o
stores (ChangeLevel s o l) u = set_label u o (Some l)
stores (SetCompanies s o n) u = set_companies u o n

-- a refusal leaves "the whole state", and every byte of the unit
unfoldable pub carried : Request → Rows → Rows
carried q u = cond (refuses (step q (state_in u)).decision) u (stores q u)

-- a request carried out: r is the number of the rule's answer, w the rows after it
pub record Does (q : Request) (u w : Rows) (r : ℕ) : Type 0 where
  pub answers : r ≡ number (step q (state_in u)).decision
  pub leaves : w ≡ carried q u
