-- A request leaves every byte without a meaning 0, where it was so.
-- Assumes nothing.
use mathlib.Core.Path.{◌≡◌, ◌∙◌}
use lib.ListN.{length, length-set}
use Rattle.std.specs.Prelude.{Some}
use Rattle.model.specs.declared.Request.{Request}
use Rattle.model.specs.declared.Request.TheVariants.{Get, Release, Give, Rescind, Create, Delete, ChangeLevel, SetCompanies}
use Rattle.model.specs.Decisions.{refuses}
use Rattle.model.specs.Requests.{InRange}
use Rattle.model.specs.Rules.{created, step}
use Rattle.model.proofs.Tests.{cond-all}
use Rattle.unit.specs.Rows.{Rows, row_count, state_in}
use Rattle.unit.specs.Stored.{set_rights}
use Rattle.unit.proofs.Plain.{Plain, rights-plain, held_plain, label-plain, companies-plain, object-plain}
use Rattle.hierarchy.proofs.Deleted.{removed-plain}
use Rattle.kinds.specs.Carried.{stores, carried}

stores-plain : (q : Request) (u : Rows) → length u ≡ row_count → InRange q → Plain u → Plain (stores q u)
unfolding stores
stores-plain (Get s o x) u n r F = held_plain u n F o r.1 s _
stores-plain (Release s o x) u n r F = held_plain u n F o r.1 s _
stores-plain (Give s t o x) u n r F = rights-plain u n F o r.2 t _
stores-plain (Rescind s t o x) u n r F = held_plain (set_rights u o t _) (length-set u o _ ∙ n) (rights-plain u n F o r.2 t _) o r.2 t _
stores-plain (Create s o c) u n r F = object-plain u n F o r.1 (created s c)
stores-plain (Delete s o) u n r F = removed-plain u n o r.1 F
stores-plain (ChangeLevel s o l) u n r F = label-plain u n F o r.1 (Some l)
stores-plain (SetCompanies s o k) u n r F = companies-plain u n F o r.1 k

pub carried-plain : (q : Request) (u : Rows) → length u ≡ row_count → InRange q → Plain u → Plain (carried q u)
unfolding carried
carried-plain q u n r F = cond-all Plain (refuses (step q (state_in u)).decision) u (stores q u) (λ e. F) (λ e. stores-plain q u n r F)
