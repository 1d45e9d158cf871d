-- The unit that a request without a level leaves, from the numbers of its fields, and the fields of a change of level.
-- Assumes nothing.
use Rattle.std.specs.Prelude.{ℕ}
use Rattle.model.specs.declared.Fields.{Fields}
use Rattle.model.specs.Requests.{pack}
use Rattle.encoding.specs.Word.{without_level}
use Rattle.unit.specs.Rows.{Rows}
use Rattle.asking.specs.Asked.{asked}

-- kind, actor, other subject, object, mode; class, needs and spare are 0
unfoldable pub left : ℕ → ℕ → ℕ → ℕ → ℕ → Rows → Rows
left kind s t o mode u = asked (pack (without_level kind s t o mode)) u

-- a change of level by subject 0, on object 0
abbrev pub change_to : ℕ → ℕ → Fields
change_to class needs = record { kind = 7; actor = 0; other = 0; object = 0; mode = 0; class = class; needs = needs; spare = 0 }
