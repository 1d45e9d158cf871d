-- A parent as a record has it, "number plus one or 0", as the number of an object.
-- Assumes nothing.
use Rattle.std.specs.Prelude.{ℕ, zero, suc, Option, Some, None}

abbrev pub numbered : ℕ → Option ℕ
numbered zero = None
numbered (suc p) = Some p
