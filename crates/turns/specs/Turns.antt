-- The pieces of a row of requests that have room for a reply.
-- Assumes nothing.
use Rattle.std.specs.Prelude.{ℕ, List, take}
use Rattle.model.specs.Program.{pieces}

-- as many as there is room for
abbrev pub turns : List ℕ → ℕ → List (List ℕ)
turns requests room = take room (pieces requests)
