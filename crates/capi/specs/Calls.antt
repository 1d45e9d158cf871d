-- `circmon_request` called once for each byte string of a list, in their order, on one buffer.
-- Assumes nothing.
use Rattle.std.specs.Prelude.{ℕ, List, [], ◌∷◌}
use Rattle.capi.specs.Boundary.{request_number, request_bytes}

-- the numbers that the calls return
unfoldable pub numbers : List (List ℕ) → List ℕ → List ℕ
numbers [] buffer = []
numbers (b ∷ bs) buffer = request_number buffer b ∷ numbers bs (request_bytes buffer b)

-- what the buffer holds after the last of them
unfoldable pub bytes_left : List (List ℕ) → List ℕ → List ℕ
bytes_left [] buffer = buffer
bytes_left (b ∷ bs) buffer = bytes_left bs (request_bytes buffer b)
