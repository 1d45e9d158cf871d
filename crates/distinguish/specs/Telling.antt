-- What is returned and left in the lent buffer where two states are told apart.
-- Assumes nothing.
use Rattle.std.specs.Prelude.{ℕ, ◌*◌, cond, List, map, length}
use Rattle.bits.specs.Bits.{join}
use Rattle.model.specs.declared.Monitor.{Monitor}
use Rattle.model.specs.declared.Request.{Request}
use Rattle.model.specs.declared.Decision.TheVariants.{ShortBuffer}
use Rattle.model.specs.Decisions.{number}
use Rattle.model.specs.Requests.{request_size, encode}
use Rattle.model.specs.Buffers.{too_short, filled}
use Rattle.telling.specs.Distinguish.{distinguish}

-- the bytes of requests, one behind the other
unfoldable pub bytes_of : List Request → List ℕ
bytes_of qs = join (map encode qs)

-- the room for four requests
abbrev pub room_of_four : ℕ
room_of_four = 4 * request_size

-- 13, or the number of requests
unfoldable pub told_number : Monitor → Monitor → List ℕ → ℕ
told_number m n buffer = cond (too_short room_of_four buffer) (number ShortBuffer) (length (distinguish m n))

-- 13 leaves every byte; else the requests stand in the first bytes, and all later ones are left
unfoldable pub told_bytes : Monitor → Monitor → List ℕ → List ℕ
told_bytes m n buffer = filled room_of_four (request_size * length (distinguish m n)) (bytes_of (distinguish m n)) buffer
