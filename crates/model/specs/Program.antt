-- The program `circmon`: from the bytes on standard input to the bytes on standard output.
-- Assumes nothing.
use Rattle.std.specs.Prelude.{ℕ, ◌+◌, ◌*◌, ◌/◌, cond, List, [], ◌∷◌, ◌++◌, map, length, take, drop, ltb}
use Rattle.bits.specs.Bits.{cut, join}
use Rattle.model.specs.declared.Response.{Response}
use Rattle.model.specs.State.{widest}
use Rattle.model.specs.Decisions.{number, refuses}
use Rattle.model.specs.Requests.{request_size}
use Rattle.model.specs.Runs.{replies}
use Rattle.model.specs.Layout.{table_size}
use Rattle.model.specs.Reading.{read_table}
use Rattle.model.specs.Buffers.{digit, two_digits}

-- "at most 4,096 six-byte requests"
abbrev pub most_requests : ℕ
most_requests = 4096

-- six-byte pieces, "a last short piece" among them: how many there are, and which
abbrev pub piece_count : ℕ → ℕ
piece_count bytes = (bytes + 5) / request_size

unfoldable pub pieces : List ℕ → List (List ℕ)
pieces b = cut (piece_count (length b)) request_size b

-- "one line for each request, the reply in decimal": digits, then a newline
unfoldable pub line : ℕ → List ℕ
line n = cond (ltb n 10) (digit n ∷ 10 ∷ []) (two_digits n ++ (10 ∷ []))

-- the replies to the requests in a row, or what the table's reader answered
unfoldable pub lines_after : Response → List ℕ → List ℕ
lines_after r requests =
    cond (refuses r.decision) (line (number r.decision))
    (join (map line (replies (pieces requests) r.monitor)))

-- "reads from standard input 42 bytes of table, then at most 4,096 six-byte requests, with bytes after these unread"; "`circmon` runs under the
-- widest" profile
unfoldable pub program : List ℕ → List ℕ
program input = lines_after (read_table widest (take table_size input)) (take (request_size * most_requests) (drop table_size input))
