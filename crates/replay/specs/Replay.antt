-- One reply byte for each piece of six bytes, from a monitor begun from a table.
-- Assumes nothing.
use Rattle.std.specs.Prelude.{ℕ, cond, List, length, ltb}
use Rattle.model.specs.declared.Decision.{Decision}
use Rattle.model.specs.declared.Decision.TheVariants.{Granted, ShortBuffer}
use Rattle.model.specs.Decisions.{refuses}
use Rattle.model.specs.Runs.{replies}
use Rattle.model.specs.State.{widest}
use Rattle.model.specs.Reading.{read_table}
use Rattle.model.specs.Buffers.{front}
use Rattle.model.specs.Program.{pieces, piece_count}

-- the number of reading the table, then 13 where there is no room for a reply to each piece, else 0
unfoldable pub replay_answer : List ℕ → List ℕ → ℕ → Decision
replay_answer table requests room =
    cond (refuses (read_table widest table).decision) (read_table widest table).decision
    (cond (ltb room (piece_count (length requests))) ShortBuffer Granted)

-- a refusal leaves every byte; else the replies, and every later byte left
unfoldable pub replayed : List ℕ → List ℕ → List ℕ → List ℕ
replayed table requests out =
    cond (refuses (replay_answer table requests (length out))) out
    (front (piece_count (length requests)) (replies (pieces requests) (read_table widest table).monitor) out)
