-- What the functions for C and Rust on images return and leave in the lent buffer, under the widest profile.
-- Assumes nothing.
use Rattle.std.specs.Prelude.{ℕ, ◌+◌, cond, List}
use Rattle.model.specs.State.{widest}
use Rattle.model.specs.Decisions.{number, refuses}
use Rattle.model.specs.Runs.{respond, reply}
use Rattle.model.specs.Reading.{read_table, read_image}
use Rattle.model.specs.Writing.{writing, written}

-- the number of reading the table, or that of writing the image of the monitor begun
unfoldable pub begin_number : List ℕ → List ℕ → ℕ
begin_number table buffer = cond (refuses (read_table widest table).decision) (number (read_table widest table).decision) (number (writing buffer))

-- a refused table leaves every byte
unfoldable pub begin_bytes : List ℕ → List ℕ → List ℕ
begin_bytes table buffer = cond (refuses (read_table widest table).decision) buffer (written (read_table widest table).monitor buffer)

-- 128 and the number of a refused image, or the reply
unfoldable pub request_number : List ℕ → List ℕ → ℕ
request_number buffer bytes = cond (refuses (read_image widest buffer).decision) (128 + number (read_image widest buffer).decision) (reply bytes (read_image widest buffer).monitor)

-- a refused image leaves every byte, else the image of the state after the request
unfoldable pub request_bytes : List ℕ → List ℕ → List ℕ
request_bytes buffer bytes = cond (refuses (read_image widest buffer).decision) buffer (written (respond bytes (read_image widest buffer).monitor).monitor buffer)
