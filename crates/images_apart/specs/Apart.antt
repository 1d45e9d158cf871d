-- What is returned and left in the lent buffer where two images are told apart under one profile.
-- Assumes nothing.
use Rattle.std.specs.Prelude.{ℕ, ◌+◌, cond, List}
use Rattle.model.specs.declared.Profile.{Profile}
use Rattle.model.specs.Decisions.{number, refuses}
use Rattle.model.specs.Reading.{read_image}
use Rattle.distinguish.specs.Telling.{told_number, told_bytes}

-- 128 and the number of a refused first image, 192 and that of a refused second one, or the number of requests, or 13
unfoldable pub distinguish_number : Profile → List ℕ → List ℕ → List ℕ → ℕ
distinguish_number p a b buffer =
    cond (refuses (read_image p a).decision) (128 + number (read_image p a).decision)
    (cond (refuses (read_image p b).decision) (192 + number (read_image p b).decision)
    (told_number (read_image p a).monitor (read_image p b).monitor buffer))

-- a refused image leaves every byte, else the requests that tell the two states apart
unfoldable pub distinguish_bytes : Profile → List ℕ → List ℕ → List ℕ → List ℕ
distinguish_bytes p a b buffer =
    cond (refuses (read_image p a).decision) buffer
    (cond (refuses (read_image p b).decision) buffer
    (told_bytes (read_image p a).monitor (read_image p b).monitor buffer))
