-- "Marked run": table W, and its sixteen rows with the request in words, its bytes and its reply.
-- Assumes nothing.
use Rattle.std.specs.Prelude.{ℕ, true, false, List, [], ◌∷◌, replicate, Some}
use Rattle.model.specs.declared.Level.{Level}
use Rattle.model.specs.declared.Subject.{Subject}
use Rattle.model.specs.declared.Mode.TheVariants.{Read, Append, Execute}
use Rattle.model.specs.declared.Request.{Request}
use Rattle.model.specs.declared.Request.TheVariants.{Get, Release, Give, Create, ChangeLevel}
use Rattle.model.specs.State.{nobody}
use Rattle.model.specs.Requests.{creation}

abbrev pub level : ℕ → ℕ → Level
level class needs = record { class = class; needs = needs }

-- "subject 0 has (1, 0001), subject 1 (3, 0003), subject 2 (0, 0000)"
unfoldable pub subjects_w : List Subject
subjects_w =
    record { clearance = Some (level 1 0x0001) }
    ∷ record { clearance = Some (level 3 0x0003) }
    ∷ record { clearance = Some (level 0 0x0000) }
    ∷ replicate 13 nobody

-- "it is 88 00 0C C0 00 E0 and 36 zero bytes"
unfoldable pub table_w : List ℕ
table_w = 0x88 ∷ 0x00 ∷ 0x0C ∷ 0xC0 ∷ 0x00 ∷ 0xE0 ∷ replicate 36 0

pub record Row : Type 0 where
  pub request : Request
  pub bytes : List ℕ
  pub reply : ℕ

abbrev pub row : Request → ℕ → ℕ → ℕ → ℕ → ℕ → ℕ → ℕ → Row
row q a b c d e f n = record { request = q; bytes = a ∷ b ∷ c ∷ d ∷ e ∷ f ∷ []; reply = n }

-- "From W, in this order (s subject, o object)"
unfoldable pub rows : List Row
rows =
    -- 1 s1 creates o0, mode 0: 0; "Step 1 is 50 80 00 00 00 00"
    row (Create 1 0 (creation false 0)) 0x50 0x80 0x00 0x00 0x00 0x00 0
    -- 2 s1 get r o0: 7
    ∷ row (Get 1 0 Read) 0x10 0x80 0x01 0x00 0x00 0x00 7
    -- 3 s1 changes o0 to (0, 0000): 0; "step 3 is 70 80 00 00 00 00"
    ∷ row (ChangeLevel 1 0 (level 0 0x0000)) 0x70 0x80 0x00 0x00 0x00 0x00 0
    -- 4 the same: 1
    ∷ row (ChangeLevel 1 0 (level 0 0x0000)) 0x70 0x80 0x00 0x00 0x00 0x00 1
    -- 5 s1 get r o0: 0
    ∷ row (Get 1 0 Read) 0x10 0x80 0x01 0x00 0x00 0x00 0
    -- 6 s1 creates o1, mode 4: 0
    ∷ row (Create 1 1 (creation true 0)) 0x50 0x80 0x0C 0x00 0x00 0x00 0
    -- 7 s1 changes o1 to (2, 0001): 0; "step 7 is 70 80 08 20 00 10"
    ∷ row (ChangeLevel 1 1 (level 2 0x0001)) 0x70 0x80 0x08 0x20 0x00 0x10 0
    -- 8 s1 get a o1: 0
    ∷ row (Get 1 1 Append) 0x10 0x80 0x0B 0x00 0x00 0x00 0
    -- 9 s1 changes o0 to (3, 0003): 9
    ∷ row (ChangeLevel 1 0 (level 3 0x0003)) 0x70 0x80 0x00 0x30 0x00 0x30 9
    -- 10 s1 gives s0 r on o1: 0
    ∷ row (Give 1 0 1 Read) 0x30 0x80 0x09 0x00 0x00 0x00 0
    -- 11 s0 get r o1: 8
    ∷ row (Get 0 1 Read) 0x10 0x00 0x09 0x00 0x00 0x00 8
    -- 12 s1 get r o1: 0
    ∷ row (Get 1 1 Read) 0x10 0x80 0x09 0x00 0x00 0x00 0
    -- 13 s1 get a o0: 9
    ∷ row (Get 1 0 Append) 0x10 0x80 0x03 0x00 0x00 0x00 9
    -- 14 s1 get e o0: 6
    ∷ row (Get 1 0 Execute) 0x10 0x80 0x04 0x00 0x00 0x00 6
    -- 15 s1 releases a on o1: 0
    ∷ row (Release 1 1 Append) 0x20 0x80 0x0B 0x00 0x00 0x00 0
    -- 16 the same: 1
    ∷ row (Release 1 1 Append) 0x20 0x80 0x0B 0x00 0x00 0x00 1
    ∷ []
