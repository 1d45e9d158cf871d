-- The bytes of a request as the code makes them: the fields as one number, and its bytes.
-- Assumes nothing.
use Rattle.std.specs.Prelude.{ℕ, zero, suc, ◌+◌, ◌*◌, ◌/◌, ◌%◌, ◌^◌, List, [], ◌∷◌}
use Rattle.model.specs.declared.Fields.{Fields}

-- the fields of a request without a level
abbrev pub without_level : ℕ → ℕ → ℕ → ℕ → ℕ → Fields
without_level kind s t o mode = record { kind = kind; actor = s; other = t; object = o; mode = mode; class = 0; needs = 0; spare = 0 }

-- w bits of x behind a number
abbrev pub behind : ℕ → ℕ → ℕ → ℕ
behind high w x = high * 2 ^ w + x % 2 ^ w

-- the 48 bits of a request as one number
unfoldable pub word_of : Fields → ℕ
word_of f =
    behind (behind (behind (behind (behind (behind (behind (f.kind % 2 ^ 4) 5 f.actor) 5 f.other) 7 f.object) 3 f.mode) 4 f.class) 16 f.needs) 4 f.spare

-- the n low bytes of a number, the highest first
unfoldable pub word_bytes : ℕ → ℕ → List ℕ
word_bytes zero word = []
word_bytes (suc n) word = word / 2 ^ (8 * n) % 256 ∷ word_bytes n word
