-- A table of 42 bytes that are 0 but for four.
-- Assumes nothing.
use Rattle.std.specs.Prelude.{ℕ, List, ◌∷◌, replicate}

-- bytes 0, 2, 7 and 10
abbrev pub with_bytes : ℕ → ℕ → ℕ → ℕ → List ℕ
with_bytes a b c d = a ∷ 0 ∷ b ∷ 0 ∷ 0 ∷ 0 ∷ 0 ∷ c ∷ 0 ∷ 0 ∷ d ∷ replicate 31 0
