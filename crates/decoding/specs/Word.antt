-- The fields of a request whose 48 bits were read as one number: each is some bits of it, most significant first.
-- Assumes nothing.
use Rattle.std.specs.Prelude.{ℕ, ◌/◌, ◌%◌, ◌^◌}
use Rattle.model.specs.declared.Fields.{Fields}

-- n bits of a number, with low bits below them
abbrev pub bits_of : ℕ → ℕ → ℕ → ℕ
bits_of word low n = word / 2 ^ low % 2 ^ n

unfoldable pub fields_of_word : ℕ → Fields
fields_of_word word =
    record {
      kind = bits_of word 44 4;
      actor = bits_of word 39 5;
      other = bits_of word 34 5;
      object = bits_of word 27 7;
      mode = bits_of word 24 3;
      class = bits_of word 20 4;
      needs = bits_of word 4 16;
      spare = word % 2 ^ 4;
    }
