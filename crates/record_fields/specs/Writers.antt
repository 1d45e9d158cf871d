-- What a writer of bits is to the stream in its buffer.
-- Assumes nothing.
use Rattle.std.specs.Prelude.{◌≡◌, ℕ, ◌+◌, ◌*◌, ◌≤◌, Bool, List, length}
use Rattle.bits.specs.Stream.{Appends}
use Rattle.model.specs.Layout.{image_size}
use Rattle.record_fields.specs.declared.BitWriter.{BitWriter}

-- at the first bit of a buffer with these bytes
abbrev pub Begun : BitWriter → List ℕ → Type 0
Begun w s = (w.out.now ≡ s) × (w.at ≡ 0) × (w.waiting ≡ 0)

-- as many bits have room in an image
abbrev pub Room : BitWriter → ℕ → Type 0
Room w n = (w.at + n ≤ 8 * image_size) × (image_size ≤ length w.out.now)

-- from one writer to the next the bits were appended
abbrev pub Wrote : BitWriter → List Bool → BitWriter → Type 0
Wrote w b v = Appends w.out.now w.at w.waiting b v.out.now v.at v.waiting
