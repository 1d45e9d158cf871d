-- Writing the image into a lent buffer of any length.
-- Assumes nothing.
use Rattle.std.specs.Prelude.{ℕ, cond, List}
use Rattle.model.specs.declared.Monitor.{Monitor}
use Rattle.model.specs.declared.Decision.{Decision}
use Rattle.model.specs.declared.Decision.TheVariants.{Granted, ShortBuffer}
use Rattle.model.specs.Layout.{image_size, image_of}
use Rattle.model.specs.Buffers.{too_short, filled}

-- "13", where the buffer is "under the image's size", which is 1,458 bytes (change request §11), or "a writing returns 0"
unfoldable pub writing : List ℕ → Decision
writing buffer = cond (too_short image_size buffer) ShortBuffer Granted

-- 13 leaves "every byte of it"; else writing fills the first 1,458 bytes "of the lent buffer and leaves any later byte"
unfoldable pub written : Monitor → List ℕ → List ℕ
written m buffer = filled image_size image_size (image_of m) buffer
