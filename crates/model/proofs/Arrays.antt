-- The objects of a monitor as an array: what the logic of the code reads of it.
-- Assumes nothing.
use Prim.Native.Nat.{ℕ, ◌<◌}
use native.Mathlib.Omega.{arith}
use mathlib.Core.Path.{◌≡◌}
use mathlib.Core.Bool.{false}
use mathlib.Core.List.{List, []}
use lib.ListN.{length, get_or}
use Rattle.std.specs.Prelude.{None}
use Rattle.model.specs.declared.Object.{Object}
use Rattle.model.specs.State.{no_object, object_at}
use Rattle.model.proofs.Tests.{any-default}

-- what it reads past the end of the array: the default of the logic for each field, so it is written out and not made from `no_object`
abbrev pub blank : Object
blank = record { live = false; owner = 0; label = None; companies = 0; rights = []; held = []; parent = 0 }

-- before its end the array has the object's record
pub read-object : (l : List Object) (o : ℕ) → length l ≡ 64 → o < 64 → get_or l o blank ≡ object_at l o
read-object l o e h = any-default l o blank no_object (omega (arith, e))
