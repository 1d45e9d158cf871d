-- `image_records::read_objects` meets its contract.
-- Assumes nothing.
use Prim.Native.Nat.{◌≤◌}
use mathlib.Core.Path.{◌≡◌}
use Rattle.bits.specs.Bits.{bytes_to_bits, cut}
use Rattle.model.specs.Tests.{all_of}
use Rattle.model.specs.State.{object_count}
use Rattle.model.specs.Layout.{object_width}
use Rattle.model.specs.Reading.{object_form, objects_from}
use Rattle.unit.specs.Stored.{ObjectsStored, SameClearances}
use Rattle.image_records.proofs.read_objects.Given as goal

abbrev pub invariant-loop-o : goal.invariant-loop-o
invariant-loop-o l = (l.o ≤ object_count) × ObjectsStored (objects_from l.bytes) l.unit l.o × SameClearances l.initial.unit l.unit × (l.formed ≡ all_of object_form (cut l.o object_width (bytes_to_bits l.bytes)))
