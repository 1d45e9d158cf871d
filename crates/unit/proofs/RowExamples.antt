-- The rows of a monitor worked out by hand from docs/FORMATS.md, byte by byte, and contents that no monitor has.
-- Assumes nothing.
use Prim.Native.Nat.{ℕ}
use mathlib.Core.Path.{◌≡◌, refl}
use mathlib.Core.Bool.{false}
use mathlib.Core.List.{[], ◌∷◌, ◌++◌}
use lib.ListN.{replicate}
use Rattle.model.specs.Levels.{Label}
use Rattle.std.specs.Prelude.{Some, None}
use Rattle.model.specs.declared.Object.{Object}
use Rattle.model.specs.declared.Monitor.{Monitor}
use Rattle.model.specs.State.{no_modes, no_object, nobody, fresh, with_owner, with_label, with_companies, with_parent, with_rows, with_object}
use Rattle.unit.specs.Rows.{Rows, label_in, profile_in, object_of, tabulate, state_in}
use Rattle.unit.specs.Stored.{label_bytes, row_of, monitor_row, unit_of}

abbrev level : ℕ → ℕ → Label
level class needs = Some (record { class = class; needs = needs })

-- object 2: live, owned by subject 5, labelled (9, 1234), with the companies 5, 0, 12 and 3; subject 0 has r and w and holds r, 5 has all and holds w, 15 has a and e and holds e; object 63 is its parent
abbrev trace : Object
trace =
    with_rows (with_parent (with_companies (with_label (with_owner no_object 5) (level 9 0x1234)) 0x50C3) 64)
    (12 ∷ 0 ∷ 0 ∷ 0 ∷ 0 ∷ 15 ∷ 0 ∷ 0 ∷ 0 ∷ 0 ∷ 0 ∷ 0 ∷ 0 ∷ 0 ∷ 0 ∷ 3 ∷ [])
    (8 ∷ 0 ∷ 0 ∷ 0 ∷ 0 ∷ 4 ∷ 0 ∷ 0 ∷ 0 ∷ 0 ∷ 0 ∷ 0 ∷ 0 ∷ 0 ∷ 0 ∷ 1 ∷ [])

-- every subject and object is in use, every class and some needs; subjects 0, 5 and 15 are enrolled; object 2 has the record above, object 63 is
-- live without a label
abbrev pub example : Monitor
example =
    with_object (with_object (fresh (record { subjects = 16; objects = 64; highest = record { class = 15; needs = 0xFF34 } })
    (record { clearance = level 15 0xFF34 }
    ∷ (replicate 4 nobody
    ++ (record { clearance = level 9 0x1234 }
    ∷ (replicate 9 nobody
    ++ (record { clearance = level 0 0x0000 }
    ∷ [])))))) 2 trace) 63 (with_owner no_object 15)

-- rows 0 to 63: rights; 64 to 127: accesses held; 128 to 191: live, owner, 1 where there is a label, its class, its needs with the high
-- byte first, the company numbers of the first two classes, those of the last two, the parent's number plus one; 192 to 207: the same of the clearances, from byte 2 on; 208: the subjects and the objects in use, 1, the highest class, the needs
-- in use; "Every other byte is 0"
abbrev example_rows : Rows
example_rows =
    replicate 2 no_modes
    ++ ((12 ∷ 0 ∷ 0 ∷ 0 ∷ 0 ∷ 15 ∷ 0 ∷ 0 ∷ 0 ∷ 0 ∷ 0 ∷ 0 ∷ 0 ∷ 0 ∷ 0 ∷ 3 ∷ [])
    ∷ replicate 61 no_modes
    ++ (replicate 2 no_modes
    ++ ((8 ∷ 0 ∷ 0 ∷ 0 ∷ 0 ∷ 4 ∷ 0 ∷ 0 ∷ 0 ∷ 0 ∷ 0 ∷ 0 ∷ 0 ∷ 0 ∷ 0 ∷ 1 ∷ [])
    ∷ replicate 61 no_modes
    ++ (replicate 2 no_modes
    ++ ((1 ∷ 5 ∷ 1 ∷ 9 ∷ 0x12 ∷ 0x34 ∷ 0x50 ∷ 0xC3 ∷ 64 ∷ 0 ∷ 0 ∷ 0 ∷ 0 ∷ 0 ∷ 0 ∷ 0 ∷ [])
    ∷ replicate 60 no_modes
    ++ ((1 ∷ 15 ∷ 0 ∷ 0 ∷ 0 ∷ 0 ∷ 0 ∷ 0 ∷ 0 ∷ 0 ∷ 0 ∷ 0 ∷ 0 ∷ 0 ∷ 0 ∷ 0 ∷ [])
    ∷ (0 ∷ 0 ∷ 1 ∷ 15 ∷ 0xFF ∷ 0x34 ∷ 0 ∷ 0 ∷ 0 ∷ 0 ∷ 0 ∷ 0 ∷ 0 ∷ 0 ∷ 0 ∷ 0 ∷ [])
    ∷ replicate 4 no_modes
    ++ ((0 ∷ 0 ∷ 1 ∷ 9 ∷ 0x12 ∷ 0x34 ∷ 0 ∷ 0 ∷ 0 ∷ 0 ∷ 0 ∷ 0 ∷ 0 ∷ 0 ∷ 0 ∷ 0 ∷ [])
    ∷ replicate 9 no_modes
    ++ ((0 ∷ 0 ∷ 1 ∷ 0 ∷ 0 ∷ 0 ∷ 0 ∷ 0 ∷ 0 ∷ 0 ∷ 0 ∷ 0 ∷ 0 ∷ 0 ∷ 0 ∷ 0 ∷ [])
    ∷ (16 ∷ 64 ∷ 1 ∷ 15 ∷ 0xFF ∷ 0x34 ∷ 0 ∷ 0 ∷ 0 ∷ 0 ∷ 0 ∷ 0 ∷ 0 ∷ 0 ∷ 0 ∷ 0 ∷ [])
    ∷ []))))))))

-- every byte of the unit
pub rows-stored : unit_of example ≡ example_rows
unfolding unit_of monitor_row tabulate row_of label_bytes
rows-stored = refl

-- and what they say
pub rows-read : state_in example_rows ≡ example
unfolding tabulate object_of label_in profile_in
rows-read = refl

-- "so where the byte is 1 and in no other case": 2 is neither live nor a label; "the bytes without a meaning are not looked at"; "a number
-- is what its byte is"
pub other-contents : (object_of no_modes no_modes (2 ∷ 5 ∷ 2 ∷ 9 ∷ 0x12 ∷ 0x34 ∷ 0x50 ∷ 0xC3 ∷ 200 ∷ replicate 7 9) ≡ record { live = false; owner = 5; label = None; companies = 0x50C3; rights = no_modes; held = no_modes; parent = 200 })
    × (label_in (0 ∷ 0 ∷ 255 ∷ 9 ∷ 0x12 ∷ 0x34 ∷ replicate 10 0) ≡ None)
    × (label_in (7 ∷ 8 ∷ 1 ∷ 200 ∷ 0x12 ∷ 0x34 ∷ replicate 10 9) ≡ level 200 0x1234)
    × (profile_in (200 ∷ 0 ∷ 7 ∷ 99 ∷ 0x12 ∷ 0x34 ∷ replicate 10 9) ≡ record { subjects = 200; objects = 0; highest = record { class = 99; needs = 0x1234 } })
unfolding object_of label_in profile_in
other-contents = (refl, refl, refl, refl)
