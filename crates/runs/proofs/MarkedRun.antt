-- The marked run, one statement over its sixteen rows, by computation from the bytes.
-- Assumes nothing.
use mathlib.Core.Path.{◌≡◌, refl}
use mathlib.Core.List.{[], ◌∷◌, ◌++◌, map}
use lib.ListN.{replicate}
use Rattle.bits.specs.Bits.{odd, to_bits, from_bits, bytes_to_bits, bits_to_bytes, field, cut, join, all_zero}
use Rattle.model.specs.Tests.{implies, unless}
use Rattle.model.specs.Levels.{compare, level_dominates, dominates, same_label}
use Rattle.model.specs.Modes.{has, add, remove}
use Rattle.model.specs.State.{widest}
use Rattle.model.specs.Profiles.{profile_fits, label_inside, absent_beyond, levels_inside}
use Rattle.model.specs.Hierarchy.{meets, without, parent_live, label_under, labels_rise}
use Rattle.model.specs.Requests.{fields, mode_allowed, unused_zero, parent_within, fields_formed, within, well_formed, request, decode_fields, decode, pack, encode}
use Rattle.model.specs.Companies.{company, compatible, confined}
use Rattle.model.specs.Rules.{simple_all, star_pair, star_from, star_for, star_all, not_lowered, changed, already, checks, answer, step, wall_pair, wall_from, wall_for, wall_all}
use Rattle.model.specs.Runs.{respond, replies}
use Rattle.model.specs.Journal.{ask, asks, acted}
use Rattle.model.specs.Layout.{label_bits, sets_bits, object_bits, image_bits, image_of}
use Rattle.model.specs.Reading.{label_from, label_form, table_from, table_form, table_checks, begin, read_table}
use Rattle.model.specs.Beginnings.{table, Accepted, left}
use Rattle.images.specs.Tables.{table_of}
use Rattle.runs.specs.MarkedRun.{subjects_w, table_w, Row, rows}

-- W is the table of its three subjects and is accepted; each row's bytes are its request, packed; the replies are the run's
pub marked-run : (table_of subjects_w ≡ table_w)
    × Accepted (table widest table_w)
    × (map (λ (r : Row). encode r.request) rows ≡ map (λ (r : Row). r.bytes) rows)
    × (replies (map (λ (r : Row). r.bytes) rows) (left (table widest table_w) []) ≡ map (λ (r : Row). r.reply) rows)
unfolding rows table_w subjects_w table_of label_bits join bits_to_bytes pack table_from table_form label_form label_from table_checks profile_fits absent_beyond levels_inside label_inside begin read_table all_zero bytes_to_bits to_bits odd cut from_bits field decode decode_fields fields well_formed fields_formed within mode_allowed unused_zero request respond step replies acted ask checks already changed star_all star_for star_from star_pair wall_all wall_for wall_from wall_pair compatible confined company implies unless answer simple_all has add remove not_lowered same_label dominates level_dominates compare parent_within parent_live label_under labels_rise meets without
marked-run = (refl, refl, refl, refl)

-- the image that the run leaves, by its bytes: W, then the two objects that are live, then 62 that are not.
-- o0 is owned by s1 and labelled (0, 0000); s1 has r, w, a and holds r: 1 0001 1 0000 0000000000000000, no company, 0000 0000, 1110 1000, then zeros.
-- o1 is owned by s1 and labelled (2, 0001); s0 has r, s1 has all and holds r: 1 0001 1 0010 0000000000000001, no company, 1000 0000, 1111 1000, then zeros
pub marked-image : image_of (left (table widest table_w) (map (λ (r : Row). asks r.bytes) rows))
    ≡ table_w
    ++ (0x8C ∷ 0x00 ∷ 0x00 ∷ 0x00 ∷ 0x00 ∷ 0x00 ∷ 0x3A ∷ (replicate 15 0
    ++ (0x46 ∷ 0x40 ∷ 0x00 ∷ 0x20 ∷ 0x00 ∷ 0x10 ∷ 0x1F ∷ 0x00 ∷ replicate 1386 0)))
unfolding rows table_w label_bits sets_bits object_bits image_bits image_of join bits_to_bytes table_from table_form label_form label_from table_checks profile_fits absent_beyond levels_inside label_inside begin read_table all_zero bytes_to_bits to_bits odd cut from_bits field decode decode_fields fields well_formed fields_formed within mode_allowed unused_zero request respond step replies acted ask checks already changed star_all star_for star_from star_pair wall_all wall_for wall_from wall_pair compatible confined company implies unless answer simple_all has add remove not_lowered same_label dominates level_dominates compare parent_within parent_live label_under labels_rise meets without
marked-image = refl
