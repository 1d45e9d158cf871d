-- Site profiles (change request §8) by computation: the marked run under the narrowest profile that it fits in, what is outside of it, and beginnings
-- that are refused by their profile. What the theorems over profiles ask for is met here by a profile that is not the widest.
-- Assumes nothing.
use Prim.Native.Nat.{ℕ}
use native.Mathlib.Omega.{arith}
use mathlib.Core.Path.{◌≡◌, refl, ap, subst}
use mathlib.Core.Logic.{◌≢◌, inl, inr}
use mathlib.Core.Bool.{false}
use mathlib.Core.List.{List, [], ◌∷◌, ◌++◌, map}
use lib.ListN.{take, replicate}
use Rattle.bits.specs.Bits.{odd, to_bits, from_bits, bytes_to_bits, bits_to_bytes, field, cut, all_zero}
use Rattle.model.specs.declared.Profile.{Profile}
use Rattle.model.specs.declared.Monitor.{Monitor}
use Rattle.model.specs.declared.Mode.TheVariants.{Read}
use Rattle.model.specs.declared.Request.{Request}
use Rattle.model.specs.declared.Request.TheVariants.{Get, Give, Create, ChangeLevel, SetCompanies}
use Rattle.model.specs.Tests.{implies, unless}
use Rattle.model.specs.Levels.{need, compare, level_dominates, dominates, same_label}
use Rattle.model.specs.Modes.{has, add, remove}
use Rattle.model.specs.State.{widest}
use Rattle.model.specs.Profiles.{site, profile_fits, label_inside, absent_beyond, levels_inside, Inside}
use Rattle.model.specs.Decisions.{number}
use Rattle.model.specs.Hierarchy.{meets, ends, without, parent_live, parents_hold, label_under, labels_rise}
use Rattle.model.specs.Requests.{fields, mode_allowed, unused_zero, parent_within, fields_formed, within, well_formed, request, creation, decode_fields, decode, pack, encode, InRange, Within}
use Rattle.model.specs.Companies.{company, compatible, confined}
use Rattle.model.specs.Rules.{simple_all, star_pair, star_from, star_for, star_all, not_lowered, changed, already, checks, answer, step, wall_pair, wall_from, wall_for, wall_all}
use Rattle.model.specs.Runs.{respond, reply, replies}
use Rattle.model.specs.Journal.{ask, asks, acted}
use Rattle.model.specs.Layout.{image_of}
use Rattle.model.specs.Reading.{label_from, label_form, table_from, table_form, only_enrolled, within_matrix, held_labelled, table_checks, begin, read_table, read_image, image_checks, monitor_from, image_form, objects_from, objects_form, object_from, object_form}
use Rattle.model.specs.Beginnings.{table, Accepted, left, Reached}
use Rattle.images.specs.Tables.{TableInside}
use Rattle.images.proofs.Images.{table-passed}
use Rattle.images.proofs.Trips.{image-checks-under}
use Rattle.images.proofs.Reached.{sound-left, reached-inside}
use Rattle.refusals.specs.Causes.{ProfileOutside}
use Rattle.runs.specs.MarkedRun.{level, subjects_w, table_w, Row, rows}
use Rattle.runs.proofs.Witnesses.{marked_bytes, table-says}

-- three subjects, two objects, class 3 and needs 0 and 1: what table W and the marked run use
abbrev pub plant : Profile
plant = site 3 2 3 0x0003

-- ---- a reached monitor of a profile that is not the widest

pub site-run : Accepted (table plant table_w)
    × (replies marked_bytes (left (table plant table_w) []) ≡ map (λ (r : Row). r.reply) rows)
unfolding marked_bytes rows table_w table_from table_form label_form label_from table_checks profile_fits absent_beyond levels_inside label_inside begin read_table all_zero bytes_to_bits to_bits odd cut from_bits field decode decode_fields fields well_formed fields_formed within mode_allowed unused_zero request respond step replies acted ask checks already changed star_all star_for star_from star_pair wall_all wall_for wall_from wall_pair compatible confined company implies unless answer simple_all has add remove not_lowered same_label dominates level_dominates compare parent_within parent_live label_under labels_rise meets without
site-run = (refl, refl)

pub site-reached : Reached (left (table plant table_w) (map asks marked_bytes))
site-reached = record { beginning = table plant table_w; accepted = site-run.0; list = map asks marked_bytes; reaches = refl }

pub site-inside : Inside (left (table plant table_w) (map asks marked_bytes))
site-inside = reached-inside _ site-reached

pub site-not-widest : plant ≢ widest
site-not-widest e = absurd (omega (arith, ap (λ (p : Profile). p.subjects) e))

-- a table inside it
pub table-inside-met : TableInside plant subjects_w
unfolding read_table begin
table-inside-met =
    let I = (table-passed plant table_w site-run.0).2.inside in
    subst (TableInside plant) table-says
    (record { fitting_profile = I.fitting_profile; subjects_inside = I.subjects_inside; clearances_inside = I.clearances_inside })

-- a request inside it, and one that is in range and not inside
pub within-met : Within plant (ChangeLevel 2 1 (level 3 0x0003))
    × (InRange (Get 3 0 Read) × (Within plant (Get 3 0 Read) → ⊥))
unfolding need odd
within-met = ((omega arith, omega arith, record { class = omega arith; needs = λ k h e. e }), ((omega arith, omega arith), λ w. absurd (omega (arith, w.0))))

-- ---- "A subject, object, class or need outside it in a request is malformed and gets 2"

-- after step 1: each request with its reply under the profile of the plant, and under the widest profile
abbrev Asked : Type 0
Asked = Request × ℕ × ℕ

pub asked : List Asked
asked =
    -- a subject, who is not enrolled: 2 and not 3; the other subject
    (Get 3 0 Read, 2, 3)
    ∷ (Give 1 3 0 Read, 2, 3)
    -- an object, which is not live: 2 and not 4; a create of it
    ∷ (Get 1 2 Read, 2, 4)
    ∷ (Create 1 2 (creation false 0), 2, 0)
    -- a class, a need, and both at their highest
    ∷ (ChangeLevel 1 0 (level 4 0x0000), 2, 0)
    ∷ (ChangeLevel 1 0 (level 0 0x0004), 2, 0)
    ∷ (ChangeLevel 1 0 (level 3 0x0003), 0, 0)
    -- kind 8: a subject, an object, and company numbers, which are "not bounded by the profile" (change request §10)
    ∷ (SetCompanies 3 0 0x0000, 2, 3)
    ∷ (SetCompanies 1 2 0x0000, 2, 4)
    ∷ (SetCompanies 1 0 0xFFFF, 0, 0)
    -- the last subject in use, whose number is beyond the objects, as actor and as the other subject; the last object in use
    ∷ (Get 2 0 Read, 6, 6)
    ∷ (Give 1 2 0 Read, 0, 0)
    ∷ (Create 2 1 (creation false 0), 0, 0)
    ∷ []

abbrev first : Profile → Monitor
first p = left (table p table_w) (map asks (take 1 marked_bytes))

pub outside-gets-2 : (map (λ (a : Asked). reply (encode a.0) (first plant)) asked ≡ map (λ (a : Asked). a.1) asked)
    × (map (λ (a : Asked). reply (encode a.0) (first widest)) asked ≡ map (λ (a : Asked). a.2) asked)
unfolding asked marked_bytes rows table_w bits_to_bytes pack table_from table_form label_form label_from table_checks profile_fits absent_beyond levels_inside label_inside begin read_table all_zero bytes_to_bits to_bits odd cut from_bits field decode decode_fields fields well_formed fields_formed within mode_allowed unused_zero request respond step acted ask checks already changed star_all star_for star_from star_pair wall_all wall_for wall_from wall_pair compatible confined company implies unless answer simple_all has add remove not_lowered same_label dominates level_dominates compare parent_within parent_live label_under labels_rise meets without
outside-gets-2 = (refl, refl)

-- ---- "16, a profile outside these ranges, before anything else is read, or a table .. with a clearance .. outside its profile, checked directly
-- after 11"

-- a profile, a table, and the number that is returned
abbrev Begun : Type 0
Begun = Profile × List ℕ × ℕ

pub begun-tables : List Begun
begun-tables =
    (plant, table_w, 0)
    -- each range, below and above, also where the length is another
    ∷ (site 0 2 3 0x0003, table_w, 16)
    ∷ (site 17 2 3 0x0003, table_w, 16)
    ∷ (site 3 0 3 0x0003, table_w, 16)
    ∷ (site 3 65 3 0x0003, table_w, 16)
    ∷ (site 3 2 16 0x0003, table_w, 16)
    ∷ (site 0 2 3 0x0003, [], 16)
    ∷ (plant, take 41 table_w, 10)
    -- subject 2 is beyond the profile: 11, and also where a clearance is outside too
    ∷ (site 2 2 3 0x0003, table_w, 11)
    ∷ (site 2 2 2 0x0003, table_w, 11)
    -- the class and the needs of subject 1
    ∷ (site 3 2 2 0x0003, table_w, 16)
    ∷ (site 3 2 3 0x0001, table_w, 16)
    ∷ (site 3 2 3 0x0002, table_w, 16)
    -- the widest ranges
    ∷ (site 16 64 15 0xFFFF, table_w, 0)
    ∷ []

pub tables-by-profile : map (λ (t : Begun). number (read_table t.0 t.1).decision) begun-tables ≡ map (λ (t : Begun). t.2) begun-tables
unfolding begun-tables table_w table_from table_form label_form label_from table_checks profile_fits absent_beyond levels_inside label_inside begin read_table all_zero bytes_to_bits to_bits odd cut from_bits unless
tables-by-profile = refl

-- ---- images: that of the marked run under other profiles than its own, and one whose label alone is outside

abbrev labelled : Monitor
labelled = left (table widest table_w) (map (λ (q : Request). asks (encode q)) (Create 1 0 (creation false 0) ∷ ChangeLevel 1 0 (level 4 0x0003) ∷ []))

abbrev imaged : Monitor
imaged = left (table plant table_w) (map asks marked_bytes)

-- object 1 is beyond: 11; the clearance of subject 1 is outside: 16; a wider profile than that of its monitor accepts it too
pub images-by-profile : (number (read_image plant (image_of imaged)).decision ≡ 0)
    × (number (read_image (site 3 1 3 0x0003) (image_of imaged)).decision ≡ 11)
    × (number (read_image (site 3 2 2 0x0003) (image_of imaged)).decision ≡ 16)
    × (number (read_image widest (image_of imaged)).decision ≡ 0)
    × (number (read_image plant (image_of labelled)).decision ≡ 16)
unfolding read_image begin marked_bytes rows table_w bits_to_bytes pack table_from table_form label_form label_from table_checks profile_fits absent_beyond levels_inside label_inside read_table only_enrolled within_matrix held_labelled all_zero bytes_to_bits to_bits odd cut from_bits field decode decode_fields fields well_formed fields_formed within mode_allowed unused_zero request respond step acted ask checks already changed star_all star_for star_from star_pair wall_all wall_for wall_from wall_pair compatible confined company implies unless answer simple_all has add remove not_lowered same_label dominates level_dominates compare parent_within parent_live label_under labels_rise meets without parents_hold ends
images-by-profile =
    let S = sound-left (table plant table_w) site-run.0 (map asks marked_bytes) in
    let L = sound-left (table widest table_w) refl (map (λ (q : Request). asks (encode q)) (Create 1 0 (creation false 0) ∷ ChangeLevel 1 0 (level 4 0x0003) ∷ [])) in (
      ap number (image-checks-under imaged S plant _ refl),
      ap number (image-checks-under imaged S (site 3 1 3 0x0003) _ refl),
      ap number (image-checks-under imaged S (site 3 2 2 0x0003) _ refl),
      ap number (image-checks-under imaged S widest _ refl),
      ap number (image-checks-under labelled L plant _ refl),
    )

-- subject 0 alone is enrolled and in use; the record of object 0, which it owns, has r for subject 1: 12, and not 11
-- 1 0000, no label, no company, 1110 0000, 1000 0000, then zeros
pub right_beyond : List ℕ
right_beyond = 0x80 ∷ (replicate 41 0 ++ (0x80 ∷ 0x00 ∷ 0x00 ∷ 0x00 ∷ 0x00 ∷ 0x38 ∷ 0x20 ∷ replicate 1409 0))

pub right-beyond-gets-12 : number (read_image (site 1 1 0 0x0000) right_beyond).decision ≡ 12
unfolding right_beyond read_image begin image_checks monitor_from image_form table_from table_form objects_from objects_form object_from object_form label_form label_from profile_fits absent_beyond levels_inside label_inside only_enrolled all_zero bytes_to_bits to_bits odd cut from_bits implies unless parents_hold ends parent_live label_under labels_rise
right-beyond-gets-12 = refl

-- a profile outside its ranges
pub profile-outside-met : ProfileOutside (site 0 2 3 0x0003) × ProfileOutside (site 3 2 16 0x0003)
profile-outside-met = (inl (omega arith), inr (inr (inr (inr (omega arith)))))
