-- Each hypothesis of the theorems is met: by the marked run, by what it leaves, or by the shortest input that meets it.
-- Assumes nothing.
use Prim.Native.Nat.{ℕ, ◌+◌, ◌*◌, ◌<◌, ◌≤◌}
use native.Mathlib.Omega.{arith}
use mathlib.Core.Path.{◌≡◌, refl, sym, ap, ◌∙◌, subst}
use mathlib.Core.Logic.{◌≢◌}
use mathlib.Core.Bool.{true, false}
use mathlib.Core.List.{List, [], ◌∷◌, ◌++◌, map}
use lib.ListN.{length, get_or, take, replicate, length-append, length-replicate}
use Rattle.bits.specs.Bits.{odd, to_bits, from_bits, bytes_to_bits, field, cut, all_zero, Bytes}
use Rattle.bits.specs.Laws.{bytes-bits_to_bytes, length-bits_to_bytes}
use Rattle.model.specs.declared.Profile.{Profile}
use Rattle.model.specs.declared.Monitor.{Monitor}
use Rattle.model.specs.declared.Mode.TheVariants.{Read, Append}
use Rattle.model.specs.declared.Request.TheVariants.{Get, Create, ChangeLevel}
use Rattle.std.specs.Prelude.{Some}
use Rattle.model.specs.declared.Decision.TheVariants.{Granted, NotEnrolled}
use Rattle.model.specs.Tests.{implies, unless}
use Rattle.model.specs.Levels.{compare, level_dominates, dominates, same_label}
use Rattle.model.specs.Modes.{has, add, remove}
use Rattle.model.specs.State.{widest, enrolled, object, held_by}
use Rattle.model.specs.Decisions.{number, refuses}
use Rattle.model.specs.Profiles.{profile_fits, label_inside, absent_beyond, levels_inside}
use Rattle.model.specs.Hierarchy.{meets, without, parent_live, label_under, labels_rise}
use Rattle.model.specs.Requests.{fields, mode_allowed, unused_zero, parent_within, fields_formed, within, well_formed, request, creation, decode_fields, decode, pack, encode, InRange}
use Rattle.model.specs.Companies.{company, compatible, confined}
use Rattle.model.specs.Rules.{target, simple_all, star_pair, star_from, star_for, star_all, not_lowered, changed, already, checks, answer, step, wall_pair, wall_from, wall_for, wall_all}
use Rattle.model.specs.Runs.{respond, reply}
use Rattle.model.specs.Journal.{ask, Act, asks, acted}
use Rattle.model.specs.Layout.{table_size, table_bits, image_size, image_bits, image_of}
use Rattle.model.specs.Reading.{label_from, label_form, table_from, table_form, table_checks, image_checks, monitor_from, begin, read_table, read_image}
use Rattle.model.specs.Buffers.{too_short}
use Rattle.model.specs.Writing.{writing}
use Rattle.model.specs.Beginnings.{table, image, Accepted, left, Reached, AllBytes}
use Rattle.model.proofs.Tests.{clash, cond-false}
use Rattle.model.proofs.Buffers.{room-is}
use Rattle.model.proofs.Packing.{pack-bytes}
use Rattle.invariants.specs.Sound.{Sound}
use Rattle.images.specs.Tables.{table_of, TableFits}
use Rattle.images.proofs.Shapes.{table-shape}
use Rattle.images.proofs.Trips.{image-accepted, image-tells}
use Rattle.images.proofs.Reached.{sound-left, left-profile}
use Rattle.refusals.specs.Causes.{MalformedBytes, not_six_bytes}
use Rattle.runs.specs.Inputs.{SixEach}
use Rattle.runs.specs.MarkedRun.{level, subjects_w, table_w, Row, rows}
use Rattle.runs.proofs.MarkedRun.{marked-run}

-- the byte strings of the marked run
unfoldable pub marked_bytes : List (List ℕ)
marked_bytes = map (λ (r : Row). r.bytes) rows

-- an accepted table, and a reached monitor
pub table-met : Accepted (table widest table_w)
table-met = marked-run.1

pub reached-met : Reached (left (table widest table_w) (map asks marked_bytes))
reached-met = record { beginning = table widest table_w; accepted = table-met; list = map asks marked_bytes; reaches = refl }

-- a sound state, and so one that is well formed
pub sound-met : Sound (left (table widest table_w) (map asks marked_bytes))
sound-met = sound-left (table widest table_w) table-met (map asks marked_bytes)

-- the image of what any list leaves of table W
accepted-at : (qs : List Act) → Accepted (image widest (image_of (left (table widest table_w) qs)))
unfolding read_image begin
accepted-at qs =
    let m = left (table widest table_w) qs in
    subst (λ (p : Profile). image_checks p (image_of m) ≡ Granted) (left-profile (table widest table_w) table-met qs) (image-accepted m (sound-left (table widest table_w) table-met qs))

-- an accepted image, of bytes: that of the monitor which the marked run leaves
pub image-met : Accepted (image widest (image_of (left (table widest table_w) (map asks marked_bytes))))
image-met = accepted-at (map asks marked_bytes)

pub image-bytes-met : (m : Monitor) → Bytes (image_of m)
unfolding image_of
image-bytes-met m = bytes-bits_to_bytes image_size (image_bits m)

-- a buffer that is long enough: the image itself
pub buffer-met : (m : Monitor) → number (writing (image_of m)) ≡ 0
unfolding writing image_of
buffer-met m = ap number (cond-false (too_short image_size (image_of m)) _ Granted (room-is image_size (image_of m) (omega (arith, length-bits_to_bytes image_size (image_bits m)))))

-- the state after the first k requests of the marked run
abbrev pub state_at : ℕ → Monitor
state_at k = left (table widest table_w) (map asks (take k marked_bytes))

-- what the run shows of itself, computed once
pub record Shown : Type 0 where
  -- bytes that say a request, its actor enrolled, its object live, the object live after it too: step 5
  pub says : decode (state_at 4).profile (get_or marked_bytes 4 []) ≡ Some (Get 1 0 Read)
  pub enrolled_there : enrolled (state_at 4) 1 ≡ true
  pub live_there : (object (state_at 4) 0).live ≡ true
  pub live_behind : (object (step (Get 1 0 Read) (state_at 4)).monitor 0).live ≡ true
  -- an object that is not live, and a granted create of it: step 1
  pub not_live_there : (object (state_at 0) 0).live ≡ false
  pub create-granted : checks (Create 1 0 (creation false 0)) (state_at 0) ≡ Granted
  -- a reply under 2 and one that is not: steps 1 and 2
  pub granted_there : reply (get_or marked_bytes 0 []) (state_at 0) ≡ 0
  pub refused-there : reply (get_or marked_bytes 1 []) (state_at 1) ≡ 7
  -- an access that is held, after step 5, and a subject that is not enrolled
  pub held-there : has Read (held_by (object (state_at 5) 0) 1) ≡ true
  pub absent_there : enrolled (state_at 5) 15 ≡ false
  -- gets of a by a subject that holds r on another object: granted at step 8, refused at step 13
  pub first-held : has Read (held_by (object (state_at 7) 0) 1) ≡ true
  pub above_says : decode (state_at 7).profile (get_or marked_bytes 7 []) ≡ Some (Get 1 1 Append)
  pub above_granted : reply (get_or marked_bytes 7 []) (state_at 7) ≡ 0
  pub second_held : has Read (held_by (object (state_at 12) 1) 1) ≡ true
  pub below_says : decode (state_at 12).profile (get_or marked_bytes 12 []) ≡ Some (Get 1 0 Append)
  pub below_refused : reply (get_or marked_bytes 12 []) (state_at 12) ≡ 9
  pub not_above : dominates (object (state_at 12) 0).label (object (state_at 12) 1).label ≡ false

pub shown : Shown
unfolding marked_bytes rows table_w table_from table_form label_form label_from table_checks profile_fits absent_beyond levels_inside label_inside begin read_table all_zero bytes_to_bits to_bits odd cut from_bits field decode decode_fields fields well_formed fields_formed within mode_allowed unused_zero request respond step acted ask checks already changed star_all star_for star_from star_pair wall_all wall_for wall_from wall_pair compatible confined company implies unless answer simple_all has add remove not_lowered same_label dominates level_dominates compare parent_within parent_live label_under labels_rise meets without
shown =
    record {
      says = refl;
      enrolled_there = refl;
      live_there = refl;
      live_behind = refl;
      not_live_there = refl;
      create-granted = refl;
      granted_there = refl;
      refused-there = refl;
      held-there = refl;
      absent_there = refl;
      first-held = refl;
      above_says = refl;
      above_granted = refl;
      second_held = refl;
      below_says = refl;
      below_refused = refl;
      not_above = refl;
    }

-- replies under 2 and from 2 on, as the theorems ask for them
pub granted-met : reply (get_or marked_bytes 0 []) (state_at 0) < 2
granted-met = omega (arith, shown.granted_there)

pub refusal-met : 2 ≤ reply (get_or marked_bytes 1 []) (state_at 1)
refusal-met = omega (arith, shown.refused-there)

-- numbers in range, another object than a request's, a decision that refuses
pub in-range-met : InRange (Get 1 0 Read) × InRange (ChangeLevel 15 63 (level 15 0xFFFF))
in-range-met = ((omega arith, omega arith), (omega arith, omega arith, (omega arith, omega arith)))

pub other-object-met : ◌≢◌ {A = ℕ} 1 (target (Get 1 0 Read))
other-object-met e = absurd (omega (arith, e))

pub refusing-met : refuses NotEnrolled ≡ true
refusing-met = refl

-- two different reached states: before and after the marked run
pub different-met : state_at 0 ≢ left (table widest table_w) (map asks marked_bytes)
unfolding marked_bytes rows table_w table_from table_form label_form label_from table_checks profile_fits absent_beyond levels_inside label_inside begin read_table all_zero bytes_to_bits to_bits odd cut from_bits field decode decode_fields fields well_formed fields_formed within mode_allowed unused_zero request respond step acted ask checks already changed star_all star_for star_from star_pair wall_all wall_for wall_from wall_pair compatible confined company implies unless answer simple_all has add remove not_lowered same_label dominates level_dominates compare parent_within parent_live label_under labels_rise meets without
different-met e = clash (sym (ap (λ (m : Monitor). (object m 0).live) e))

-- a table of bytes, whose clearances fit
pub table-bytes-met : Bytes table_w
unfolding table_of
table-bytes-met = subst Bytes marked-run.0 (bytes-bits_to_bytes table_size (table_bits subjects_w))

pub table-says : table_from table_w ≡ subjects_w
unfolding table_from table_w subjects_w label_from bytes_to_bits to_bits odd cut from_bits
table-says = refl

pub table-fits-met : TableFits subjects_w
table-fits-met = subst TableFits table-says (table-shape table_w)

-- whole requests of bytes, few enough for the program, and a short piece
six-rows : (l : List Row) → SixEach (map (λ (r : Row). encode r.request) l)
unfolding pack
six-rows [] = tt
six-rows (r ∷ l) = (length-bits_to_bytes 6 _, six-rows l)

pub six-met : SixEach marked_bytes × (length marked_bytes ≤ 4096)
unfolding marked_bytes rows
six-met = (subst SixEach marked-run.2 (six-rows rows), omega arith)

rows-bytes : (l : List Row) → AllBytes (map (λ (r : Row). encode r.request) l)
rows-bytes [] = tt
rows-bytes (r ∷ l) = (pack-bytes _, rows-bytes l)

pub bytes-met : AllBytes marked_bytes
unfolding marked_bytes
bytes-met = subst AllBytes marked-run.2 (rows-bytes rows)

pub short-piece-met : (0 < length {A = ℕ} (0x10 ∷ [])) × (length {A = ℕ} (0x10 ∷ []) < 6)
short-piece-met = (omega arith, omega arith)

-- all that the program reads
pub input-met : length (table_w ++ replicate 24576 0) ≡ table_size + 6 * 4096
unfolding table_w
input-met = length-append table_w (replicate 24576 0) ∙ omega (arith, length-replicate {A = ℕ} 24576 0)

-- and two different accepted images, of bytes: those of these two states
pub images-met : Accepted (image widest (image_of (state_at 0))) × (image_of (state_at 0) ≢ image_of (left (table widest table_w) (map asks marked_bytes)))
images-met =
    let before = sound-left (table widest table_w) table-met [] in
    let behind = sound-left (table widest table_w) table-met (map asks marked_bytes) in
    (accepted-at [], λ e. different-met (image-tells _ _ before behind (one [] (map asks marked_bytes)) e))
  where
    one : (qs rs : List Act) → (left (table widest table_w) qs).profile ≡ (left (table widest table_w) rs).profile
    one qs rs = left-profile (table widest table_w) table-met qs ∙ sym (left-profile (table widest table_w) table-met rs)

-- a malformed byte string, a refused table and a refused image: the empty ones
pub malformed-met : MalformedBytes widest []
malformed-met = not_six_bytes (λ e. absurd (omega (arith, e)))

pub refused-met : (refuses (read_table widest []).decision ≡ true) × (refuses (read_image widest []).decision ≡ true)
unfolding read_table read_image begin table_checks image_checks monitor_from profile_fits unless
refused-met = (refl, refl)

-- a buffer that is too short, and room for the requests that tell two images apart
pub short-met : number (writing []) ≡ 13
unfolding writing too_short
short-met = refl
