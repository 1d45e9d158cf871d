-- Round trips, as the readers and the writer return them.
-- Assumes nothing.
use Prim.Native.Nat.{ℕ, ◌<◌, ◌≤◌}
use native.Mathlib.Omega.{arith}
use mathlib.Core.Path.{◌≡◌, sym, ap, ◌∙◌}
use mathlib.Core.Logic.{◌↔◌}
use mathlib.Core.List.{List, ◌++◌}
use lib.ListN.{length, take, drop}
use Rattle.bits.specs.Bits.{Bytes}
use Rattle.bits.specs.Laws.{length-bits_to_bytes}
use Rattle.model.specs.declared.Subject.{Subject}
use Rattle.model.specs.declared.Profile.{Profile}
use Rattle.model.specs.declared.Monitor.{Monitor}
use Rattle.model.specs.declared.Decision.{Decision}
use Rattle.model.specs.declared.Decision.TheVariants.{Granted, ShortBuffer}
use Rattle.model.specs.State.{empty_monitor, fresh}
use Rattle.model.specs.Decisions.{number, refuses}
use Rattle.model.specs.Layout.{image_size, image_bits, image_of}
use Rattle.model.specs.Reading.{table_checks, image_checks, table_from, monitor_from, begin, read_table, read_image}
use Rattle.model.specs.Buffers.{too_short}
use Rattle.model.specs.Writing.{writing, written}
use Rattle.model.specs.Beginnings.{image, table, Accepted, Reached}
use Rattle.model.proofs.Tests.{split, cond-true, cond-false}
use Rattle.model.proofs.Buffers.{short-is, room-is, is-short, has_room, filled-short, filled-front, filled-later, filled-length}
use Rattle.invariants.specs.Sound.{Sound}
use Rattle.images.specs.Tables.{table_of, TableFits, TableInside}
use Rattle.images.proofs.Trips.{image-read-back, image-accepted, image-bytes-back, table-accepted, table-read-back, table-bytes-back}
use Rattle.images.proofs.Reached.{sound-reached, fills}

-- what a reader returns where nothing refuses
begin-granted : (d : Decision) (m n : Monitor) → d ≡ Granted → m ≡ n → begin d m ≡ record { decision = Granted; monitor = n }
unfolding begin
begin-granted d m n e p = ap (λ (k : Decision). begin k m) e ∙ (λ i. record { decision = Granted; monitor = p i })

-- the image of a sound state reads back to it, under its profile
pub image-reads : (m : Monitor) → Sound m → read_image m.profile (image_of m) ≡ record { decision = Granted; monitor = m }
unfolding read_image
image-reads m S = begin-granted (image_checks m.profile (image_of m)) (monitor_from m.profile (image_of m)) m (image-accepted m S) (image-read-back m S)

-- "Reading a written image gives back its monitor"; "reading back a written image under the profile of its monitor" (change request §8)
pub read-written : (m : Monitor) → Reached m → (buffer : List ℕ) → number (writing buffer) ≡ 0
    → read_image m.profile (take image_size (written m buffer)) ≡ record { decision = Granted; monitor = m }
read-written m R buffer e = ap (read_image m.profile) (fills m buffer e) ∙ image-reads m (sound-reached m R)

-- "writing from an accepted image gives back its bytes", under whatever profile it was accepted
pub write_read : (p : Profile) (b : List ℕ) → Bytes b → Accepted (image p b) → (buffer : List ℕ) → number (writing buffer) ≡ 0
    → take image_size (written (read_image p b).monitor buffer) ≡ b
unfolding read_image begin
write_read p b hb e buffer w =
    fills (read_image p b).monitor buffer w ∙ ap image_of (cond-false (refuses (image_checks p b)) empty_monitor (monitor_from p b) (ap refuses e)) ∙ image-bytes-back p b hb e

-- ---- the lent buffer, by its number and its length

-- "buffer under the image's size": 13
pub write-13-exactly : (buffer : List ℕ) → (number (writing buffer) ≡ 13) ↔ (length buffer < image_size)
unfolding writing
write-13-exactly buffer = (
  λ e. split (too_short image_size buffer) (is-short image_size buffer)
      (λ w. absurd (omega (arith, sym e ∙ ap number (cond-false (too_short image_size buffer) ShortBuffer Granted w)))),
  λ h. ap number (cond-true (too_short image_size buffer) ShortBuffer Granted (short-is image_size buffer h)),
)

-- else "a writing returns 0"
pub write-0-exactly : (buffer : List ℕ) → (number (writing buffer) ≡ 0) ↔ (image_size ≤ length buffer)
unfolding writing
write-0-exactly buffer = (
  λ e. split (too_short image_size buffer)
      (λ w. absurd (omega (arith, sym e ∙ ap number (cond-true (too_short image_size buffer) ShortBuffer Granted w))))
      (has_room image_size buffer),
  λ h. ap number (cond-false (too_short image_size buffer) ShortBuffer Granted (room-is image_size buffer h)),
)

-- 13 leaves "every byte of it"
pub write-13-leaves : (m : Monitor) (buffer : List ℕ) → length buffer < image_size → written m buffer ≡ buffer
unfolding written
write-13-leaves m buffer h = filled-short image_size image_size (image_of m) buffer h

-- 0 fills the first 1,458 bytes of the lent buffer "and leaves any later byte", and there are as many bytes as before
pub write-0-fills : (m : Monitor) (buffer : List ℕ) → image_size ≤ length buffer → written m buffer ≡ image_of m ++ drop image_size buffer
unfolding written
write-0-fills m buffer h = filled-front image_size image_size (image_of m) buffer h

pub image-length : (m : Monitor) → length (image_of m) ≡ image_size
unfolding image_of
image-length m = length-bits_to_bytes image_size (image_bits m)

pub write-keeps-length : (m : Monitor) (buffer : List ℕ) → length (written m buffer) ≡ length buffer
unfolding written
write-keeps-length m buffer = filled-length image_size image_size (image_of m) buffer (image-length m) (omega arith)

-- later bytes are left, whatever the number
pub write-leaves : (m : Monitor) (buffer : List ℕ) → drop image_size (written m buffer) ≡ drop image_size buffer
unfolding written
write-leaves m buffer = filled-later image_size image_size (image_of m) buffer (image-length m)

-- the same for tables
pub read-written-table : (p : Profile) (l : List Subject) → TableFits l → TableInside p l
    → read_table p (table_of l) ≡ record { decision = Granted; monitor = fresh p l }
unfolding read_table
read-written-table p l T I =
    begin-granted (table_checks p (table_of l)) (fresh p (table_from (table_of l))) (fresh p l) (table-accepted l T p I) (ap (fresh p) (table-read-back l T))

pub write-read-table : (p : Profile) (b : List ℕ) → Bytes b → Accepted (table p b) → table_of (read_table p b).monitor.subjects ≡ b
unfolding read_table begin
write-read-table p b hb e =
    ap (λ (m : Monitor). table_of m.subjects) (cond-false (refuses (table_checks p b)) empty_monitor (fresh p (table_from b)) (ap refuses e)) ∙ table-bytes-back p b hb e
