-- What is reached: the states that accepted beginnings and lists of requests and takings-back leave. Requests alone reach them too, and each is
-- well formed, secure and inside the profile under which it was begun.
-- Assumes nothing.
use Prim.Native.Nat.{ℕ, ◌<◌}
use native.Mathlib.Omega.{arith}
use mathlib.Core.Path.{◌≡◌, refl, sym, ap, ◌∙◌, subst}
use mathlib.Core.Bool.{true}
use mathlib.Core.List.{List, ◌++◌, map}
use lib.ListN.{take}
use Rattle.bits.specs.Laws.{length-bits_to_bytes}
use Rattle.model.specs.declared.Level.{Level}
use Rattle.std.specs.Prelude.{Some}
use Rattle.model.specs.declared.Profile.{Profile}
use Rattle.model.specs.declared.Monitor.{Monitor}
use Rattle.model.specs.declared.Request.{Request}
use Rattle.model.specs.Requests.{Decoded, decode}
use Rattle.model.specs.declared.Decision.TheVariants.{Granted, ShortBuffer}
use Rattle.model.specs.State.{widest, empty_monitor, clearance, enrolled, object}
use Rattle.model.specs.Profiles.{ProfileFits, LevelInside, LabelInside, Inside}
use Rattle.model.specs.Decisions.{number, refuses}
use Rattle.model.specs.Rules.{step}
use Rattle.model.specs.Runs.{carry_out, respond, after}
use Rattle.model.specs.Journal.{Journaled, without_entries, Act, asks}
use Rattle.model.specs.Layout.{image_size, image_bits, image_of}
use Rattle.model.specs.Reading.{table_checks, image_checks, monitor_from, begin, read_table, read_image}
use Rattle.model.specs.Buffers.{too_short}
use Rattle.model.specs.Writing.{writing, written}
use Rattle.model.specs.Beginnings.{Beginning, table, image, begun, Accepted, left_with, left, Reached}
use Rattle.model.proofs.Tests.{split, cond-true, cond-false}
use Rattle.model.proofs.Buffers.{has_room, filled-front, front-new}
use Rattle.invariants.specs.Sound.{Sound}
use Rattle.invariants.specs.TakingBack.{ByRequests}
use Rattle.invariants.proofs.TakingBack.{asked-after, acted-append}
use Rattle.invariants.proofs.RequestsAlone.{by-requests-sound, by-requests-profile, requests-alone}
use Rattle.images.specs.Tables.{beginning_profile}
use Rattle.images.proofs.Images.{table-passed, image-passed}

-- what an accepted table or image and any list leave is reached
pub reached-left : (b : Beginning) → Accepted b → (l : List Act) → Reached (left b l)
reached-left b e l = record { beginning = b; accepted = e; list = l; reaches = refl }

-- requests behind a list leave what they leave of its monitor
pub left-more : (b : Beginning) (l : List Act) (qs : List (List ℕ)) → left b (l ++ map asks qs) ≡ after qs (left b l)
left-more b l qs =
    ap (λ (j : Journaled). j.monitor) (acted-append l (map asks qs) (without_entries (begun b).monitor)) ∙ asked-after qs (left_with b l)

-- so what any list of requests leaves of a reached monitor is reached
pub reached-after : (m : Monitor) → Reached m → (qs : List (List ℕ)) → Reached (after qs m)
reached-after m R qs =
    subst Reached (left-more R.beginning R.list qs ∙ ap (after qs) R.reaches) (reached-left R.beginning R.accepted (R.list ++ map asks qs))

-- "A monitor reached by takings-back counts with those reached by requests" (change request §9): it is one of them
pub left-by-requests : (b : Beginning) (l : List Act) → ByRequests (begun b).monitor (left b l)
left-by-requests b l = requests-alone l (begun b).monitor

pub reached-by-requests : (m : Monitor) (R : Reached m) → ByRequests (begun R.beginning).monitor m
reached-by-requests m R = subst (ByRequests (begun R.beginning).monitor) R.reaches (left-by-requests R.beginning R.list)

-- ---- what a reader accepts

-- an accepted beginning is sound
pub sound-begun : (b : Beginning) → Accepted b → Sound (begun b).monitor
unfolding read_table read_image begin
sound-begun (table p b) e = subst Sound (sym (cond-false (refuses (table_checks p b)) _ _ (ap refuses e))) (table-passed p b e).2
sound-begun (image p b) e = subst Sound (sym (cond-false (refuses (image_checks p b)) _ _ (ap refuses e))) (image-passed p b e).2

pub sound-left : (b : Beginning) → Accepted b → (l : List Act) → Sound (left b l)
sound-left b e l = by-requests-sound (begun b).monitor (left b l) (left-by-requests b l) (sound-begun b e)

pub sound-reached : (m : Monitor) → Reached m → Sound m
sound-reached m r = subst Sound r.reaches (sound-left r.beginning r.accepted r.list)

-- ---- the profile of what is reached

-- an accepted beginning has the profile under which it is read, and no request or taking-back changes that
pub begun-profile : (b : Beginning) → Accepted b → (begun b).monitor.profile ≡ beginning_profile b
unfolding read_table read_image begin monitor_from
begun-profile (table p b) e = ap (λ (m : Monitor). m.profile) (cond-false (refuses (table_checks p b)) _ _ (ap refuses e))
begun-profile (image p b) e = ap (λ (m : Monitor). m.profile) (cond-false (refuses (image_checks p b)) _ _ (ap refuses e))

pub left-profile : (b : Beginning) → Accepted b → (l : List Act) → (left b l).profile ≡ beginning_profile b
left-profile b e l = by-requests-profile (begun b).monitor (left b l) (left-by-requests b l) ∙ begun-profile b e

pub reached-profile : (m : Monitor) (R : Reached m) → m.profile ≡ beginning_profile R.beginning
reached-profile m R = ap (λ (n : Monitor). n.profile) (sym R.reaches) ∙ left-profile R.beginning R.accepted R.list

-- "the empty monitor that a refusal returns has it": the widest profile
pub refused-widest : (b : Beginning) → refuses (begun b).decision ≡ true → ((begun b).monitor ≡ empty_monitor) × ((begun b).monitor.profile ≡ widest)
unfolding read_table read_image begin
refused-widest (table p b) e = let w = cond-true (refuses (table_checks p b)) empty_monitor _ e in (w, ap (λ (m : Monitor). m.profile) w)
refused-widest (image p b) e = let w = cond-true (refuses (image_checks p b)) empty_monitor _ e in (w, ap (λ (m : Monitor). m.profile) w)

-- a reached monitor is inside its profile
pub reached-inside : (m : Monitor) → Reached m → Inside m
reached-inside m R = (sound-reached m R).inside

-- the same in words: every enrolled subject, live object, clearance and label of what any list leaves is inside the profile of the beginning,
-- and that profile is in its ranges
pub left-inside : (b : Beginning) → Accepted b → (k : List Act) → ProfileFits (beginning_profile b)
    × ((s : ℕ) → enrolled (left b k) s ≡ true → s < (beginning_profile b).subjects)
    × ((o : ℕ) → (object (left b k) o).live ≡ true → o < (beginning_profile b).objects)
    × ((s : ℕ) (l : Level) → clearance (left b k) s ≡ Some l → LevelInside (beginning_profile b) l)
    × ((o : ℕ) (l : Level) → (object (left b k) o).label ≡ Some l → LevelInside (beginning_profile b) l)
left-inside b e k =
    let I = (sound-left b e k).inside in
    let p = left-profile b e k in (
      subst ProfileFits p I.fitting_profile,
      λ s h. subst (λ (q : Profile). s < q.subjects) p (I.subjects_inside s h),
      λ o h. subst (λ (q : Profile). o < q.objects) p (I.objects_inside o h),
      λ s l h. subst (λ (q : Profile). LevelInside q l) p (subst (LabelInside (left b k).profile) h (I.clearances_inside s)),
      λ o l h. subst (λ (q : Profile). LevelInside q l) p (subst (LabelInside (left b k).profile) h (I.labels_inside o)),
    )

-- ---- what a writing with result 0 fills

pub fills : (m : Monitor) (buffer : List ℕ) → number (writing buffer) ≡ 0 → take image_size (written m buffer) ≡ image_of m
unfolding writing written image_of
fills m buffer e =
    split (too_short image_size buffer)
    (λ w. absurd (omega (arith, sym e ∙ ap number (cond-true (too_short image_size buffer) ShortBuffer Granted w))))
    (λ w. ap (take image_size) (filled-front image_size image_size (image_of m) buffer (has_room image_size buffer w))
    ∙ front-new image_size (image_of m) buffer (length-bits_to_bytes image_size (image_bits m)))

-- ---- what a byte string says

-- the response to bytes that say a request to the monitor, under its profile
pub respond-says : (g : List ℕ) (q : Request) (m : Monitor) → decode m.profile g ≡ Some q → respond g m ≡ step q m
unfolding respond
respond-says g q m e = ap (λ (d : Decoded). carry_out d m) e
