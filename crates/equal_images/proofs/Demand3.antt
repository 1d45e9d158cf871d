-- Demand 3: two images of monitors of one profile are equal in every byte exactly when every further list of requests draws the same replies from
-- both. "Image equality is claimed between monitors of one profile" (change request §8).
-- Assumes nothing.
use Prim.Native.Nat.{ℕ, ◌<◌, ◌≤◌}
use mathlib.Core.Path.{◌≡◌, refl, sym, ap, ◌∙◌}
use mathlib.Core.Logic.{◌↔◌, ◌≢◌}
use mathlib.Core.List.{List, [], ◌∷◌, map}
use lib.ListN.{length, take}
use Rattle.model.specs.declared.Profile.{Profile}
use Rattle.model.specs.declared.Monitor.{Monitor}
use Rattle.model.specs.declared.Request.{Request}
use Rattle.model.specs.State.{clearance, enrolled, object}
use Rattle.model.specs.Decisions.{number}
use Rattle.model.specs.Requests.{encode}
use Rattle.model.specs.Runs.{replies}
use Rattle.model.specs.Journal.{Act}
use Rattle.model.specs.Layout.{image_size, image_of}
use Rattle.model.specs.Writing.{writing, written}
use Rattle.model.specs.Beginnings.{Beginning, Accepted, left, Reached, AllBytes}
use Rattle.model.proofs.Packing.{pack-bytes}
use Rattle.model.proofs.Equal.{state-same}
use Rattle.telling.specs.Distinguish.{search, by_enrolment, by_life_and_owner, by_parent, by_standing, by_object, by_clearance, distinguish}
use Rattle.invariants.specs.Sound.{Sound}
use Rattle.images.proofs.Trips.{image-tells}
use Rattle.images.specs.Tables.{beginning_profile}
use Rattle.images.proofs.Reached.{sound-reached, fills, reached-left, left-profile}
use Rattle.equal_images.specs.Inputs.{AllFormed}
use Rattle.equal_images.proofs.Under.{Under}
use Rattle.equal_images.proofs.Probes.{Differs, Probe, alike, apart, probe-map, probe-or, probe-search}
use Rattle.equal_images.proofs.ObjectProbes.{probe-enrolment, probe-life-and-owner, probe-object}
use Rattle.equal_images.proofs.ParentProbes.{probe-parent}
use Rattle.equal_images.proofs.Clearances.{probe-clearance}

-- ---- the list that tells two states apart

-- who is enrolled, what is live and who owns it, and what is under what, are the same
pub record Standing (m n : Monitor) : Type 0 where
  pub same : (s : ℕ) → s < 16 → enrolled m s ≡ enrolled n s
  pub alive : (o : ℕ) → o < 64 → (object m o).live ≡ (object n o).live
  pub owned : (o : ℕ) → o < 64 → (object m o).owner ≡ (object n o).owner
  pub under : (o : ℕ) → o < 64 → (object m o).parent ≡ (object n o).parent

pub probe-standing : (p : Profile) (m n : Monitor) → Under p m → Under p n → Probe p m n (by_standing m n) (Standing m n)
unfolding by_standing
probe-standing p m n S N =
    probe-map p m n (by_standing m n) (λ t. record { same = t.0; alive = λ o h. (t.1.0 o h).0; owned = λ o h. (t.1.0 o h).1; under = t.1.1 })
    (probe-or p m n (search 16 (by_enrolment m n)) _
    (probe-search p m n (λ s. enrolled m s ≡ enrolled n s) 16 (by_enrolment m n) (probe-enrolment p m n S N))
    (λ same. probe-or p m n (search 64 (by_life_and_owner m n)) (search 64 (by_parent m n))
    (probe-search p m n (λ o. ((object m o).live ≡ (object n o).live) × ((object m o).owner ≡ (object n o).owner)) 64 (by_life_and_owner m n) (probe-life-and-owner p m n S N same))
    (λ t. probe-search p m n (λ o. (object m o).parent ≡ (object n o).parent) 64 (by_parent m n)
    (probe-parent p m n S N same (λ o h. (t o h).0) (λ o h. (t o h).1)))))

probe-under : (p : Profile) (m n : Monitor) → Under p m → Under p n → Probe p m n (distinguish m n) (m ≡ n)
unfolding distinguish
probe-under p m n S N =
    probe-map p m n (distinguish m n) (λ t. state-same m n S.sound.formed N.sound.formed (S.profile ∙ sym N.profile) t.1.1 t.1.0)
    (probe-or p m n (by_standing m n) _ (probe-standing p m n S N)
    (λ t. probe-or p m n (search 64 (by_object m n)) (search 16 (by_clearance m n))
    (probe-search p m n (λ o. object m o ≡ object n o) 64 (by_object m n)
    (λ o h. probe-object p m n S N t.same o h (t.alive o h) (t.owned o h) (t.under o h)))
    (λ objects. probe-search p m n (λ s. clearance m s ≡ clearance n s) 16 (by_clearance m n) (probe-clearance p m n S N objects t.same))))

probe-all : (m n : Monitor) → Sound m → Sound n → m.profile ≡ n.profile → Probe m.profile m n (distinguish m n) (m ≡ n)
probe-all m n S N one = probe-under m.profile m n (record { sound = S; profile = refl }) (record { sound = N; profile = sym one })

-- what `distinguish` gives: of one state nothing, of two of one profile at most four requests, well formed under it, on which they reply differently
pub distinguishes : (m n : Monitor) → Sound m → Sound n → m.profile ≡ n.profile → m ≢ n
    → AllFormed m.profile (distinguish m n) × (length (distinguish m n) ≤ 4)
    × (replies (map encode (distinguish m n)) m ≢ replies (map encode (distinguish m n)) n)
unfolding Differs
distinguishes m n S N one h = elim (probe-all m n S N one) [ alike p e ↦ absurd (h e) | apart r l d ↦ (r, l, d) ]

pub distinguishes-not : (m n : Monitor) → Sound m → Sound n → m ≡ n → distinguish m n ≡ []
unfolding Differs
distinguishes-not m n S N e =
    elim (probe-all m n S N (ap (λ (k : Monitor). k.profile) e)) [ alike p k ↦ p | apart r l d ↦ absurd (d (ap (replies (map encode (distinguish m n))) e)) ]

-- ---- the demand

encoded-bytes : (qs : List Request) → AllBytes (map encode qs)
encoded-bytes [] = tt
encoded-bytes (q ∷ qs) = (pack-bytes _, encoded-bytes qs)

-- two sound states of one profile that no list of byte strings tells apart are one
pub same-replies : (m n : Monitor) → Sound m → Sound n → m.profile ≡ n.profile
    → ((further : List (List ℕ)) → AllBytes further → replies further m ≡ replies further n) → m ≡ n
unfolding Differs
same-replies m n S N one h =
    elim (probe-all m n S N one) [ alike p e ↦ e | apart r l d ↦ absurd (d (h (map encode (distinguish m n)) (encoded-bytes (distinguish m n)))) ]

-- two reached monitors of one profile, each written into a buffer with result 0
module _ (m n : Monitor) (R : Reached m) (Q : Reached n) (one : m.profile ≡ n.profile) (buffer other : List ℕ) (u : number (writing buffer) ≡ 0) (v : number (writing other) ≡ 0) where
  -- equal images draw the same replies, to lists of byte strings with any numbers in them
  pub equal-images-reply-alike : take image_size (written m buffer) ≡ take image_size (written n other)
      → (further : List (List ℕ)) → replies further m ≡ replies further n
  equal-images-reply-alike p further =
      ap (replies further) (image-tells m n (sound-reached m R) (sound-reached n Q) one (sym (fills m buffer u) ∙ p ∙ fills n other v))

  -- the images are equal in every byte exactly when every further list draws the same replies from both
  pub same-image-same-replies : (take image_size (written m buffer) ≡ take image_size (written n other))
      ↔ ((further : List (List ℕ)) → AllBytes further → replies further m ≡ replies further n)
  same-image-same-replies = (
    λ p further g. equal-images-reply-alike p further,
    λ h. fills m buffer u ∙ ap image_of (same-replies m n (sound-reached m R) (sound-reached n Q) one h) ∙ sym (fills n other v),
  )

-- the same with the beginnings and the lists written out: two beginnings under one profile; "takings-back may stand in the list before each image,
-- but not in the further list" (change request §9)
pub demand-3 : (b c : Beginning) → Accepted b → Accepted c → beginning_profile b ≡ beginning_profile c → (qs rs : List Act)
    → (buffer other : List ℕ) → number (writing buffer) ≡ 0 → number (writing other) ≡ 0
    → (take image_size (written (left b qs) buffer) ≡ take image_size (written (left c rs) other))
    ↔ ((further : List (List ℕ)) → AllBytes further → replies further (left b qs) ≡ replies further (left c rs))
demand-3 b c e f one qs rs =
    same-image-same-replies (left b qs) (left c rs) (reached-left b e qs) (reached-left c f rs) (left-profile b e qs ∙ one ∙ sym (left-profile c f rs))
