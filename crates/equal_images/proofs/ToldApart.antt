-- Two images accepted under one profile: the requests that `distinguish` gives for their monitors are none exactly where the images are equal.
-- Assumes nothing.
use Prim.Native.Nat.{ℕ, zero, suc, ◌≤◌}
use native.Mathlib.Omega.{arith}
use mathlib.Core.Path.{◌≡◌, sym, ap, ◌∙◌}
use mathlib.Core.Logic.{◌≢◌}
use mathlib.Core.Bool.{Bool, true, false}
use mathlib.Core.List.{List, [], ◌∷◌, map}
use lib.ListN.{length}
use Rattle.bits.specs.Bits.{Bytes}
use Rattle.model.specs.declared.Level.{Level}
use Rattle.model.specs.Levels.{Label, compare}
use Rattle.std.specs.Prelude.{Some, None}
use Rattle.model.specs.declared.Profile.{Profile}
use Rattle.model.specs.declared.Monitor.{Monitor}
use Rattle.model.specs.declared.Mode.{Mode}
use Rattle.model.specs.declared.Request.{Request}
use Rattle.model.specs.State.{empty_monitor, clearance, object}
use Rattle.model.specs.Decisions.{refuses}
use Rattle.model.specs.Requests.{encode}
use Rattle.model.specs.Runs.{replies}
use Rattle.model.specs.Layout.{image_of}
use Rattle.model.specs.Reading.{image_checks, monitor_from, begin, read_image}
use Rattle.model.specs.Beginnings.{image, Accepted}
use Rattle.model.proofs.Tests.{cond-all, cond-false}
use Rattle.telling.specs.Distinguish.{or_else, search, search_modes, when, to_label, by_label, by_companies, by_right, by_access, by_object, read_at, to_clearance, by_clearance, distinguish}
use Rattle.equal_images.proofs.Answers.{comparison-all}
use Rattle.images.proofs.Trips.{image-bytes-back}
use Rattle.images.proofs.Reached.{sound-begun, begun-profile}
use Rattle.equal_images.proofs.ParentsApart.{standing-short}
use Rattle.equal_images.proofs.Demand3.{distinguishes, distinguishes-not}

-- ---- never more than four requests, also for monitor records that no run reaches

abbrev Few : List Request → Type 0
Few qs = length qs ≤ 4

few-or : (a b : List Request) → Few a → Few b → Few (or_else a b)
unfolding or_else
few-or [] b p q = q
few-or (x ∷ a) b p q = p

few-search : (k : ℕ) (f : ℕ → List Request) → ((i : ℕ) → Few (f i)) → Few (search k f)
unfolding search
few-search zero f h = omega arith
few-search (suc k) f h = few-or (search k f) (f k) (few-search k f h) (h k)

few-when : (b : Bool) (q : Request) → Few (when b q)
unfolding when
few-when true q = omega arith
few-when false q = omega arith

few-modes : (f : Mode → List Request) → ((x : Mode) → Few (f x)) → Few (search_modes f)
few-modes f h = few-or _ _ (h _) (few-or _ _ (h _) (few-or _ _ (h _) (h _)))

module _ (m n : Monitor) where
  few-label : (s o : ℕ) (a b : Label) → Few (to_label s o a b)
  unfolding to_label
  few-label s o None None = omega arith
  few-label s o None (Some b) = omega arith
  few-label s o (Some a) b = few-when _ _

  few-object : (o : ℕ) → Few (by_object m n o)
  unfolding by_object by_label by_companies by_right by_access
  few-object o =
      few-or _ _ (few-label _ o _ _)
      (few-or _ _ (few-when _ _)
      (few-or _ _ (few-search 16 _ (λ s. few-modes (by_right m n o s) (λ x. few-when _ _))) (few-search 16 _ (λ s. few-modes (by_access m n o s) (λ x. few-when _ _)))))

few-read : (m : Monitor) (o s : ℕ) (l : Level) → Few (read_at m o s l)
unfolding read_at
few-read m o s l = cond-all Few (object m o).live _ _ (λ e. omega arith) (λ e. omega arith)

few-clearance : (m : Monitor) (s : ℕ) (a b : Label) → Few (to_clearance m s a b)
unfolding to_clearance
few-clearance m s None b = omega arith
few-clearance m s (Some a) None = omega arith
few-clearance m s (Some a) (Some b) =
    comparison-all Few (compare a b) _ _ (λ e. omega arith) (λ e. few-read m _ s a) (λ e. few-read m _ s b) (λ e. few-read m _ s a)

pub at-most-four : (m n : Monitor) → length (distinguish m n) ≤ 4
unfolding distinguish by_clearance
at-most-four m n =
    few-or _ _ (omega (arith, standing-short m n))
    (few-or _ _ (few-search 64 _ (few-object m n)) (few-search 16 _ (λ s. few-clearance m s (clearance m s) (clearance n s))))

-- ---- accepted images

-- the monitor of an accepted image is written as that image
pub written_back : (p : Profile) (b : List ℕ) → Bytes b → Accepted (image p b) → image_of (read_image p b).monitor ≡ b
unfolding read_image begin
written_back p b hb e = ap image_of (cond-false (refuses (image_checks p b)) empty_monitor (monitor_from p b) (ap refuses e)) ∙ image-bytes-back p b hb e

module _ (p : Profile) (a b : List ℕ) (A : Accepted (image p a)) (B : Accepted (image p b)) where
  pub equal-images-told : a ≡ b → distinguish (read_image p a).monitor (read_image p b).monitor ≡ []
  equal-images-told e = distinguishes-not _ _ (sound-begun (image p a) A) (sound-begun (image p b) B) (ap (λ (c : List ℕ). (read_image p c).monitor) e)

  pub different-images-told : Bytes a → Bytes b → a ≢ b
      → (distinguish (read_image p a).monitor (read_image p b).monitor ≢ [])
      × (length (distinguish (read_image p a).monitor (read_image p b).monitor) ≤ 4)
      × (replies (map encode (distinguish (read_image p a).monitor (read_image p b).monitor)) (read_image p a).monitor
      ≢ replies (map encode (distinguish (read_image p a).monitor (read_image p b).monitor)) (read_image p b).monitor)
  unfolding replies
  different-images-told ha hb h =
      let m = (read_image p a).monitor in
      let n = (read_image p b).monitor in
      let d = distinguishes m n (sound-begun (image p a) A) (sound-begun (image p b) B) (begun-profile (image p a) A ∙ sym (begun-profile (image p b) B)) (λ e. h (sym (written_back p a ha A) ∙ ap image_of e ∙ written_back p b hb B)) in (
        λ e. d.2 (ap (λ (qs : List Request). replies (map encode qs) m) e ∙ sym (ap (λ (qs : List Request). replies (map encode qs) n) e)),
        d.1,
        d.2,
      )
