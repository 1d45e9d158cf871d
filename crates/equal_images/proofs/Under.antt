-- A sound state under a named profile: what of it is inside, in the words of that profile; a granted request leaves such a state.
-- Assumes nothing.
use Prim.Native.Nat.{ℕ, ◌<◌}
use mathlib.Core.Path.{◌≡◌, sym, subst}
use mathlib.Core.Bool.{true}
use Rattle.model.specs.declared.Level.{Level}
use Rattle.std.specs.Prelude.{Some}
use Rattle.model.specs.declared.Profile.{Profile}
use Rattle.model.specs.declared.Monitor.{Monitor}
use Rattle.model.specs.declared.Request.{Request}
use Rattle.model.specs.declared.Decision.TheVariants.{Granted}
use Rattle.model.specs.State.{clearance, enrolled, object}
use Rattle.model.specs.Profiles.{LevelInside, LabelInside}
use Rattle.model.specs.Requests.{Within}
use Rattle.model.specs.Rules.{afterwards, checks}
use Rattle.invariants.specs.Sound.{Sound}
use Rattle.invariants.proofs.Steps.{sound-afterwards}
use Rattle.equal_images.specs.Inputs.{Formed}

pub record Under (p : Profile) (m : Monitor) : Type 0 where
  pub sound : Sound m
  pub profile : m.profile ≡ p

module _ (p : Profile) (m : Monitor) (U : Under p m) where
  pub subject-in : (s : ℕ) → enrolled m s ≡ true → s < p.subjects
  subject-in s e = subst (λ (k : Profile). s < k.subjects) U.profile (U.sound.inside.subjects_inside s e)

  pub object-in : (o : ℕ) → (object m o).live ≡ true → o < p.objects
  object-in o e = subst (λ (k : Profile). o < k.objects) U.profile (U.sound.inside.objects_inside o e)

  -- object 0 is in use under every profile
  pub first-in : 0 < p.objects
  first-in = subst (λ (k : Profile). 0 < k.objects) U.profile U.sound.inside.fitting_profile.one_object

  pub clearance-in : (s : ℕ) (l : Level) → clearance m s ≡ Some l → LevelInside p l
  clearance-in s l e = subst (λ (k : Profile). LevelInside k l) U.profile (subst (LabelInside m.profile) e (U.sound.inside.clearances_inside s))

  pub label-in : (o : ℕ) (l : Level) → (object m o).label ≡ Some l → LevelInside p l
  label-in o l e = subst (λ (k : Profile). LevelInside k l) U.profile (subst (LabelInside m.profile) e (U.sound.inside.labels_inside o))

  pub under-afterwards : (q : Request) → Formed p q → checks q m ≡ Granted → Under p (afterwards q m)
  under-afterwards q f g =
      record {
        sound = sound-afterwards q m f.0 (subst (λ (k : Profile). Within k q) (sym U.profile) f.1) U.sound g;
        profile = U.profile;
      }
