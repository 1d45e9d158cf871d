-- Each rule keeps the state inside its profile (change request §8): only a create makes an object live, and only a change of level labels it;
-- a request that is inside the profile says no other object and no other level.
-- Assumes nothing.
use Prim.Native.Nat.{ℕ, ◌<◌}
use mathlib.Core.Path.{◌≡◌, sym}
use mathlib.Core.Bool.{true}
use Rattle.model.specs.declared.Object.{Object}
use Rattle.model.specs.declared.Profile.{Profile}
use Rattle.model.specs.declared.Monitor.{Monitor}
use Rattle.model.specs.declared.Mode.{Mode}
use Rattle.model.specs.declared.Request.{Request}
use Rattle.model.specs.declared.Request.TheVariants.{Get, Release, Give, Rescind, Create, Delete, ChangeLevel, SetCompanies}
use Rattle.model.specs.declared.Decision.TheVariants.{Granted}
use Rattle.model.specs.State.{no_object, enrolled, object}
use Rattle.model.specs.Profiles.{LabelInside, Inside}
use Rattle.model.specs.Requests.{Within}
use Rattle.model.specs.Rules.{target, changed, afterwards, checks}
use Rattle.model.proofs.Tests.{clash, and_left, and_right}
use Rattle.model.proofs.After.{objects-after}
use Rattle.invariants.proofs.Granted.{granted-get, granted-release, granted-give}

-- the record of object o is inside the profile: it is not live or its number is, and its label is
pub record ObjectInside (p : Profile) (o : ℕ) (ob : Object) : Type 0 where
  pub number : ob.live ≡ true → o < p.objects
  pub label : LabelInside p ob.label

pub object-inside : (m : Monitor) → Inside m → (o : ℕ) → ObjectInside m.profile o (object m o)
object-inside m I o = record { number = I.objects_inside o; label = I.labels_inside o }

-- where no object is
none_inside : (p : Profile) (o : ℕ) → ObjectInside p o no_object
none_inside p o = record { number = λ e. clash (sym e); label = tt }

pub changed-inside : (p : Profile) (q : Request) (ob : Object) → Within p q → ObjectInside p (target q) ob → ObjectInside p (target q) (changed q ob)
unfolding changed
changed-inside p (Get s o x) ob v I = record { number = I.number; label = I.label }
changed-inside p (Release s o x) ob v I = record { number = I.number; label = I.label }
changed-inside p (Give s t o x) ob v I = record { number = I.number; label = I.label }
changed-inside p (Rescind s t o x) ob v I = record { number = I.number; label = I.label }
changed-inside p (Create s o c) ob v I = record { number = λ e. v.1; label = tt }
changed-inside p (Delete s o) ob v I = none_inside p o
changed-inside p (ChangeLevel s o l) ob v I = record { number = I.number; label = v.2 }
changed-inside p (SetCompanies s o n) ob v I = record { number = I.number; label = I.label }

-- granted or not: what the request would leave is inside
pub inside-afterwards : (q : Request) (m : Monitor) → Within m.profile q → Inside m → Inside (afterwards q m)
inside-afterwards q m v I =
    let O : (o : ℕ) → ObjectInside m.profile o (object (afterwards q m) o) =
    objects-after (ObjectInside m.profile) q m (object-inside m I) (λ o. none_inside m.profile o) (changed-inside m.profile q (object m (target q)) v (object-inside m I (target q))) in
    record {
      fitting_profile = I.fitting_profile;
      subjects_inside = I.subjects_inside;
      objects_inside = λ o. (O o).number;
      clearances_inside = I.clearances_inside;
      labels_inside = λ o. (O o).label;
    }

-- a get, a release or a give that is granted is about who is enrolled and what is live, and so inside the profile
module _ (m : Monitor) (I : Inside m) where
  pub get-within : (s o : ℕ) (x : Mode) → checks (Get s o x) m ≡ Granted → Within m.profile (Get s o x)
  get-within s o x e = let g = granted-get m s o x e in (I.subjects_inside s g.there, I.objects_inside o g.live)

  pub release-within : (s o : ℕ) (x : Mode) → checks (Release s o x) m ≡ Granted → Within m.profile (Release s o x)
  release-within s o x e = let g = granted-release m s o x e in (I.subjects_inside s g.there, I.objects_inside o g.live)

  pub give-within : (s t o : ℕ) (x : Mode) → checks (Give s t o x) m ≡ Granted → Within m.profile (Give s t o x)
  give-within s t o x e =
      let g = granted-give m s t o x e in (
        I.subjects_inside s (and_left (enrolled m s) _ g.there),
        I.subjects_inside t (and_right (enrolled m s) _ g.there),
        I.objects_inside o g.live,
      )
