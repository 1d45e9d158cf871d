-- A monitor that was just begun has no live object: what is found of it is what is found of its subjects.
-- Assumes nothing.
use mathlib.Core.Path.{◌≡◌, refl, sym, ap}
use mathlib.Core.Bool.{Bool, true, false, not, ◌&&◌}
use mathlib.Core.List.{List}
use lib.Dec.{ltb}
use Rattle.model.specs.declared.Object.{Object}
use Rattle.model.specs.declared.Subject.{Subject}
use Rattle.model.specs.declared.Profile.{Profile}
use Rattle.model.specs.Tests.{all_below}
use Rattle.model.specs.State.{subject_count, object_count, no_object, fresh}
use Rattle.model.specs.Profiles.{label_inside, subject_inside, object_inside, absent_beyond, clearance_inside, object_label_inside, levels_inside}
use Rattle.model.proofs.Tests.{or_right, below_in, replicate-at}
use Rattle.profiles.specs.Kept.{subjects_kept, kept}

and-true : (a b : Bool) → b ≡ true → a ≡ (a && b)
and-true true b e = sym e
and-true false b e = refl

module _ (p : Profile) (l : List Subject) where
  none-beyond : all_below object_count (object_inside (fresh p l)) ≡ true
  none-beyond =
      below_in object_count (object_inside (fresh p l))
      (λ o h. or_right (ltb o p.objects) _ (ap (λ (ob : Object). not ob.live) (replicate-at no_object object_count o)))

  none-labelled : all_below object_count (object_label_inside (fresh p l)) ≡ true
  unfolding label_inside
  none-labelled =
      below_in object_count (object_label_inside (fresh p l))
      (λ o h. ap (λ (ob : Object). label_inside p ob.label) (replicate-at no_object object_count o))

  pub fresh_kept : subjects_kept (fresh p l) subject_count ≡ kept (fresh p l)
  unfolding absent_beyond levels_inside
  fresh_kept =
      let a = and-true (all_below subject_count (subject_inside (fresh p l))) _ none-beyond in
      let b = and-true (all_below subject_count (clearance_inside (fresh p l))) _ none-labelled in
      λ i. record { absent = a i; inside = b i }
