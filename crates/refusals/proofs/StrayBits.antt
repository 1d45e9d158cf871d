-- 11 (stray bits): the form of a table or image and the absence of what is beyond the profile fail exactly where a bit is set that should not be.
-- Assumes nothing.
use Prim.Native.Nat.{ℕ, zero, suc, ◌<◌, ◌≤◌}
use native.Mathlib.Omega.{arith}
use mathlib.Core.Path.{◌≡◌, refl, sym, ◌∙◌, ap}
use mathlib.Core.Logic.{◌⊎◌, inl, inr, ⊎_elim}
use mathlib.Core.Bool.{Bool, true, false, cond, not, ◌&&◌, ◌||◌}
use mathlib.Core.List.{List, [], ◌∷◌, map}
use lib.ListN.{length, get_or, take, drop}
use lib.Dec.{ltb}
use borrow.Author.Tests.{ltb-true, ltb-false}
use Rattle.bits.specs.Bits.{bytes_to_bits, first, all_zero}
use Rattle.bits.specs.Records.{length_cut}
use Rattle.model.specs.declared.Level.{Level}
use Rattle.std.specs.Prelude.{Some, None}
use Rattle.model.specs.declared.Subject.{Subject}
use Rattle.model.specs.declared.Object.{Object}
use Rattle.model.specs.declared.Profile.{Profile}
use Rattle.model.specs.Tests.{all_below}
use Rattle.model.specs.Levels.{present}
use Rattle.model.specs.State.{subject_count, object_count, nobody, no_object, clearance_at, object_at, fresh}
use Rattle.model.specs.Profiles.{object_inside, absent_beyond}
use Rattle.model.specs.Layout.{label_width, label_offset, object_width, table_size}
use Rattle.model.specs.Reading.{label_from, label_form, subject_from, object_from, live_from, object_form, table_records, object_records, table_from, table_form, objects_from, objects_form, image_form, monitor_from}
use Rattle.model.proofs.Tests.{split, apart, clash, and_left, and_right, and-false, or_cases, or_right, or-false, not_on, not-off, cond-true, cond-false, all-out, all-false, below_in, below_out, below_false, beyond, replicate-at, le-or-lt}
use Rattle.refusals.specs.Causes.{Stray, StrayLabel, BitBeyond, StrayInTable, StrayInObjects, StrayInImage}

-- ---- bits of what is absent

zero-at : (b : List Bool) → all_zero b ≡ true → (j : ℕ) → get_or b j false ≡ false
unfolding all_zero
zero-at [] e j = refl
zero-at (true ∷ b) e j = clash (sym e)
zero-at (false ∷ b) e zero = refl
zero-at (false ∷ b) e (suc j) = zero-at b e j

one_at : (b : List Bool) → all_zero b ≡ false → (j : ℕ) × (get_or b j false ≡ true)
unfolding all_zero
one_at [] e = clash e
one_at (true ∷ b) e = (0, refl)
one_at (false ∷ b) e = let p = one_at b e in (suc p.0, p.1)

label-stray : (r : List Bool) → label_form r ≡ false → Stray r
unfolding label_form
label-stray r e = let p = or-false (first r) (all_zero r) e in (p.0, one_at r p.1)

label-clear : (r : List Bool) → label_form r ≡ true → Stray r → ⊥
unfolding label_form
label-clear r e s =
    or_cases (first r) (all_zero r) e (λ w. apart w s.0) (λ w. apart s.1.1 (zero-at r w s.1.0))

object-stray : (r : List Bool) → object_form r ≡ false → Stray r ⊎ StrayLabel r
unfolding object_form
object-stray r e =
    split (first r)
    (λ w. inr (w, label-stray (take label_width (drop label_offset r)) (sym (cond-true (first r) _ _ w) ∙ e)))
    (λ w. inl (w, one_at r (sym (cond-false (first r) _ _ w) ∙ e)))

object-clear : (r : List Bool) → object_form r ≡ true → (Stray r ⊎ StrayLabel r) → ⊥
unfolding object_form
object-clear r e s =
    ⊎_elim (λ (u : Stray r). apart u.1.1 (zero-at r (sym (cond-false (first r) _ _ u.0) ∙ e) u.1.0))
    (λ (u : StrayLabel r). label-clear (take label_width (drop label_offset r)) (sym (cond-true (first r) _ _ u.0) ∙ e) u.1) s

-- ---- what is absent in a table, in the objects

table-stray : (b : List ℕ) → table_form b ≡ false → (i : ℕ) × Stray (get_or (table_records b) i [])
unfolding table_form
table-stray b e = all-false label_form [] (table_records b) e (λ i h w. (i, label-stray _ w))

table-form : (b : List ℕ) → table_form b ≡ true → (i : ℕ) → label_form (get_or (table_records b) i []) ≡ true
unfolding table_form label_form all_zero
table-form b e = all-out label_form [] (table_records b) refl e

objects-stray : (b : List ℕ) → objects_form b ≡ false → (i : ℕ) × (Stray (get_or (object_records b) i []) ⊎ StrayLabel (get_or (object_records b) i []))
unfolding objects_form
objects-stray b e = all-false object_form [] (object_records b) e (λ i h w. (i, object-stray _ w))

objects-form : (b : List ℕ) → objects_form b ≡ true → (i : ℕ) → object_form (get_or (object_records b) i []) ≡ true
unfolding objects_form object_form all_zero
objects-form b e = all-out object_form [] (object_records b) refl e

-- ---- bits beyond the profile

-- records, n of them in use, and a test of each that reads its first bit
module _ (records : List (List Bool)) (count n : ℕ) (there : ℕ → Bool) (is : (i : ℕ) → there i ≡ first (get_or records i [])) where
  abbrev used : ℕ → Bool
  used i = ltb i n || not (there i)

  bit-beyond : all_below count used ≡ false → BitBeyond n records
  bit-beyond e =
      below_false count used e
      (λ i h w. let p = or-false (ltb i n) (not (there i)) w in (i, ltb-false i n p.0, (0, sym (is i) ∙ not-off (there i) p.1)))

  -- where a record whose first bit is 0 has no bit
  no-bit-beyond : length records ≡ count → ((i : ℕ) → first (get_or records i []) ≡ false → all_zero (get_or records i []) ≡ true)
      → all_below count used ≡ true → BitBeyond n records → ⊥
  no-bit-beyond l zeros e w =
      let i = w.0 in
      let r = get_or records i [] in
      split (first r)
      (λ f. ⊎_elim
      (λ (h : count ≤ i). apart f (ap first (beyond records i [] (omega (arith, h, l)))))
      (λ (h : i < count). or_cases (ltb i n) (not (there i)) (below_out count used e i h)
      (λ v. absurd (omega (arith, w.1, ltb-true i n v))) (λ v. apart (is i ∙ f) (not_on (there i) v)))
      (le-or-lt count i))
      (λ f. apart w.2.1 (zero-at r (zeros i f) w.2.0))

-- what is read of each record, read of the list that was made of them
mapped : {A B : Type 0} (f : A → B) (g : B → Bool) (h : A → Bool) (d : A) (e : B) → g e ≡ h d → ((x : A) → g (f x) ≡ h x) → (l : List A) (i : ℕ) → g (get_or (map f l) i e) ≡ h (get_or l i d)
mapped f g h d e p q [] i = p
mapped f g h d e p q (x ∷ l) zero = q x
mapped f g h d e p q (x ∷ l) (suc i) = mapped f g h d e p q l i

present-cond : (b : Bool) (l : Level) → present (cond b (Some l) None) ≡ b
present-cond true l = refl
present-cond false l = refl

live_cond : (b : Bool) (r : List Bool) → (cond b (live_from r) no_object).live ≡ b
live_cond true r = refl
live_cond false r = refl

pub subject-first : (b : List ℕ) (s : ℕ) → present (clearance_at (table_from b) s) ≡ first (get_or (table_records b) s [])
unfolding table_from label_from
subject-first b s = mapped subject_from (λ (x : Subject). present x.clearance) first [] nobody refl (λ r. present-cond (first r) _) (table_records b) s

object-first : (b : List ℕ) (o : ℕ) → (object_at (objects_from b) o).live ≡ first (get_or (object_records b) o [])
unfolding objects_from object_from
object-first b o = mapped object_from (λ (x : Object). x.live) first [] no_object refl (λ r. live_cond (first r) r) (object_records b) o

label-zeros : (r : List Bool) → label_form r ≡ true → first r ≡ false → all_zero r ≡ true
unfolding label_form
label-zeros r e f = or_cases (first r) (all_zero r) e (λ w. apart w f) (λ w. w)

object-zeros : (r : List Bool) → object_form r ≡ true → first r ≡ false → all_zero r ≡ true
unfolding object_form
object-zeros r e f = sym (cond-false (first r) _ _ f) ∙ e

-- ---- of a table under a profile

module _ (p : Profile) (b : List ℕ) where
  abbrev subject_used : ℕ → Bool
  subject_used s = ltb s p.subjects || not (present (clearance_at (table_from b) s))

  abbrev object_used : ℕ → Bool
  object_used o = ltb o p.objects || not (object_at (objects_from b) o).live

  table-beyond : all_below subject_count subject_used ≡ false → BitBeyond p.subjects (table_records b)
  table-beyond = bit-beyond (table_records b) 16 p.subjects _ (subject-first b)

  table-clear : table_form b ≡ true → all_below subject_count subject_used ≡ true → StrayInTable p b → ⊥
  table-clear e u s =
      ⊎_elim (λ (w : (i : ℕ) × Stray (get_or (table_records b) i [])). label-clear (get_or (table_records b) w.0 []) (table-form b e w.0) w.1)
      (λ (w : BitBeyond p.subjects (table_records b)).
      no-bit-beyond (table_records b) 16 p.subjects _ (subject-first b) (length_cut subject_count label_width (bytes_to_bits b)) (λ i. label-zeros _ (table-form b e i)) u w) s

  objects-beyond : all_below object_count object_used ≡ false → BitBeyond p.objects (object_records b)
  objects-beyond = bit-beyond (object_records b) 64 p.objects _ (object-first b)

  objects-clear : objects_form b ≡ true → all_below object_count object_used ≡ true → StrayInObjects p b → ⊥
  objects-clear e u s =
      ⊎_elim (λ (w : (i : ℕ) × (Stray (get_or (object_records b) i []) ⊎ StrayLabel (get_or (object_records b) i []))). object-clear (get_or (object_records b) w.0 []) (objects-form b e w.0) w.1)
      (λ (w : BitBeyond p.objects (object_records b)).
      no-bit-beyond (object_records b) 64 p.objects _ (object-first b) (length_cut object_count object_width (bytes_to_bits b)) (λ i. object-zeros _ (objects-form b e i)) u w) s

  -- no object of a fresh monitor is live
  fresh-used : all_below object_count (object_inside (fresh p (table_from b))) ≡ true
  fresh-used = below_in 64 _ (λ o h. or_right (ltb o p.objects) _ (ap (λ (x : Object). not x.live) (replicate-at no_object 64 o)))

  pub table-11 : (table_form b && absent_beyond (fresh p (table_from b))) ≡ false → StrayInTable p b
  unfolding absent_beyond
  table-11 e =
      and-false (table_form b) _ e (λ w. inl (table-stray b w))
      (λ w. and-false (all_below 16 subject_used) (all_below 64 (object_inside (fresh p (table_from b)))) w (λ v. inr (table-beyond v)) (λ v. apart fresh-used v))

  pub table-not-11 : (table_form b && absent_beyond (fresh p (table_from b))) ≡ true → StrayInTable p b → ⊥
  unfolding absent_beyond
  table-not-11 e = table-clear (and_left (table_form b) _ e) (and_left (all_below 16 subject_used) _ (and_right (table_form b) _ e))

-- ---- of an image under a profile

module _ (p : Profile) (b : List ℕ) where
  abbrev t : List ℕ
  t = take table_size b

  abbrev os : List ℕ
  os = drop table_size b

  pub image-11 : (image_form b && absent_beyond (monitor_from p b)) ≡ false → StrayInImage p b
  unfolding image_form absent_beyond monitor_from
  image-11 e =
      and-false (table_form t && objects_form os) _ e
      (λ w. and-false (table_form t) (objects_form os) w (λ v. inl (inl (table-stray t v))) (λ v. inr (inl (objects-stray os v))))
      (λ w. and-false (all_below 16 (subject_used p t)) (all_below 64 (object_used p os)) w
      (λ v. inl (inr (table-beyond p t v))) (λ v. inr (inr (objects-beyond p os v))))

  pub image-not-11 : (image_form b && absent_beyond (monitor_from p b)) ≡ true → StrayInImage p b → ⊥
  unfolding image_form absent_beyond monitor_from
  image-not-11 e s =
      let form = and_left (table_form t && objects_form os) _ e in
      let used = and_right (table_form t && objects_form os) _ e in
      ⊎_elim (λ (u : StrayInTable p t). table-clear p t (and_left (table_form t) _ form) (and_left (all_below 16 (subject_used p t)) _ used) u)
      (λ (u : StrayInObjects p os). objects-clear p os (and_right (table_form t) _ form) (and_right (all_below 16 (subject_used p t)) _ used) u) s
