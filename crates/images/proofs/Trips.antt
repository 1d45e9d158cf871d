-- Round trips: a written image is accepted under the profile of its monitor and gives that monitor back; the monitor of an image that is accepted
-- under any profile is written as that image. So of tables.
-- Assumes nothing.
use Prim.Native.Nat.{ℕ, ◌*◌}
use native.Mathlib.Omega.{arith}
use mathlib.Core.Path.{◌≡◌, refl, sym, ap, ap₂, ◌∙◌}
use mathlib.Core.Bool.{Bool, true}
use mathlib.Core.List.{List, [], ◌++◌, map}
use lib.ListN.{length, get_or, take, drop, length-append, length-drop, take-append-drop}
use lib.Seq.{take_at, drop_at, length-take-le}
use lib.Dec.{eqb}
use borrow.Author.Tests.{eq-eqb}
use Rattle.bits.specs.Bits.{Bytes, bytes_to_bits, bits_to_bytes, cut, join}
use Rattle.bits.specs.Laws.{length-bytes_to_bits, take-bytes_to_bits, drop-bytes_to_bits, bytes_to_bits-append, length-bits_to_bytes, bytes_to_bits-bits_to_bytes, bits_to_bytes-bytes_to_bits}
use Rattle.bits.specs.Records.{length_cut, join-cut, cut-length, length-join, cut-join, map_back}
use Rattle.model.specs.declared.Subject.{Subject}
use Rattle.model.specs.declared.Profile.{Profile}
use Rattle.model.specs.declared.Monitor.{Monitor}
use Rattle.model.specs.declared.Decision.TheVariants.{Granted}
use Rattle.model.specs.Tests.{all_of, first_failing}
use Rattle.model.specs.State.{subject_count, object_count, nobody, no_object, clearance_at, object, fresh}
use Rattle.model.specs.Layout.{label_width, object_width, table_width, table_size, objects_width, objects_size, image_size, subject_bits, object_bits, table_bits, objects_bits, image_bits, image_of}
use Rattle.model.specs.Reading.{label_form, subject_from, object_from, object_form, table_from, table_form, objects_from, objects_form, monitor_from, image_form, state_list, beginning_list, state_checks, table_checks, image_checks}
use Rattle.model.proofs.Tests.{and_both, and_left, and_right, all-at, all-map-at}
use Rattle.model.proofs.Equal.{monitor-ext}
use Rattle.model.proofs.Records.{label-length, label-read, label-form, label-back, object-length, object-read, object-form, object-back}
use Rattle.invariants.specs.Sound.{Sound}
use Rattle.images.specs.Tables.{table_of, TableFits, TableInside}
use Rattle.images.proofs.Images.{fresh-inside, begins, table-passed, state-passes, image-passed}

-- ---- a table

module _ (l : List Subject) (T : TableFits l) where
  each-subject : (i : ℕ) → length (subject_bits (get_or l i nobody)) ≡ label_width
  each-subject i = label-length (clearance_at l i)

  pub table-length : length (table_bits l) ≡ table_width
  table-length = length-join subject_bits label_width nobody l each-subject ∙ omega (arith, T.subjects_length)

  -- the records of bits that are those of the table
  subject-records : (b : List ℕ) → bytes_to_bits b ≡ table_bits l → cut subject_count label_width (bytes_to_bits b) ≡ map subject_bits l
  subject-records b e = ap (cut subject_count label_width) e ∙ cut-join subject_bits label_width nobody subject_count l T.subjects_length each-subject

  pub subjects-back : (b : List ℕ) → bytes_to_bits b ≡ table_bits l → table_from b ≡ l
  unfolding table_from
  subjects-back b e =
      ap (map subject_from) (subject-records b e)
      ∙ map_back subject_bits subject_from nobody l
      (λ i h. let v = label-read (clearance_at l i) (T.clearances_fit i) in λ j. record { clearance = v j })

  pub table-form : (b : List ℕ) → bytes_to_bits b ≡ table_bits l → table_form b ≡ true
  unfolding table_form
  table-form b e = ap (all_of label_form) (subject-records b e) ∙ all-map-at subject_bits label_form nobody l (λ i. label-form (clearance_at l i))

  table-bits : bytes_to_bits (table_of l) ≡ table_bits l
  unfolding table_of
  table-bits = bytes_to_bits-bits_to_bytes table_size (table_bits l) (table-length)

  pub table-read-back : table_from (table_of l) ≡ l
  table-read-back = subjects-back (table_of l) table-bits

  table-long : length (table_of l) ≡ table_size
  unfolding table_of
  table-long = length-bits_to_bytes table_size (table_bits l)

  -- a written table is accepted under each profile that it is inside, and reads back to its subjects
  pub table-accepted : (p : Profile) → TableInside p l → table_checks p (table_of l) ≡ Granted
  unfolding table_checks
  table-accepted p I =
      ap (λ (k : List Subject). first_failing (beginning_list (eqb (length (table_of l)) table_size) (table_form (table_of l)) (fresh p k) [])) table-read-back
      ∙ begins _ _ (fresh p l) [] (eq-eqb (length (table_of l)) table_size table-long) (table-form (table_of l) table-bits) (fresh-inside p l I) refl

-- ---- a written image

module _ (m : Monitor) (S : Sound m) where
  table_fits : TableFits m.subjects
  table_fits = record { subjects_length = S.formed.subjects_length; clearances_fit = S.formed.clearances_fit }

  each-object : (i : ℕ) → length (object_bits (object m i)) ≡ object_width
  each-object i = object-length (object m i) (S.formed.objects_formed i).shape.rights_length (S.formed.objects_formed i).shape.held_length

  objects-length : length (objects_bits m.objects) ≡ objects_width
  objects-length = length-join object_bits object_width no_object m.objects each-object ∙ omega (arith, S.formed.objects-length)

  image-bits : bytes_to_bits (image_of m) ≡ table_bits m.subjects ++ objects_bits m.objects
  unfolding image_of image_bits
  image-bits =
      bytes_to_bits-bits_to_bytes image_size (image_bits m)
      (length-append (table_bits m.subjects) (objects_bits m.objects) ∙ omega (arith, table-length m.subjects table_fits, objects-length))

  size : length (image_of m) ≡ image_size
  unfolding image_of
  size = length-bits_to_bytes image_size (image_bits m)

  table-part : bytes_to_bits (take table_size (image_of m)) ≡ table_bits m.subjects
  table-part =
      sym (take-bytes_to_bits table_size (image_of m) (omega (arith, size))) ∙ ap (take table_width) image-bits
      ∙ take_at (table_bits m.subjects) (objects_bits m.objects) table_width (table-length m.subjects table_fits)

  object-part : bytes_to_bits (drop table_size (image_of m)) ≡ objects_bits m.objects
  object-part =
      sym (drop-bytes_to_bits table_size (image_of m) (omega (arith, size))) ∙ ap (drop table_width) image-bits
      ∙ drop_at (table_bits m.subjects) (objects_bits m.objects) table_width (table-length m.subjects table_fits)

  object-records : cut object_count object_width (bytes_to_bits (drop table_size (image_of m))) ≡ map object_bits m.objects
  object-records = ap (cut object_count object_width) object-part ∙ cut-join object_bits object_width no_object object_count m.objects S.formed.objects-length each-object

  -- reading what was written gives the subjects and the objects, whatever the profile, and so the monitor under its own
  pub image-read-under : (p : Profile) → monitor_from p (image_of m) ≡ record { profile = p; subjects = m.subjects; objects = m.objects }
  unfolding monitor_from objects_from
  image-read-under p =
      let subs = subjects-back m.subjects table_fits (take table_size (image_of m)) table-part in
      let objs : map object_from (cut object_count object_width (bytes_to_bits (drop table_size (image_of m)))) ≡ m.objects =
      ap (map object_from) object-records
      ∙ map_back object_bits object_from no_object m.objects (λ i h. object-read m.subjects (object m i) (S.formed.objects_formed i)) in
      monitor-ext (monitor_from p (image_of m)) (record { profile = p; subjects = m.subjects; objects = m.objects }) refl subs objs

  pub image-read-back : monitor_from m.profile (image_of m) ≡ m
  image-read-back = image-read-under m.profile

  image-form : image_form (image_of m) ≡ true
  unfolding image_form objects_form
  image-form =
      and_both (table-form m.subjects table_fits (take table_size (image_of m)) table-part)
      (ap (all_of object_form) object-records
      ∙ all-map-at object_bits object_form no_object m.objects (λ i. object-form m.subjects (object m i) (S.formed.objects_formed i)))

  -- it has its length and its form, and the other checks are those of what it says
  pub image-checks-under : (p : Profile) (n : Monitor) → record { profile = p; subjects = m.subjects; objects = m.objects } ≡ n
      → image_checks p (image_of m) ≡ first_failing (beginning_list true true n (state_list n))
  unfolding image_checks
  image-checks-under p n e =
      ap₂ (λ (l f : Bool). first_failing (beginning_list l f (monitor_from p (image_of m)) (state_list (monitor_from p (image_of m)))))
      (eq-eqb (length (image_of m)) image_size size) image-form
      ∙ ap (λ (k : Monitor). first_failing (beginning_list true true k (state_list k))) (image-read-under p ∙ e)

  -- so that it is accepted under the profile of its monitor
  pub image-accepted : image_checks m.profile (image_of m) ≡ Granted
  unfolding state_checks
  image-accepted = image-checks-under m.profile m refl ∙ begins true true m (state_list m) refl refl S.inside (state-passes m S)

-- two states of one profile with one image are one
pub image-tells : (m n : Monitor) → Sound m → Sound n → m.profile ≡ n.profile → image_of m ≡ image_of n → m ≡ n
image-tells m n S N p e = sym (image-read-back m S) ∙ ap₂ monitor_from p e ∙ image-read-back n N

-- ---- an accepted image, an accepted table

records-back : {A : Type 0} (f : A → List Bool) (g : List Bool → A) (form : List Bool → Bool) (n w : ℕ) (b : List Bool) → length b ≡ n * w
    → ((r : List Bool) → length r ≡ w → form r ≡ true → f (g r) ≡ r) → all_of form (cut n w b) ≡ true → join (map f (map g (cut n w b))) ≡ b
records-back f g form n w b l h e =
    ap join
    (map_back g f [] (cut n w b)
    (λ i k. h (get_or (cut n w b) i []) (cut-length n w b l i [] (omega (arith, length_cut n w b))) (all-at form [] (cut n w b) e i k)))
    ∙ join-cut n w b l

pub subjects-written : (b : List ℕ) → length b ≡ table_size → table_form b ≡ true → table_bits (table_from b) ≡ bytes_to_bits b
unfolding table_form table_from
subjects-written b l e = records-back subject_bits subject_from label_form subject_count label_width (bytes_to_bits b) (length-bytes_to_bits b ∙ omega (arith, l)) label-back e

objects-written : (b : List ℕ) → length b ≡ objects_size → objects_form b ≡ true → objects_bits (objects_from b) ≡ bytes_to_bits b
unfolding objects_form objects_from
objects-written b l e = records-back object_bits object_from object_form object_count object_width (bytes_to_bits b) (length-bytes_to_bits b ∙ omega (arith, l)) object-back e

-- writing the subjects of an accepted table gives its bytes
pub table-bytes-back : (p : Profile) (b : List ℕ) → Bytes b → table_checks p b ≡ Granted → table_of (table_from b) ≡ b
unfolding table_of
table-bytes-back p b hb e =
    let t = table-passed p b e in
    ap (bits_to_bytes table_size) (subjects-written b t.0 t.1) ∙ bits_to_bytes-bytes_to_bits table_size b hb t.0

-- writing from the monitor of an accepted image gives its bytes
pub image-bytes-back : (p : Profile) (b : List ℕ) → Bytes b → image_checks p b ≡ Granted → image_of (monitor_from p b) ≡ b
unfolding image_form monitor_from image_of image_bits
image-bytes-back p b hb e =
    let t = image-passed p b e in
    let f = t.1 in
    let bits : image_bits (monitor_from p b) ≡ bytes_to_bits b =
    ap₂ (λ (x y : List Bool). x ++ y)
    (subjects-written (take table_size b) (length-take-le table_size b (omega (arith, t.0))) (and_left (table_form (take table_size b)) (objects_form (drop table_size b)) f))
    (objects-written (drop table_size b) (length-drop table_size b ∙ omega (arith, t.0)) (and_right (table_form (take table_size b)) (objects_form (drop table_size b)) f))
    ∙ sym (bytes_to_bits-append (take table_size b) (drop table_size b)) ∙ ap bytes_to_bits (take-append-drop table_size b) in
    ap (bits_to_bytes image_size) bits ∙ bits_to_bytes-bytes_to_bits image_size b hb t.0
