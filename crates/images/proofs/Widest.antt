-- The widest profile is the base: under it every byte string, every table and every image is answered as the scope has it, without a profile.
-- Assumes nothing.
use Prim.Native.Nat.{ℕ, ◌<◌}
use native.Mathlib.Omega.{arith}
use mathlib.Core.Path.{◌≡◌, refl, sym, ap, ap₂, ◌∙◌, subst}
use mathlib.Core.Logic.{⊎_elim}
use mathlib.Core.Bool.{Bool, true, false, cond, ◌&&◌}
use mathlib.Core.List.{List, [], ◌∷◌}
use lib.ListN.{length}
use lib.Dec.{eqb}
use Rattle.model.specs.declared.Level.{Level}
use Rattle.model.specs.Levels.{Label}
use Rattle.std.specs.Prelude.{Some, None}
use Rattle.model.specs.declared.Object.{Object}
use Rattle.model.specs.declared.Profile.{Profile}
use Rattle.model.specs.declared.Monitor.{Monitor}
use Rattle.model.specs.Requests.{Decoded, fields, fields_formed, level_of, well_formed, request, decode_fields, decode}
use Rattle.model.specs.declared.Decision.{Decision}
use Rattle.model.specs.declared.Decision.TheVariants.{WrongLength, StrayBits, OutsideProfile}
use Rattle.model.specs.Tests.{unless, first_failing}
use Rattle.model.specs.State.{widest, no_object, clearance, object, fresh, LabelFits}
use Rattle.model.specs.Profiles.{ProfileFits, profile_fits, LevelInside, LabelInside, absent_beyond, Inside}
use Rattle.model.specs.Runs.{carry_out, respond}
use Rattle.model.specs.Layout.{table_size, image_size}
use Rattle.model.specs.Reading.{table_from, table_form, image_form, monitor_from, state_list, beginning_list, table_checks, image_checks, begin, read_table, read_image}
use Rattle.model.proofs.Tests.{apart, pass, beyond, le-or-lt}
use Rattle.model.proofs.Levels.{at-least-decides}
use Rattle.model.proofs.Profiles.{profile-decides, inside-fits, inside-absent, inside-levels, widest-level}
use Rattle.model.proofs.Within.{FieldsWithin, fields_within}
use Rattle.model.proofs.Packing.{fields_fit}
use Rattle.model.proofs.Requests.{actor-in, other-in, object-in, parent_in}
use Rattle.invariants.proofs.Form.{enrolled-below}
use Rattle.images.specs.Base.{base_decode, base_table, base_image}
use Rattle.images.proofs.Shapes.{Shape, fresh-shape, table-shape, image-shape}

-- a test that adds nothing to another
and_same : (a b : Bool) → (a ≡ true → b ≡ true) → (a && b) ≡ a
and_same true b h = h refl
and_same false b h = refl

-- ---- byte strings

level-widest : (l : Level) → l.class < 16 → LevelInside widest l
level-widest l h = (at-least-decides widest.highest l).0 (widest-level l h)

-- fields of 4 and 16 bits, and numbers that are in range, are inside the widest profile
fields-widest : (b : List ℕ) → fields_formed (fields b) ≡ true → FieldsWithin widest (fields b)
fields-widest b e =
    record {
      actor = actor-in (fields b) e;
      other = other-in (fields b) e;
      object = object-in (fields b) e;
      parent = parent_in (fields b) e;
      level = λ j k. level-widest (level_of (fields b)) (fields_fit b).class;
    }

formed-widest : (b : List ℕ) → well_formed widest (fields b) ≡ fields_formed (fields b)
unfolding well_formed
formed-widest b = and_same (fields_formed (fields b)) _ (λ e. fields_within widest (fields b) (fields-widest b e))

pub decode-widest : (b : List ℕ) → decode widest b ≡ base_decode b
unfolding decode decode_fields base_decode
decode-widest b = ap (λ (w : Bool). cond (eqb (length b) 6) (cond w (Some (request (fields b))) None) None) (formed-widest b)

-- the response of a monitor of the widest profile
pub respond-widest : (b : List ℕ) (m : Monitor) → m.profile ≡ widest → respond b m ≡ carry_out (base_decode b) m
unfolding respond
respond-widest b m e = ap (λ (d : Decoded). carry_out d m) (ap (λ (p : Profile). decode p b) e ∙ decode-widest b)

-- ---- tables and images

label-widest : (l : Label) → LabelFits l → LabelInside widest l
label-widest None f = tt
label-widest (Some l) f = level-widest l f.0

fits-widest : ProfileFits widest
unfolding profile_fits
fits-widest = (profile-decides widest).0 refl

-- a state whose numbers fit is inside the widest profile
pub inside-widest : (m : Monitor) → m.profile ≡ widest → Shape m → Inside m
inside-widest m e S =
    record {
      fitting_profile = subst ProfileFits (sym e) fits-widest;
      subjects_inside = λ s h. subst (λ (p : Profile). s < p.subjects) (sym e) (subst (λ (k : ℕ). s < k) S.table.subjects_length (enrolled-below m.subjects s h));
      objects_inside = λ o h. subst (λ (p : Profile). o < p.objects) (sym e) (live_below o h);
      clearances_inside = λ s. subst (λ (p : Profile). LabelInside p (clearance m s)) (sym e) (label-widest (clearance m s) (S.table.clearances_fit s));
      labels_inside = λ o. subst (λ (p : Profile). LabelInside p (object m o).label) (sym e) (label-widest (object m o).label (S.objects o).label_fits);
    }
  where
    live_below : (o : ℕ) → (object m o).live ≡ true → o < 64
    live_below o h =
        ⊎_elim (λ w. apart h (ap (λ (ob : Object). ob.live) (beyond m.objects o no_object (omega (arith, w, S.objects-length))))) (λ w. w) (le-or-lt 64 o)

-- what a profile adds to the checks passes where the state is inside it
pub inside-begins : (long formed : Bool) (m : Monitor) (later : List (Bool × Decision)) → Inside m
    → first_failing (beginning_list long formed m later) ≡ first_failing ((long, WrongLength) ∷ (formed, StrayBits) ∷ later)
inside-begins long formed m later I =
    pass _ OutsideProfile _ (inside-fits m I)
    ∙ ap₂ (λ (f : Bool) (d : Decision). unless long WrongLength (unless f StrayBits d))
    (and_same formed (absent_beyond m) (λ e. inside-absent m I)) (pass _ OutsideProfile (first_failing later) (inside-levels m I))

pub table-widest : (b : List ℕ) → read_table widest b ≡ begin (base_table b) (fresh widest (table_from b))
unfolding read_table table_checks base_table
table-widest b =
    let m = fresh widest (table_from b) in
    ap (λ (d : Decision). begin d m) (inside-begins (eqb (length b) table_size) (table_form b) m [] (inside-widest m refl (fresh-shape widest (table_from b) (table-shape b))))

pub image-widest : (b : List ℕ) → read_image widest b ≡ begin (base_image b) (monitor_from widest b)
unfolding read_image image_checks base_image monitor_from
image-widest b =
    let m = monitor_from widest b in
    ap (λ (d : Decision). begin d m) (inside-begins (eqb (length b) image_size) (image_form b) m (state_list m) (inside-widest m refl (image-shape widest b)))
