-- The answers of the readers: the checks in their order, and the rows of the monitor of each answer.
-- Assumes nothing.
use mathlib.Core.Path.{◌≡◌, refl, sym, ap, ap₂, ◌∙◌, subst}
use mathlib.Core.Bool.{Bool, true, false, ◌&&◌}
use mathlib.Core.List.{List}
use Prim.Native.Nat.{ℕ, ◌-◌}
use native.Mathlib.Omega.{arith}
use lib.ListN.{length, take, drop, length-drop}
use lib.Seq.{take_all, length-take-le}
use borrow.Author.Tests.{eq-eqb, ne_eqb}
use lib.Dec.{eqb}
use Rattle.model.specs.Layout.{table_size, image_size}
use Rattle.model.specs.declared.Profile.{Profile}
use Rattle.model.specs.declared.Monitor.{Monitor}
use Rattle.model.specs.declared.Decision.{Decision}
use Rattle.model.specs.declared.Decision.TheVariants.{Granted, WrongLength, StrayBits, OutsideProfile}
use Rattle.model.specs.Tests.{unless}
use Rattle.model.specs.State.{subject_count, empty_monitor, fresh}
use Rattle.model.specs.Profiles.{profile_fits}
use Rattle.std.specs.Prelude.{Result, Ok, Err, OnOk}
use Rattle.model.specs.Decisions.{refuses, checked}
use Rattle.model.specs.Reading.{table_from, table_form, objects_from, objects_form, monitor_from, image_form, state_checks, table_checks, image_checks, begin}
use Rattle.model.proofs.Tests.{pass, stop, cond-true, cond-false}
use Rattle.model.proofs.Checked.{refusal, passes}
use Rattle.unit.specs.Rows.{Rows, state_in}
use Rattle.unit.specs.Stored.{unit_of, ObjectsStored, SameClearances}
use Rattle.unit.proofs.Units.{stored-over}
use Rattle.image_records.specs.declared.TableRead.{TableRead}
use Rattle.image_records.specs.Records.{subjects_read}
use Rattle.image_records.proofs.Lengths.{table-read}
use Rattle.profiles.specs.declared.Kept.{Kept}
use Rattle.profiles.specs.Kept.{subjects_kept, kept}
use Rattle.profiles.proofs.Fresh.{fresh_kept}
use Rattle.image.specs.Settled.{settled}
use Rattle.image.proofs.Sizes.{fresh-says, read-says}

-- ---- from the checks to the answer, and to the rows that are left

module _ (d : Decision) (m : Monitor) (w : Rows) where
  pub refused : (e : Decision) → checked d ≡ Err e → w ≡ unit_of empty_monitor → (Err e ≡ checked (begin d m).decision) × (w ≡ unit_of (begin d m).monitor)
  unfolding begin
  refused e h f = (sym h, f ∙ ap unit_of (sym (cond-true (refuses d) empty_monitor m (refusal d e h).0)))

  pub accepted : checked d ≡ Ok tt → w ≡ unit_of m → (Ok tt ≡ checked (begin d m).decision) × (w ≡ unit_of (begin d m).monitor)
  unfolding begin
  accepted h f = (sym h, f ∙ ap unit_of (sym (cond-false (refuses d) empty_monitor m (passes d h))))

-- ---- the checks of the records, and those behind them

module _ (formed : Bool) (k : Kept) (later : Decision) where
  pub settled-refuses : (e : Decision) → checked (settled formed k Granted) ≡ Err e → Err e ≡ checked (settled formed k later)
  unfolding checked unless
  settled-refuses e h = go (formed && k.absent) k.inside h
    where
      go : (a b : Bool) → checked (unless a StrayBits (unless b OutsideProfile Granted)) ≡ Err e → Err e ≡ checked (unless a StrayBits (unless b OutsideProfile later))
      go false b h = sym h
      go true false h = sym h
      go true true h = cc

  pub settled-passes : checked (settled formed k Granted) ≡ Ok tt → checked later ≡ checked (settled formed k later)
  unfolding checked unless
  settled-passes h = go (formed && k.absent) k.inside h
    where
      go : (a b : Bool) → checked (unless a StrayBits (unless b OutsideProfile Granted)) ≡ Ok tt → checked later ≡ checked (unless a StrayBits (unless b OutsideProfile later))
      go false b h = cc
      go true false h = cc
      go true true h = refl

-- what is so whatever the result
pub on_ok : {P : Type 0} (r : Result (Unit {0}) Decision) → P → OnOk r P
on_ok (Ok x) p = p
on_ok (Err e) p = tt

-- ---- the ranges of the profile, checked first, then the length

pub wrong-profile : (p : Profile) (later : Decision) → profile_fits p ≡ false → OutsideProfile ≡ unless (profile_fits p) OutsideProfile later
wrong-profile p later h = sym (stop (profile_fits p) OutsideProfile later h)

module _ (p : Profile) (fits : profile_fits p ≡ true) (s : List ℕ) (n : ℕ) (later : Decision) where
  pub wrong-length : (length s ≡ n → ⊥) → WrongLength ≡ unless (profile_fits p) OutsideProfile (unless (eqb (length s) n) WrongLength later)
  wrong-length h = sym (pass (profile_fits p) OutsideProfile _ fits ∙ stop (eqb (length s) n) WrongLength later (ne_eqb (length s) n h))

  right-length : (d : Decision) → length s ≡ n → d ≡ later → d ≡ unless (profile_fits p) OutsideProfile (unless (eqb (length s) n) WrongLength later)
  right-length d h e = e ∙ sym (pass (profile_fits p) OutsideProfile _ fits ∙ pass (eqb (length s) n) WrongLength later (eq-eqb (length s) n h))

-- ---- a table of the right length

module _ (p : Profile) (fits : profile_fits p ≡ true) (s : List ℕ) (size : length s ≡ table_size) (t : TableRead) (t-is : t ≡ subjects_read s) where
  table_is : t ≡ record { subjects = table_from s; formed = table_form s }
  table_is = t-is ∙ table-read s size

  module _ (u : Rows) (begun : u ≡ unit_of (fresh p t.subjects)) where
    pub table-rows : u ≡ unit_of (fresh p (table_from s))
    table-rows = begun ∙ ap (λ (r : TableRead). unit_of (fresh p r.subjects)) table_is

    pub table-answer : (k : Kept) (d : Decision) → k ≡ subjects_kept (state_in u) subject_count → d ≡ settled t.formed k Granted → d ≡ table_checks p s
    unfolding table_checks
    table-answer k d f e =
        let begun-is : state_in u ≡ fresh p (table_from s) = ap state_in table-rows ∙ fresh-says p s in
        right-length p fits s table_size (settled (table_form s) (kept (fresh p (table_from s))) Granted) d size
        (e ∙ ap₂ (λ (b : Bool) (x : Kept). settled b x Granted) (ap (λ (r : TableRead). r.formed) table_is)
        (f ∙ ap (λ (m : Monitor). subjects_kept m subject_count) begun-is ∙ fresh_kept p (table_from s)))

-- ---- an image of the right length: the rows that its two parts leave, and the answer of its checks

module _ (p : Profile) (fits : profile_fits p ≡ true) (s : List ℕ) (size : length s ≡ image_size) (t : TableRead) (t-is : t ≡ subjects_read (take table_size s)) where
  part-is : t ≡ record { subjects = table_from (take table_size s); formed = table_form (take table_size s) }
  part-is = t-is ∙ table-read (take table_size s) (length-take-le table_size s (omega arith))

  -- the slice from byte 42 on
  rest : take (length s - table_size) (drop table_size s) ≡ drop table_size s
  rest = take_all (length s - table_size) (drop table_size s) (rw (length-drop table_size s) (omega arith))

  module _ (u w : Rows) (formed : Bool) (begun : u ≡ unit_of (fresh p t.subjects)) (formed-is : formed ≡ objects_form (take (length s - table_size) (drop table_size s)))
      (stored : ObjectsStored (objects_from (take (length s - table_size) (drop table_size s))) w 64) (same : SameClearances u w) where
    pub image-rows : w ≡ unit_of (monitor_from p s)
    unfolding monitor_from
    image-rows =
        stored-over (monitor_from p s) u w (begun ∙ ap (λ (r : TableRead). unit_of (fresh p r.subjects)) part-is) same
        (subst (λ (part : List ℕ). ObjectsStored (objects_from part) w 64) rest stored)

    pub image-answer : (f : Kept) (k d : Decision) → f ≡ kept (state_in w) → k ≡ state_checks (state_in w) → d ≡ settled (t.formed && formed) f k → d ≡ image_checks p s
    unfolding image_form image_checks state_checks monitor_from
    image-answer f k d g e h =
        let m : state_in w ≡ monitor_from p s = ap state_in image-rows ∙ read-says p s in
        right-length p fits s image_size (settled (image_form s) (kept (monitor_from p s)) (state_checks (monitor_from p s))) d size
        (h
        ∙ ap (λ (b : Bool). settled b f k) (ap₂ (λ (r : TableRead) b. r.formed && b) part-is (formed-is ∙ ap objects_form rest))
        ∙ ap₂ (λ (x : Kept) (later : Decision). settled (image_form s) x later) (g ∙ ap kept m) (e ∙ ap state_checks m))
