-- 16 (change request §8): its two rows in one, since they have one number; and what 12 is beyond a profile.
-- Assumes nothing.
use Prim.Native.Nat.{ℕ, ◌≤◌}
use mathlib.Core.Path.{◌≡◌, refl, sym, ◌∙◌}
use mathlib.Core.Logic.{◌⊎◌, ◌↔◌, ◌≢◌, inl, inr, ⊎_elim}
use mathlib.Core.Bool.{true, not}
use mathlib.Core.List.{List}
use lib.ListN.{length, take}
use lib.Dec.{eqb}
use borrow.Author.Tests.{eq-eqb, eqb-true}
use Rattle.model.specs.declared.Profile.{Profile}
use Rattle.model.specs.declared.Decision.{Decision}
use Rattle.model.specs.declared.Decision.TheVariants.{AbsentSubject, OutsideProfile}
use Rattle.model.specs.Tests.{all_of}
use Rattle.model.specs.Levels.{present}
use Rattle.model.specs.State.{clearance_at, object, rights_of, held_by}
use Rattle.model.specs.Decisions.{number}
use Rattle.model.specs.Layout.{table_size, image_size}
use Rattle.model.specs.Reading.{table_from, monitor_from, read_table, read_image}
use Rattle.model.proofs.Tests.{split, apart, distinct, and_left, and_right, not_on}
use Rattle.model.proofs.Levels.{absent}
use Rattle.refusals.specs.First.{Causes, none, row, FirstIn, order_of}
use Rattle.refusals.specs.Causes.{NotIn, ProfileOutside, StrayInTable, StrayInImage, ClearanceOutside, OutsideInImage, image_causes}
use Rattle.refusals.proofs.First.{over}
use Rattle.refusals.proofs.StrayBits.{subject-first}
use Rattle.refusals.proofs.FirstRefusal.{table-first-cause, image-first-cause}

-- "before anything else is read": whatever the bytes are
pub profile-read-first : (p : Profile) (b : List ℕ) → ProfileOutside p → (number (read_table p b).decision ≡ 16) × (number (read_image p b).decision ≡ 16)
profile-read-first p b w = ((table-first-cause p b OutsideProfile refl).1 (inl (refl, w)), (image-first-cause p b OutsideProfile refl).1 (inl (refl, w)))

-- rows with other numbers: none of them gives the answer
not_listed : (c : Causes) (d : Decision) → all_of (λ (k : ℕ). not (eqb k (number d))) (order_of c) ≡ true → FirstIn c d → ⊥
not_listed none d e f = f
not_listed (row k cause later) d e (inl w) = distinct k d (not_on _ (and_left (not (eqb (number k) (number d))) _ e)) (sym w.0)
not_listed (row k cause later) d e (inr w) = not_listed later d (and_right (not (eqb (number k) (number d))) _ e) w.1

-- the rows behind the first
abbrev rest : Causes → Causes
rest none = none
rest (row k cause later) = later

not-other : (a b : ℕ) → (a ≢ b → ⊥) → a ≡ b
not-other a b h = split (eqb a b) (eqb-true a b) (λ e. absurd (h (λ w. apart (eq-eqb a b w) e)))

-- "16, a profile outside these ranges, .. or a table .. with a clearance .. outside its profile, checked directly after 11"
pub table-16-exactly : (p : Profile) (b : List ℕ)
    → (number (read_table p b).decision ≡ 16)
    ↔ (ProfileOutside p ⊎ ((ProfileOutside p → ⊥) × (length b ≡ table_size) × (StrayInTable p b → ⊥) × ClearanceOutside p (table_from b)))
table-16-exactly p b = (
  λ e. ⊎_elim (λ a. inl a.1)
      (λ c.
      let ten = over (distinct _ _ refl) c.1 in
      let eleven = over (distinct _ _ refl) ten.1 in
      inr (c.0, not-other _ _ ten.0, eleven.0, ⊎_elim (λ a. a.1) (λ d. absurd d.1) eleven.1))
      ((table-first-cause p b OutsideProfile refl).0 e),
  λ w. (table-first-cause p b OutsideProfile refl).1
      (⊎_elim (λ a. inl (refl, a)) (λ c. inr (c.0, inr (λ h. h c.1, inr (c.2, inl (refl, c.3))))) w),
)

-- "or a .. image with a clearance or label outside its profile"
pub image-16-exactly : (p : Profile) (b : List ℕ)
    → (number (read_image p b).decision ≡ 16)
    ↔ (ProfileOutside p ⊎ ((ProfileOutside p → ⊥) × (length b ≡ image_size) × (StrayInImage p b → ⊥) × OutsideInImage p b))
image-16-exactly p b = (
  λ e. ⊎_elim (λ a. inl a.1)
      (λ c.
      let ten = over (distinct _ _ refl) c.1 in
      let eleven = over (distinct _ _ refl) ten.1 in
      inr (c.0, not-other _ _ ten.0, eleven.0, ⊎_elim (λ a. a.1) (λ d. absurd (not_listed (rest (rest (rest (rest (image_causes p b))))) OutsideProfile refl d.1)) eleven.1))
      ((image-first-cause p b OutsideProfile refl).0 e),
  λ w. (image-first-cause p b OutsideProfile refl).1
      (⊎_elim (λ a. inl (refl, a)) (λ c. inr (c.0, inr (λ h. h c.1, inr (c.2, inl (refl, c.3))))) w),
)

-- ---- an owner, a right or an access of a subject beyond the profile, in the record of an object inside it

-- a subject beyond the profile is absent, where no bit is in its record
beyond-absent : (p : Profile) (b : List ℕ) → (StrayInImage p b → ⊥) → (s : ℕ) → p.subjects ≤ s → NotIn (monitor_from p b) s
unfolding monitor_from
beyond-absent p b n s h =
    let t = take table_size b in
    absent (clearance_at (table_from t) s) (split (present (clearance_at (table_from t) s)) (λ e. absurd (n (inl (inr (s, h, (0, sym (subject-first t s) ∙ e)))))) (λ e. e))

-- so it gets 12, and not 11: "an absent subject owns, has a right or holds"
pub beyond-acts-12 : (p : Profile) (b : List ℕ) → (ProfileOutside p → ⊥) → length b ≡ image_size → (StrayInImage p b → ⊥) → (OutsideInImage p b → ⊥)
    → (s o : ℕ) → p.subjects ≤ s
    → ((((object (monitor_from p b) o).live ≡ true) × ((object (monitor_from p b) o).owner ≡ s))
    ⊎ ((rights_of (object (monitor_from p b) o) s ≢ 0) ⊎ (held_by (object (monitor_from p b) o) s ≢ 0)))
    → number (read_image p b).decision ≡ 12
beyond-acts-12 p b fits long bits levels s o h acts =
    (image-first-cause p b AbsentSubject refl).1
    (inr (fits, inr (λ w. w long, inr (bits, inr (levels, inl (refl, (s, o, (beyond-absent p b bits s h, acts))))))))
