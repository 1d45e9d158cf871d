-- Rows in which every byte without a meaning is 0: those of a monitor, and no store of a set, a label or a record makes others of them.
-- Assumes nothing.
use Prim.Native.Nat.{ℕ, ◌≤◌, ◌<◌}
use native.Mathlib.Omega.{arith}
use mathlib.Core.Path.{◌≡◌, sym, ap, ◌∙◌}
use mathlib.Core.Logic.{⊎_elim, ◌≢◌}
use mathlib.Core.List.{List, []}
use lib.ListN.{length, set}
use lib.Seq.{get_or-set_same, get_or-set_other}
use Rattle.model.specs.Levels.{Label}
use Rattle.model.specs.declared.Object.{Object}
use Rattle.model.specs.declared.Profile.{Profile}
use Rattle.model.specs.declared.Monitor.{Monitor}
use Rattle.model.specs.State.{object, clearance, with_label, with_companies}
use Rattle.unit.specs.Rows.{Rows, row_count, held_row, rest_row, clearance_row, profile_row, row_at, label_in, profile_in, object_of, object_in, state_in}
use Rattle.unit.specs.Stored.{rest_of, clearance_of, profile_of, set_rights, set_held, set_label, set_companies, set_object, monitor_row, unit_of}
use Rattle.unit.proofs.Tabulated.{tabulated, same_or_not}
use Rattle.unit.proofs.Readings.{read-object, read-held-row, read-clearance}
use Rattle.unit.proofs.Stores.{label-back, profile-back, object-back, object-others, object-rest}
use Rattle.unit.proofs.Units.{row-rights, row-held, row-rest, row-clearance, row-profile, in_parts, unit-at}

-- a row of the rest of a record is the one that is stored of some record, a row of a clearance that of some label, the last that of some profile
pub record Plain (u : Rows) : Type 0 where
  pub rests : (p : ℕ) → p < 64 → (ob : Object) × (row_at u (rest_row p) ≡ rest_of ob)
  pub clearances : (s : ℕ) → s < 16 → (l : Label) × (row_at u (clearance_row s) ≡ clearance_of l)
  pub profile : (p : Profile) × (row_at u profile_row ≡ profile_of p)

pub unit-plain : (m : Monitor) → Plain (unit_of m)
unit-plain m =
    record {
      rests = λ p h. (object m p, unit-at m (rest_row p) (omega arith) ∙ row-rest m p h);
      clearances = λ s h. (clearance m s, unit-at m (clearance_row s) (omega arith) ∙ row-clearance m s h);
      profile = (m.profile, unit-at m profile_row (omega arith) ∙ row-profile m);
    }

-- rows that differ from plain ones in no row of the rest or of a clearance, or in one that is stored of a record
module _ (u w : Rows) (F : Plain u) where
  sets-plain : ((j : ℕ) → 128 ≤ j → row_at w j ≡ row_at u j) → Plain w
  sets-plain g =
      record {
        rests = λ p h. let r = F.rests p h in (r.0, g (rest_row p) (omega arith) ∙ r.1);
        clearances = λ s h. let r = F.clearances s h in (r.0, g (clearance_row s) (omega arith) ∙ r.1);
        profile = (F.profile.0, g profile_row (omega arith) ∙ F.profile.1);
      }

  record-plain : (o : ℕ) → o < 64 → (ob : Object) → row_at w (rest_row o) ≡ rest_of ob → ((j : ℕ) → 128 ≤ j → j ≢ rest_row o → row_at w j ≡ row_at u j) → Plain w
  record-plain o h ob e g =
      record {
        rests = λ p l.
            ⊎_elim
            (λ (q : p ≡ o). (ob, ap (λ i. row_at w (rest_row i)) q ∙ e))
            (λ (q : p ≢ o). let r = F.rests p l in (r.0, g (rest_row p) (omega arith) (λ z. q (omega arith)) ∙ r.1))
            (same_or_not p o);
        clearances = λ s l. let r = F.clearances s l in (r.0, g (clearance_row s) (omega arith) (λ z. absurd (omega arith)) ∙ r.1);
        profile = (F.profile.0, g profile_row (omega arith) (λ z. absurd (omega arith)) ∙ F.profile.1);
      }

module _ (u : Rows) (n : length u ≡ row_count) (F : Plain u) (o : ℕ) (h : o < 64) where
  pub rights-plain : (s k : ℕ) → Plain (set_rights u o s k)
  rights-plain s k = sets-plain u (set_rights u o s k) F (λ j l. get_or-set_other u o j _ [] (λ z. absurd (omega arith)))

  pub held_plain : (s k : ℕ) → Plain (set_held u o s k)
  held_plain s k = sets-plain u (set_held u o s k) F (λ j l. get_or-set_other u (held_row o) j _ [] (λ z. absurd (omega arith)))

  rest_plain : (ob : Object) → Plain (set u (rest_row o) (rest_of ob))
  rest_plain ob =
      record-plain u (set u (rest_row o) (rest_of ob)) F o h ob (get_or-set_same u (rest_row o) _ [] (omega arith)) (λ j a b. get_or-set_other u (rest_row o) j _ [] b)

  pub label-plain : (l : Label) → Plain (set_label u o l)
  label-plain l = rest_plain (with_label (object_in u o) l)

  pub companies-plain : (k : ℕ) → Plain (set_companies u o k)
  companies-plain k = rest_plain (with_companies (object_in u o) k)

  pub object-plain : (ob : Object) → Plain (set_object u o ob)
  object-plain ob =
      record-plain u (set_object u o ob) F o h ob (object-rest u o ob n h)
      (λ j a b. object-others u o ob n h j (λ z. absurd (omega arith)) (λ z. absurd (omega arith)) b)

-- such rows are those of the monitor that they say
module _ (u : Rows) (n : length u ≡ row_count) (F : Plain u) where
  rest-is : (p : ℕ) → p < 64 → row_at u (rest_row p) ≡ rest_of (object (state_in u) p)
  unfolding object_of
  rest-is p h =
      let r = F.rests p h in
      r.1 ∙ ap rest_of (sym (object-back r.0)) ∙ sym (ap (λ (l : List ℕ). rest_of (object_of r.0.rights r.0.held l)) r.1) ∙ ap rest_of (read-object u p h)

  clearance-is : (s : ℕ) → s < 16 → row_at u (clearance_row s) ≡ clearance_of (clearance (state_in u) s)
  clearance-is s h =
      let r = F.clearances s h in
      r.1 ∙ ap clearance_of (sym (label-back 0 0 r.0 0 0) ∙ ap label_in (sym r.1) ∙ read-clearance u s h)

  profile-is : row_at u profile_row ≡ profile_of (state_in u).profile
  profile-is =
      let r = F.profile in
      r.1 ∙ ap profile_of (sym (profile-back r.0) ∙ ap profile_in (sym r.1))

  pub plain-is : u ≡ unit_of (state_in u)
  unfolding unit_of object_of
  plain-is =
      let m = state_in u in
      tabulated row_count (monitor_row m) [] u n
      (in_parts (λ i. row_at u i ≡ monitor_row m i)
      (λ p l. ap (λ (x : Object). x.rights) (read-object u p l) ∙ sym (row-rights m p l))
      (λ p l. read-held-row u p l ∙ sym (row-held m p l))
      (λ p l. rest-is p l ∙ sym (row-rest m p l))
      (λ k l. clearance-is k l ∙ sym (row-clearance m k l))
      (profile-is ∙ sym (row-profile m)))
