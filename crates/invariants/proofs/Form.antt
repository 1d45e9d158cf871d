-- Each rule keeps the record that it changes well formed.
-- Assumes nothing.
use Prim.Native.Nat.{ℕ, zero, suc, ◌<◌, ◌≤◌}
use native.Mathlib.Omega.{arith}
use mathlib.Core.Path.{◌≡◌, refl, sym, ◌∙◌, subst}
use mathlib.Core.Bool.{Bool, true, false, cond}
use mathlib.Core.List.{List, [], ◌∷◌}
use lib.ListN.{length, get_or, length-set}
use lib.Dec.{lit<}
use Rattle.model.specs.declared.Subject.{Subject}
use Rattle.model.specs.declared.Object.{Object}
use Rattle.model.specs.declared.Monitor.{Monitor}
use Rattle.model.specs.Levels.{Label, present}
use Rattle.std.specs.Prelude.{Some}
use Rattle.model.specs.declared.Creation.{Creation}
use Rattle.model.specs.declared.Request.{Request}
use Rattle.model.specs.declared.Request.TheVariants.{Get, Release, Give, Rescind, Create, Delete, ChangeLevel, SetCompanies}
use Rattle.model.specs.declared.Decision.TheVariants.{Granted}
use Rattle.model.specs.State.{no_modes, no_object, clearance_at, enrolled, object, rights_of, with_held, with_rights, with_label, with_companies, LabelFits, ObjectShape, WellFormedObject, WellFormed}
use Rattle.model.specs.Modes.{remove}
use Rattle.model.specs.Requests.{InRange}
use Rattle.model.specs.Rules.{target, changed, checks, created}
use Rattle.model.proofs.Tests.{set_all, apart, clash, and_right, replicate-at}
use Rattle.model.proofs.Modes.{add-fits, remove-fits}
use Rattle.invariants.proofs.Granted.{granted-get, granted-release, granted-give, granted-rescind, granted-create, granted-change, granted-companies}

pub no-modes : (s : ℕ) → get_or no_modes s 0 ≡ 0
no-modes s = replicate-at 0 16 s

-- who is enrolled is one of the table's subjects
pub enrolled-below : (l : List Subject) (s : ℕ) → present (clearance_at l s) ≡ true → s < length l
enrolled-below [] s e = clash (sym e)
enrolled-below (x ∷ xs) zero e = omega arith
enrolled-below (x ∷ xs) (suc s) e = let h : s < length xs = enrolled-below xs s e in omega arith

pub no-object-shape : ObjectShape no_object
no-object-shape =
    record {
      rights_length = refl;
      held_length = refl;
      rights-fit = λ s. subst (λ (n : ℕ). n < 16) (sym (no-modes s)) (lit< tt);
      held_fit = λ s. subst (λ (n : ℕ). n < 16) (sym (no-modes s)) (lit< tt);
      owner_fits = lit< tt;
      label_fits = tt;
      companies_fit = lit< tt;
      parent_fits = lit< tt;
      not_live = λ e. refl;
    }

module _ (l : List Subject) where
  pub no-object-formed : WellFormedObject l no_object
  no-object-formed =
      record {
        shape = no-object-shape;
        owner_enrolled = λ e. clash (sym e);
        absent_rights = λ s e. no-modes s;
        absent_held = λ s e. no-modes s;
      }

  -- a live object where the held set of an enrolled subject becomes another
  held-formed : (ob : Object) (s n : ℕ) → WellFormedObject l ob → ob.live ≡ true → present (clearance_at l s) ≡ true → n < 16
      → WellFormedObject l (with_held ob s n)
  held-formed ob s n F live there fits =
      let S = F.shape in
      record {
        shape = record {
          rights_length = S.rights_length;
          held_length = length-set ob.held s n ∙ S.held_length;
          rights-fit = S.rights-fit;
          held_fit = set_all (λ j k. k < 16) ob.held s n 0 S.held_fit fits;
          owner_fits = S.owner_fits;
          label_fits = S.label_fits;
          companies_fit = S.companies_fit;
          parent_fits = S.parent_fits;
          not_live = λ e. apart live e;
        };
        owner_enrolled = F.owner_enrolled;
        absent_rights = F.absent_rights;
        absent_held = set_all (λ j k. present (clearance_at l j) ≡ false → k ≡ 0) ob.held s n 0 F.absent_held (λ e. apart there e);
      }

  rights-formed : (ob : Object) (s n : ℕ) → WellFormedObject l ob → ob.live ≡ true → present (clearance_at l s) ≡ true → n < 16
      → WellFormedObject l (with_rights ob s n)
  rights-formed ob s n F live there fits =
      let S = F.shape in
      record {
        shape = record {
          rights_length = length-set ob.rights s n ∙ S.rights_length;
          held_length = S.held_length;
          rights-fit = set_all (λ j k. k < 16) ob.rights s n 0 S.rights-fit fits;
          held_fit = S.held_fit;
          owner_fits = S.owner_fits;
          label_fits = S.label_fits;
          companies_fit = S.companies_fit;
          parent_fits = S.parent_fits;
          not_live = λ e. apart live e;
        };
        owner_enrolled = F.owner_enrolled;
        absent_rights = set_all (λ j k. present (clearance_at l j) ≡ false → k ≡ 0) ob.rights s n 0 F.absent_rights (λ e. apart there e);
        absent_held = F.absent_held;
      }

  -- a live object with another label, and with other company numbers
  rest-formed : (ob : Object) (k : Label) (n : ℕ) → WellFormedObject l ob → ob.live ≡ true → LabelFits k → n < 65536
      → WellFormedObject l (with_companies (with_label ob k) n)
  rest-formed ob k n F live label companies =
      let S = F.shape in
      record {
        shape = record {
          rights_length = S.rights_length;
          held_length = S.held_length;
          rights-fit = S.rights-fit;
          held_fit = S.held_fit;
          owner_fits = S.owner_fits;
          label_fits = label;
          companies_fit = companies;
          parent_fits = S.parent_fits;
          not_live = λ w. apart live w;
        };
        owner_enrolled = F.owner_enrolled;
        absent_rights = F.absent_rights;
        absent_held = F.absent_held;
      }

  created-formed : (s : ℕ) (c : Creation) → s < 16 → c.parent ≤ 64 → present (clearance_at l s) ≡ true → WellFormedObject l (created s c)
  created-formed s c h fits-parent there =
      record {
        shape = record {
          rights_length = length-set no_modes s (cond c.execute 15 14);
          held_length = refl;
          rights-fit = set_all (λ j k. k < 16) no_modes s (cond c.execute 15 14) 0 no-object-shape.rights-fit (fits c.execute);
          held_fit = no-object-shape.held_fit;
          owner_fits = h;
          label_fits = tt;
          companies_fit = lit< tt;
          parent_fits = omega (arith, fits-parent);
          not_live = λ w. clash w;
        };
        owner_enrolled = λ w. there;
        absent_rights = set_all (λ j k. present (clearance_at l j) ≡ false → k ≡ 0) no_modes s (cond c.execute 15 14) 0 no-object-formed.absent_rights (λ w. apart there w);
        absent_held = no-object-formed.absent_held;
      }
    where
      fits : (e : Bool) → cond e 15 14 < 16
      fits true = lit< tt
      fits false = lit< tt

-- the actor's enrolment and the life of the object, of a granted request that needs both
module _ (m : Monitor) where
  pub changed-formed : (q : Request) → InRange q → WellFormed m → checks q m ≡ Granted → WellFormedObject m.subjects (changed q (object m (target q)))
  unfolding changed
  changed-formed (Get s o x) r W e =
      let F = W.objects_formed o in
      let g = granted-get m s o x e in
      held-formed m.subjects (object m o) s _ F g.live g.there (add-fits x _ (F.shape.held_fit s))
  changed-formed (Release s o x) r W e =
      let F = W.objects_formed o in
      let g = granted-release m s o x e in
      held-formed m.subjects (object m o) s _ F g.live g.there (remove-fits x _ (F.shape.held_fit s))
  changed-formed (Give s t o x) r W e =
      let F = W.objects_formed o in
      let g = granted-give m s t o x e in
      rights-formed m.subjects (object m o) t _ F g.live (and_right (enrolled m s) _ g.there) (add-fits x _ (F.shape.rights-fit t))
  changed-formed (Rescind s t o x) r W e =
      let F = W.objects_formed o in
      let g = granted-rescind m s t o x e in
      let there = and_right (enrolled m s) (enrolled m t) g.there in
      held-formed m.subjects (with_rights (object m o) t (remove x (rights_of (object m o) t))) t _
      (rights-formed m.subjects (object m o) t _ F g.live there (remove-fits x _ (F.shape.rights-fit t)))
      g.live there (remove-fits x _ (F.shape.held_fit t))
  changed-formed (Create s o c) r W e =
      let g = granted-create m s o c e in
      created-formed m.subjects s c r.0 r.2 g.there
  changed-formed (Delete s o) r W e = no-object-formed m.subjects
  changed-formed (ChangeLevel s o v) r W e = rest-formed m.subjects (object m o) (Some v) _ (W.objects_formed o) (granted-change m s o v e).live r.2 (W.objects_formed o).shape.companies_fit
  changed-formed (SetCompanies s o n) r W e = rest-formed m.subjects (object m o) _ n (W.objects_formed o) (granted-companies m s o n e).live (W.objects_formed o).shape.label_fits r.2
