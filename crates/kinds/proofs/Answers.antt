-- A request on the rows by its checks: refused before anything is stored, refused by what the change would break, or granted.
-- Assumes nothing.
use Prim.Native.Nat.{ℕ, ◌<◌}
use mathlib.Core.Path.{◌≡◌, refl, sym, ap, ◌∙◌, subst}
use mathlib.Core.Bool.{Bool, true, false, cond}
use native.Mathlib.Omega.{arith}
use lib.ListN.{length}
use lib.Seq.{get_or-set_same}
use Rattle.std.specs.Prelude.{Some, Ok, Err}
use Rattle.model.specs.declared.Level.{Level}
use Rattle.model.specs.declared.Mode.{Mode}
use Rattle.model.specs.declared.Object.{Object}
use Rattle.model.specs.declared.Monitor.{Monitor}
use Rattle.model.specs.declared.Request.{Request}
use Rattle.model.specs.declared.Request.TheVariants.{Get, Delete, ChangeLevel, SetCompanies}
use Rattle.model.specs.declared.Decision.{Decision}
use Rattle.model.specs.declared.Decision.TheVariants.{Granted, Already, NotEnrolled, NotLive, NoRight, NoLabel, SimpleBroken, StarBroken, LabelLowered, WallBroken, HierarchyBroken}
use Rattle.model.specs.declared.Response.{Response}
use Rattle.model.specs.Tests.{unless}
use Rattle.model.specs.State.{no_object, object}
use Rattle.model.specs.Hierarchy.{labels_rise}
use Rattle.model.specs.Decisions.{number, refuses, checked}
use Rattle.model.specs.Requests.{InRange}
use Rattle.model.specs.Rules.{not_lowered, target, already, changed, checks, afterwards, simple_all, star_all, wall_all}
use Rattle.model.proofs.Checked.{refusal, passes}
use Rattle.model.proofs.Tests.{cond-true, cond-false, pass, stop}
use Rattle.unit.specs.Rows.{Rows, row_count, object_in, objects_in, state_in}
use Rattle.unit.proofs.Tabulated.{tabulate-length}
use Rattle.unit.proofs.Stores.{label-stored, companies-stored}
use Rattle.kinds.specs.Stages.{before_star, after_get, after_change, first}
use Rattle.kinds.specs.Carried.{stores, carried, Does}
use Rattle.kinds.proofs.Effects.{stored-state, step-refused, step-granted, granted}

-- ---- from the checks to the answer

module _ (q : Request) (u w : Rows) where
  refused-by : (k : Decision) → checks q (state_in u) ≡ k → refuses k ≡ true → w ≡ u → Does q u w (number k)
  unfolding carried
  refused-by k checked_is t z =
      let s = ap (λ (x : Response). x.decision) (step-refused q (state_in u) (ap refuses checked_is ∙ t)) ∙ checked_is in
      record { answers = ap number (sym s); leaves = z ∙ sym (cond-true _ _ _ (ap refuses s ∙ t)) }

  granted-by : (k : Decision) → checks q (state_in u) ≡ k → refuses k ≡ false
      → (was : Bool) → was ≡ already q (object (state_in u) (target q)) → (d : Decision) → d ≡ cond was Already Granted → w ≡ stores q u → Does q u w (number d)
  unfolding carried
  granted-by k checked_is t was f d x z =
      let g = ap refuses checked_is ∙ t in
      record {
        answers = ap number (x ∙ ap (λ b. cond b Already Granted) f) ∙ sym (ap (λ (y : Response). number y.decision) (step-granted q (state_in u) g));
        leaves = z ∙ sym (cond-false _ _ _ (granted q (state_in u) g));
      }

  -- of a kind whose checks are all of the state as it stands
  pub does-refused : (e : Decision) → checked (checks q (state_in u)) ≡ Err e → w ≡ u → Does q u w (number e)
  does-refused e h z =
      let r = refusal _ e h in
      subst (λ (d : Decision). Does q u w (number d)) (sym r.1) (refused-by (checks q (state_in u)) refl r.0 z)

  pub does-granted : checked (checks q (state_in u)) ≡ Ok tt
      → (was : Bool) → was ≡ already q (object (state_in u) (target q)) → (d : Decision) → d ≡ cond was Already Granted → w ≡ stores q u → Does q u w (number d)
  does-granted h was f d x z = granted-by (checks q (state_in u)) refl (passes _ h) was f d x z

-- ---- two stages

-- the first refusal of a check and those after it
before : (b : Bool) (d v w u : Decision) → refuses d ≡ true → first v w ≡ u → first (unless b d v) w ≡ unless b d u
unfolding unless first
before true d v w u r e = e
before false d v w u r e = cond-true (refuses d) d w r

-- get: star and the wall come last, of the state with the access in it
get-stages : (s o : ℕ) (x : Mode) (m : Monitor) → first (before_star s o x m) (after_get s x (afterwards (Get s o x) m)) ≡ checks (Get s o x) m
unfolding checks before_star after_get first
get-stages s o x m =
    before _ NotEnrolled _ _ _ refl (before _ NotLive _ _ _ refl (before _ NoRight _ _ _ refl
    (before _ NoLabel _ _ _ refl (before _ SimpleBroken _ _ _ refl refl))))

-- change of level: the checks of delete, then 14, then those of the state after it
level_last : ℕ → Level → Monitor → Object → Decision
level_last o l m ob =
    unless (simple_all m.subjects ob) SimpleBroken
    (unless (star_all (afterwards (ChangeLevel 0 o l) m).objects) StarBroken
    (unless (labels_rise (afterwards (ChangeLevel 0 o l) m).objects) HierarchyBroken
    Granted))

-- what stands behind the checks of delete, where this is what comes after 14
from_lowering : ℕ → Level → Monitor → Decision → Decision
from_lowering o l m last = unless (not_lowered (object m o).label (Some l)) LabelLowered last

level-stages : (s o : ℕ) (l : Level) (m : Monitor)
    → first (checks (Delete s o) m) (from_lowering o l m (level_last o l m (changed (ChangeLevel s o l) (object m o)))) ≡ checks (ChangeLevel s o l) m
unfolding checks from_lowering level_last changed first
level-stages s o l m = before _ NotEnrolled _ _ _ refl (before _ NotLive _ _ _ refl (before _ NoRight _ _ _ refl refl))

level-after : (o : ℕ) (l : Level) (m : Monitor) → o < length m.objects → level_last o l m (changed (ChangeLevel 0 o l) (object m o)) ≡ after_change o (afterwards (ChangeLevel 0 o l) m)
unfolding level_last after_change
level-after o l m h = ap (level_last o l m) (sym (get_or-set_same m.objects o (changed (ChangeLevel 0 o l) (object m o)) no_object h))

-- company numbers: the checks of delete, then the wall of the state after it
wall_last : Monitor → Decision
wall_last m = unless (wall_all m.objects) WallBroken Granted

companies-stages : (s o n : ℕ) (m : Monitor)
    → first (checks (Delete s o) m) (wall_last (afterwards (SetCompanies s o n) m)) ≡ checks (SetCompanies s o n) m
unfolding checks wall_last first
companies-stages s o n m = before _ NotEnrolled _ _ _ refl (before _ NotLive _ _ _ refl (before _ NoRight _ _ _ refl refl))

refused-first : (d later : Decision) → refuses d ≡ true → first d later ≡ d
unfolding first
refused-first d later t = cond-true _ _ _ t

passed_first : (d later : Decision) → refuses d ≡ false → first d later ≡ later
unfolding first
passed_first d later t = cond-false _ _ _ t

-- get
module _ (u : Rows) (n : length u ≡ row_count) (s o : ℕ) (x : Mode) (R : InRange (Get s o x)) where
  staged : checks (Get s o x) (state_in u) ≡ first (before_star s o x (state_in u)) (after_get s x (afterwards (Get s o x) (state_in u)))
  staged = sym (get-stages s o x (state_in u))

  pub get-refused : (e : Decision) → checked (before_star s o x (state_in u)) ≡ Err e → Does (Get s o x) u u (number e)
  get-refused e h =
      let r = refusal _ e h in
      subst (λ (d : Decision). Does (Get s o x) u u (number d)) (sym r.1) (refused-by (Get s o x) u u _ (staged ∙ refused-first _ _ r.0) r.0 refl)

  -- the access was stored
  module _ (h : checked (before_star s o x (state_in u)) ≡ Ok tt) (w : Rows) (w-is : w ≡ stores (Get s o x) u) where
    get-last : checks (Get s o x) (state_in u) ≡ after_get s x (state_in w)
    get-last = staged ∙ passed_first _ _ (passes _ h) ∙ ap (after_get s x) (sym (ap state_in w-is ∙ stored-state (Get s o x) u n R))

    pub get-put-back : (e : Decision) → checked (after_get s x (state_in w)) ≡ Err e → (z : Rows) → z ≡ u → Does (Get s o x) u z (number e)
    get-put-back e k z z-is =
        let r = refusal _ e k in
        subst (λ (d : Decision). Does (Get s o x) u z (number d)) (sym r.1) (refused-by (Get s o x) u z _ get-last r.0 z-is)

    pub get-done : checked (after_get s x (state_in w)) ≡ Ok tt
        → (was : Bool) → was ≡ already (Get s o x) (object (state_in u) o) → (d : Decision) → d ≡ cond was Already Granted → Does (Get s o x) u w (number d)
    get-done k was f d e = granted-by (Get s o x) u w _ get-last (passes _ k) was f d e w-is

-- a change of level
module _ (u : Rows) (n : length u ≡ row_count) (s o : ℕ) (l : Level) (h : o < 64) where
  level-staged : checks (ChangeLevel s o l) (state_in u)
      ≡ first (checks (Delete s o) (state_in u)) (from_lowering o l (state_in u) (after_change o (afterwards (ChangeLevel s o l) (state_in u))))
  unfolding changed
  level-staged =
      sym (level-stages s o l (state_in u))
      ∙ ap (λ (d : Decision). first (checks (Delete s o) (state_in u)) (from_lowering o l (state_in u) d)) (level-after o l (state_in u) (omega (arith, tabulate-length 64 (object_in u))))

  pub level-refused : (e : Decision) → checked (checks (Delete s o) (state_in u)) ≡ Err e → Does (ChangeLevel s o l) u u (number e)
  level-refused e k =
      let r = refusal _ e k in
      subst (λ (d : Decision). Does (ChangeLevel s o l) u u (number d)) (sym r.1) (refused-by (ChangeLevel s o l) u u _ (level-staged ∙ refused-first _ _ r.0) r.0 refl)

  module _ (k : checked (checks (Delete s o) (state_in u)) ≡ Ok tt) where
    pub level-lowered : not_lowered (object (state_in u) o).label (Some l) ≡ false → Does (ChangeLevel s o l) u u (number LabelLowered)
    unfolding from_lowering
    level-lowered e = refused-by (ChangeLevel s o l) u u LabelLowered (level-staged ∙ passed_first _ _ (passes _ k) ∙ stop _ LabelLowered _ e) refl refl

    -- the label was stored
    module _ (e : not_lowered (object (state_in u) o).label (Some l) ≡ true) (w : Rows) (w-is : w ≡ stores (ChangeLevel s o l) u) where
      level-last : checks (ChangeLevel s o l) (state_in u) ≡ after_change o (state_in w)
      unfolding from_lowering stores changed
      level-last =
          level-staged ∙ passed_first _ _ (passes _ k) ∙ pass _ LabelLowered _ e
          ∙ ap (after_change o) (sym (ap state_in w-is ∙ label-stored u n o h (Some l)))

      pub level-put-back : (f : Decision) → checked (after_change o (state_in w)) ≡ Err f → (z : Rows) → z ≡ u → Does (ChangeLevel s o l) u z (number f)
      level-put-back f g z z-is =
          let r = refusal _ f g in
          subst (λ (d : Decision). Does (ChangeLevel s o l) u z (number d)) (sym r.1) (refused-by (ChangeLevel s o l) u z _ level-last r.0 z-is)

      pub level-done : checked (after_change o (state_in w)) ≡ Ok tt
          → (was : Bool) → was ≡ already (ChangeLevel s o l) (object (state_in u) o) → (d : Decision) → d ≡ cond was Already Granted → Does (ChangeLevel s o l) u w (number d)
      level-done g was f d x = granted-by (ChangeLevel s o l) u w _ level-last (passes _ g) was f d x w-is

-- company numbers
module _ (u : Rows) (n : length u ≡ row_count) (s o k : ℕ) (h : o < 64) where
  companies-staged : checks (SetCompanies s o k) (state_in u) ≡ first (checks (Delete s o) (state_in u)) (wall_last (afterwards (SetCompanies s o k) (state_in u)))
  companies-staged = sym (companies-stages s o k (state_in u))

  pub companies-refused : (e : Decision) → checked (checks (Delete s o) (state_in u)) ≡ Err e → Does (SetCompanies s o k) u u (number e)
  companies-refused e x =
      let r = refusal _ e x in
      subst (λ (d : Decision). Does (SetCompanies s o k) u u (number d)) (sym r.1) (refused-by (SetCompanies s o k) u u _ (companies-staged ∙ refused-first _ _ r.0) r.0 refl)

  -- the numbers were stored
  module _ (x : checked (checks (Delete s o) (state_in u)) ≡ Ok tt) (w : Rows) (w-is : w ≡ stores (SetCompanies s o k) u) where
    companies-last : checks (SetCompanies s o k) (state_in u) ≡ wall_last (state_in w)
    unfolding stores changed
    companies-last = companies-staged ∙ passed_first _ _ (passes _ x) ∙ ap wall_last (sym (ap state_in w-is ∙ companies-stored u n o h k))

    pub companies-put-back : wall_all (objects_in w) ≡ false → (z : Rows) → z ≡ u → Does (SetCompanies s o k) u z (number WallBroken)
    unfolding wall_last
    companies-put-back b z z-is = refused-by (SetCompanies s o k) u z WallBroken (companies-last ∙ stop _ WallBroken _ b) refl z-is

    pub companies-done : wall_all (objects_in w) ≡ true
        → (was : Bool) → was ≡ already (SetCompanies s o k) (object (state_in u) o) → (d : Decision) → d ≡ cond was Already Granted → Does (SetCompanies s o k) u w (number d)
    unfolding wall_last
    companies-done b was f d e = granted-by (SetCompanies s o k) u w Granted (companies-last ∙ pass _ WallBroken _ b) refl was f d e w-is
