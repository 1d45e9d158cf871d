-- What a granted request of each kind has passed, by name, and that these are all its checks.
-- Assumes nothing.
use Prim.Native.Nat.{ℕ}
use mathlib.Core.Path.{◌≡◌, refl}
use mathlib.Core.Bool.{true, not, ◌&&◌}
use Rattle.model.specs.declared.Level.{Level}
use Rattle.std.specs.Prelude.{Some}
use Rattle.model.specs.declared.Monitor.{Monitor}
use Rattle.model.specs.declared.Mode.{Mode}
use Rattle.model.specs.declared.Creation.{Creation}
use Rattle.model.specs.declared.Request.{Request}
use Rattle.model.specs.declared.Request.TheVariants.{Get, Release, Give, Rescind, Create, Delete, ChangeLevel, SetCompanies}
use Rattle.model.specs.declared.Decision.TheVariants.{Granted}
use Rattle.model.specs.Tests.{implies}
use Rattle.model.specs.Levels.{dominates, present}
use Rattle.model.specs.Modes.{has, observes, needs_label}
use Rattle.model.specs.State.{clearance, enrolled, object, rights_of}
use Rattle.model.specs.Hierarchy.{parent_live, labels_rise}
use Rattle.model.specs.Rules.{owns, may_give, not_lowered, simple_all, star_for, star_all, wall_for, wall_all, changed, afterwards, check_list, checks}
use Rattle.model.proofs.Checks.{refusals, all-passed, all_pass}

-- every check of a request answers a refusal
pub only-refusals : (q : Request) (m : Monitor) → refusals (check_list q m) ≡ true
only-refusals (Get s o x) m = refl
only-refusals (Release s o x) m = refl
only-refusals (Give s t o x) m = refl
only-refusals (Rescind s t o x) m = refl
only-refusals (Create s o c) m = refl
only-refusals (Delete s o) m = refl
only-refusals (ChangeLevel s o l) m = refl
only-refusals (SetCompanies s o n) m = refl

pub record GrantedGet (m : Monitor) (s o : ℕ) (x : Mode) : Type 0 where
  pub there : enrolled m s ≡ true
  pub live : (object m o).live ≡ true
  pub right : has x (rights_of (object m o) s) ≡ true
  pub labelled : implies (needs_label x) (present (object m o).label) ≡ true
  pub simple : implies (observes x) (dominates (clearance m s) (object m o).label) ≡ true
  pub star : implies (needs_label x) (star_for s (afterwards (Get s o x) m).objects) ≡ true
  pub wall : wall_for s (afterwards (Get s o x) m).objects ≡ true

pub granted-get : (m : Monitor) (s o : ℕ) (x : Mode) → checks (Get s o x) m ≡ Granted → GrantedGet m s o x
unfolding checks
granted-get m s o x e =
    let p = all-passed (check_list (Get s o x) m) refl e in
    record {
      there = p.0;
      live = p.1.0;
      right = p.1.1.0;
      labelled = p.1.1.1.0;
      simple = p.1.1.1.1.0;
      star = p.1.1.1.1.1.0;
      wall = p.1.1.1.1.1.1.0;
    }

pub grants-get : (m : Monitor) (s o : ℕ) (x : Mode) → GrantedGet m s o x → checks (Get s o x) m ≡ Granted
unfolding checks
grants-get m s o x g =
    all_pass (check_list (Get s o x) m) (g.there, (g.live, (g.right, (g.labelled, (g.simple, (g.star, (g.wall, tt)))))))

pub record GrantedRelease (m : Monitor) (s o : ℕ) : Type 0 where
  pub there : enrolled m s ≡ true
  pub live : (object m o).live ≡ true

pub granted-release : (m : Monitor) (s o : ℕ) (x : Mode) → checks (Release s o x) m ≡ Granted → GrantedRelease m s o
unfolding checks
granted-release m s o x e = let p = all-passed (check_list (Release s o x) m) refl e in record { there = p.0; live = p.1.0 }

pub grants-release : (m : Monitor) (s o : ℕ) (x : Mode) → GrantedRelease m s o → checks (Release s o x) m ≡ Granted
unfolding checks
grants-release m s o x g = all_pass (check_list (Release s o x) m) (g.there, (g.live, tt))

-- give and rescind
pub record GrantedGive (m : Monitor) (s t o : ℕ) (x : Mode) : Type 0 where
  pub there : (enrolled m s && enrolled m t) ≡ true
  pub live : (object m o).live ≡ true
  pub allowed : may_give s x (object m o) ≡ true

pub granted-give : (m : Monitor) (s t o : ℕ) (x : Mode) → checks (Give s t o x) m ≡ Granted → GrantedGive m s t o x
unfolding checks
granted-give m s t o x e = let p = all-passed (check_list (Give s t o x) m) refl e in record { there = p.0; live = p.1.0; allowed = p.1.1.0 }

-- "checks as give"
pub granted-rescind : (m : Monitor) (s t o : ℕ) (x : Mode) → checks (Rescind s t o x) m ≡ Granted → GrantedGive m s t o x
unfolding checks
granted-rescind m s t o x e = granted-give m s t o x e

pub record GrantedCreate (m : Monitor) (s o : ℕ) (c : Creation) : Type 0 where
  pub there : enrolled m s ≡ true
  pub free : not (object m o).live ≡ true
  pub parent : parent_live m.objects c.parent ≡ true

pub granted-create : (m : Monitor) (s o : ℕ) (c : Creation) → checks (Create s o c) m ≡ Granted → GrantedCreate m s o c
unfolding checks
granted-create m s o c e = let p = all-passed (check_list (Create s o c) m) refl e in record { there = p.0; free = p.1.0; parent = p.1.1.0 }

pub grants-create : (m : Monitor) (s o : ℕ) (c : Creation) → GrantedCreate m s o c → checks (Create s o c) m ≡ Granted
unfolding checks
grants-create m s o c g = all_pass (check_list (Create s o c) m) (g.there, (g.free, (g.parent, tt)))

pub record GrantedDelete (m : Monitor) (s o : ℕ) : Type 0 where
  pub there : enrolled m s ≡ true
  pub live : (object m o).live ≡ true
  pub owned : owns s (object m o) ≡ true

pub granted-delete : (m : Monitor) (s o : ℕ) → checks (Delete s o) m ≡ Granted → GrantedDelete m s o
unfolding checks
granted-delete m s o e = let p = all-passed (check_list (Delete s o) m) refl e in record { there = p.0; live = p.1.0; owned = p.1.1.0 }

pub grants-delete : (m : Monitor) (s o : ℕ) → GrantedDelete m s o → checks (Delete s o) m ≡ Granted
unfolding checks
grants-delete m s o g = all_pass (check_list (Delete s o) m) (g.there, (g.live, (g.owned, tt)))

pub record GrantedChange (m : Monitor) (s o : ℕ) (l : Level) : Type 0 where
  pub there : enrolled m s ≡ true
  pub live : (object m o).live ≡ true
  pub owned : owns s (object m o) ≡ true
  pub raised : not_lowered (object m o).label (Some l) ≡ true
  pub simple : simple_all m.subjects (changed (ChangeLevel s o l) (object m o)) ≡ true
  pub star : star_all (afterwards (ChangeLevel s o l) m).objects ≡ true
  pub rise : labels_rise (afterwards (ChangeLevel s o l) m).objects ≡ true

pub granted-change : (m : Monitor) (s o : ℕ) (l : Level) → checks (ChangeLevel s o l) m ≡ Granted → GrantedChange m s o l
unfolding checks
granted-change m s o l e =
    let p = all-passed (check_list (ChangeLevel s o l) m) refl e in
    record {
      there = p.0;
      live = p.1.0;
      owned = p.1.1.0;
      raised = p.1.1.1.0;
      simple = p.1.1.1.1.0;
      star = p.1.1.1.1.1.0;
      rise = p.1.1.1.1.1.1.0;
    }

pub grants-change : (m : Monitor) (s o : ℕ) (l : Level) → GrantedChange m s o l → checks (ChangeLevel s o l) m ≡ Granted
unfolding checks
grants-change m s o l g = all_pass (check_list (ChangeLevel s o l) m) (g.there, (g.live, (g.owned, (g.raised, (g.simple, (g.star, (g.rise, tt)))))))

pub record GrantedCompanies (m : Monitor) (s o n : ℕ) : Type 0 where
  pub there : enrolled m s ≡ true
  pub live : (object m o).live ≡ true
  pub owned : owns s (object m o) ≡ true
  pub wall : wall_all (afterwards (SetCompanies s o n) m).objects ≡ true

pub granted-companies : (m : Monitor) (s o n : ℕ) → checks (SetCompanies s o n) m ≡ Granted → GrantedCompanies m s o n
unfolding checks
granted-companies m s o n e =
    let p = all-passed (check_list (SetCompanies s o n) m) refl e in
    record { there = p.0; live = p.1.0; owned = p.1.1.0; wall = p.1.1.1.0 }

pub grants-companies : (m : Monitor) (s o n : ℕ) → GrantedCompanies m s o n → checks (SetCompanies s o n) m ≡ Granted
unfolding checks
grants-companies m s o n g = all_pass (check_list (SetCompanies s o n) m) (g.there, (g.live, (g.owned, (g.wall, tt))))
