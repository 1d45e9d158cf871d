-- Where two states differ in a clearance alone, creating an object, labelling it and asking to read it draws different replies.
-- Assumes nothing.
use Prim.Native.Nat.{ℕ, zero, suc, ◌<◌, ◌≤◌}
use native.Mathlib.Omega.{arith}
use mathlib.Core.Path.{◌≡◌, refl, sym, ap, ◌∙◌, subst}
use mathlib.Core.Logic.{⊎_elim}
use mathlib.Core.Bool.{true, false, not, cond, ◌||◌}
use mathlib.Core.List.{List, [], ◌∷◌}
use lib.ListN.{length}
use lib.Seq.{get_or-set_same}
use lib.Dec.{leb, lit≤}
use borrow.Author.Tests.{le-leb}
use Rattle.model.specs.declared.Level.{Level}
use Rattle.model.specs.Levels.{Label, compare, equal_or_above, dominates, level_dominates, present}
use Rattle.std.specs.Prelude.{Some, None}
use Rattle.model.specs.declared.Comparison.{Comparison}
use Rattle.model.specs.declared.Object.{Object}
use Rattle.model.specs.declared.Profile.{Profile}
use Rattle.model.specs.declared.Monitor.{Monitor}
use Rattle.model.specs.declared.Mode.TheVariants.{Read}
use Rattle.model.specs.declared.Request.{Request}
use Rattle.model.specs.declared.Request.TheVariants.{Get, Create, Delete, ChangeLevel}
use Rattle.model.specs.declared.Decision.TheVariants.{Granted, NotEnrolled, NotLive, NoRight, NoLabel, SimpleBroken, StarBroken, WallBroken}
use Rattle.model.specs.Tests.{implies, unless}
use Rattle.model.specs.Modes.{has}
use Rattle.model.specs.State.{no_modes, clearance, enrolled, object, rights_of, with_label, LevelFits, LabelFits}
use Rattle.model.specs.Profiles.{LevelInside}
use Rattle.model.specs.Hierarchy.{parent_live}
use Rattle.model.specs.Requests.{creation}
use Rattle.model.specs.Rules.{changed, afterwards, checks, created, star_for, wall_for}
use Rattle.model.proofs.Tests.{pass, stop, not-stop, distinct, cond-all, or-false, le-or-lt}
use Rattle.model.proofs.Tests as tests
use Rattle.model.proofs.Levels.{level-refl}
use Rattle.model.proofs.Comparisons.{mirror, level-back, equal-exactly}
use Rattle.model.proofs.After.{object-there}
use Rattle.telling.specs.Distinguish.{free_below, read_at, to_clearance, by_clearance}
use Rattle.equal_images.proofs.Answers.{comparison-all}
use Rattle.invariants.proofs.Granted.{grants-create}
use Rattle.invariants.proofs.Relabelling.{first-label-granted}
use Rattle.equal_images.proofs.Objects.{tells-refusal, delete-granted, delete-formed, after-granted}
use Rattle.equal_images.specs.Inputs.{Formed, AllFormed}
use Rattle.equal_images.proofs.Under.{Under, subject-in, clearance-in, under-afterwards}
use Rattle.equal_images.proofs.Probes.{Differs, differs-sym, differs-first, Probe, alike, apart}

-- a subject, an object and a level that are in use under the profile
record InUse (p : Profile) (s o : ℕ) (l : Level) : Type 0 where
  s-below : s < 16
  o-below : o < 64
  fits : LevelFits l
  s_inside : s < p.subjects
  o_inside : o < p.objects
  l_inside : LevelInside p l

-- ---- subject s creates object o, labels it and asks to read it

module _ (p : Profile) (s o : ℕ) (l : Level) (I : InUse p s o l) where
  create-formed : Formed p (Create s o (creation false 0))
  create-formed = ((I.s-below, I.o-below, omega arith), (I.s_inside, I.o_inside, omega arith))

  change-formed : Formed p (ChangeLevel s o l)
  change-formed = ((I.s-below, I.o-below, I.fits), (I.s_inside, I.o_inside, I.l_inside))

  get-formed : Formed p (Get s o Read)
  get-formed = ((I.s-below, I.o-below), (I.s_inside, I.o_inside))

  made : Monitor → Monitor
  made m = afterwards (Create s o (creation false 0)) m

  ready : Monitor → Monitor
  ready m = afterwards (ChangeLevel s o l) (made m)

  module _ (m : Monitor) (S : Under p m) (there : enrolled m s ≡ true) (free : (object m o).live ≡ false) where
    create-granted : checks (Create s o (creation false 0)) m ≡ Granted
    unfolding parent_live
    create-granted = grants-create m s o (creation false 0) (record { there = there; free = ap not free; parent = refl })

    under-made : Under p (made m)
    unfolding made
    under-made = under-afterwards p m S (Create s o (creation false 0)) create-formed create-granted

    object-made : object (made m) o ≡ created s (creation false 0)
    unfolding made changed
    object-made = object-there (Create s o (creation false 0)) m S.sound.formed I.o-below

    clearance-made : clearance (made m) s ≡ clearance m s
    unfolding made
    clearance-made = refl

    level-granted : checks (ChangeLevel s o l) (made m) ≡ Granted
    level-granted =
        subst (λ (w : ℕ). checks (ChangeLevel w o l) (made m) ≡ Granted) (ap (λ (k : Object). k.owner) object-made)
        (first-label-granted (made m) under-made.sound o l (ap (λ (k : Object). k.live) object-made) (ap (λ (k : Object). k.label) object-made)
        (λ q e. absurd (omega (arith, sym (ap (λ (k : Object). k.parent) object-made) ∙ e))))

    under-ready : Under p (ready m)
    unfolding ready
    under-ready = under-afterwards p (made m) under-made (ChangeLevel s o l) change-formed level-granted

    object-ready : object (ready m) o ≡ with_label (created s (creation false 0)) (Some l)
    unfolding ready changed
    object-ready =
        object-there (ChangeLevel s o l) (made m) under-made.sound.formed I.o-below
        ∙ ap (λ (k : Object). with_label k (Some l)) object-made

    clearance-ready : clearance (ready m) s ≡ clearance m s
    unfolding ready made
    clearance-ready = refl

    -- what is left of the get: 8, then 9 and 18
    reading : checks (Get s o Read) (ready m)
        ≡ unless (dominates (clearance m s) (Some l)) SimpleBroken
        (unless (star_for s (afterwards (Get s o Read) (ready m)).objects) StarBroken
        (unless (wall_for s (afterwards (Get s o Read) (ready m)).objects) WallBroken Granted))
    unfolding checks has implies
    reading =
        pass _ NotEnrolled _ (ap present clearance-ready ∙ there)
        ∙ pass _ NotLive _ (ap (λ (k : Object). k.live) object-ready)
        ∙ pass _ NoRight _ (ap (λ (k : Object). has Read (rights_of k s)) object-ready ∙ ap (has Read) (get_or-set_same no_modes s 14 0 I.s-below))
        ∙ pass _ NoLabel _ (ap (λ (k : Object). present k.label) object-ready)
        ∙ rw (clearance-ready, ap (λ (k : Object). k.label) object-ready)

  -- two states in which s is enrolled and the object is not live, one of whose clearances dominates the level
  module _ (m n : Monitor) (S : Under p m) (N : Under p n) (here : enrolled m s ≡ true) (there : enrolled n s ≡ true)
      (free : (object m o).live ≡ false) (empty : (object n o).live ≡ false)
      (above : dominates (clearance m s) (Some l) ≡ true) (not_above : dominates (clearance n s) (Some l) ≡ false) where
    tells-clearance : Differs (Create s o (creation false 0) ∷ ChangeLevel s o l ∷ Get s o Read ∷ []) m n
    unfolding ready made
    tells-clearance =
        after-granted p (Create s o (creation false 0)) _ m n S N create-formed (create-granted m S here free) (create-granted n N there empty)
        (after-granted p (ChangeLevel s o l) _ (made m) (made n) (under-made m S here free) (under-made n N there empty) change-formed (level-granted m S here free) (level-granted n N there empty)
        (differs-first p (ready m) (ready n) (under-ready m S here free).profile (under-ready n N there empty).profile (Get s o Read) [] get-formed
        (tells-refusal (Get s o Read) (ready m) (ready n) SimpleBroken refl
        (reading n N there empty ∙ stop _ SimpleBroken _ not_above)
        (λ e. not-stop _ StarBroken _ SimpleBroken (distinct _ _ refl)
        (not-stop _ WallBroken Granted SimpleBroken (distinct _ _ refl) (distinct _ _ refl)) (sym (reading m S here free ∙ pass _ SimpleBroken _ above) ∙ e)))))

-- ---- with a slot that is free, or that its owner makes free

gone : (p : Profile) (m : Monitor) → Under p m → (o : ℕ) → o < 64 → (w : ℕ) → (object (afterwards (Delete w o) m) o).live ≡ false
unfolding changed
gone p m S o h w = ap (λ (k : Object). k.live) (object-there (Delete w o) m S.sound.formed h)

module _ (p : Profile) (s o : ℕ) (l : Level) (I : InUse p s o l) where
  -- the owner that both have
  read-differs : (m n : Monitor) → Under p m → Under p n → object m o ≡ object n o → enrolled m s ≡ true → enrolled n s ≡ true
      → dominates (clearance m s) (Some l) ≡ true → dominates (clearance n s) (Some l) ≡ false → Differs (read_at m o s l) m n
  unfolding read_at
  read-differs m n S N same here there above not_above =
      let w = (object m o).owner in
      cond-all (λ (qs : List Request). Differs qs m n) (object m o).live _ _
      (λ live.
      let live-too : (object n o).live ≡ true = sym (ap (λ (k : Object). k.live) same) ∙ live in
      let own : Formed p (Delete w o) = delete-formed p m S o I.o-below live in
      let gm : checks (Delete w o) m ≡ Granted = delete-granted m S.sound o live in
      let gn : checks (Delete w o) n ≡ Granted =
      subst (λ (k : ℕ). checks (Delete k o) n ≡ Granted) (sym (ap (λ (k : Object). k.owner) same)) (delete-granted n N.sound o live-too) in
      after-granted p (Delete w o) _ m n S N own gm gn
      (tells-clearance p s o l I (afterwards (Delete w o) m) (afterwards (Delete w o) n)
      (under-afterwards p m S (Delete w o) own gm) (under-afterwards p n N (Delete w o) own gn) here there (gone p m S o I.o-below w) (gone p n N o I.o-below w) above not_above))
      (λ free. tells-clearance p s o l I m n S N here there free (sym (ap (λ (k : Object). k.live) same) ∙ free) above not_above)

  read-formed : (m : Monitor) → Under p m → AllFormed p (read_at m o s l)
  unfolding read_at
  read-formed m S =
      cond-all (AllFormed p) (object m o).live _ _
      (λ live. (delete-formed p m S o I.o-below live, (create-formed p s o l I, (change-formed p s o l I, (get-formed p s o l I, tt)))))
      (λ free. (create-formed p s o l I, (change-formed p s o l I, (get-formed p s o l I, tt))))

  read_short : (m : Monitor) → length (read_at m o s l) ≤ 4
  unfolding read_at
  read_short m = cond-all (λ (qs : List Request). length qs ≤ 4) (object m o).live _ _ (λ e. lit≤ tt) (λ e. lit≤ tt)

  read_same : (m n : Monitor) → object m o ≡ object n o → read_at n o s l ≡ read_at m o s l
  unfolding read_at
  read_same m n same =
      ap (λ (k : Object). cond k.live (Delete k.owner o ∷ Create s o (creation false 0) ∷ ChangeLevel s o l ∷ Get s o Read ∷ []) (Create s o (creation false 0) ∷ ChangeLevel s o l ∷ Get s o Read ∷ []))
      (sym same)

-- ---- the search over clearances

-- the slot is inside the profile, since that has object 0
free-inside : (k : ℕ) (m : Monitor) → 0 < m.profile.objects → free_below k m < m.profile.objects
unfolding free_below
free-inside zero m h = h
free-inside (suc k) m h =
    cond-all (λ (o : ℕ). o < m.profile.objects) ((object m k).live || leb m.profile.objects k) _ k (λ e. free-inside k m h)
    (λ e. not_beyond (or-false (object m k).live (leb m.profile.objects k) e).1)
  where
    not_beyond : leb m.profile.objects k ≡ false → k < m.profile.objects
    not_beyond w = ⊎_elim (λ (a : m.profile.objects ≤ k). tests.apart (le-leb _ _ a) w) (λ (a : k < m.profile.objects). a) (le-or-lt m.profile.objects k)

module _ (p : Profile) (m n : Monitor) (S : Under p m) (N : Under p n) (objects : (o : ℕ) → o < 64 → object m o ≡ object n o)
    (same : (s : ℕ) → s < 16 → enrolled m s ≡ enrolled n s) (s : ℕ) (s-below : s < 16) where
  slot : ℕ
  slot = free_below 64 m

  slot-inside : slot < m.profile.objects
  unfolding slot
  slot-inside = free-inside 64 m S.sound.inside.fitting_profile.one_object

  slot-below : slot < 64
  slot-below = omega (arith, slot-inside, S.sound.inside.fitting_profile.objects_fit)

  here_of : (a : Label) → clearance m s ≡ a → present a ≡ true → (enrolled m s ≡ true) × (enrolled n s ≡ true)
  here_of a q e = let w : enrolled m s ≡ true = ap present q ∙ e in (w, sym (same s s-below) ∙ w)

  all-inside : (x : Level) → LevelFits x → LevelInside p x → enrolled m s ≡ true → InUse p s slot x
  all-inside x fits within there =
      record {
        s-below = s-below;
        o-below = slot-below;
        fits = fits;
        s_inside = subject-in p m S s there;
        o_inside = subst (λ (k : Profile). slot < k.objects) S.profile slot-inside;
        l_inside = within;
      }

  -- the level of the one, which the other does not dominate
  of-first : (x y : Level) → clearance m s ≡ Some x → clearance n s ≡ Some y → level_dominates y x ≡ false
      → Probe p m n (read_at m slot s x) (Some x ≡ Some y)
  unfolding dominates
  of-first x y f g h =
      let e = here_of (Some x) f refl in
      let I = all-inside x (subst LabelFits f (S.sound.formed.clearances_fit s)) (clearance-in p m S s x f) e.0 in
      apart (read-formed p s slot x I m S) (read_short p s slot x I m)
      (read-differs p s slot x I m n S N (objects slot slot-below) e.0 e.1
      (ap (λ (v : Label). dominates v (Some x)) f ∙ level-refl x) (ap (λ (v : Label). dominates v (Some x)) g ∙ h))

  of-second : (x y : Level) → clearance m s ≡ Some x → clearance n s ≡ Some y → level_dominates x y ≡ false
      → Probe p m n (read_at m slot s y) (Some x ≡ Some y)
  unfolding dominates
  of-second x y f g h =
      let e = here_of (Some x) f refl in
      let I = all-inside y (subst LabelFits g (N.sound.formed.clearances_fit s)) (clearance-in p n N s y g) e.0 in
      let same-slot = objects slot slot-below in
      apart (read-formed p s slot y I m S) (read_short p s slot y I m)
      (subst (λ (qs : List Request). Differs qs m n) (read_same p s slot y I m n same-slot)
      (differs-sym (read_at n slot s y) n m
      (read-differs p s slot y I n m N S (sym same-slot) e.1 e.0
      (ap (λ (v : Label). dominates v (Some y)) g ∙ level-refl y) (ap (λ (v : Label). dominates v (Some y)) f ∙ h))))

  -- s has clearance a in the one and b in the other
  clearance-probe : (a b : Label) → clearance m s ≡ a → clearance n s ≡ b → Probe p m n (to_clearance m s a b) (a ≡ b)
  unfolding to_clearance slot level_dominates
  clearance-probe None None f g = alike refl refl
  clearance-probe None (Some y) f g = tests.apart (ap present g) (sym (same s s-below) ∙ ap present f)
  clearance-probe (Some x) None f g = tests.apart (here_of (Some x) f refl).1 (ap present g)
  clearance-probe (Some x) (Some y) f g =
      comparison-all (λ (qs : List Request). Probe p m n qs (Some x ≡ Some y)) (compare x y) _ _
      (λ e. alike refl (ap Some ((equal-exactly x y (subst LabelFits f (S.sound.formed.clearances_fit s)).1 (subst LabelFits g (N.sound.formed.clearances_fit s)).1).0 e)))
      (λ e. of-first x y f g (level-back x y ∙ ap (λ (c : Comparison). equal_or_above (mirror c)) e))
      (λ e. of-second x y f g (ap equal_or_above e))
      (λ e. of-first x y f g (level-back x y ∙ ap (λ (c : Comparison). equal_or_above (mirror c)) e))

  pub probe-clearance : Probe p m n (by_clearance m n s) (clearance m s ≡ clearance n s)
  unfolding by_clearance
  probe-clearance = clearance-probe (clearance m s) (clearance n s) refl refl
