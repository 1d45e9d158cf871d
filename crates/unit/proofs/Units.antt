-- The rows of a whole monitor: they say it, and a loop that stores them part by part makes them.
-- Assumes nothing.
use Prim.Native.Nat.{ℕ, ◌+◌, ◌-◌, ◌≤◌, ◌<◌}
use native.Mathlib.Omega.{arith}
use native.Mathlib.Nat.{eq-or-lt_of_le}
use mathlib.Core.Path.{◌≡◌, refl, sym, ap, ◌∙◌, subst}
use mathlib.Core.Logic.{⊎_elim}
use mathlib.Core.List.{List, []}
use lib.ListN.{length, set, length-set}
use lib.Seq.{get_or-set_same, get_or-set_other}
use borrow.Author.Tests.{lt-ltb, le-ltb}
use Rattle.model.specs.declared.Object.{Object}
use Rattle.model.specs.declared.Monitor.{Monitor}
use Rattle.model.specs.State.{nobody, no_object, object_at, object, clearance, fresh, WellFormed}
use Rattle.model.proofs.Tests.{le-or-lt}
use Rattle.model.proofs.Equal.{monitor-ext}
use Rattle.unit.specs.Rows.{Rows, row_count, held_row, rest_row, clearance_row, profile_row, row_at, label_in, profile_in, object_in, subject_in, subjects_in, objects_in, state_in}
use Rattle.unit.specs.Stored.{rest_of, clearance_of, profile_of, set_profile, set_object, monitor_row, unit_of, ObjectsStored, SameClearances}
use Rattle.unit.proofs.Tabulated.{tabulate-length, tabulate-at, tabulated}
use Rattle.unit.proofs.Stores.{label-back, profile-back, object-back, object-length, object-others, object-rights, object-held, object-rest}

pub unit-length : (m : Monitor) → length (unit_of m) ≡ row_count
unfolding unit_of
unit-length m = tabulate-length row_count (monitor_row m)

-- ---- the five parts of a unit

module _ (m : Monitor) where
  pub row-rights : (p : ℕ) → p < 64 → monitor_row m p ≡ (object m p).rights
  unfolding monitor_row
  row-rights p h = rw (lt-ltb p 64 h)

  pub row-held : (p : ℕ) → p < 64 → monitor_row m (held_row p) ≡ (object m p).held
  unfolding monitor_row
  row-held p h =
      let e : held_row p - 64 ≡ p = omega arith in
      rw (le-ltb (held_row p) 64 (omega arith), lt-ltb (held_row p) 128 (omega arith)) (ap (λ i. (object m i).held) e)

  pub row-rest : (p : ℕ) → p < 64 → monitor_row m (rest_row p) ≡ rest_of (object m p)
  unfolding monitor_row
  row-rest p h =
      let e : rest_row p - 128 ≡ p = omega arith in
      rw (le-ltb (rest_row p) 64 (omega arith), le-ltb (rest_row p) 128 (omega arith), lt-ltb (rest_row p) 192 (omega arith)) (ap (λ i. rest_of (object m i)) e)

  pub row-clearance : (s : ℕ) → s < 16 → monitor_row m (clearance_row s) ≡ clearance_of (clearance m s)
  unfolding monitor_row
  row-clearance s h =
      let e : clearance_row s - 192 ≡ s = omega arith in
      rw (le-ltb (clearance_row s) 64 (omega arith), le-ltb (clearance_row s) 128 (omega arith), le-ltb (clearance_row s) 192 (omega arith), lt-ltb (clearance_row s) 208 (omega arith))
      (ap (λ i. clearance_of (clearance m i)) e)

  pub row-profile : monitor_row m profile_row ≡ profile_of m.profile
  unfolding monitor_row
  row-profile = refl

-- a number below 209 is that of a row of one of the five parts
pub in_parts : (P : ℕ → Type 0) → ((p : ℕ) → p < 64 → P p) → ((p : ℕ) → p < 64 → P (held_row p)) → ((p : ℕ) → p < 64 → P (rest_row p))
    → ((s : ℕ) → s < 16 → P (clearance_row s)) → P profile_row → (i : ℕ) → i < row_count → P i
in_parts P a b c d e i h =
    ⊎_elim
    (λ (w : 64 ≤ i).
    ⊎_elim
    (λ (x : 128 ≤ i).
    ⊎_elim
    (λ (y : 192 ≤ i).
    ⊎_elim
    (λ (z : 208 ≤ i). let k : profile_row ≡ i = omega arith in subst P k e)
    (λ (z : i < 208). let k : clearance_row (i - 192) ≡ i = omega arith in subst P k (d (i - 192) (omega arith)))
    (le-or-lt 208 i))
    (λ (y : i < 192). let k : rest_row (i - 128) ≡ i = omega arith in subst P k (c (i - 128) (omega arith)))
    (le-or-lt 192 i))
    (λ (x : i < 128). let k : held_row (i - 64) ≡ i = omega arith in subst P k (b (i - 64) (omega arith)))
    (le-or-lt 128 i))
    (λ (w : i < 64). a i w)
    (le-or-lt 64 i)

-- ---- the rows of a monitor say it

module _ (m : Monitor) where
  pub unit-at : (i : ℕ) → i < row_count → row_at (unit_of m) i ≡ monitor_row m i
  unfolding unit_of
  unit-at i h = tabulate-at row_count (monitor_row m) i [] h

  unit-object : (o : ℕ) → o < 64 → object_in (unit_of m) o ≡ object m o
  unit-object o h =
      rw (unit-at o (omega arith), unit-at (held_row o) (omega arith), unit-at (rest_row o) (omega arith), row-rights m o h, row-held m o h, row-rest m o h) (object-back (object m o))

  unit-clearance : (s : ℕ) → s < 16 → label_in (row_at (unit_of m) (clearance_row s)) ≡ clearance m s
  unit-clearance s h = ap label_in (unit-at (clearance_row s) (omega arith) ∙ row-clearance m s h) ∙ label-back 0 0 (clearance m s) 0 0

  pub unit-says : length m.subjects ≡ 16 → length m.objects ≡ 64 → state_in (unit_of m) ≡ m
  unit-says a b =
      let objects : objects_in (unit_of m) ≡ m.objects = sym (tabulated 64 (object_in (unit_of m)) no_object m.objects b (λ o h. sym (unit-object o h))) in
      let subjects : subjects_in (unit_of m) ≡ m.subjects = sym (tabulated 16 (subject_in (unit_of m)) nobody m.subjects a
      (λ s h. let e = sym (unit-clearance s h) in λ j. record { clearance = e j })) in
      monitor-ext _ m (ap profile_in (unit-at profile_row (omega arith) ∙ row-profile m) ∙ profile-back m.profile) subjects objects

  pub well-formed-says : WellFormed m → state_in (unit_of m) ≡ m
  well-formed-says W = unit-says W.subjects_length W.objects-length

-- ---- rows that a loop stores

pub objects-none : (l : List Object) (u : Rows) → length u ≡ row_count → ObjectsStored l u 0
objects-none l u e =
    record {
      bound = omega arith;
      whole = e;
      rights = λ p h. absurd (omega arith);
      held = λ p h. absurd (omega arith);
      rest = λ p h. absurd (omega arith);
    }

module _ (l : List Object) (u : Rows) (o : ℕ) (ob : Object) (F : ObjectsStored l u o) (h : o < 64) (e : ob ≡ object_at l o) where
  below : (P : ℕ → Type 0) → P o → ((p : ℕ) → p < o → P p) → (p : ℕ) → p < o + 1 → P p
  below P x f p w = ⊎_elim (λ (q : p ≡ o). subst P (sym q) x) (λ (q : p < o). f p q) (eq-or-lt_of_le {n = p} {m = o} (omega arith))

  pub objects-more : ObjectsStored l (set_object u o ob) (o + 1)
  objects-more =
      record {
        bound = omega arith;
        whole = object-length u o ob F.whole h;
        rights = below (λ p. row_at (set_object u o ob) p ≡ (object_at l p).rights) (object-rights u o ob F.whole h ∙ ap (λ (x : Object). x.rights) e)
            (λ p w. object-others u o ob F.whole h p (λ z. absurd (omega arith)) (λ z. absurd (omega arith)) (λ z. absurd (omega arith)) ∙ F.rights p w);
        held = below (λ p. row_at (set_object u o ob) (held_row p) ≡ (object_at l p).held) (object-held u o ob F.whole h ∙ ap (λ (x : Object). x.held) e)
            (λ p w. object-others u o ob F.whole h (held_row p) (λ z. absurd (omega arith)) (λ z. absurd (omega arith)) (λ z. absurd (omega arith)) ∙ F.held p w);
        rest = below (λ p. row_at (set_object u o ob) (rest_row p) ≡ rest_of (object_at l p)) (object-rest u o ob F.whole h ∙ ap rest_of e)
            (λ p w. object-others u o ob F.whole h (rest_row p) (λ z. absurd (omega arith)) (λ z. absurd (omega arith)) (λ z. absurd (omega arith)) ∙ F.rest p w);
      }

pub clearances-kept : (u v : Rows) (o : ℕ) (ob : Object) → length v ≡ row_count → o < 64 → SameClearances u v → SameClearances u (set_object v o ob)
clearances-kept u v o ob n h S =
    record { same = λ s. object-others v o ob n h (clearance_row s) (λ z. absurd (omega arith)) (λ z. absurd (omega arith)) (λ z. absurd (omega arith)) ∙ S.same s }

-- these, and the rows of the subjects below s
pub record SubjectsStored (m : Monitor) (u : Rows) (s : ℕ) : Type 0 where
  pub bound : s ≤ 16
  pub objects : ObjectsStored m.objects u 64
  pub subjects : (k : ℕ) → k < s → row_at u (clearance_row k) ≡ clearance_of (clearance m k)

pub subjects-none : (m : Monitor) (u : Rows) (o : ℕ) → ObjectsStored m.objects u o → 64 ≤ o → SubjectsStored m u 0
subjects-none m u o F h =
    let e : o ≡ 64 = omega (arith, F.bound) in
    record { bound = omega arith; objects = subst (ObjectsStored m.objects u) e F; subjects = λ k w. absurd (omega arith) }

pub subjects-more : (m : Monitor) (u : Rows) (s : ℕ) (r : List ℕ) → SubjectsStored m u s → s < 16 → r ≡ clearance_of (clearance m s) → SubjectsStored m (set u (clearance_row s) r) (s + 1)
subjects-more m u s r E h e =
    let F = E.objects in
    let i = clearance_row s in
    record {
      bound = omega arith;
      objects = record {
        bound = omega arith;
        whole = length-set u i r ∙ F.whole;
        rights = λ p w. get_or-set_other u i p r [] (λ z. absurd (omega arith)) ∙ F.rights p w;
        held = λ p w. get_or-set_other u i (held_row p) r [] (λ z. absurd (omega arith)) ∙ F.held p w;
        rest = λ p w. get_or-set_other u i (rest_row p) r [] (λ z. absurd (omega arith)) ∙ F.rest p w;
      };
      subjects = λ k w.
          ⊎_elim
          (λ (q : k ≡ s). ap (λ j. row_at (set u i r) (clearance_row j)) q ∙ get_or-set_same u i r [] (omega (arith, F.whole)) ∙ e ∙ ap (λ j. clearance_of (clearance m j)) (sym q))
          (λ (q : k < s). get_or-set_other u i (clearance_row k) r [] (λ z. absurd (omega arith)) ∙ E.subjects k q)
          (eq-or-lt_of_le {n = k} {m = s} (omega arith));
    }

-- rows that have what a monitor has, in every part, are its rows
rows_all : (m : Monitor) (u : Rows) → ObjectsStored m.objects u 64 → ((k : ℕ) → k < 16 → row_at u (clearance_row k) ≡ clearance_of (clearance m k))
    → row_at u profile_row ≡ profile_of m.profile → u ≡ unit_of m
unfolding unit_of
rows_all m u F clearances profile =
    tabulated row_count (monitor_row m) [] u F.whole
    (in_parts (λ i. row_at u i ≡ monitor_row m i)
    (λ p l. F.rights p l ∙ sym (row-rights m p l))
    (λ p l. F.held p l ∙ sym (row-held m p l))
    (λ p l. F.rest p l ∙ sym (row-rest m p l))
    (λ k l. clearances k l ∙ sym (row-clearance m k l))
    (profile ∙ sym (row-profile m)))

-- the profile is stored last
pub subjects-all : (m : Monitor) (u : Rows) (s : ℕ) → SubjectsStored m u s → 16 ≤ s → set_profile u m.profile ≡ unit_of m
subjects-all m u s E h =
    let F = E.objects in
    let r = profile_of m.profile in
    rows_all m (set_profile u m.profile)
    (record {
      bound = omega arith;
      whole = length-set u profile_row r ∙ F.whole;
      rights = λ p w. get_or-set_other u profile_row p r [] (λ z. absurd (omega arith)) ∙ F.rights p w;
      held = λ p w. get_or-set_other u profile_row (held_row p) r [] (λ z. absurd (omega arith)) ∙ F.held p w;
      rest = λ p w. get_or-set_other u profile_row (rest_row p) r [] (λ z. absurd (omega arith)) ∙ F.rest p w;
    })
    (λ k l. get_or-set_other u profile_row (clearance_row k) r [] (λ z. absurd (omega arith)) ∙ E.subjects k (omega arith))
    (get_or-set_same u profile_row r [] (omega (arith, F.whole)))

-- a fresh monitor's rows, in which the records of the objects were stored
pub stored-over : (m : Monitor) (u w : Rows) → u ≡ unit_of (fresh m.profile m.subjects) → SameClearances u w → ObjectsStored m.objects w 64 → w ≡ unit_of m
stored-over m u w e S O =
    let begun = fresh m.profile m.subjects in
    rows_all m w O
    (λ k h. S.same k ∙ ap (λ (v : Rows). row_at v (clearance_row k)) e ∙ unit-at begun (clearance_row k) (omega arith) ∙ row-clearance begun k h)
    (S.same 16 ∙ ap (λ (v : Rows). row_at v profile_row) e ∙ unit-at begun profile_row (omega arith) ∙ row-profile begun)
