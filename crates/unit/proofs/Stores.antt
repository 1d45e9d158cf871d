-- What is stored into the rows of one object changes its record in the monitor that they say, and nothing else.
-- Assumes nothing.
use Prim.Native.Nat.{ℕ, ◌<◌}
use native.Mathlib.Omega.{arith}
use native.Mathlib.Nat.{div-add-mod'}
use mathlib.Core.Path.{◌≡◌, refl, ap, ◌∙◌}
use mathlib.Core.Logic.{◌≢◌}
use mathlib.Core.Bool.{Bool, true, false}
use mathlib.Core.List.{List, []}
use lib.ListN.{length, set, length-set}
use lib.Dec.{eqb}
use lib.Seq.{get_or-set_same, get_or-set_other, set-set, set-get_or}
use Rattle.bits.specs.Bits.{bit}
use Rattle.model.specs.Levels.{Label}
use Rattle.std.specs.Prelude.{Some, None}
use Rattle.model.specs.declared.Object.{Object}
use Rattle.model.specs.declared.Profile.{Profile}
use Rattle.model.specs.State.{nobody, no_object, object, with_rights, with_held, with_label, with_companies, with_object}
use Rattle.model.proofs.Equal.{object-ext, monitor-ext}
use Rattle.unit.specs.Rows.{Rows, row_count, held_row, rest_row, clearance_row, profile_row, row_at, byte_at, label_in, profile_in, object_of, object_in, subject_in, subjects_in, objects_in, state_in}
use Rattle.unit.specs.Stored.{label_bytes, row_of, rest_of, profile_of, set_rights, set_held, set_label, set_companies, set_object}
use Rattle.unit.proofs.Tabulated.{tabulate-set, tabulate-same}
use Rattle.unit.proofs.Readings.{read-object}

-- ---- a row that is stored says what was stored

pub label-back : (a b : ℕ) (l : Label) (n p : ℕ) → label_in (row_of a b l n p) ≡ l
unfolding label_in label_bytes row_of
label-back a b None n p = refl
label-back a b (Some l) n p = ap (λ k. Some (record { class = l.class; needs = k })) (div-add-mod' l.needs 256)

pub profile-back : (p : Profile) → profile_in (profile_of p) ≡ p
unfolding profile_in label_bytes row_of
profile-back p =
    let e = div-add-mod' p.highest.needs 256 in
    λ i. record { subjects = p.subjects; objects = p.objects; highest = record { class = p.highest.class; needs = e i } }

live_back : (b : Bool) → eqb (bit b) 1 ≡ b
live_back true = refl
live_back false = refl

pub object-back : (ob : Object) → object_of ob.rights ob.held (rest_of ob) ≡ ob
unfolding object_of row_of
object-back ob =
    object-ext _ ob (live_back ob.live) refl (label-back (bit ob.live) ob.owner ob.label ob.companies ob.parent) (div-add-mod' ob.companies 256) refl refl refl

-- ---- rows that differ in those of one object alone

module _ (u w : Rows) (o : ℕ) (h : o < 64) (others : (j : ℕ) → j ≢ o → j ≢ held_row o → j ≢ rest_row o → row_at w j ≡ row_at u j) where
  other-object : (p : ℕ) → p < 64 → p ≢ o → object_in w p ≡ object_in u p
  other-object p l z =
      rw (
        others p z (λ y. absurd (omega arith)) (λ y. absurd (omega arith)),
        others (held_row p) (λ y. absurd (omega arith)) (λ y. z (omega arith)) (λ y. absurd (omega arith)),
        others (rest_row p) (λ y. absurd (omega arith)) (λ y. absurd (omega arith)) (λ y. z (omega arith)),
      )

  same-subjects : subjects_in w ≡ subjects_in u
  same-subjects =
      tabulate-same 16 (subject_in u) (subject_in w) nobody
      (λ p l. let g = others (clearance_row p) (λ y. absurd (omega arith)) (λ y. absurd (omega arith)) (λ y. absurd (omega arith)) in λ i. record { clearance = label_in (g i) })

  state-after : (ob : Object) → object_in w o ≡ ob → state_in w ≡ with_object (state_in u) o ob
  state-after ob e =
      monitor-ext _ _ (ap profile_in (others profile_row (λ y. absurd (omega arith)) (λ y. absurd (omega arith)) (λ y. absurd (omega arith)))) same-subjects (tabulate-set 64 (object_in u) (object_in w) no_object o h other-object ∙ ap (set (objects_in u) o) e)

-- ---- what is stored

module _ (u : Rows) (n : length u ≡ row_count) (o : ℕ) (h : o < 64) where
  pub rights-stored : (s k : ℕ) → state_in (set_rights u o s k) ≡ with_object (state_in u) o (with_rights (object (state_in u) o) s k)
  unfolding object_of
  rights-stored s k =
      let row = set (row_at u o) s k in
      state-after u (set_rights u o s k) o h (λ j a b c. get_or-set_other u o j row [] a) _
      (rw (get_or-set_other u o (held_row o) row [] (λ z. absurd (omega arith)), get_or-set_other u o (rest_row o) row [] (λ z. absurd (omega arith)), get_or-set_same u o row [] (omega arith))
      (ap (λ (x : Object). with_rights x s k) (read-object u o h)))

  pub held-stored : (s k : ℕ) → state_in (set_held u o s k) ≡ with_object (state_in u) o (with_held (object (state_in u) o) s k)
  unfolding object_of
  held-stored s k =
      let row = set (row_at u (held_row o)) s k in
      state-after u (set_held u o s k) o h (λ j a b c. get_or-set_other u (held_row o) j row [] b) _
      (rw (get_or-set_other u (held_row o) o row [] (λ z. absurd (omega arith)), get_or-set_other u (held_row o) (rest_row o) row [] (λ z. absurd (omega arith)), get_or-set_same u (held_row o) row [] (omega arith))
      (ap (λ (x : Object). with_held x s k) (read-object u o h)))

  -- a record with the same sets
  rest-stored : (ob : Object) → row_at u o ≡ ob.rights → row_at u (held_row o) ≡ ob.held → state_in (set u (rest_row o) (rest_of ob)) ≡ with_object (state_in u) o ob
  rest-stored ob rights held =
      state-after u (set u (rest_row o) (rest_of ob)) o h (λ j a b c. get_or-set_other u (rest_row o) j (rest_of ob) [] c) ob
      (rw (
        get_or-set_other u (rest_row o) o (rest_of ob) [] (λ z. absurd (omega arith)),
        get_or-set_other u (rest_row o) (held_row o) (rest_of ob) [] (λ z. absurd (omega arith)),
        get_or-set_same u (rest_row o) (rest_of ob) [] (omega arith),
        rights,
        held,
      )
      (object-back ob))

  pub label-stored : (l : Label) → state_in (set_label u o l) ≡ with_object (state_in u) o (with_label (object (state_in u) o) l)
  unfolding object_of
  label-stored l = rest-stored (with_label (object_in u o) l) refl refl ∙ ap (λ (x : Object). with_object (state_in u) o (with_label x l)) (read-object u o h)

  pub companies-stored : (k : ℕ) → state_in (set_companies u o k) ≡ with_object (state_in u) o (with_companies (object (state_in u) o) k)
  unfolding object_of
  companies-stored k =
      rest-stored (with_companies (object_in u o) k) refl refl ∙ ap (λ (x : Object). with_object (state_in u) o (with_companies x k)) (read-object u o h)

  -- a set that was changed, and the rest of a record, put back
  pub held-put-back : (s k : ℕ) → set_held (set_held u o s k) o s (byte_at (row_at u (held_row o)) s) ≡ u
  held-put-back s k =
      let row = row_at u (held_row o) in
      rw (get_or-set_same u (held_row o) (set row s k) [] (omega arith), set-set u (held_row o) (set row s k) (set (set row s k) s (byte_at row s)), set-set row s k (byte_at row s), set-get_or row s 0, set-get_or u (held_row o) [])

  pub rest-put-back : (row : List ℕ) → set (set u (rest_row o) row) (rest_row o) (row_at u (rest_row o)) ≡ u
  rest-put-back row = set-set u (rest_row o) row (row_at u (rest_row o)) ∙ set-get_or u (rest_row o) []

-- both sets of a subject
module _ (u : Rows) (n : length u ≡ row_count) (o : ℕ) (h : o < 64) where
  pub sets-stored : (s k j : ℕ) → state_in (set_held (set_rights u o s k) o s j) ≡ with_object (state_in u) o (with_held (with_rights (object (state_in u) o) s k) s j)
  unfolding object_of
  sets-stored s k j =
      let rights = set (row_at u o) s k in
      let v = set u o rights in
      let held = set (row_at v (held_row o)) s j in
      state-after u (set v (held_row o) held) o h (λ i a b c. get_or-set_other v (held_row o) i held [] b ∙ get_or-set_other u o i rights [] a) _
      (rw (
        get_or-set_other v (held_row o) o held [] (λ z. absurd (omega arith)),
        get_or-set_other v (held_row o) (rest_row o) held [] (λ z. absurd (omega arith)),
        get_or-set_same v (held_row o) held [] (omega (arith, length-set u o rights)),
        get_or-set_other u o (rest_row o) rights [] (λ z. absurd (omega arith)),
        get_or-set_same u o rights [] (omega arith),
        get_or-set_other u o (held_row o) rights [] (λ z. absurd (omega arith)),
      )
      (ap (λ (x : Object). with_held (with_rights x s k) s j) (read-object u o h)))

-- ---- a whole record

abbrev one : Rows → ℕ → Object → Rows
one u o ob = set u o ob.rights

abbrev two : Rows → ℕ → Object → Rows
two u o ob = set (one u o ob) (held_row o) ob.held

module _ (u : Rows) (o : ℕ) (ob : Object) (n : length u ≡ row_count) (h : o < 64) where
  pub object-length : length (set_object u o ob) ≡ row_count
  unfolding set_object
  object-length = length-set (two u o ob) (rest_row o) (rest_of ob) ∙ length-set (one u o ob) (held_row o) ob.held ∙ length-set u o ob.rights ∙ n

  pub object-others : (j : ℕ) → j ≢ o → j ≢ held_row o → j ≢ rest_row o → row_at (set_object u o ob) j ≡ row_at u j
  unfolding set_object
  object-others j a b c =
      get_or-set_other (two u o ob) (rest_row o) j (rest_of ob) [] c ∙ get_or-set_other (one u o ob) (held_row o) j ob.held [] b ∙ get_or-set_other u o j ob.rights [] a

  pub object-rights : row_at (set_object u o ob) o ≡ ob.rights
  unfolding set_object
  object-rights =
      get_or-set_other (two u o ob) (rest_row o) o (rest_of ob) [] (λ e. absurd (omega arith))
      ∙ get_or-set_other (one u o ob) (held_row o) o ob.held [] (λ e. absurd (omega arith)) ∙ get_or-set_same u o ob.rights [] (omega arith)

  pub object-held : row_at (set_object u o ob) (held_row o) ≡ ob.held
  unfolding set_object
  object-held =
      get_or-set_other (two u o ob) (rest_row o) (held_row o) (rest_of ob) [] (λ e. absurd (omega arith))
      ∙ get_or-set_same (one u o ob) (held_row o) ob.held [] (omega (arith, length-set u o ob.rights))

  pub object-rest : row_at (set_object u o ob) (rest_row o) ≡ rest_of ob
  unfolding set_object
  object-rest =
      get_or-set_same (two u o ob) (rest_row o) (rest_of ob) []
      (omega (arith, length-set (one u o ob) (held_row o) ob.held, length-set u o ob.rights))

  pub object-stored : state_in (set_object u o ob) ≡ with_object (state_in u) o ob
  object-stored = state-after u (set_object u o ob) o h object-others ob (rw (object-rights, object-held, object-rest) (object-back ob))
