-- The records of a layout: their lengths, and that writing and reading each gives back the other.
-- Assumes nothing.
use Prim.Native.Nat.{ℕ, zero, suc, ◌+◌, ◌*◌, ◌<◌}
use native.Mathlib.Omega.{arith}
use mathlib.Core.Path.{◌≡◌, refl, sym, ap, ◌∙◌}
use mathlib.Core.Bool.{Bool, true, false, cond}
use mathlib.Core.List.{List, [], ◌∷◌, ◌++◌, map}
use lib.ListN.{length, get_or, replicate, take, drop, length-append, length-drop, take-append-drop}
use lib.Seq.{take_at, drop_at, take_all, length-take-le, drop-drop}
use Rattle.bits.specs.Bits.{to_bits, odd, from_bits, cut, all_zero}
use Rattle.bits.specs.Laws.{length-to_bits, from_bits-to_bits, to_bits-from_bits-at, all_zero-is}
use Rattle.model.specs.Levels.{Label}
use Rattle.std.specs.Prelude.{Some, None}
use Rattle.model.specs.declared.Subject.{Subject}
use Rattle.model.specs.declared.Object.{Object}
use Rattle.model.specs.Companies.{companies_width}
use Rattle.model.specs.State.{subject_count, class_width, needs_width, no_object, LabelFits, WellFormedObject}
use Rattle.model.specs.Layout.{label_width, owner_width, label_offset, set_width, pair_width, sets_width, parent_width, object_width, label_bits, sets_bits, object_bits}
use Rattle.model.specs.Reading.{label_from, label_form, rights_from, held_from, live_from, object_from, object_form}
use Rattle.model.proofs.Tests.{split}
use Rattle.model.proofs.Equal.{object-ext}

-- ---- labels

pub label-length : (a : Label) → length (label_bits a) ≡ label_width
unfolding label_bits
label-length None = refl
label-length (Some l) = ap suc (length-append (to_bits class_width l.class) (to_bits needs_width l.needs) ∙ omega (arith, length-to_bits class_width l.class, length-to_bits needs_width l.needs))

pub label-read : (a : Label) → LabelFits a → label_from (label_bits a) ≡ a
unfolding label_bits label_from
label-read None f = refl
label-read (Some v) f =
    let c : from_bits (take class_width (to_bits class_width v.class ++ to_bits needs_width v.needs)) ≡ v.class =
    ap from_bits (take_at (to_bits class_width v.class) (to_bits needs_width v.needs) class_width (length-to_bits class_width v.class)) ∙ from_bits-to_bits class_width f.0 in
    let n : from_bits (take needs_width (drop class_width (to_bits class_width v.class ++ to_bits needs_width v.needs))) ≡ v.needs =
    ap (λ (b : List Bool). from_bits (take needs_width b)) (drop_at (to_bits class_width v.class) (to_bits needs_width v.needs) class_width (length-to_bits class_width v.class))
    ∙ ap from_bits (take_all needs_width (to_bits needs_width v.needs) (omega (arith, length-to_bits needs_width v.needs))) ∙ from_bits-to_bits needs_width f.1 in
    λ i. Some (record { class = c i; needs = n i })

pub label-form : (a : Label) → label_form (label_bits a) ≡ true
unfolding label_bits label_form all_zero
label-form None = refl
label-form (Some v) = refl

-- a part of a list of bits, put back
pub parts : (w k : ℕ) (b : List Bool) → length b ≡ w + k → take w b ++ take k (drop w b) ≡ b
parts w k b e = rw (take_all k (drop w b) (rw (length-drop w b) (omega arith))) (take-append-drop w b)

pub two_fields : (w k : ℕ) (b : List Bool) → length b ≡ w + k → to_bits w (from_bits (take w b)) ++ to_bits k (from_bits (take k (drop w b))) ≡ b
two_fields w k b e =
    rw (
      to_bits-from_bits-at w (take w b) (length-take-le w b (omega arith)),
      to_bits-from_bits-at k (take k (drop w b)) (length-take-le k (drop w b) (rw (length-drop w b) (omega arith))),
    )
    (parts w k b e)

pub label-back : (b : List Bool) → length b ≡ label_width → label_form b ≡ true → label_bits (label_from b) ≡ b
unfolding label_bits label_from label_form
label-back [] h e = absurd (omega arith)
label-back (true ∷ b) h e = ap (λ (r : List Bool). true ∷ r) (two_fields class_width needs_width b (omega arith))
label-back (false ∷ b) h e = sym (all_zero-is (false ∷ b) label_width h e)

-- ---- rows

pub sets-length : (n : ℕ) (r h : List ℕ) → length r ≡ n → length h ≡ n → length (sets_bits r h) ≡ n * pair_width
unfolding sets_bits
sets-length zero [] h p q = refl
sets-length zero (x ∷ r) h p q = absurd (omega arith)
sets-length (suc n) [] h p q = absurd (omega arith)
sets-length (suc n) (x ∷ r) [] p q = absurd (omega arith)
sets-length (suc n) (x ∷ r) (y ∷ h) p q =
    simp (length-append, length-to_bits) (omega (arith, sets-length n r h (omega arith) (omega arith)))

pub sets-read : (n : ℕ) (r h : List ℕ) → length r ≡ n → length h ≡ n → ((s : ℕ) → get_or r s 0 < 16) → ((s : ℕ) → get_or h s 0 < 16)
    → (map rights_from (cut n pair_width (sets_bits r h)) ≡ r) × (map held_from (cut n pair_width (sets_bits r h)) ≡ h)
unfolding sets_bits cut
sets-read zero [] [] p q a b = (refl, refl)
sets-read zero [] (y ∷ h) p q a b = absurd (omega arith)
sets-read zero (x ∷ r) h p q a b = absurd (omega arith)
sets-read (suc n) [] h p q a b = absurd (omega arith)
sets-read (suc n) (x ∷ r) [] p q a b = absurd (omega arith)
sets-read (suc n) (x ∷ r) (y ∷ h) p q a b =
    let pair = to_bits set_width x ++ to_bits set_width y in
    let lp : length pair ≡ pair_width = length-append (to_bits set_width x) (to_bits set_width y) ∙ omega (arith, length-to_bits set_width x, length-to_bits set_width y) in
    let front : take pair_width (pair ++ sets_bits r h) ≡ pair = take_at pair (sets_bits r h) pair_width lp in
    let rest : drop pair_width (pair ++ sets_bits r h) ≡ sets_bits r h = drop_at pair (sets_bits r h) pair_width lp in
    let more = sets-read n r h (omega arith) (omega arith) (λ s. a (suc s)) (λ s. b (suc s)) in
    let u : rights_from (take pair_width (pair ++ sets_bits r h)) ≡ x =
    ap rights_from front ∙ ap from_bits (take_at (to_bits set_width x) (to_bits set_width y) set_width (length-to_bits set_width x)) ∙ from_bits-to_bits set_width (a 0) in
    let v : held_from (take pair_width (pair ++ sets_bits r h)) ≡ y =
    ap held_from front ∙ ap (λ (k : List Bool). from_bits (take set_width k)) (drop_at (to_bits set_width x) (to_bits set_width y) set_width (length-to_bits set_width x))
    ∙ ap from_bits (take_all set_width (to_bits set_width y) (omega (arith, length-to_bits set_width y))) ∙ from_bits-to_bits set_width (b 0) in
    let us : map rights_from (cut n pair_width (drop pair_width (pair ++ sets_bits r h))) ≡ r = ap (λ (k : List Bool). map rights_from (cut n pair_width k)) rest ∙ more.0 in
    let vs : map held_from (cut n pair_width (drop pair_width (pair ++ sets_bits r h))) ≡ h = ap (λ (k : List Bool). map held_from (cut n pair_width k)) rest ∙ more.1 in
    (λ i. u i ∷ us i, λ i. v i ∷ vs i)

pub sets-back : (n : ℕ) (b : List Bool) → length b ≡ n * pair_width → sets_bits (map rights_from (cut n pair_width b)) (map held_from (cut n pair_width b)) ≡ b
unfolding sets_bits cut
sets-back zero [] h = refl
sets-back zero (x ∷ b) h = absurd (omega arith)
sets-back (suc n) b h =
    rw (
      two_fields set_width set_width (take pair_width b) (length-take-le pair_width b (omega arith)),
      sets-back n (drop pair_width b) (length-drop pair_width b ∙ omega arith),
    )
    (take-append-drop pair_width b)

-- ---- objects

pub object-length : (ob : Object) → length ob.rights ≡ subject_count → length ob.held ≡ subject_count → length (object_bits ob) ≡ object_width
unfolding object_bits
object-length ob p q =
    let sets = sets_bits ob.rights ob.held ++ to_bits parent_width ob.parent in
    let behind = to_bits companies_width ob.companies ++ sets in
    ap suc (length-append (to_bits owner_width ob.owner) (label_bits ob.label ++ behind))
    ∙ omega (
      arith,
      length-to_bits owner_width ob.owner,
      length-append (label_bits ob.label) behind,
      label-length ob.label,
      length-append (to_bits companies_width ob.companies) sets,
      length-to_bits companies_width ob.companies,
      length-append (sets_bits ob.rights ob.held) (to_bits parent_width ob.parent),
      sets-length subject_count ob.rights ob.held p q,
      length-to_bits parent_width ob.parent,
    )

-- where the parts of an object's record stand behind its first bit: the owner, then the label, the company numbers, the sets and the parent
abbrev companies_behind : ℕ
companies_behind = owner_width + label_width

abbrev sets_behind : ℕ
sets_behind = companies_behind + companies_width

abbrev parent_behind : ℕ
parent_behind = sets_behind + sets_width

module _ (ob : Object) (p : length ob.rights ≡ subject_count) (q : length ob.held ≡ subject_count) where
  -- the sets and the parent, and with the company numbers before them
  abbrev last-two : List Bool
  last-two = sets_bits ob.rights ob.held ++ to_bits parent_width ob.parent

  abbrev last-parts : List Bool
  last-parts = to_bits companies_width ob.companies ++ last-two

  tail_of : List Bool
  tail_of = to_bits owner_width ob.owner ++ (label_bits ob.label ++ last-parts)

  owner-part : take owner_width tail_of ≡ to_bits owner_width ob.owner
  unfolding tail_of
  owner-part = take_at (to_bits owner_width ob.owner) (label_bits ob.label ++ last-parts) owner_width (length-to_bits owner_width ob.owner)

  behind-owner : drop owner_width tail_of ≡ label_bits ob.label ++ last-parts
  unfolding tail_of
  behind-owner = drop_at (to_bits owner_width ob.owner) (label_bits ob.label ++ last-parts) owner_width (length-to_bits owner_width ob.owner)

  label-part : take label_width (drop owner_width tail_of) ≡ label_bits ob.label
  label-part = ap (take label_width) behind-owner ∙ take_at (label_bits ob.label) last-parts label_width (label-length ob.label)

  behind-label : drop companies_behind tail_of ≡ last-parts
  behind-label =
      sym (drop-drop label_width owner_width tail_of) ∙ ap (drop label_width) behind-owner
      ∙ drop_at (label_bits ob.label) last-parts label_width (label-length ob.label)

  companies-part : take companies_width (drop companies_behind tail_of) ≡ to_bits companies_width ob.companies
  companies-part =
      ap (take companies_width) behind-label
      ∙ take_at (to_bits companies_width ob.companies) last-two companies_width (length-to_bits companies_width ob.companies)

  behind-companies : drop sets_behind tail_of ≡ last-two
  behind-companies =
      sym (drop-drop companies_width companies_behind tail_of) ∙ ap (drop companies_width) behind-label
      ∙ drop_at (to_bits companies_width ob.companies) last-two companies_width (length-to_bits companies_width ob.companies)

  whole-sets : length (sets_bits ob.rights ob.held) ≡ sets_width
  whole-sets = sets-length subject_count ob.rights ob.held p q

  sets-part : take sets_width (drop sets_behind tail_of) ≡ sets_bits ob.rights ob.held
  sets-part =
      ap (take sets_width) behind-companies ∙ take_at (sets_bits ob.rights ob.held) (to_bits parent_width ob.parent) sets_width whole-sets

  parent-part : take parent_width (drop parent_behind tail_of) ≡ to_bits parent_width ob.parent
  parent-part =
      ap (take parent_width)
      (sym (drop-drop sets_width sets_behind tail_of) ∙ ap (drop sets_width) behind-companies
      ∙ drop_at (sets_bits ob.rights ob.held) (to_bits parent_width ob.parent) sets_width whole-sets)
      ∙ take_all parent_width (to_bits parent_width ob.parent) (omega (arith, length-to_bits parent_width ob.parent))

pub object-read : (u : List Subject) (ob : Object) → WellFormedObject u ob → object_from (object_bits ob) ≡ ob
unfolding object_bits object_from tail_of
object-read u ob F =
    let b = object_bits ob in
    split ob.live
    (λ e.
    let P = F.shape.rights_length in
    let Q = F.shape.held_length in
    let t = tail_of ob P Q in
    let S = take sets_width (drop sets_behind t) in
    let live-eq : true ≡ ob.live = sym e in
    let owner-eq : from_bits (take owner_width t) ≡ ob.owner = ap from_bits (owner-part ob P Q) ∙ from_bits-to_bits owner_width F.shape.owner_fits in
    let label_eq : label_from (take label_width (drop owner_width t)) ≡ ob.label = ap label_from (label-part ob P Q) ∙ label-read ob.label F.shape.label_fits in
    let companies-eq : from_bits (take companies_width (drop companies_behind t)) ≡ ob.companies =
    ap from_bits (companies-part ob P Q) ∙ from_bits-to_bits companies_width F.shape.companies_fit in
    let rows = sets-read subject_count ob.rights ob.held P Q F.shape.rights-fit F.shape.held_fit in
    let rights-eq : map rights_from (cut subject_count pair_width S) ≡ ob.rights = ap (λ (k : List Bool). map rights_from (cut subject_count pair_width k)) (sets-part ob P Q) ∙ rows.0 in
    let held-eq : map held_from (cut subject_count pair_width S) ≡ ob.held = ap (λ (k : List Bool). map held_from (cut subject_count pair_width k)) (sets-part ob P Q) ∙ rows.1 in
    let parent-eq : from_bits (take parent_width (drop parent_behind t)) ≡ ob.parent =
    ap from_bits (parent-part ob P Q) ∙ from_bits-to_bits parent_width F.shape.parent_fits in
    let full = object-ext (live_from b) ob live-eq owner-eq label_eq companies-eq rights-eq held-eq parent-eq in
    ap (λ (k : Bool). cond k (live_from b) no_object) e ∙ full)
    (λ e. ap (λ (k : Bool). cond k (live_from b) no_object) e ∙ sym (F.shape.not_live e))

dead-none : all_zero (object_bits no_object) ≡ true
unfolding object_bits label_bits sets_bits to_bits odd all_zero
dead-none = refl

-- the record of no object
pub none-bits : replicate object_width false ≡ object_bits no_object
unfolding object_bits label_bits sets_bits to_bits odd
none-bits = refl

pub object-form : (u : List Subject) (ob : Object) → WellFormedObject u ob → object_form (object_bits ob) ≡ true
unfolding object_form object_bits tail_of
object-form u ob F =
    let b = object_bits ob in
    let l = label_form (take label_width (drop label_offset b)) in
    split ob.live
    (λ e. ap (λ (k : Bool). cond k l (all_zero b)) e
    ∙ ap label_form (label-part ob F.shape.rights_length F.shape.held_length) ∙ label-form ob.label)
    (λ e. ap (λ (k : Bool). cond k l (all_zero b)) e ∙ ap (λ (k : Object). all_zero (object_bits k)) (F.shape.not_live e) ∙ dead-none)

pub object-back : (b : List Bool) → length b ≡ object_width → object_form b ≡ true → object_bits (object_from b) ≡ b
unfolding object_bits object_from object_form
object-back [] h e = absurd (omega arith)
object-back (true ∷ b) h e =
    let label : length (take label_width (drop owner_width b)) ≡ label_width = length-take-le label_width (drop owner_width b) (rw (length-drop owner_width b) (omega arith)) in
    let sets : length (take sets_width (drop sets_behind b)) ≡ sets_width = length-take-le sets_width (drop sets_behind b) (rw (length-drop sets_behind b) (omega arith)) in
    let rest : length (drop parent_behind b) ≡ parent_width = length-drop parent_behind b ∙ omega arith in
    let parent : take parent_width (drop parent_behind b) ≡ drop parent_behind b = take_all parent_width (drop parent_behind b) (omega arith) in
    let numbers : length (take companies_width (drop companies_behind b)) ≡ companies_width =
    length-take-le companies_width (drop companies_behind b) (rw (length-drop companies_behind b) (omega arith)) in
    let c : drop label_width (drop owner_width b) ≡ drop companies_behind b = drop-drop label_width owner_width b in
    let d : drop companies_width (drop companies_behind b) ≡ drop sets_behind b = drop-drop companies_width companies_behind b in
    let f : drop sets_width (drop sets_behind b) ≡ drop parent_behind b = drop-drop sets_width sets_behind b in
    ap (λ (r : List Bool). true ∷ r)
    (rw (
      to_bits-from_bits-at owner_width (take owner_width b) (length-take-le owner_width b (omega arith)),
      label-back (take label_width (drop owner_width b)) label e,
      to_bits-from_bits-at companies_width (take companies_width (drop companies_behind b)) numbers,
      sets-back subject_count (take sets_width (drop sets_behind b)) sets,
      parent,
      to_bits-from_bits-at parent_width (drop parent_behind b) rest,
      ← f,
      take-append-drop sets_width (drop sets_behind b),
      ← d,
      take-append-drop companies_width (drop companies_behind b),
      ← c,
      take-append-drop label_width (drop owner_width b),
    )
    (take-append-drop owner_width b))
object-back (false ∷ b) h e = sym none-bits ∙ sym (all_zero-is (false ∷ b) object_width h e)
