-- The test of a request's fields under a profile (change request §8): its two parts, and what is inside the profile.
-- Assumes nothing.
use Prim.Native.Nat.{ℕ, ◌<◌, ◌≤◌}
use native.Mathlib.Omega.{arith}
use mathlib.Core.Path.{◌≡◌, refl, sym, ap}
use mathlib.Core.Bool.{Bool, true, false, cond, not}
use lib.Dec.{eqb, ltb}
use borrow.Author.Tests.{lt-ltb, ltb-true, eqb-true, le-leb, leb-true}
use Rattle.model.specs.declared.Profile.{Profile}
use Rattle.model.specs.declared.Fields.{Fields}
use Rattle.model.specs.declared.Request.{Request}
use Rattle.model.specs.declared.Request.TheVariants.{Get, Release, Give, Rescind, Create, Delete, ChangeLevel, SetCompanies}
use Rattle.bits.specs.Bits.{odd}
use Rattle.model.specs.Levels.{need}
use Rattle.model.specs.Profiles.{LevelInside}
use Rattle.model.specs.Requests.{fields_formed, parent_within, level_of, within, well_formed, request, fields_of, Within}
use Rattle.model.proofs.Tests.{and_left, and_right, and_both, or_cases, or_left, or_right, split, clash, cond-all, apart, not_on, below_out, implies-out, implies-in}
use Rattle.model.proofs.Levels.{at-least-decides}

-- ---- the two tests of the fields, and what the second says

pub formed-of : (p : Profile) (f : Fields) → well_formed p f ≡ true → fields_formed f ≡ true
unfolding well_formed
formed-of p f e = and_left (fields_formed f) (within p f) e

pub within_of : (p : Profile) (f : Fields) → well_formed p f ≡ true → within p f ≡ true
unfolding well_formed
within_of p f e = and_right (fields_formed f) (within p f) e

pub well-formed : (p : Profile) (f : Fields) → fields_formed f ≡ true → within p f ≡ true → well_formed p f ≡ true
unfolding well_formed
well-formed p f a b = and_both a b

-- no field is outside the profile, where the needs of kind 8 are not looked at, and those of kind 5 are a parent's number plus one
pub record FieldsWithin (p : Profile) (f : Fields) : Type 0 where
  pub actor : f.actor < p.subjects
  pub other : f.other < p.subjects
  pub object : f.object < p.objects
  pub parent : eqb f.kind 5 ≡ true → f.needs ≤ p.objects
  pub level : eqb f.kind 5 ≡ false → eqb f.kind 8 ≡ false → LevelInside p (level_of f)

-- the test of a parent's number
pub parent-within : (n : ℕ) (f : Fields) → parent_within n f ≡ true → eqb f.kind 5 ≡ true → f.needs ≤ n
unfolding parent_within
parent-within n f e k = leb-true _ _ (implies-out (eqb f.kind 5) _ e k)

pub within-parent : (n : ℕ) (f : Fields) → (eqb f.kind 5 ≡ true → f.needs ≤ n) → parent_within n f ≡ true
unfolding parent_within
within-parent n f h = implies-in (eqb f.kind 5) _ (λ k. le-leb _ _ (h k))

pub within-fields : (p : Profile) (f : Fields) → within p f ≡ true → FieldsWithin p f
unfolding within
within-fields p f e =
    let a = and_right (ltb f.actor p.subjects) _ e in
    let t = and_right (ltb f.other p.subjects) _ a in
    let o = and_right (ltb f.object p.objects) _ t in
    record {
      actor = ltb-true _ _ (and_left (ltb f.actor p.subjects) _ e);
      other = ltb-true _ _ (and_left (ltb f.other p.subjects) _ a);
      object = ltb-true _ _ (and_left (ltb f.object p.objects) _ t);
      parent = parent-within p.objects f (and_left (parent_within p.objects f) _ o);
      level = λ j k.
          or_cases (eqb f.kind 5) _ (and_right (parent_within p.objects f) _ o)
          (λ q. apart q j) (λ r. or_cases (eqb f.kind 8) _ r (λ q. apart q k) (λ q. (at-least-decides p.highest (level_of f)).0 q));
    }

pub fields_within : (p : Profile) (f : Fields) → FieldsWithin p f → within p f ≡ true
unfolding within
fields_within p f F =
    and_both (lt-ltb _ _ F.actor)
    (and_both (lt-ltb _ _ F.other)
    (and_both (lt-ltb _ _ F.object)
    (and_both (within-parent p.objects f F.parent)
    (split (eqb f.kind 5)
    (λ j. or_left _ _ j)
    (λ j. or_right (eqb f.kind 5) _ (split (eqb f.kind 8)
    (λ q. or_left _ _ q)
    (λ q. or_right (eqb f.kind 8) _ ((at-least-decides p.highest (level_of f)).1 (F.level j q)))))))))

-- what the fields say is inside the profile
pub request-within : (p : Profile) (f : Fields) → within p f ≡ true → Within p (request f)
unfolding request
request-within p f e =
    let F = within-fields p f e in
    let a = F.actor in
    let t = F.other in
    let o = F.object in
    pick (eqb f.kind 1) _ _ (a, o)
    (pick (eqb f.kind 2) _ _ (a, o)
    (pick (eqb f.kind 3) _ _ (a, t, o)
    (pick (eqb f.kind 4) _ _ (a, t, o)
    (cond-all (Within p) (eqb f.kind 5) _ _ (λ q. (a, o, F.parent q)) (λ j.
    pick (eqb f.kind 6) _ _ (a, o)
    (cond-all (Within p) (eqb f.kind 7) (ChangeLevel f.actor f.object (level_of f)) (SetCompanies f.actor f.object f.needs)
    (λ q. (a, o, F.level j (seven q))) (λ q. (a, o))))))))
  where
    -- a kind that is 7 is not 8
    seven : eqb f.kind 7 ≡ true → eqb f.kind 8 ≡ false
    seven q = ap (λ (k : ℕ). eqb k 8) (eqb-true f.kind 7 q)

    pick : (b : Bool) (x y : Request) → Within p x → Within p y → Within p (cond b x y)
    pick true x y h k = h
    pick false x y h k = k

-- class 0 without needs is inside every profile
pub lowest-inside : (p : Profile) → LevelInside p (record { class = 0; needs = 0 })
unfolding need odd
lowest-inside p =
    record {
      class = omega arith;
      needs = λ k h e. apart e (not_on (need k 0) (below_out 16 (λ (i : ℕ). not (need i 0)) refl k h));
    }

-- and so are the fields of a request that is
fields_of-inside : (p : Profile) (q : Request) → Within p q → FieldsWithin p (fields_of q)
fields_of-inside p (Get s o x) v = record { actor = v.0; other = omega (arith, v.0); object = v.1; parent = λ k. clash (sym k); level = λ j k. lowest-inside p }
fields_of-inside p (Release s o x) v = record { actor = v.0; other = omega (arith, v.0); object = v.1; parent = λ k. clash (sym k); level = λ j k. lowest-inside p }
fields_of-inside p (Give s t o x) v = record { actor = v.0; other = v.1; object = v.2; parent = λ k. clash (sym k); level = λ j k. lowest-inside p }
fields_of-inside p (Rescind s t o x) v = record { actor = v.0; other = v.1; object = v.2; parent = λ k. clash (sym k); level = λ j k. lowest-inside p }
fields_of-inside p (Create s o c) v = record { actor = v.0; other = omega (arith, v.0); object = v.1; parent = λ k. v.2; level = λ j k. clash j }
fields_of-inside p (Delete s o) v = record { actor = v.0; other = omega (arith, v.0); object = v.1; parent = λ k. clash (sym k); level = λ j k. lowest-inside p }
fields_of-inside p (ChangeLevel s o l) v = record { actor = v.0; other = omega (arith, v.0); object = v.1; parent = λ k. clash (sym k); level = λ j k. v.2 }
fields_of-inside p (SetCompanies s o n) v = record { actor = v.0; other = omega (arith, v.0); object = v.1; parent = λ k. clash (sym k); level = λ j k. clash k }

pub fields_of-within : (p : Profile) (q : Request) → Within p q → within p (fields_of q) ≡ true
fields_of-within p q v = fields_within p (fields_of q) (fields_of-inside p q v)
