-- The object that the bytes name is that of the request which they say.
-- Assumes nothing.
use Prim.Native.Nat.{ℕ, ◌%◌, ◌<◌}
use native.Mathlib.Omega.{arith}
use mathlib.Core.Path.{◌≡◌, refl, sym, ap, ap₂, ◌∙◌}
use mathlib.Core.Bool.{Bool, true, false, cond, ◌&&◌}
use mathlib.Core.List.{List}
use lib.ListN.{length}
use lib.Dec.{eqb}
use borrow.Author.Tests.{eqb-true, eq-eqb}
use Rattle.model.specs.declared.Profile.{Profile}
use Rattle.model.specs.declared.Fields.{Fields}
use Rattle.model.specs.declared.Monitor.{Monitor}
use Rattle.model.specs.declared.Request.{Request}
use Rattle.model.specs.declared.Request.TheVariants.{Delete, ChangeLevel, SetCompanies}
use Rattle.std.specs.Prelude.{Some}
use Rattle.model.specs.State.{object_count}
use Rattle.model.specs.Hierarchy.{has_child}
use Rattle.model.specs.Requests.{fields, level_of, request, decode}
use Rattle.model.specs.Journal.{takes_children}
use Rattle.model.specs.Rules.{target}
use Rattle.model.proofs.Tests.{split, cond-true, cond-false}
use Rattle.model.proofs.Requests.{decode-says, decode-range}
use Rattle.model.proofs.After.{target_below}
use Rattle.journaled.specs.Units.{named, deletes}

-- every kind is about the object of its field
request-target : (f : Fields) → target (request f) ≡ f.object
unfolding request
request-target f =
    pick (eqb f.kind 1) _ _ refl
    (pick (eqb f.kind 2) _ _ refl
    (pick (eqb f.kind 3) _ _ refl
    (pick (eqb f.kind 4) _ _ refl
    (pick (eqb f.kind 5) _ _ refl
    (pick (eqb f.kind 6) _ _ refl
    (pick (eqb f.kind 7) _ _ refl refl))))))
  where
    pick : (b : Bool) (x y : Request) → target x ≡ f.object → target y ≡ f.object → target (cond b x y) ≡ f.object
    pick true x y p q = p
    pick false x y p q = q

pub named-target : (p : Profile) (b : List ℕ) (q : Request) → decode p b ≡ Some q → named b ≡ target q
unfolding named
named-target p b q e =
    let d = decode-says p b q e in
    let same : (fields b).object ≡ target q = sym (request-target (fields b)) ∙ ap target d.2 in
    cond-true _ ((fields b).object % object_count) 0 (eq-eqb _ _ d.0) ∙ ap (λ o. o % object_count) same
    ∙ omega (arith, target_below q (decode-range p b q e))

pub named-below : (b : List ℕ) → named b < object_count
unfolding named
named-below b = split (eqb (length b) 6) (λ e. omega (arith, cond-true _ ((fields b).object % object_count) 0 e)) (λ e. omega (arith, cond-false _ ((fields b).object % object_count) 0 e))

-- ---- whether it is a deletion that takes children

takes-kind : (f : Fields) (m : Monitor) → takes_children (request f) m ≡ (eqb f.kind 6 && has_child m.objects f.object)
unfolding request
takes-kind f m =
    split (eqb f.kind 6) (λ e. rw (eqb-true f.kind 6 e))
    (λ e. pick (eqb f.kind 1) _ _ refl
    (pick (eqb f.kind 2) _ _ refl
    (pick (eqb f.kind 3) _ _ refl
    (pick (eqb f.kind 4) _ _ refl
    (pick (eqb f.kind 5) _ _ refl
    (ap (λ (t : Bool). takes_children (cond t (Delete f.actor f.object) (last f)) m) e
    ∙ pick (eqb f.kind 7) _ _ refl refl)))))
    ∙ sym (ap (λ (t : Bool). t && has_child m.objects f.object) e))
  where
    last : Fields → Request
    last f = cond (eqb f.kind 7) (ChangeLevel f.actor f.object (level_of f)) (SetCompanies f.actor f.object f.needs)

    pick : (b : Bool) (x y : Request) → takes_children x m ≡ false → takes_children y m ≡ false → takes_children (cond b x y) m ≡ false
    pick true x y p q = p
    pick false x y p q = q

pub takes-said : (p : Profile) (b : List ℕ) (q : Request) (m : Monitor) → decode p b ≡ Some q → (deletes b && has_child m.objects (named b)) ≡ takes_children q m
unfolding deletes
takes-said p b q m e =
    let d = decode-says p b q e in
    let same : (fields b).object ≡ target q = sym (request-target (fields b)) ∙ ap target d.2 in
    ap₂ (λ (t : Bool) (o : ℕ). (t && eqb (fields b).kind 6) && has_child m.objects o) (eq-eqb _ _ d.0) (named-target p b q e ∙ sym same)
    ∙ sym (takes-kind (fields b) m) ∙ ap (λ (r : Request). takes_children r m) d.2
