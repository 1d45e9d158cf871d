-- No give and no release changes what the checks of another one look at: who is enrolled, what is live, who owns it, and the owner's own
-- rights.
-- Assumes nothing.
use Prim.Native.Nat.{ℕ}
use mathlib.Core.Path.{◌≡◌, refl, sym, ap, ◌∙◌, subst}
use mathlib.Core.Bool.{Bool, true, ◌&&◌}
use mathlib.Core.List.{List, [], ◌∷◌}
use lib.Dec.{eqb}
use borrow.Author.Tests.{eqb-true}
use Rattle.model.specs.declared.Subject.{Subject}
use Rattle.model.specs.declared.Object.{Object}
use Rattle.model.specs.declared.Monitor.{Monitor}
use Rattle.model.specs.declared.Mode.{Mode}
use Rattle.model.specs.declared.Request.{Request}
use Rattle.model.specs.declared.Decision.TheVariants.{Granted, NotEnrolled, NotLive, NoRight}
use Rattle.model.specs.Tests.{first_failing}
use Rattle.model.specs.Levels.{present}
use Rattle.model.specs.Modes.{has}
use Rattle.model.specs.State.{no_object, clearance_at, enrolled, object, rights_of}
use Rattle.model.specs.Requests.{InRange, Within}
use Rattle.model.specs.Rules.{target, owns, may_give, changed, afterwards, checks}
use Rattle.model.proofs.Tests.{set_all, split, and_left, and_right}
use Rattle.model.proofs.Modes.{add_same}
use Rattle.invariants.specs.Sound.{Sound}
use Rattle.invariants.proofs.Granted.{granted-give}
use Rattle.invariants.proofs.Inside.{give-within, release-within}
use Rattle.invariants.proofs.Steps.{sound-afterwards}
use Rattle.request_orders.specs.RightsLists.{GiveOrRelease, give, release}
use Rattle.request_orders.proofs.Commuting.{Commuting}
use Rattle.request_orders.proofs.Updates.{gives-comm, releases-comm, give-release-comm}

-- an object with the same life, owner, parent, label and company numbers, whose owner has the same rights
pub record SameOwner (a b : Object) : Type 0 where
  pub live : a.live ≡ b.live
  pub owner : a.owner ≡ b.owner
  pub parent : a.parent ≡ b.parent
  pub label : a.label ≡ b.label
  pub companies : a.companies ≡ b.companies
  pub rights : rights_of a b.owner ≡ rights_of b b.owner

-- the states that gives and releases lead to from m
pub record OwnersKept (m n : Monitor) : Type 0 where
  pub sound : Sound n
  pub profile : n.profile ≡ m.profile
  pub subjects : n.subjects ≡ m.subjects
  pub objects : (o : ℕ) → SameOwner (object n o) (object m o)

-- a give or a release whose numbers are in range
abbrev pub Ranged : Request → Type 0
Ranged q = InRange q × GiveOrRelease q

-- "the actor is owner and has that right itself" looks at the owner and at the owner's rights alone
same-may : (a b : Object) → SameOwner a b → (s : ℕ) (x : Mode) → may_give s x a ≡ may_give s x b
same-may a b E s x =
    ap (λ (k : ℕ). eqb k s && has x (rights_of a s)) E.owner
    ∙ split (owns s b)
    (λ e. ap (λ (k : ℕ). owns s b && has x k) (subst (λ (k : ℕ). rights_of a k ≡ rights_of b k) (eqb-true _ _ e) E.rights))
    (λ e. ap (λ (k : Bool). k && has x (rights_of a s)) e ∙ sym (ap (λ (k : Bool). k && has x (rights_of b s)) e))

module _ (m : Monitor) where
  same-enrolled : (n : Monitor) → OwnersKept m n → (s : ℕ) → enrolled n s ≡ enrolled m s
  same-enrolled n P s = ap (λ (l : List Subject). present (clearance_at l s)) P.subjects

  -- so the checks of each answer as they did
  pub same-checks : (q : Request) (n : Monitor) → GiveOrRelease q → OwnersKept m n → checks q n ≡ checks q m
  unfolding checks
  same-checks _ n (give s t o x) P =
      let E = P.objects o in
      let may = same-may (object n o) (object m o) E s x in
      λ i. first_failing ((same-enrolled n P s i && same-enrolled n P t i, NotEnrolled) ∷ (E.live i, NotLive) ∷ (may i, NoRight) ∷ [])
  same-checks _ n (release s o x) P = λ i. first_failing ((same-enrolled n P s i, NotEnrolled) ∷ ((P.objects o).live i, NotLive) ∷ [])

  -- who gives is the owner and has the right, so a give to the owner changes nothing
  owner-keeps : (q : Request) (n : Monitor) → GiveOrRelease q → OwnersKept m n → checks q n ≡ Granted
      → SameOwner (changed q (object n (target q))) (object m (target q))
  unfolding changed
  owner-keeps _ n (give s t o x) P g =
      let E = P.objects o in
      let may = (granted-give n s t o x g).allowed in
      let mine : s ≡ (object m o).owner = sym (eqb-true _ _ (and_left (owns s (object n o)) _ may)) ∙ E.owner in
      let had : (k : ℕ) → k ≡ (object m o).owner → has x (rights_of (object n o) k) ≡ true =
      λ k e. ap (λ (j : ℕ). has x (rights_of (object n o) j)) (e ∙ sym mine) ∙ and_right (owns s (object n o)) _ may in
      record {
        live = E.live;
        owner = E.owner;
        parent = E.parent;
        label = E.label;
        companies = E.companies;
        rights = set_all (λ j k. j ≡ (object m o).owner → k ≡ rights_of (object m o) (object m o).owner) (object n o).rights t _ 0
            (λ j e. ap (rights_of (object n o)) e ∙ E.rights)
            (λ e. add_same x _ (had t e) ∙ ap (rights_of (object n o)) e ∙ E.rights) (object m o).owner refl;
      }
  owner-keeps _ n (release s o x) P g = let E = P.objects o in record { live = E.live; owner = E.owner; parent = E.parent; label = E.label; companies = E.companies; rights = E.rights }

  same-owners : (q : Request) (n : Monitor) → GiveOrRelease q → OwnersKept m n → checks q n ≡ Granted → (o : ℕ) → SameOwner (object (afterwards q n) o) (object m o)
  same-owners _ n (give s t o x) P g = set_all (λ j ob. SameOwner ob (object m j)) n.objects o _ no_object P.objects (owner-keeps _ n (give s t o x) P g)
  same-owners _ n (release s o x) P g = set_all (λ j ob. SameOwner ob (object m j)) n.objects o _ no_object P.objects (owner-keeps _ n (release s o x) P g)

  owners-kept : (q : Request) (n : Monitor) → Ranged q → OwnersKept m n → checks q n ≡ Granted → OwnersKept m (afterwards q n)
  owners-kept q n w P g =
      record {
        sound = sound-afterwards q n w.0 (within q w.1 g) P.sound g;
        profile = P.profile;
        subjects = P.subjects;
        objects = same-owners q n w.1 P g;
      }
    where
      within : (q : Request) → GiveOrRelease q → checks q n ≡ Granted → Within n.profile q
      within _ (give s t o x) g = give-within n P.sound.inside s t o x g
      within _ (release s o x) g = release-within n P.sound.inside s o x g

  -- two of them do the same in both orders
  two-comm : (q r : Request) (n : Monitor) → GiveOrRelease q → GiveOrRelease r → OwnersKept m n → afterwards q (afterwards r n) ≡ afterwards r (afterwards q n)
  two-comm _ _ n (give a s o x) (give b t p y) P = gives-comm n P.sound.formed a s o x b t p y
  two-comm _ _ n (give a s o x) (release t p y) P = give-release-comm n a s o x t p y
  two-comm _ _ n (release s o x) (give b t p y) P = sym (give-release-comm n b t p y s o x)
  two-comm _ _ n (release s o x) (release t p y) P = releases-comm n P.sound.formed s o x t p y

  pub rights-commuting : Sound m → Commuting m (OwnersKept m) Ranged
  rights-commuting S =
      record {
        start = record { sound = S; profile = refl; subjects = refl; objects = λ o. record { live = refl; owner = refl; parent = refl; label = refl; companies = refl; rights = refl } };
        profile = λ n P. P.profile;
        keeps = owners-kept;
        alone = λ q n w P. let e = same-checks q n w.1 P in (λ g. sym e ∙ g, λ g. e ∙ g);
        commute = λ q r n v w P. two-comm q r n v.1 w.1 P;
      }
