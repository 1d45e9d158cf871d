-- What the effects say of create and of company numbers leaves nothing open.
-- Assumes nothing.
use Prim.Native.Nat.{ℕ}
use mathlib.Core.Path.{◌≡◌, sym, ap, ◌∙◌, subst}
use lib.Dec.{eqb}
use borrow.Author.Tests.{eqb-true, eq-eqb}
use Rattle.model.specs.declared.Monitor.{Monitor}
use Rattle.model.specs.declared.Mode.{Mode}
use Rattle.model.specs.declared.Mode.TheVariants.{Read, Write, Append, Execute}
use Rattle.model.specs.declared.Creation.{Creation}
use Rattle.model.specs.declared.Request.{Request}
use Rattle.model.specs.declared.Request.TheVariants.{SetCompanies}
use Rattle.model.specs.Modes.{has}
use Rattle.model.specs.State.{no_object, object, rights_of, WellFormed}
use Rattle.model.specs.Rules.{target, changed}
use Rattle.model.proofs.Tests.{split, apart}
use Rattle.model.proofs.Equal.{object-same}
use Rattle.effects.specs.Effects.{Created, Effect, SetsNumbers}

-- a created object has one record
pub created-one : (n k : Monitor) (s o : ℕ) (c : Creation) → WellFormed n → WellFormed k → Created n s o c → Created k s o c → object n o ≡ object k o
created-one n k s o c N K A B =
    object-same (object n o) (object k o) (N.objects_formed o) (K.objects_formed o)
    (A.live ∙ sym B.live) (A.owned ∙ sym B.owned) (A.under ∙ sym B.under) (A.unlabelled ∙ sym B.unlabelled) (A.no-company ∙ sym B.no-company)
    (λ t h x. split (eqb t s)
    (λ e. subst (λ (j : ℕ). has x (rights_of (object n o) j) ≡ has x (rights_of (object k o) j)) (sym (eqb-true t s e)) (mine x))
    (λ e. ap (has x) (A.others t (λ z. apart (eq-eqb t s z) e) ∙ sym (B.others t (λ z. apart (eq-eqb t s z) e)))))
    (λ t h x. ap (has x) (A.nobody_holds t ∙ sym (B.nobody_holds t)))
  where
    mine : (x : Mode) → has x (rights_of (object n o) s) ≡ has x (rights_of (object k o) s)
    mine Read = A.read ∙ sym B.read
    mine Write = A.write ∙ sym B.write
    mine Append = A.append ∙ sym B.append
    mine Execute = A.execute_by_mode ∙ sym B.execute_by_mode

-- the numbers after kind 8 are those of the request
pub numbers-one : (n : Monitor) (s o k j : ℕ) → Effect (SetCompanies s o k) n → Effect (SetCompanies s o j) n → k ≡ j
numbers-one n s o k j a b = sym a ∙ b

-- a request sets the numbers of one object, and to one value
pub sets-one : (q : Request) (o p k j : ℕ) → SetsNumbers q o k → SetsNumbers q p j → (o ≡ p) × (k ≡ j)
unfolding changed
sets-one q o p k j a b =
    let same = sym a.1 ∙ b.1 in (ap target same, ap (λ (r : Request). (changed r no_object).companies) same)
