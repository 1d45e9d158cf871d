-- Gets of which each two accesses that are granted alone may be held together: each is granted at every place exactly when it is granted alone.
-- Assumes nothing.
use Prim.Native.Nat.{ℕ, ◌<◌}
use mathlib.Core.Path.{◌≡◌, refl, sym, ap₂, ◌∙◌}
use mathlib.Core.Logic.{◌↔◌, ◌⊎◌, inl, inr}
use mathlib.Core.Bool.{Bool, true}
use mathlib.Core.List.{List, []}
use lib.ListN.{length, get_or}
use Rattle.model.specs.declared.Subject.{Subject}
use Rattle.model.specs.declared.Object.{Object}
use Rattle.model.specs.declared.Profile.{Profile}
use Rattle.model.specs.declared.Monitor.{Monitor}
use Rattle.model.specs.declared.Mode.{Mode}
use Rattle.model.specs.declared.Request.{Request}
use Rattle.model.specs.declared.Request.TheVariants.{Get}
use Rattle.std.specs.Prelude.{Some}
use Rattle.model.specs.declared.Decision.TheVariants.{Granted}
use Rattle.model.specs.State.{object}
use Rattle.model.specs.Properties.{Holds}
use Rattle.model.specs.Requests.{decode}
use Rattle.model.specs.Rules.{changed, afterwards, checks}
use Rattle.model.proofs.Requests.{decode-range}
use Rattle.invariants.specs.Access.{with_access, unheld}
use Rattle.invariants.specs.Sound.{Sound}
use Rattle.invariants.proofs.Inside.{get-within}
use Rattle.invariants.proofs.Steps.{sound-afterwards}
use Rattle.invariants.proofs.Added.{held-now, held-still, holds-now}
use Rattle.request_orders.proofs.Commuting.{Commuting}
use Rattle.request_orders.proofs.Updates.{gets-comm}
use Rattle.request_orders.proofs.Accesses.{SameButHeld, same_back, same-on, Within, Pairs, pairs-by, added-same}
use Rattle.request_orders.proofs.PairProperties.{PairProperty}

-- an access that some get of the list asks for, under a profile
pub record Asked (k : Profile) (bs : List (List ℕ)) (s o : ℕ) (x : Mode) : Type 0 where
  pub at : ℕ
  pub within : at < length bs
  pub says : decode k (get_or bs at []) ≡ Some (Get s o x)

pub data Getting (k : Profile) (bs : List (List ℕ)) : Request → Type 0 where
  getting : (s o : ℕ) (x : Mode) → Asked k bs s o x → Getting k bs (Get s o x)

-- where an access comes from: held at the start, or asked for and granted alone
abbrev pub Origin : List (List ℕ) → Monitor → ℕ → ℕ → Mode → Type 0
Origin bs m s o x = Holds m s o x ⊎ (Asked m.profile bs s o x × (checks (Get s o x) m ≡ Granted))

-- the states that such gets pass through
pub record Between (bs : List (List ℕ)) (m n : Monitor) : Type 0 where
  pub sound : Sound n
  pub same : SameButHeld n m
  pub more : Within m n
  pub origin : (s o : ℕ) (x : Mode) → Holds n s o x → Origin bs m s o x

-- each two accesses that are asked for and granted alone may be held together
abbrev pub HeldTogether : (Object → Mode → Object → Mode → Bool) → List (List ℕ) → Monitor → Type 0
HeldTogether test bs m =
    (s p q : ℕ) (x y : Mode) → Asked m.profile bs s p x → checks (Get s p x) m ≡ Granted → Asked m.profile bs s q y → checks (Get s q y) m ≡ Granted
    → test (unheld (object m p)) x (unheld (object m q)) y ≡ true

pub asked-range : {k : Profile} {bs : List (List ℕ)} {s o : ℕ} {x : Mode} → Asked k bs s o x → (s < 16) × (o < 64)
asked-range A = decode-range _ _ _ A.says

module _ (Property : Monitor → Type 0) (R : PairProperty Property) (bs : List (List ℕ)) (m : Monitor) (S : Sound m) where
  -- a get that is granted alone: its access beside those held at the start
  pub beside : (s o : ℕ) (x : Mode) → checks (Get s o x) m ≡ Granted → Pairs R.test m (with_access m s o x)
  beside s o x g =
      pairs-by R.test (with_access m s o x) (with_access m s o x) (added-same m s o x) (λ t p y a. a) ((R.means (with_access m s o x)).0 ((R.exact m S s o x).0 g).1)

  -- the own checks are the same in all states between
  same-own : (n : Monitor) → Between bs m n → (s o : ℕ) (x : Mode) → R.own n.subjects (unheld (object n o)) s x ≡ R.own m.subjects (unheld (object m o)) s x
  same-own n B s o x = ap₂ (λ (l : List Subject) (ob : Object). R.own l ob s x) B.same.subjects (B.same.objects o)

  -- more accesses break no less
  granted-out : (n : Monitor) → Between bs m n → (s o : ℕ) (x : Mode) → Asked m.profile bs s o x → checks (Get s o x) n ≡ Granted → checks (Get s o x) m ≡ Granted
  granted-out n B s o x A g =
      let h = (R.exact n B.sound s o x).0 g in
      let r = asked-range A in
      let W = B.sound.formed in
      let fewer : Within (with_access m s o x) (with_access n s o x) =
      held-now m S.formed s o x (Holds (with_access n s o x)) (holds-now n B.sound s o x r.0 r.1) (λ t p y a. held-still n W s o x t p y (B.more t p y a)) in
      let E = same-on (added-same n s o x) (same-on B.same (same_back (added-same m s o x))) in
      (R.exact m S s o x).1
      (sym (same-own n B s o x) ∙ h.0, (R.means (with_access m s o x)).1 (pairs-by R.test (with_access n s o x) (with_access m s o x) E fewer ((R.means (with_access n s o x)).0 h.1)))

  module _ (F : HeldTogether R.test bs m) where
    meets : (s p q : ℕ) (x y : Mode) → Origin bs m s p x → Origin bs m s q y → R.test (unheld (object m p)) x (unheld (object m q)) y ≡ true
    meets s p q x y (inl a) (inl b) = (R.means m).0 (R.kept m S) s p q x y a b
    meets s p q x y (inl a) (inr k) =
        let r = asked-range k.0 in
        beside s q y k.1 s p q x y (held-still m S.formed s q y s p x a) (holds-now m S s q y r.0 r.1)
    meets s p q x y (inr h) (inl b) =
        let r = asked-range h.0 in
        beside s p x h.1 s p q x y (holds-now m S s p x r.0 r.1) (held-still m S.formed s p x s q y b)
    meets s p q x y (inr h) (inr k) = F s p q x y h.0 h.1 k.0 k.1

    -- after one more get that is granted alone every access still has its origin
    origins : (n : Monitor) → Between bs m n → (s o : ℕ) (x : Mode) → Asked m.profile bs s o x → checks (Get s o x) m ≡ Granted
        → (t p : ℕ) (y : Mode) → Holds (with_access n s o x) t p y → Origin bs m t p y
    origins n B s o x A g = held-now n B.sound.formed s o x (Origin bs m) (inr (A, g)) B.origin

    granted-in : (n : Monitor) → Between bs m n → (s o : ℕ) (x : Mode) → Asked m.profile bs s o x → checks (Get s o x) m ≡ Granted → checks (Get s o x) n ≡ Granted
    granted-in n B s o x A g =
        let h = (R.exact m S s o x).0 g in
        let from = origins n B s o x A g in
        let E = same_back (same-on (added-same n s o x) B.same) in
        (R.exact n B.sound s o x).1 (
          same-own n B s o x ∙ h.0,
          (R.means (with_access n s o x)).1 (pairs-by R.test (with_access n s o x) (with_access n s o x) E (λ t p y a. a) (λ t p q u v a b. meets t p q u v (from t p u a) (from t q v b))),
        )

    get-alone : (q : Request) (n : Monitor) → Getting m.profile bs q → Between bs m n → (checks q n ≡ Granted) ↔ (checks q m ≡ Granted)
    get-alone _ n (getting s o x A) B = (granted-out n B s o x A, granted-in n B s o x A)

    get_keeps : (q : Request) (n : Monitor) → Getting m.profile bs q → Between bs m n → checks q n ≡ Granted → Between bs m (afterwards q n)
    unfolding changed
    get_keeps _ n (getting s o x A) B g =
        record {
          sound = sound-afterwards (Get s o x) n (asked-range A) (get-within n B.sound.inside s o x g) B.sound g;
          same = same-on (added-same n s o x) B.same;
          more = λ t p y a. held-still n B.sound.formed s o x t p y (B.more t p y a);
          origin = origins n B s o x A (granted-out n B s o x A g);
        }

    get-comm : (q r : Request) (n : Monitor) → Getting m.profile bs q → Getting m.profile bs r → Between bs m n → afterwards q (afterwards r n) ≡ afterwards r (afterwards q n)
    get-comm _ _ n (getting s o x A) (getting t p y C) B = gets-comm n B.sound.formed s o x t p y

    pub gets-commuting : Commuting m (Between bs m) (Getting m.profile bs)
    gets-commuting =
        record {
          start = record { sound = S; same = record { profile = refl; subjects = refl; objects = λ o. refl }; more = λ s o x a. a; origin = λ s o x a. inl a };
          profile = λ n B. B.same.profile;
          keeps = get_keeps;
          alone = get-alone;
          commute = get-comm;
        }
