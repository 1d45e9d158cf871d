-- When the order of gets matters: the theorems of change request §6, with the wall of change request §10.
-- Assumes nothing.
use Prim.Native.Nat.{ℕ, ◌<◌}
use native.Mathlib.Omega.{arith}
use mathlib.Core.Path.{◌≡◌, refl, sym, ap, ◌∙◌, subst}
use mathlib.Core.Logic.{◌↔◌, ◌≢◌, ◌⊎◌, inl, inr, ⊎_elim}
use mathlib.Core.Bool.{true}
use mathlib.Core.List.{List, [], ◌∷◌}
use lib.ListN.{length, get_or}
use Rattle.model.specs.declared.Monitor.{Monitor}
use Rattle.model.specs.declared.Mode.{Mode}
use Rattle.model.specs.declared.Request.TheVariants.{Get}
use Rattle.std.specs.Prelude.{Some}
use Rattle.model.specs.declared.Response.{Response}
use Rattle.model.specs.declared.Decision.{Decision}
use Rattle.model.specs.declared.Decision.TheVariants.{Granted, StarBroken, WallBroken}
use Rattle.model.specs.Properties.{Holds}
use Rattle.model.specs.Decisions.{number, refuses}
use Rattle.model.specs.Requests.{decode}
use Rattle.model.specs.Rules.{changed, checks}
use Rattle.model.specs.Runs.{respond, reply, after}
use Rattle.model.specs.Beginnings.{Reached}
use Rattle.model.proofs.Requests.{decode-range}
use Rattle.invariants.specs.Access.{with_access}
use Rattle.invariants.specs.Sound.{Sound}
use Rattle.invariants.proofs.Steps.{step-granted, step-refused}
use Rattle.images.proofs.Reached.{sound-reached, respond-says}
use Rattle.orders.specs.Orders.{Each}
use Rattle.orders.proofs.Places.{each_at, each_in}
use Rattle.request_orders.specs.AnyOrder.{OrdersAgree, GrantedAt, AnyOrder}
use Rattle.request_orders.specs.StartOrder.{IsGet, StarAndWall, Clash, NoClash}
use Rattle.request_orders.proofs.Commuting.{Saying, says-one, says-granted, any_order}
use Rattle.request_orders.proofs.Updates.{gets-comm}
use Rattle.request_orders.proofs.PairProperties.{PairProperty, both-pairs}
use Rattle.request_orders.proofs.Gets.{Getting, getting, Between, gets-commuting}
use Rattle.request_orders.proofs.Together.{held-together}
use Rattle.request_orders.proofs.TwoGets.{granted-after-first, refused-after-first}
use Rattle.request_orders.proofs.Disagree.{never_both, not-both-granted, clash-apart, agree-no-clash}

-- ---- for any property of pairs of accesses

module _ (Property : Monitor → Type 0) (R : PairProperty Property) (m : Monitor) (S : Sound m) (bs : List (List ℕ)) (p : Each (IsGet m.profile) bs) where
  gets-at : (i : ℕ) → i < length bs → IsGet m.profile (get_or bs i [])
  gets-at = each_at [] (IsGet m.profile) bs p

  -- what the bytes at a place say is a get of the list
  gets-say : (i : ℕ) → i < length bs → Saying m.profile (Getting m.profile bs) (get_or bs i [])
  gets-say i h q e =
      let w = gets-at i h in
      subst (Getting m.profile bs) (says-one w.3 e) (getting w.0 w.1 w.2 (record { at = i; within = h; says = w.3 }))

  -- where no two clash, the order changes neither the state nor what is granted
  pairs-any-order : NoClash Property bs m → AnyOrder bs m
  pairs-any-order N =
      any_order m (Between bs m) (Getting m.profile bs) (gets-commuting Property R bs m S (held-together Property R bs m S N)) bs
      (each_in [] (Saying m.profile (Getting m.profile bs)) bs gets-say)

  pub pairs-exactly : OrdersAgree bs m ↔ NoClash Property bs m
  pairs-exactly = (agree-no-clash Property R m S bs p, λ N. (pairs-any-order N).states)

-- "For every reached monitor and every list of gets, all orders of the list leave equal states exactly when no two gets in it, each granted
-- if it came alone, would together break the star property", and from change request §10 on "star or wall"
pub gets-agree-exactly : (m : Monitor) → Reached m → (bs : List (List ℕ)) → Each (IsGet m.profile) bs → OrdersAgree bs m ↔ NoClash StarAndWall bs m
gets-agree-exactly m r bs p = pairs-exactly StarAndWall both-pairs m (sound-reached m r) bs p

-- and where they leave equal states, each get is granted in all orders or refused in all
pub gets-agree-grants : (m : Monitor) → Reached m → (bs : List (List ℕ)) → Each (IsGet m.profile) bs → OrdersAgree bs m → AnyOrder bs m
gets-agree-grants m r bs p agree =
    let S = sound-reached m r in
    pairs-any-order StarAndWall both-pairs m S bs p ((pairs-exactly StarAndWall both-pairs m S bs p).0 agree)

-- where two clash, the two orders that begin with them differ
pub clash-orders-differ : (m : Monitor) → Reached m → (b c : List ℕ) (rest : List (List ℕ)) → Each (IsGet m.profile) (b ∷ c ∷ rest) → Clash StarAndWall m b c
    → after (b ∷ c ∷ rest) m ≢ after (c ∷ b ∷ rest) m
clash-orders-differ m r b c rest p = clash-apart StarAndWall both-pairs m (sound-reached m r) b c rest p.0 p.1.0 p.1.1

-- and no list of gets, in whatever order, leads to a state that holds both accesses
pub clash-never-both : (m : Monitor) → Reached m → (b c : List ℕ) (K : Clash StarAndWall m b c) (ds : List (List ℕ)) → Each (IsGet m.profile) ds
    → Holds (after ds m) K.s K.p K.x → Holds (after ds m) K.t K.q K.y → ⊥
clash-never-both m r b c K ds p = never_both StarAndWall both-pairs m (sound-reached m r) b c K ds p

-- so in no list of gets, in whatever order, are both granted
pub clash-not-both-granted : (m : Monitor) → Reached m → (b c : List ℕ) → Clash StarAndWall m b c → (ds : List (List ℕ)) → Each (IsGet m.profile) ds
    → (i j : ℕ) → i < length ds → j < length ds → get_or ds i [] ≡ b → get_or ds j [] ≡ c → GrantedAt ds m i → GrantedAt ds m j → ⊥
clash-not-both-granted m r = not-both-granted StarAndWall both-pairs m (sound-reached m r)

-- a get does not clash with itself: "A list that holds the same get twice is included"
pub never-itself : (m : Monitor) → Reached m → (b : List ℕ) → IsGet m.profile b → Clash StarAndWall m b b → ⊥
never-itself m r b g K = clash-orders-differ m r b b [] (g, (g, tt)) K refl

-- which of two is called the first does not matter
pub clash-turned : (m : Monitor) → Reached m → (b c : List ℕ) → Clash StarAndWall m b c → Clash StarAndWall m c b
unfolding changed
clash-turned m r b c K =
    record {
      s = K.t;
      p = K.q;
      x = K.y;
      t = K.s;
      q = K.p;
      y = K.x;
      first = K.second;
      second = K.first;
      first_alone = K.second_alone;
      second_alone = K.first_alone;
      together = λ T. K.together (subst StarAndWall (gets-comm m (sound-reached m r).formed K.s K.p K.x K.t K.q K.y) T);
    }

-- ---- two gets by their replies

module _ (m : Monitor) (S : Sound m) (b c : List ℕ) (s p : ℕ) (x : Mode) (t q : ℕ) (y : Mode) (Some-first : decode m.profile b ≡ Some (Get s p x))
    (Some-second : decode m.profile c ≡ Some (Get t q y)) (first_alone : reply b m < 2) (second_alone : reply c m < 2) where
  first-granted : checks (Get s p x) m ≡ Granted
  first-granted = (says-granted b (Get s p x) m Some-first).0 first_alone

  second-granted : checks (Get t q y) m ≡ Granted
  second-granted = (says-granted c (Get t q y) m Some-second).0 second_alone

  -- the state that the first leaves
  after_first : (respond b m).monitor ≡ with_access m s p x
  unfolding changed
  after_first = ap (λ (r : Response). r.monitor) (respond-says b (Get s p x) m Some-first ∙ step-granted (Get s p x) m first-granted)

  -- where they would together break star or the wall, the second gets 9 or 18 there, and else it is granted
  refused-there : (d : Decision) → refuses d ≡ true → checks (Get t q y) (with_access m s p x) ≡ d → reply c (respond b m).monitor ≡ number d
  refused-there d r broken =
      ap (reply c) after_first ∙ ap (λ (r : Response). number r.decision) (respond-says c (Get t q y) (with_access m s p x) Some-second)
      ∙ ap (λ (r : Response). number r.decision) (step-refused (Get t q y) (with_access m s p x) (ap refuses broken ∙ r)) ∙ ap number broken

  second-refused : (StarAndWall (with_access (with_access m s p x) t q y) → ⊥) → (reply c (respond b m).monitor ≡ 9) ⊎ (reply c (respond b m).monitor ≡ 18)
  second-refused n =
      ⊎_elim (λ e. inl (refused-there StarBroken refl e)) (λ e. inr (refused-there WallBroken refl e))
      (refused-after-first m S s p x t q y (decode-range m.profile b _ Some-first) (decode-range m.profile c _ Some-second) first-granted second-granted n)

  second_below : StarAndWall (with_access (with_access m s p x) t q y) → reply c (respond b m).monitor < 2
  second_below T =
      subst (λ (n : Monitor). reply c n < 2) (sym after_first)
      ((says-granted c (Get t q y) (with_access m s p x) Some-second).1
      (granted-after-first m S s p x t q y (decode-range m.profile b _ Some-first) (decode-range m.profile c _ Some-second) first-granted second-granted T))

-- two gets clash exactly where each gets 0 or 1 if it came alone, and the second gets 9 or 18 after the first
pub clash-by-replies : (m : Monitor) → Reached m → (b c : List ℕ) → IsGet m.profile b → IsGet m.profile c
    → Clash StarAndWall m b c ↔ ((reply b m < 2) × (reply c m < 2) × ((reply c (respond b m).monitor ≡ 9) ⊎ (reply c (respond b m).monitor ≡ 18)))
clash-by-replies m r b c v w =
    let S = sound-reached m r in (
      λ K. (K.first_alone, K.second_alone, second-refused m S b c _ _ _ _ _ _ K.first K.second K.first_alone K.second_alone K.together),
      λ h. record {
        s = v.0;
        p = v.1;
        x = v.2;
        t = w.0;
        q = w.1;
        y = w.2;
        first = v.3;
        second = w.3;
        first_alone = h.0;
        second_alone = h.1;
        together = λ T.
            let low = second_below m S b c _ _ _ _ _ _ v.3 w.3 h.0 h.1 T in
            ⊎_elim (λ (e : reply c (respond b m).monitor ≡ 9). absurd (omega (arith, low, e)))
            (λ (e : reply c (respond b m).monitor ≡ 18). absurd (omega (arith, low, e))) h.2;
      },
    )
