-- What the answer says of orders: on a reached monitor each answer is given exactly where what it means is so.
-- Assumes nothing.
use Prim.Native.Nat.{ℕ, ◌<◌, ◌≤◌}
use native.Mathlib.Nat.{eq-or-lt_of_le}
use native.Mathlib.Omega.{arith}
use mathlib.Core.Path.{◌≡◌, refl, sym, ap, ap₂, subst}
use mathlib.Core.Logic.{◌↔◌, ◌⊎◌, inl, inr, ⊎_elim}
use mathlib.Core.Bool.{true}
use mathlib.Core.List.{List, []}
use lib.ListN.{length, get_or}
use lib.Dec.{ltb}
use borrow.Author.Tests.{ltb-true, ltb-false, lt-ltb}
use Rattle.model.specs.declared.Profile.{Profile}
use Rattle.model.specs.declared.Monitor.{Monitor}
use Rattle.model.specs.Beginnings.{Reached}
use Rattle.model.proofs.Tests.{apart, cond-all, and_left, and_right, and_both, not_on, not-off, le-or-lt}
use Rattle.orders.specs.Orders.{Each}
use Rattle.orders.proofs.Places.{each_at, each_in}
use Rattle.request_orders.specs.AnyOrder.{OrdersAgree}
use Rattle.request_orders.specs.StartOrder.{IsGet, Clash, StarAndWall}
use Rattle.request_orders.proofs.StartOrder.{gets-agree-exactly}
use Rattle.start_order.specs.declared.StartOrder.{StartOrder}
use Rattle.start_order.specs.declared.StartOrder.TheVariants.{Agree, Clash as Clashing, NoGet, TooMany}
use Rattle.start_order.specs.Answers.{most_pieces, first_other, partner, first_with, first_clash, start_order}
use Rattle.start_order.specs.Meaning.{FirstOther, FirstClash, Means}
use Rattle.start_order.proofs.First.{First, first-means}
use Rattle.start_order.proofs.Searching.{is_other, is_partner, has_partner}
use Rattle.start_order.proofs.Clashes.{access-get, clashes-exactly}

-- ---- the first piece that is no get

module _ (p : Profile) (bs : List (List ℕ)) where
  other-means : First (length bs) (is_other p bs) (first_other p bs)
  other-means = first-means (length bs) (is_other p bs)

  get-before : (k : ℕ) → k < first_other p bs → IsGet p (get_or bs k [])
  get-before k h = (access-get p (get_or bs k [])).0 (not-off _ (other-means.none k h))

  pub other-found : first_other p bs < length bs → FirstOther p bs (first_other p bs)
  other-found h =
      record {
        within = h;
        no_get = λ g. apart ((access-get p (get_or bs (first_other p bs) [])).1 g) (not_on _ (other-means.passes h));
        gets_before = get-before;
      }

  pub all-gets : length bs ≤ first_other p bs → Each (IsGet p) bs
  all-gets h = each_in [] (IsGet p) bs (λ k w. get-before k (omega arith))

-- ---- the first two gets that clash

module _ (m : Monitor) (R : Reached m) (bs : List (List ℕ)) (G : Each (IsGet m.profile) bs) where
  gets-at : (i : ℕ) → i < length bs → IsGet m.profile (get_or bs i [])
  gets-at = each_at [] (IsGet m.profile) bs G

  with-means : First (length bs) (has_partner m bs) (first_with m bs)
  with-means = first-means (length bs) (has_partner m bs)

  partner-means : (i : ℕ) → First (length bs) (is_partner m bs i) (partner m bs i)
  partner-means i = first-means (length bs) (is_partner m bs i)

  -- two that clash: the second is a partner of the first
  clash-partner : (k l : ℕ) → k < l → l < length bs → Clash StarAndWall m (get_or bs k []) (get_or bs l []) → is_partner m bs k l ≡ true
  clash-partner k l a b K = and_both (lt-ltb k l a) ((clashes-exactly m R _ _).1 K)

  -- so the first of them has a partner, no later than the second
  clash-within : (k l : ℕ) → k < l → l < length bs → Clash StarAndWall m (get_or bs k []) (get_or bs l []) → partner m bs k ≤ l
  clash-within k l a b K =
      ⊎_elim (λ (w : partner m bs k ≤ l). w)
      (λ (w : l < partner m bs k). apart (clash-partner k l a b K) ((partner-means k).none l w)) (le-or-lt (partner m bs k) l)

  clash-with : (k l : ℕ) → k < l → l < length bs → Clash StarAndWall m (get_or bs k []) (get_or bs l []) → first_with m bs ≤ k
  clash-with k l a b K =
      let h : partner m bs k < length bs = omega (arith, clash-within k l a b K) in
      ⊎_elim (λ (w : first_with m bs ≤ k). w)
      (λ (w : k < first_with m bs). apart (lt-ltb (partner m bs k) (length bs) h) (with-means.none k w)) (le-or-lt (first_with m bs) k)

  first_found : first_with m bs < length bs → FirstClash m bs (first_with m bs) (partner m bs (first_with m bs))
  first_found h =
      let i = first_with m bs in
      let j = partner m bs i in
      let within : j < length bs = ltb-true j (length bs) (with-means.passes h) in
      let passes = (partner-means i).passes within in
      let ordered : i < j = ltb-true i j (and_left (ltb i j) _ passes) in
      record {
        ordered = ordered;
        within = within;
        clash = (clashes-exactly m R _ _).0 (and_right (ltb i j) _ passes);
        least = λ k l a b K. ⊎_elim
            (λ (e : i ≡ k). inr (e, subst (λ (n : ℕ). partner m bs n ≤ l) (sym e) (clash-within k l a b K)))
            (λ (w : i < k). inl w) (eq-or-lt_of_le (clash-with k l a b K));
      }

  none-agree : length bs ≤ first_with m bs → OrdersAgree bs m
  none-agree h = (gets-agree-exactly m R bs G).1 (λ k l a b K. absurd (omega (arith, h, a, b, clash-with k l a b K)))

  clash-disagree : (i j : ℕ) → FirstClash m bs i j → OrdersAgree bs m → ⊥
  clash-disagree i j F agree = (gets-agree-exactly m R bs G).0 agree i j F.ordered F.within F.clash

-- ---- the answer

answer-means : (m : Monitor) → Reached m → (bs : List (List ℕ)) → Means m bs (start_order bs m)
unfolding start_order first_clash
answer-means m R bs =
    cond-all (Means m bs) (ltb most_pieces (length bs)) TooMany _
    (λ e. ltb-true most_pieces (length bs) e)
    (λ e.
    let few : length bs ≤ 4096 = ltb-false most_pieces (length bs) e in
    cond-all (Means m bs) (ltb (first_other m.profile bs) (length bs)) (NoGet (first_other m.profile bs)) _
    (λ w. (few, other-found m.profile bs (ltb-true _ _ w)))
    (λ w.
    let G = all-gets m.profile bs (ltb-false _ _ w) in
    cond-all (Means m bs) (ltb (first_with m bs) (length bs)) (Clashing (first_with m bs) (partner m bs (first_with m bs))) Agree
    (λ v. (few, G, first_found m R bs G (ltb-true _ _ v)))
    (λ v. (few, G, none-agree m R bs G (ltb-false _ _ v)))))

-- no two answers mean what is so at once
pub other-not-all : {P : Type 0} (p : Profile) (bs : List (List ℕ)) (i : ℕ) → FirstOther p bs i → Each (IsGet p) bs → P
other-not-all p bs i F G = absurd (F.no_get (each_at [] (IsGet p) bs G i F.within))

pub others_same : (p : Profile) (bs : List (List ℕ)) (i k : ℕ) → FirstOther p bs i → FirstOther p bs k → i ≡ k
others_same p bs i k F G =
    ⊎_elim (λ (w : i ≤ k). ⊎_elim (λ (e : i ≡ k). e) (λ (v : i < k). absurd (F.no_get (G.gets_before i v))) (eq-or-lt_of_le w))
    (λ (w : k < i). absurd (G.no_get (F.gets_before k w))) (le-or-lt i k)

clashes-same : (m : Monitor) (bs : List (List ℕ)) (i j k l : ℕ) → FirstClash m bs i j → FirstClash m bs k l → (i ≡ k) × (j ≡ l)
clashes-same m bs i j k l F G = go (F.least k l G.ordered G.within G.clash) (G.least i j F.ordered F.within F.clash)
  where
    go : (i < k) ⊎ ((i ≡ k) × (j ≤ l)) → (k < i) ⊎ ((k ≡ i) × (l ≤ j)) → (i ≡ k) × (j ≡ l)
    go (inl a) (inl b) = absurd (omega arith)
    go (inl a) (inr b) = absurd (omega (arith, b.0))
    go (inr a) (inl b) = absurd (omega (arith, a.0))
    go (inr a) (inr b) = (a.0, omega (arith, a.1, b.1))

module _ (m : Monitor) (R : Reached m) (bs : List (List ℕ)) where
  means-one : (r u : StartOrder) → Means m bs r → Means m bs u → r ≡ u
  means-one TooMany TooMany p q = refl
  means-one TooMany (NoGet k) p q = absurd (omega (arith, p, q.0))
  means-one TooMany (Clashing k l) p q = absurd (omega (arith, p, q.0))
  means-one TooMany Agree p q = absurd (omega (arith, p, q.0))
  means-one (NoGet i) TooMany p q = absurd (omega (arith, p.0, q))
  means-one (NoGet i) (NoGet k) p q = ap NoGet (others_same m.profile bs i k p.1 q.1)
  means-one (NoGet i) (Clashing k l) p q = other-not-all m.profile bs i p.1 q.1
  means-one (NoGet i) Agree p q = other-not-all m.profile bs i p.1 q.1
  means-one (Clashing i j) TooMany p q = absurd (omega (arith, p.0, q))
  means-one (Clashing i j) (NoGet k) p q = other-not-all m.profile bs k q.1 p.1
  means-one (Clashing i j) (Clashing k l) p q = let e = clashes-same m bs i j k l p.2 q.2 in ap₂ Clashing e.0 e.1
  means-one (Clashing i j) Agree p q = absurd (clash-disagree m R bs p.1 i j p.2 q.2)
  means-one Agree TooMany p q = absurd (omega (arith, p.0, q))
  means-one Agree (NoGet k) p q = other-not-all m.profile bs k q.1 p.1
  means-one Agree (Clashing k l) p q = absurd (clash-disagree m R bs q.1 k l q.2 p.2)
  means-one Agree Agree p q = refl

  -- "all orders of the list leave equal states exactly when no two gets in it .. would together break" star or wall: each answer is given
  -- exactly where what it says of the list and of its orders is so
  pub answer-exactly : (r : StartOrder) → (start_order bs m ≡ r) ↔ Means m bs r
  answer-exactly r = (
    λ e. subst (Means m bs) e (answer-means m R bs),
    λ h. means-one (start_order bs m) r (answer-means m R bs) h,
  )
