-- What is answered of every monitor, also of one that no run reaches: too many pieces, one that is no get, and where places are.
-- Assumes nothing.
use Prim.Native.Nat.{ℕ, ◌<◌, ◌≤◌}
use native.Mathlib.Omega.{arith}
use mathlib.Core.Path.{◌≡◌, refl, ap, subst}
use mathlib.Core.Logic.{◌↔◌}
use mathlib.Core.List.{List}
use lib.ListN.{length}
use lib.Dec.{ltb}
use borrow.Author.Tests.{ltb-true, ltb-false}
use Rattle.model.specs.declared.Profile.{Profile}
use Rattle.model.specs.declared.Monitor.{Monitor}
use Rattle.model.proofs.Tests.{cond-all, and_left}
use Rattle.orders.specs.Orders.{Each}
use Rattle.request_orders.specs.StartOrder.{IsGet}
use Rattle.start_order.specs.declared.StartOrder.{StartOrder}
use Rattle.start_order.specs.declared.StartOrder.TheVariants.{Agree, Clash as Clashing, NoGet, TooMany}
use Rattle.start_order.specs.Answers.{most_pieces, first_other, partner, first_with, first_clash, start_order}
use Rattle.start_order.specs.Meaning.{FirstOther, PlacesFit}
use Rattle.start_order.proofs.First.{first-means}
use Rattle.start_order.proofs.Searching.{is_partner, has_partner}
use Rattle.start_order.proofs.Meaning.{other-found, all-gets, other-not-all, others_same}

-- an answer about gets is of gets alone, and not of too many
GetsOnly : Profile → List (List ℕ) → StartOrder → Type 0
GetsOnly p bs TooMany = 4096 < length bs
GetsOnly p bs (NoGet i) = (length bs ≤ 4096) × FirstOther p bs i
GetsOnly p bs (Clashing i j) = (length bs ≤ 4096) × Each (IsGet p) bs
GetsOnly p bs Agree = (length bs ≤ 4096) × Each (IsGet p) bs

first-looks : (m : Monitor) (bs : List (List ℕ)) → GetsOnly m.profile bs (start_order bs m)
unfolding start_order first_clash GetsOnly
first-looks m bs =
    cond-all (GetsOnly m.profile bs) (ltb most_pieces (length bs)) TooMany _
    (λ e. ltb-true most_pieces (length bs) e)
    (λ e.
    let few : length bs ≤ 4096 = ltb-false most_pieces (length bs) e in
    cond-all (GetsOnly m.profile bs) (ltb (first_other m.profile bs) (length bs)) (NoGet (first_other m.profile bs)) _
    (λ w. (few, other-found m.profile bs (ltb-true _ _ w)))
    (λ w.
    let G = all-gets m.profile bs (ltb-false _ _ w) in
    cond-all (GetsOnly m.profile bs) (ltb (first_with m bs) (length bs)) (Clashing (first_with m bs) (partner m bs (first_with m bs))) Agree (λ v. (few, G)) (λ v. (few, G))))

module _ (m : Monitor) (bs : List (List ℕ)) where
  -- more than 4,096 pieces, whatever they are
  pub too-many-exactly : (start_order bs m ≡ TooMany) ↔ (4096 < length bs)
  unfolding GetsOnly
  too-many-exactly = (λ e. subst (GetsOnly m.profile bs) e (first-looks m bs), λ h. go (start_order bs m) (first-looks m bs) h)
    where
      go : (r : StartOrder) → GetsOnly m.profile bs r → 4096 < length bs → r ≡ TooMany
      go TooMany p h = refl
      go (NoGet i) p h = absurd (omega (arith, h, p.0))
      go (Clashing i j) p h = absurd (omega (arith, h, p.0))
      go Agree p h = absurd (omega (arith, h, p.0))

  -- the first piece that is no well-formed get
  pub no-get-exactly : (i : ℕ) → (start_order bs m ≡ NoGet i) ↔ ((length bs ≤ 4096) × FirstOther m.profile bs i)
  unfolding GetsOnly
  no-get-exactly i = (λ e. subst (GetsOnly m.profile bs) e (first-looks m bs), λ h. go (start_order bs m) (first-looks m bs) h)
    where
      go : (r : StartOrder) → GetsOnly m.profile bs r → (length bs ≤ 4096) × FirstOther m.profile bs i → r ≡ NoGet i
      go TooMany p h = absurd (omega (arith, p, h.0))
      go (NoGet k) p h = ap NoGet (others_same m.profile bs k i p.1 h.1)
      go (Clashing k l) p h = other-not-all m.profile bs i h.1 p.1
      go Agree p h = other-not-all m.profile bs i h.1 p.1

-- the places of an answer
pub places-fit : (m : Monitor) (bs : List (List ℕ)) → PlacesFit (start_order bs m)
unfolding start_order first_clash
places-fit m bs =
    cond-all PlacesFit (ltb most_pieces (length bs)) TooMany _ (λ e. tt)
    (λ e.
    let few : length bs ≤ 4096 = ltb-false most_pieces (length bs) e in
    cond-all PlacesFit (ltb (first_other m.profile bs) (length bs)) (NoGet (first_other m.profile bs)) _
    (λ w. let within : first_other m.profile bs < length bs = ltb-true _ _ w in omega arith)
    (λ w. cond-all PlacesFit (ltb (first_with m bs) (length bs)) (Clashing (first_with m bs) (partner m bs (first_with m bs))) Agree
    (λ v.
    let i = first_with m bs in
    let j = partner m bs i in
    let second : j < length bs = ltb-true j (length bs) ((first-means (length bs) (has_partner m bs)).passes (ltb-true _ _ v)) in
    (ltb-true i j (and_left (ltb i j) _ ((first-means (length bs) (is_partner m bs i)).passes second)), omega arith))
    (λ v. tt)))
