-- What the loops know, and one turn more of each.
-- Assumes nothing.
use Prim.Native.Nat.{ℕ, ◌+◌, ◌/◌, ◌<◌, ◌≤◌}
use native.Mathlib.Omega.{arith}
use mathlib.Core.Path.{◌≡◌, refl, sym, ap, ap₂, ◌∙◌}
use mathlib.Core.Bool.{Bool, true, false, cond, ◌&&◌}
use mathlib.Core.List.{List, []}
use lib.ListN.{length, get_or, set}
use lib.Dec.{ltb}
use borrow.Author.Tests.{lt-ltb, le-ltb}
use Rattle.model.specs.declared.Profile.{Profile}
use Rattle.model.specs.declared.Monitor.{Monitor}
use Rattle.model.specs.Program.{pieces}
use Rattle.model.proofs.Tests.{cond-true, cond-false}
use Rattle.turns.proofs.Runs.{length-pieces}
use Rattle.unit.specs.Rows.{Rows}
use Rattle.unit.proofs.Tabulated.{stored_more}
use Rattle.start_order.specs.Answers.{Wanted, wanted, alone, breaks, clashes, most_pieces, first_other, partner, first_with, first_clash, start_order}
use Rattle.start_order.specs.declared.StartOrder.TheVariants.{Agree, Clash, NoGet, TooMany}
use Rattle.start_order.specs.Tried.{Listed}
use Rattle.std.specs.Prelude.{Some, None, is_none}
use Rattle.start_order.specs.First.{found}
use Rattle.start_order.proofs.First.{NoneBelow, found_first, ended-first, found-some, found-not}

-- ---- the tests that the three searches make

-- no get stands at i
abbrev pub is_other : Profile → List (List ℕ) → ℕ → Bool
is_other p bs i = is_none (wanted p (get_or bs i []))

-- the get at j stands behind i and clashes with the one at i
abbrev pub is_partner : Monitor → List (List ℕ) → ℕ → ℕ → Bool
is_partner m bs i j = ltb i j && clashes m (get_or bs i []) (get_or bs j [])

-- the get at i has a partner
abbrev pub has_partner : Monitor → List (List ℕ) → ℕ → Bool
has_partner m bs i = ltb (partner m bs i) (length bs)

-- as many pieces as are counted
pub counted : (requests : List ℕ) (count : ℕ) → count ≡ (length requests + 5) / 6 → count ≡ length (pieces requests)
counted requests count e = e ∙ sym (length-pieces requests)

-- ---- the list of those that are granted alone

pub record Listing (m : Monitor) (bs : List (List ℕ)) (u₀ u : Rows) (list : List Bool) (i : ℕ) : Type 0 where
  pub rows : u ≡ u₀
  pub size : length list ≡ most_pieces
  pub so_far : Listed m bs i list

pub listed_more : (m : Monitor) (bs : List (List ℕ)) (i : ℕ) (list : List Bool) (r : Bool) → i < length list → Listed m bs i list
    → r ≡ alone m (wanted m.profile (get_or bs i [])) → Listed m bs (i + 1) (set list i r)
listed_more m bs i list r h L e = stored_more (λ k b. b ≡ alone m (wanted m.profile (get_or bs k []))) list i r false h L e

-- ---- the partner of the get at i

module _ (m : Monitor) (bs : List (List ℕ)) (i : ℕ) where
  -- a get that is refused alone has none
  pub refused_none : alone m (wanted m.profile (get_or bs i [])) ≡ false → (n : ℕ) → NoneBelow (is_partner m bs i) n
  unfolding clashes
  refused_none e n j h =
      ap (λ (b : Bool). ltb i j && (b && (alone m (wanted m.profile (get_or bs j [])) && breaks m (wanted m.profile (get_or bs i [])) (wanted m.profile (get_or bs j []))))) e ∙ off (ltb i j)
    where
      off : (b : Bool) → (b && false) ≡ false
      off true = refl
      off false = refl

  -- none stands before it or at its own place
  pub none_before : NoneBelow (is_partner m bs i) (i + 1)
  none_before j h = ap (λ (b : Bool). b && clashes m (get_or bs i []) (get_or bs j [])) (le-ltb i j (omega arith))

  -- behind it the two are asked for
  pub partner-at : alone m (wanted m.profile (get_or bs i [])) ≡ true → (j : ℕ) → i < j
      → is_partner m bs i j ≡ (alone m (wanted m.profile (get_or bs j [])) && breaks m (wanted m.profile (get_or bs i [])) (wanted m.profile (get_or bs j [])))
  unfolding clashes
  partner-at e j h =
      ap (λ (b : Bool). b && clashes m (get_or bs i []) (get_or bs j [])) (lt-ltb i j h)
      ∙ ap (λ (b : Bool). b && (alone m (wanted m.profile (get_or bs j [])) && breaks m (wanted m.profile (get_or bs i [])) (wanted m.profile (get_or bs j [])))) e

  -- as the code asks for them, when the first is known
  pub partner-tested : (j : ℕ) (w : Wanted) (r : Bool) → alone m (wanted m.profile (get_or bs i [])) ≡ true → wanted m.profile (get_or bs i []) ≡ w → i < j
      → r ≡ (alone m (wanted m.profile (get_or bs j [])) && breaks m w (wanted m.profile (get_or bs j []))) → is_partner m bs i j ≡ r
  partner-tested j w r on e h f =
      partner-at on j h ∙ ap (λ (v : Wanted). alone m (wanted m.profile (get_or bs j [])) && breaks m v (wanted m.profile (get_or bs j []))) e ∙ sym f

-- ---- the first get that has a partner

module _ (m : Monitor) (bs : List (List ℕ)) (count : ℕ) (size : count ≡ length bs) where
  -- what the partner's place says
  pub partner-on : (i j : ℕ) → found (length bs) (partner m bs i) ≡ Some j → has_partner m bs i ≡ true
  partner-on i j e = let at = found-some _ _ j e in lt-ltb (partner m bs i) (length bs) (omega (arith, at.0, at.1))

  pub partner-off : (i : ℕ) → found (length bs) (partner m bs i) ≡ None → has_partner m bs i ≡ false
  partner-off i e = le-ltb (partner m bs i) (length bs) (found-not _ _ e)

  pub clash-found : (i j : ℕ) → NoneBelow (has_partner m bs) i → i < count → found (length bs) (partner m bs i) ≡ Some j → Clash i j ≡ first_clash m bs
  unfolding first_clash
  clash-found i j h w e =
      let at : i ≡ first_with m bs = found_first (length bs) count i (has_partner m bs) size h (partner-on i j e) w in
      let within : first_with m bs < length bs = omega (arith, w, sym at, size) in
      ap₂ Clash at ((found-some _ _ j e).0 ∙ ap (partner m bs) at) ∙ sym (cond-true (ltb (first_with m bs) (length bs)) (Clash (first_with m bs) (partner m bs (first_with m bs))) Agree (lt-ltb _ _ within))

  pub clash-none : (i : ℕ) → NoneBelow (has_partner m bs) i → count ≤ i → Agree ≡ first_clash m bs
  unfolding first_clash
  clash-none i h w =
      let at : count ≡ first_with m bs = ended-first (length bs) count i (has_partner m bs) size h w in
      let end : length bs ≤ first_with m bs = omega (arith, sym at, size) in
      sym (cond-false (ltb (first_with m bs) (length bs)) (Clash (first_with m bs) (partner m bs (first_with m bs))) Agree (le-ltb _ _ end))

-- ---- the answer

module _ (m : Monitor) (bs : List (List ℕ)) (count : ℕ) (size : count ≡ length bs) where
  pub answer-many : most_pieces < count → TooMany ≡ start_order bs m
  unfolding start_order
  answer-many h = sym (cond-true (ltb most_pieces (length bs)) _ _ (lt-ltb most_pieces (length bs) (omega (arith, size))))

  -- not too many: what else is found
  answer-few : count ≤ most_pieces → start_order bs m ≡ cond (ltb (first_other m.profile bs) (length bs)) (NoGet (first_other m.profile bs)) (first_clash m bs)
  unfolding start_order
  answer-few h = cond-false (ltb most_pieces (length bs)) _ _ (le-ltb most_pieces (length bs) (omega (arith, size)))

  pub answer-other : count ≤ most_pieces → (k : ℕ) → found (length bs) (first_other m.profile bs) ≡ Some k → NoGet k ≡ start_order bs m
  answer-other h k e =
      let at = found-some _ _ k e in
      let within : first_other m.profile bs < length bs = omega (arith, at.0, at.1) in
      ap NoGet at.0 ∙ sym (answer-few h ∙ cond-true (ltb (first_other m.profile bs) (length bs)) (NoGet (first_other m.profile bs)) (first_clash m bs) (lt-ltb _ _ within))

  pub answer-gets : count ≤ most_pieces → found (length bs) (first_other m.profile bs) ≡ None → first_clash m bs ≡ start_order bs m
  answer-gets h e =
      sym (answer-few h ∙ cond-false (ltb (first_other m.profile bs) (length bs)) (NoGet (first_other m.profile bs)) (first_clash m bs) (le-ltb _ _ (found-not _ _ e)))
