-- The order of gives, and that of releases, never matters: the theorems of change request §7.
-- Assumes nothing.
use Prim.Native.Nat.{ℕ, zero, suc, ◌<◌, ◌≤◌}
use native.Mathlib.Nat.{le_of_suc-le-suc, not-suc-le-zero}
use native.Mathlib.Omega.{arith}
use mathlib.Core.Path.{◌≡◌, refl, sym, ap, ◌∙◌, subst}
use mathlib.Core.Logic.{◌↔◌, ◌⊎◌, inl, inr, ⊎_elim}
use mathlib.Core.Bool.{Bool, true, false}
use mathlib.Core.List.Permᴰ
use mathlib.Core.List.{List, [], ◌∷◌}
use lib.ListN.{length, get_or}
use Rattle.model.specs.declared.Profile.{Profile}
use Rattle.model.specs.declared.Monitor.{Monitor}
use Rattle.model.specs.declared.Mode.{Mode}
use Rattle.model.specs.declared.Request.{Request}
use Rattle.model.specs.declared.Request.TheVariants.{Get, Release, Give, Rescind, Create, Delete, ChangeLevel, SetCompanies}
use Rattle.model.specs.Requests.{Decoded, decode, encode, InRange, Within}
use Rattle.std.specs.Prelude.{Some, None}
use Rattle.model.specs.declared.Response.{Response}
use Rattle.model.specs.Decisions.{number, refuses}
use Rattle.model.specs.Runs.{carry_out, respond, reply, replies}
use Rattle.model.specs.Beginnings.{Reached}
use Rattle.model.proofs.Requests.{decode-range, encode-decode}
use Rattle.invariants.specs.Sound.{Sound}
use Rattle.invariants.proofs.Steps.{granted-or-refused, step-refused}
use Rattle.invariants.proofs.Outcomes.{reply-granted}
use Rattle.images.proofs.Reached.{sound-reached}
use Rattle.orders.specs.Orders.{OrderOf, Each}
use Rattle.orders.proofs.Places.{each-order, each_map}
use Rattle.request_orders.specs.AnyOrder.{IsGranted, GrantedAt, AnyOrder}
use Rattle.request_orders.specs.RightsLists.{IsGive, IsRelease, GiveOrRelease, give, release, NothingElse}
use Rattle.request_orders.proofs.Commuting.{Only, Saying, says-one, said-there, keeps-one, granted-alone, any_order}
use Rattle.request_orders.proofs.Owners.{OwnersKept, Ranged, same-checks, rights-commuting}

-- what the bytes of such a list say is in range
pub ranged : (k : Profile) (bs : List (List ℕ)) → Each (NothingElse k) bs → Each (Saying k Ranged) bs
ranged k = each_map (λ b w q e. (decode-range k b q e, w q e))

-- gives and releases in one list, and malformed bytes, which every order refuses
pub rights-any-order : (m : Monitor) → Reached m → (bs : List (List ℕ)) → Each (NothingElse m.profile) bs → AnyOrder bs m
rights-any-order m r bs p = any_order m (OwnersKept m) Ranged (rights-commuting m (sound-reached m r)) bs (ranged m.profile bs p)

-- in every order each is granted exactly where it is granted if it came alone
pub rights-granted-alone : (m : Monitor) → Reached m → (bs : List (List ℕ)) → Each (NothingElse m.profile) bs
    → (cs : List (List ℕ)) → OrderOf bs cs → (i : ℕ) → i < length cs → GrantedAt cs m i ↔ IsGranted (reply (get_or cs i []) m)
rights-granted-alone m r bs p = granted-alone m (OwnersKept m) Ranged (rights-commuting m (sound-reached m r)) bs (ranged m.profile bs p)

-- ---- refused ones

module _ (m : Monitor) (S : Sound m) where
  -- a refusal has the number that it has alone
  refused-turn : (d : Decoded) → Only Ranged d → (n : Monitor) → OwnersKept m n → 2 ≤ number (carry_out d n).decision
      → number (carry_out d n).decision ≡ number (carry_out d m).decision
  refused-turn None w n P h = refl
  refused-turn (Some q) w n P h =
      let same = same-checks m q n (w q refl).1 P in
      granted-or-refused q n (λ g. absurd (omega (arith, h, (reply-granted q n).1 g)))
      (λ k. ap (λ (r : Response). number r.decision) (step-refused q n k) ∙ ap number same
      ∙ sym (ap (λ (r : Response). number r.decision) (step-refused q m (ap refuses (sym same) ∙ k))))

  refused-at : (bs : List (List ℕ)) → Each (Saying m.profile Ranged) bs → (n : Monitor) → OwnersKept m n → (i : ℕ) → i < length bs → 2 ≤ get_or (replies bs n) i 2
      → get_or (replies bs n) i 2 ≡ reply (get_or bs i []) m
  unfolding replies
  refused-at [] p n P i h = absurd (not-suc-le-zero h)
  refused-at (b ∷ bs) p n P zero h =
      let there = said-there m (OwnersKept m) Ranged (rights-commuting m S) b in
      subst (λ (r : Response). 2 ≤ number r.decision → number r.decision ≡ reply b m) (sym (there n P))
      (subst (λ (r : Response). 2 ≤ number (carry_out (decode m.profile b) n).decision → number (carry_out (decode m.profile b) n).decision ≡ number r.decision)
      (sym (there m (rights-commuting m S).start)) (refused-turn (decode m.profile b) p.0 n P))
  refused-at (b ∷ bs) p n P (suc i) h =
      refused-at bs p.1 (respond b n).monitor (keeps-one m (OwnersKept m) Ranged (rights-commuting m S) b p.0 n P) i (le_of_suc-le-suc h)

-- in every order one that is refused gets the number that it gets if it came alone
pub rights-refused-alone : (m : Monitor) → Reached m → (bs : List (List ℕ)) → Each (NothingElse m.profile) bs
    → (cs : List (List ℕ)) → OrderOf bs cs → (i : ℕ) → i < length cs → 2 ≤ get_or (replies cs m) i 2 → get_or (replies cs m) i 2 ≡ reply (get_or cs i []) m
rights-refused-alone m r bs p cs c =
    let S = sound-reached m r in
    refused-at m S cs (each-order (Saying m.profile Ranged) c (ranged m.profile bs p)) m (rights-commuting m S).start

-- ---- the two laws of the request

gives-only : (k : Profile) (bs : List (List ℕ)) → Each (IsGive k) bs → Each (NothingElse k) bs
gives-only k = each_map (λ b w q e. subst GiveOrRelease (says-one w.3.1 e) (give w.3.0 w.0 w.1 w.2))

releases-only : (k : Profile) (bs : List (List ℕ)) → Each (IsRelease k) bs → Each (NothingElse k) bs
releases-only k = each_map (λ b w q e. subst GiveOrRelease (says-one w.3 e) (release w.0 w.1 w.2))

-- "Any two orders of one list of gives must leave equal states, and each give must be granted in both or refused in both"
pub gives-any-order : (m : Monitor) → Reached m → (bs : List (List ℕ)) → Each (IsGive m.profile) bs → AnyOrder bs m
gives-any-order m r bs p = rights-any-order m r bs (gives-only m.profile bs p)

-- "Releases obey the same law."
pub releases-any-order : (m : Monitor) → Reached m → (bs : List (List ℕ)) → Each (IsRelease m.profile) bs → AnyOrder bs m
releases-any-order m r bs p = rights-any-order m r bs (releases-only m.profile bs p)

-- every copy of one is granted, or every copy refused, in one order as in two
pub each_copy : (m : Monitor) → Reached m → (bs : List (List ℕ)) → Each (NothingElse m.profile) bs → (i j : ℕ) → i < length bs → j < length bs
    → get_or bs i [] ≡ get_or bs j [] → (get_or (replies bs m) i 2 < 2) ↔ (get_or (replies bs m) j 2 < 2)
each_copy m r bs p = (rights-any-order m r bs p).grants bs bs (Permᴰ.refl bs) (Permᴰ.refl bs)

-- ---- what such lists have

-- every give and every release in range and inside the profile is one, as its bytes
pub every-give : (k : Profile) (s t o : ℕ) (x : Mode) → InRange (Give s t o x) → Within k (Give s t o x) → IsGive k (encode (Give s t o x))
every-give k s t o x r v = (t, o, x, (s, encode-decode k (Give s t o x) r v))

pub every-release : (k : Profile) (s o : ℕ) (x : Mode) → InRange (Release s o x) → Within k (Release s o x) → IsRelease k (encode (Release s o x))
every-release k s o x r v = (s, o, x, encode-decode k (Release s o x) r v)

-- malformed bytes say nothing
not-said : {d : Decoded} {q : Request} → d ≡ None → d ≡ Some q → ⊥
not-said e f = let z : ◌≡◌ {A = ℕ} 0 1 = cc in omega arith

-- and nothing else stands in a list that has both but malformed bytes
pub nothing-else-exactly : (k : Profile) (b : List ℕ) → NothingElse k b ↔ (IsGive k b ⊎ IsRelease k b ⊎ (decode k b ≡ None))
nothing-else-exactly k b = (
  go (decode k b) refl,
  ⊎_elim (λ w. (gives-only k (b ∷ []) (w, tt)).0) (⊎_elim (λ w. (releases-only k (b ∷ []) (w, tt)).0) (λ e q f. absurd (not-said e f))),
)
  where
    named : (q : Request) → decode k b ≡ Some q → GiveOrRelease q → IsGive k b ⊎ IsRelease k b ⊎ (decode k b ≡ None)
    named _ e (give s t o x) = inl (t, o, x, (s, e))
    named _ e (release s o x) = inr (inl (s, o, x, e))

    go : (d : Decoded) → decode k b ≡ d → NothingElse k b → IsGive k b ⊎ IsRelease k b ⊎ (decode k b ≡ None)
    go None e w = inr (inr e)
    go (Some q) e w = named q e (w q e)

-- gives, releases and malformed bytes are three kinds
pub apart-kinds : (k : Profile) (b : List ℕ)
    → (IsGive k b → IsRelease k b → ⊥) × (IsGive k b → decode k b ≡ None → ⊥) × (IsRelease k b → decode k b ≡ None → ⊥)
apart-kinds k b = (λ v w. give-release v.3.1 w.3, λ v e. not-said e v.3.1, λ v e. not-said e v.3)
  where
    give-release : {s t o u p : ℕ} {x y : Mode} → decode k b ≡ Some (Give s t o x) → decode k b ≡ Some (Release u p y) → ⊥
    give-release e f = let z : ◌≡◌ {A = ℕ} 0 1 = cc in omega arith

-- and what says another request is none of them
pub no-other-kind : (k : Profile) (b : List ℕ) (q : Request) → decode k b ≡ Some q → NothingElse k b ↔ GiveOrRelease q
no-other-kind k b q e = (λ w. w q e, λ g r f. subst GiveOrRelease (says-one e f) g)

-- of the eight kinds these are two
abbrev pub give_or_release : Request → Bool
give_or_release (Get s o x) = false
give_or_release (Release s o x) = true
give_or_release (Give s t o x) = true
give_or_release (Rescind s t o x) = false
give_or_release (Create s o c) = false
give_or_release (Delete s o) = false
give_or_release (ChangeLevel s o l) = false
give_or_release (SetCompanies s o n) = false

pub two-kinds : (q : Request) → GiveOrRelease q → give_or_release q ≡ true
two-kinds _ (give s t o x) = refl
two-kinds _ (release s o x) = refl

pub of-kind : (q r : Request) → GiveOrRelease q → q ≡ r → give_or_release r ≡ true
of-kind q r w e = two-kinds r (subst GiveOrRelease e w)
