-- Where each request of a list is granted at every place exactly when it is granted alone, and what two of them do is the same in both
-- orders, all orders of the list leave one state and grant the same requests.
-- Assumes nothing.
use Prim.Native.Nat.{ℕ, zero, suc, ◌<◌}
use native.Mathlib.Nat.{le_of_suc-le-suc, not-suc-le-zero}
use mathlib.Core.Path.{◌≡◌, refl, sym, ap, ◌∙◌, subst}
use mathlib.Core.Logic.{◌↔◌}
use mathlib.Core.Bool.{Bool, true, false, cond}
use mathlib.Core.List.Permᴰ
use mathlib.Core.List.{List, [], ◌∷◌}
use lib.ListN.{length, get_or}
use Rattle.model.specs.declared.Profile.{Profile}
use Rattle.model.specs.declared.Monitor.{Monitor}
use Rattle.model.specs.declared.Request.{Request}
use Rattle.model.specs.Requests.{Decoded, decode}
use Rattle.std.specs.Prelude.{Some, None}
use Rattle.model.specs.declared.Decision.TheVariants.{Granted}
use Rattle.model.specs.declared.Response.{Response}
use Rattle.model.specs.Decisions.{number, refuses}
use Rattle.model.specs.Rules.{afterwards, checks, step}
use Rattle.model.specs.Runs.{carry_out, respond, reply, after, replies}
use Rattle.model.proofs.Tests.{apart, cond-true, cond-false}
use Rattle.invariants.proofs.Steps.{step-granted, step-refused, step-all, granted-or-refused}
use Rattle.invariants.proofs.Outcomes.{reply-granted}
use Rattle.images.proofs.Reached.{respond-says}
use Rattle.orders.specs.Orders.{OrderOf, Each}
use Rattle.orders.proofs.Places.{each-order}
use Rattle.request_orders.specs.AnyOrder.{IsGranted, GrantedAt, AnyOrder}

-- requests on a monitor m: I holds of the states that they may pass through, Q of the requests themselves
pub record Commuting (m : Monitor) (I : Monitor → Type 0) (Q : Request → Type 0) : Type 0 where
  pub start : I m
  -- under one profile, so that bytes say the same there
  pub profile : (n : Monitor) → I n → n.profile ≡ m.profile
  pub keeps : (q : Request) (n : Monitor) → Q q → I n → checks q n ≡ Granted → I (afterwards q n)
  -- granted there exactly when granted alone
  pub alone : (q : Request) (n : Monitor) → Q q → I n → (checks q n ≡ Granted) ↔ (checks q m ≡ Granted)
  pub commute : (q r : Request) (n : Monitor) → Q q → Q r → I n → afterwards q (afterwards r n) ≡ afterwards r (afterwards q n)

-- what is decoded is such a request, or malformed; and bytes of which this is so under a profile
abbrev pub Only : (Request → Type 0) → Decoded → Type 0
Only Q d = (q : Request) → d ≡ Some q → Q q

abbrev pub Saying : Profile → (Request → Type 0) → List ℕ → Type 0
Saying k Q b = Only Q (decode k b)

-- bytes say one request
pub says-one : {d : Decoded} {q r : Request} → d ≡ Some q → d ≡ Some r → q ≡ r
says-one {q = q} e f = ap said (sym e ∙ f)
  where
    said : Decoded → Request
    said None = q
    said (Some k) = k

-- bytes that say a request are granted where it is
pub says-granted : (b : List ℕ) (q : Request) (n : Monitor) → decode n.profile b ≡ Some q → (reply b n < 2) ↔ (checks q n ≡ Granted)
says-granted b q n e =
    subst (λ (r : Response). (number r.decision < 2) ↔ (checks q n ≡ Granted)) (sym (respond-says b q n e)) (reply-granted q n)

-- a request that is refused leaves the state, another does what it does
outcome : Bool → Request → Monitor → Monitor
outcome refused q n = cond refused n (afterwards q n)

outcomes-comm : (a b : Bool) (q r : Request) (n : Monitor) → afterwards q (afterwards r n) ≡ afterwards r (afterwards q n)
    → outcome a q (outcome b r n) ≡ outcome b r (outcome a q n)
unfolding outcome
outcomes-comm true true q r n e = refl
outcomes-comm true false q r n e = refl
outcomes-comm false true q r n e = refl
outcomes-comm false false q r n e = e

module _ (m : Monitor) (I : Monitor → Type 0) (Q : Request → Type 0) (S : Commuting m I Q) where
  -- what a request leaves is decided by whether it is granted alone
  left_by : (q : Request) (n : Monitor) → Q q → I n → (step q n).monitor ≡ outcome (refuses (checks q m)) q n
  unfolding outcome
  left_by q n w i =
      granted-or-refused q m
      (λ g. ap (λ (r : Response). r.monitor) (step-granted q n ((S.alone q n w i).1 g)) ∙ sym (cond-false (refuses (checks q m)) _ _ (ap refuses g)))
      (λ g. granted-or-refused q n
      (λ k. apart g (ap refuses ((S.alone q n w i).0 k)))
      (λ k. ap (λ (r : Response). r.monitor) (step-refused q n k) ∙ sym (cond-true (refuses (checks q m)) _ _ g)))

  pub keeps-step : (q : Request) (n : Monitor) → Q q → I n → I (step q n).monitor
  keeps-step q n w i = step-all I q n i (S.keeps q n w i)

  steps-comm : (q r : Request) (n : Monitor) → Q q → Q r → I n → (step r (step q n).monitor).monitor ≡ (step q (step r n).monitor).monitor
  steps-comm q r n v w i =
      let a = refuses (checks q m) in
      let b = refuses (checks r m) in
      left_by r (step q n).monitor w (keeps-step q n v i) ∙ ap (outcome b r) (left_by q n v i)
      ∙ outcomes-comm b a r q n (S.commute r q n w v i)
      ∙ sym (left_by q (step r n).monitor v (keeps-step r n w i) ∙ ap (outcome a q) (left_by r n w i))

  -- the same of what bytes say, or where they are malformed and leave the state
  keeps-turn : (d : Decoded) → Only Q d → (n : Monitor) → I n → I (carry_out d n).monitor
  keeps-turn None w n i = i
  keeps-turn (Some q) w n i = keeps-step q n (w q refl) i

  turns-comm : (d e : Decoded) → Only Q d → Only Q e → (n : Monitor) → I n
      → (carry_out e (carry_out d n).monitor).monitor ≡ (carry_out d (carry_out e n).monitor).monitor
  turns-comm None e v w n i = refl
  turns-comm (Some q) None v w n i = refl
  turns-comm (Some q) (Some r) v w n i = steps-comm q r n (v q refl) (w r refl) i

  -- a reply is 0 or 1 exactly where it is if the bytes came alone
  granted-turn : (d : Decoded) → Only Q d → (n : Monitor) → I n
      → IsGranted (number (carry_out d n).decision) ↔ IsGranted (number (carry_out d m).decision)
  granted-turn None w n i = (λ h. h, λ h. h)
  granted-turn (Some q) w n i =
      let same = S.alone q n (w q refl) i in
      (λ h. (reply-granted q m).1 (same.0 ((reply-granted q n).0 h)), λ h. (reply-granted q n).1 (same.1 ((reply-granted q m).0 h)))

  -- bytes are carried out as what they say under the profile of m
  pub said-there : (b : List ℕ) (n : Monitor) → I n → respond b n ≡ carry_out (decode m.profile b) n
  unfolding respond
  said-there b n i = ap (λ (k : Profile). carry_out (decode k b) n) (S.profile n i)

  pub keeps-one : (b : List ℕ) → Saying m.profile Q b → (n : Monitor) → I n → I (respond b n).monitor
  keeps-one b w n i = subst (λ (r : Response). I r.monitor) (sym (said-there b n i)) (keeps-turn (decode m.profile b) w n i)

  -- the state after two
  after_two : (b c : List ℕ) → Saying m.profile Q b → (n : Monitor) → I n
      → (respond c (respond b n).monitor).monitor ≡ (carry_out (decode m.profile c) (carry_out (decode m.profile b) n).monitor).monitor
  after_two b c w n i =
      ap (λ (r : Response). r.monitor) (said-there c (respond b n).monitor (keeps-one b w n i))
      ∙ ap (λ (r : Response). (carry_out (decode m.profile c) r.monitor).monitor) (said-there b n i)

  two-comm : (b c : List ℕ) → Saying m.profile Q b → Saying m.profile Q c → (n : Monitor) → I n
      → (respond c (respond b n).monitor).monitor ≡ (respond b (respond c n).monitor).monitor
  two-comm b c v w n i =
      after_two b c v n i ∙ turns-comm (decode m.profile b) (decode m.profile c) v w n i ∙ sym (after_two c b w n i)

  pub granted-one : (b : List ℕ) → Saying m.profile Q b → (n : Monitor) → I n → IsGranted (reply b n) ↔ IsGranted (reply b m)
  granted-one b w n i =
      subst (λ (r : Response). IsGranted (number r.decision) ↔ IsGranted (reply b m)) (sym (said-there b n i))
      (subst (λ (r : Response). IsGranted (number (carry_out (decode m.profile b) n).decision) ↔ IsGranted (number r.decision)) (sym (said-there b m S.start))
      (granted-turn (decode m.profile b) w n i))

  -- what they may pass through holds of the state after a list
  pub keeps-all : (bs : List (List ℕ)) → Each (Saying m.profile Q) bs → (n : Monitor) → I n → I (after bs n)
  unfolding after
  keeps-all [] p n i = i
  keeps-all (b ∷ bs) p n i = keeps-all bs p.1 (respond b n).monitor (keeps-one b p.0 n i)

  -- two orders leave one state
  after-order : {bs cs : List (List ℕ)} → OrderOf bs cs → Each (Saying m.profile Q) bs → (n : Monitor) → I n → after bs n ≡ after cs n
  unfolding after
  after-order Permᴰ.nil p n i = refl
  after-order (Permᴰ.cons {a = b} {l₂ = cs} e d) p n i =
      after-order d p.1 (respond b n).monitor (keeps-one b p.0 n i) ∙ ap (λ (k : List ℕ). after cs (respond k n).monitor) e
  after-order (Permᴰ.swap {a = b} {b = c} {a' = first} {l = bs} e f) p n i =
      ap (after bs) (two-comm b c p.0 p.1.0 n i)
      ∙ ap (λ (k : List ℕ). after bs (respond b (respond k n).monitor).monitor) f
      ∙ ap (λ (k : List ℕ). after bs (respond k (respond first n).monitor).monitor) e
  after-order (Permᴰ.trans d k) p n i = after-order d p n i ∙ after-order k (each-order (Saying m.profile Q) d p) n i

  -- at each place of a list what is granted is granted alone
  granted-at : (bs : List (List ℕ)) → Each (Saying m.profile Q) bs → (n : Monitor) → I n → (i : ℕ) → i < length bs → GrantedAt bs n i ↔ IsGranted (reply (get_or bs i []) m)
  unfolding replies
  granted-at [] p n w i h = absurd (not-suc-le-zero h)
  granted-at (b ∷ bs) p n w zero h = granted-one b p.0 n w
  granted-at (b ∷ bs) p n w (suc i) h = granted-at bs p.1 (respond b n).monitor (keeps-one b p.0 n w) i (le_of_suc-le-suc h)

  -- in every order, and with it granted in two orders or refused in both
  module _ (bs : List (List ℕ)) (p : Each (Saying m.profile Q) bs) where
    pub granted-alone : (cs : List (List ℕ)) → OrderOf bs cs → (i : ℕ) → i < length cs → GrantedAt cs m i ↔ IsGranted (reply (get_or cs i []) m)
    granted-alone cs c = granted-at cs (each-order (Saying m.profile Q) c p) m S.start

    pub any_order : AnyOrder bs m
    any_order =
        record {
          states = λ cs ds c d. sym (after-order c p m S.start) ∙ after-order d p m S.start;
          grants = λ cs ds c d i j h k e.
              let here = granted-alone cs c i h in
              let there = granted-alone ds d j k in (
                λ g. there.1 (subst (λ (b : List ℕ). IsGranted (reply b m)) e (here.0 g)),
                λ g. here.1 (subst (λ (b : List ℕ). IsGranted (reply b m)) (sym e) (there.0 g)),
              );
        }
