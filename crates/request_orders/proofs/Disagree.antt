-- Where all orders of a list of gets agree, no two of them clash: the state that all leave holds both accesses.
-- Assumes nothing.
use Prim.Native.Nat.{ℕ, zero, suc, ◌<◌}
use native.Mathlib.Nat.{le_of_suc-le-suc, not-suc-le-zero}
use mathlib.Core.Path.{◌≡◌, refl, sym, ap, ◌∙◌, subst}
use mathlib.Core.Logic.{◌≢◌}
use mathlib.Core.List.Permᴰ
use mathlib.Core.List.{List, [], ◌∷◌}
use lib.ListN.{length, get_or}
use Rattle.model.specs.declared.Profile.{Profile}
use Rattle.model.specs.declared.Monitor.{Monitor}
use Rattle.model.specs.declared.Mode.{Mode}
use Rattle.model.specs.declared.Request.TheVariants.{Get}
use Rattle.model.specs.Requests.{Decoded, decode}
use Rattle.std.specs.Prelude.{Some}
use Rattle.model.specs.declared.Response.{Response}
use Rattle.model.specs.Properties.{Holds}
use Rattle.model.specs.Rules.{changed, step}
use Rattle.model.specs.Runs.{respond, reply, after, replies}
use Rattle.model.proofs.Requests.{decode-range}
use Rattle.invariants.specs.Access.{with_access}
use Rattle.invariants.specs.Sound.{Sound}
use Rattle.invariants.proofs.Inside.{get-within}
use Rattle.invariants.proofs.Steps.{step-granted, step-all, sound-respond, sound-after, sound-afterwards, respond-profile}
use Rattle.invariants.proofs.Added.{held-now, held-still, holds-now}
use Rattle.images.proofs.Reached.{respond-says}
use Rattle.orders.specs.Orders.{Each}
use Rattle.orders.proofs.Places.{each-order, begin-at-two}
use Rattle.request_orders.specs.AnyOrder.{OrdersAgree, GrantedAt}
use Rattle.request_orders.specs.StartOrder.{IsGet, Clash, NoClash}
use Rattle.request_orders.proofs.Commuting.{says-granted}
use Rattle.request_orders.proofs.Accesses.{SameButHeld, same_back, same-on, Within, pairs-by, added-same}
use Rattle.request_orders.proofs.PairProperties.{PairProperty}

-- a state that gets lead to from n: all else is the same, and no access is lost
record OnlyGained (n k : Monitor) : Type 0 where
  same : SameButHeld k n
  more : Within n k

gained-get : (s o : ℕ) (x : Mode) (n : Monitor) → Sound n → OnlyGained n (step (Get s o x) n).monitor
unfolding changed
gained-get s o x n S =
    step-all (OnlyGained n) (Get s o x) n (record { same = record { profile = refl; subjects = refl; objects = λ j. refl }; more = λ t p y a. a })
    (λ g. record { same = added-same n s o x; more = held-still n S.formed s o x })

-- what bytes say to a monitor of the profile
said_under : (k : Profile) (b : List ℕ) (n : Monitor) {d : Decoded} → n.profile ≡ k → decode k b ≡ d → decode n.profile b ≡ d
said_under k b n u e = ap (λ (j : Profile). decode j b) u ∙ e

gained-one : (k : Profile) (b : List ℕ) → IsGet k b → (n : Monitor) → n.profile ≡ k → Sound n → OnlyGained n (respond b n).monitor
gained-one k b w n u S =
    subst (λ (r : Response). OnlyGained n r.monitor) (sym (respond-says b _ n (said_under k b n u w.3))) (gained-get w.0 w.1 w.2 n S)

gained-all : (k : Profile) (bs : List (List ℕ)) → Each (IsGet k) bs → (n : Monitor) → n.profile ≡ k → Sound n → OnlyGained n (after bs n)
unfolding after
gained-all k [] p n u S = record { same = record { profile = refl; subjects = refl; objects = λ j. refl }; more = λ t p y a. a }
gained-all k (b ∷ bs) p n u S =
    let one = gained-one k b p.0 n u S in
    let rest = gained-all k bs p.1 (respond b n).monitor (respond-profile b n ∙ u) (sound-respond b n S) in
    record { same = same-on rest.same one.same; more = λ t o y a. rest.more t o y (one.more t o y a) }

-- a get that is granted first holds to the end
first_holds : (k : Profile) (b : List ℕ) (bs : List (List ℕ)) (s o : ℕ) (x : Mode) (n : Monitor) → n.profile ≡ k → Sound n → Each (IsGet k) bs
    → decode k b ≡ Some (Get s o x) → reply b n < 2 → Holds (after (b ∷ bs) n) s o x
unfolding after changed
first_holds k b bs s o x n u S p e h =
    let d = said_under k b n u e in
    let r = decode-range k b _ e in
    (gained-all k bs p (respond b n).monitor (respond-profile b n ∙ u) (sound-respond b n S)).more s o x
    (subst (λ (r : Response). Holds r.monitor s o x)
    (sym (respond-says b (Get s o x) n d ∙ step-granted (Get s o x) n ((says-granted b (Get s o x) n d).0 h)))
    (holds-now n S s o x r.0 r.1))

-- and so does one that is granted at any place
granted-holds : (k : Profile) (bs : List (List ℕ)) → Each (IsGet k) bs → (n : Monitor) → n.profile ≡ k → Sound n → (i : ℕ) → i < length bs → (s o : ℕ) (x : Mode)
    → decode k (get_or bs i []) ≡ Some (Get s o x) → GrantedAt bs n i → Holds (after bs n) s o x
unfolding after replies
granted-holds k [] p n u S i h s o x d g = absurd (not-suc-le-zero h)
granted-holds k (b ∷ bs) p n u S zero h s o x d g = first_holds k b bs s o x n u S p.1 d g
granted-holds k (b ∷ bs) p n u S (suc i) h s o x d g =
    granted-holds k bs p.1 (respond b n).monitor (respond-profile b n ∙ u) (sound-respond b n S) i (le_of_suc-le-suc h) s o x d g

module _ (Property : Monitor → Type 0) (R : PairProperty Property) (m : Monitor) (S : Sound m) where
  -- two gets that clash: no list of gets leads to a state that holds both accesses, since it would have the property
  pub never_both : (b c : List ℕ) (K : Clash Property m b c) (ds : List (List ℕ)) → Each (IsGet m.profile) ds
      → Holds (after ds m) K.s K.p K.x → Holds (after ds m) K.t K.q K.y → ⊥
  unfolding changed
  never_both b c K ds p held_first held-second =
      let n = after ds m in
      let B : OnlyGained m n = gained-all m.profile ds p m refl S in
      let one = with_access m K.s K.p K.x in
      let both = with_access one K.t K.q K.y in
      let g = (says-granted b (Get K.s K.p K.x) m K.first).0 K.first_alone in
      let W = (sound-afterwards (Get K.s K.p K.x) m (decode-range m.profile b _ K.first) (get-within m S.inside K.s K.p K.x g) S g).formed in
      let fewer : Within both n =
      held-now one W K.t K.q K.y (Holds n) held-second (held-now m S.formed K.s K.p K.x (Holds n) held_first B.more) in
      let E = same-on B.same (same_back (same-on (added-same one K.t K.q K.y) (added-same m K.s K.p K.x))) in
      K.together ((R.means both).1 (pairs-by R.test n both E fewer ((R.means n).0 (R.kept n (sound-after ds m S)))))

  -- so they are not both granted, at whatever places of a list of gets they stand
  pub not-both-granted : (b c : List ℕ) → Clash Property m b c → (ds : List (List ℕ)) → Each (IsGet m.profile) ds → (i j : ℕ) → i < length ds → j < length ds
      → get_or ds i [] ≡ b → get_or ds j [] ≡ c → GrantedAt ds m i → GrantedAt ds m j → ⊥
  not-both-granted b c K ds p i j h k e f g l =
      never_both b c K ds p
      (granted-holds m.profile ds p m refl S i h K.s K.p K.x (ap (decode m.profile) e ∙ K.first) g)
      (granted-holds m.profile ds p m refl S j k K.t K.q K.y (ap (decode m.profile) f ∙ K.second) l)

  -- each before the other: a state that both orders left would hold both
  pub clash-apart : (b c : List ℕ) (rest : List (List ℕ)) → IsGet m.profile b → IsGet m.profile c → Each (IsGet m.profile) rest → Clash Property m b c
      → after (b ∷ c ∷ rest) m ≢ after (c ∷ b ∷ rest) m
  clash-apart b c rest v w p K e =
      never_both b c K (b ∷ c ∷ rest) (v, (w, p))
      (first_holds m.profile b (c ∷ rest) _ _ _ m refl S (w, p) K.first K.first_alone)
      (subst (λ (l : Monitor). Holds l K.t K.q K.y) (sym e) (first_holds m.profile c (b ∷ rest) _ _ _ m refl S (v, p) K.second K.second_alone))

  pub agree-no-clash : (bs : List (List ℕ)) → Each (IsGet m.profile) bs → OrdersAgree bs m → NoClash Property bs m
  agree-no-clash bs p agree i j h k K =
      let r = begin-at-two [] bs i j h k in
      let ps = each-order (IsGet m.profile) r.1 p in
      clash-apart _ _ r.0 ps.0 ps.1.0 ps.1.1 K (agree _ _ r.1 (Permᴰ.trans r.1 (Permᴰ.swap refl refl)))
