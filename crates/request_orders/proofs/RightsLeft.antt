-- What a list of gives and releases leaves, said without an order.
-- Assumes nothing.
use Prim.Native.Nat.{ℕ}
use native.Mathlib.Omega.{arith}
use mathlib.Core.Path.{◌≡◌, refl, sym, ap, ◌∙◌, subst}
use mathlib.Core.Logic.{◌↔◌, ◌⊎◌, inl, inr, ⊎_elim}
use mathlib.Core.Bool.{true, false}
use mathlib.Core.List.Permᴰ
use mathlib.Core.List.{List, [], ◌∷◌}
use lib.ListN.{get_or}
use Rattle.model.specs.declared.Subject.{Subject}
use Rattle.model.specs.declared.Object.{Object}
use Rattle.model.specs.declared.Monitor.{Monitor}
use Rattle.model.specs.declared.Mode.{Mode}
use Rattle.model.specs.declared.Request.{Request}
use Rattle.model.specs.declared.Request.TheVariants.{Release, Give}
use Rattle.model.specs.Requests.{Decoded, decode}
use Rattle.std.specs.Prelude.{Some, None}
use Rattle.model.specs.declared.Decision.TheVariants.{Granted}
use Rattle.model.specs.declared.Response.{Response}
use Rattle.model.specs.Modes.{has}
use Rattle.model.specs.State.{no_modes, no_object, clearance_at, enrolled, object, WellFormed}
use Rattle.model.specs.Properties.{Holds, Permits}
use Rattle.model.specs.Decisions.{number}
use Rattle.model.specs.Rules.{checks, step}
use Rattle.model.specs.Runs.{carry_out, respond, reply, after}
use Rattle.model.specs.Beginnings.{Reached}
use Rattle.model.proofs.Tests.{split, clash, apart, bool-ext}
use Rattle.model.proofs.Equal.{object-same, state-same}
use Rattle.invariants.specs.Sound.{Sound}
use Rattle.invariants.proofs.Granted.{granted-give, grants-release}
use Rattle.invariants.proofs.Steps.{granted-or-refused, step-refused}
use Rattle.invariants.proofs.Outcomes.{reply-granted}
use Rattle.invariants.proofs.Form.{no-modes}
use Rattle.invariants.proofs.Pairs.{none-held}
use Rattle.images.proofs.Reached.{sound-reached, reached-after}
use Rattle.effects.specs.Effects.{Effect, GivesRight}
use Rattle.effects.proofs.Effects.{granted-effect}
use Rattle.effects.proofs.Frames.{right-by-give, right_kept, access-by-get, access-kept}
use Rattle.orders.specs.Orders.{OrderOf, Each, OneOf}
use Rattle.orders.proofs.Places.{each-order, some-order}
use Rattle.request_orders.specs.AnyOrder.{IsGranted, OrdersAgree}
use Rattle.request_orders.specs.RightsLists.{Gives, Releases, NothingElse, Left}
use Rattle.request_orders.proofs.Commuting.{Commuting, Only, Saying, says-one, said-there, keeps-step, keeps-one, keeps-all}
use Rattle.request_orders.proofs.Owners.{OwnersKept, Ranged, same-checks, rights-commuting}
use Rattle.request_orders.proofs.RightsLists.{ranged, of-kind}

-- on an object that is not live nobody has a right, and nobody holds an access
none-there : {P : Type 0} (row : Object → List ℕ) → row no_object ≡ no_modes → (n : Monitor) → WellFormed n → (t o : ℕ) (x : Mode)
    → (object n o).live ≡ false → has x (get_or (row (object n o)) t 0) ≡ true → P
none-there row z n W t o x e = none-held x _ (ap (λ (l : List ℕ). get_or l t 0) (ap row ((W.objects_formed o).shape.not_live e) ∙ z) ∙ no-modes t)

-- who holds an access is enrolled
holder-enrolled : (n : Monitor) → WellFormed n → (s o : ℕ) (x : Mode) → Holds n s o x → enrolled n s ≡ true
holder-enrolled n W s o x h = split (enrolled n s) (λ e. e) (λ e. none-held x _ ((W.objects_formed o).absent_held s e) h)

module _ (m : Monitor) (S : Sound m) where
  C : Commuting m (OwnersKept m) Ranged
  C = rights-commuting m S

  -- ---- one request

  module _ (q : Request) (w : Ranged q) (n : Monitor) (P : OwnersKept m n) (o : ℕ) where
    formed : WellFormed n
    formed = P.sound.formed

    kept : OwnersKept m (step q n).monitor
    kept = keeps-step m (OwnersKept m) Ranged C q n w P

    same-life : (object (step q n).monitor o).live ≡ (object n o).live
    same-life = (kept.objects o).live ∙ sym (P.objects o).live

    right-step : (t : ℕ) (x : Mode) → Permits (step q n).monitor t o x ↔ (Permits n t o x ⊎ (GivesRight q t o x × (checks q m ≡ Granted)))
    right-step t x =
        split (object n o).live
        (λ live. (
          λ h. granted-or-refused q n
              (λ g. ⊎_elim (λ p. inl p) (λ k. inr (k, sym (same-checks m q n w.1 P) ∙ g)) (right-by-give q n formed o live (same-life ∙ live) t x h))
              (λ k. inl (subst (λ (r : Response). Permits r.monitor t o x) (step-refused q n k) h)),
          ⊎_elim
              (λ h. ⊎_elim (λ p. p) (λ k. clash (sym (of-kind q _ w.1 k.1))) (right_kept q n formed o live (same-life ∙ live) t x h))
              (λ k. subst (λ (r : Request). Effect r (step q n).monitor) k.0.1 (granted-effect n formed q w.0 (same-checks m q n w.1 P ∙ k.1))),
        ))
        (λ dead. (
          λ h. none-there (λ ob. ob.rights) refl (step q n).monitor kept.sound.formed t o x (same-life ∙ dead) h,
          ⊎_elim (λ h. none-there (λ ob. ob.rights) refl n formed t o x dead h)
              (λ k. apart (granted-give m k.0.0 t o x (subst (λ (r : Request). checks r m ≡ Granted) k.0.1 k.1)).live (sym (P.objects o).live ∙ dead)),
        ))

    access-step : (s : ℕ) (x : Mode) → Holds (step q n).monitor s o x ↔ (Holds n s o x × (q ≡ Release s o x → ⊥))
    access-step s x =
        split (object n o).live
        (λ live. (
          λ h. ⊎_elim
              (λ p. (
                p,
                λ e. subst (λ (r : Request). Effect r (step q n).monitor) e (granted-effect n formed q w.0
                    (subst (λ (r : Request). checks r n ≡ Granted) (sym e) (grants-release n s o x (record { there = holder-enrolled n formed s o x p; live = live })))) h,
              ))
              (λ k. clash (sym (of-kind q _ w.1 k))) (access-by-get q n formed o live (same-life ∙ live) s x h),
          λ h. ⊎_elim (λ p. p)
              (λ k. absurd (⊎_elim h.1 (λ j. clash (sym (of-kind q _ w.1 j.1))) k)) (access-kept q n formed o live (same-life ∙ live) s x h.0),
        ))
        (λ dead. (
          λ h. none-there (λ ob. ob.held) refl (step q n).monitor kept.sound.formed s o x (same-life ∙ dead) h,
          λ h. none-there (λ ob. ob.held) refl n formed s o x dead h.0,
        ))

  -- ---- what bytes say

  says-give : (q : Request) (t o : ℕ) (x : Mode) → GivesRight q t o x ↔ ((s : ℕ) × (Some q ≡ Some (Give s t o x)))
  says-give q t o x = (λ k. (k.0, ap Some k.1), λ k. (k.0, says-one refl k.1))

  right-turn : (d : Decoded) → Only Ranged d → (n : Monitor) → OwnersKept m n → (t o : ℕ) (x : Mode)
      → Permits (carry_out d n).monitor t o x ↔ (Permits n t o x ⊎ (((s : ℕ) × (d ≡ Some (Give s t o x))) × IsGranted (number (carry_out d m).decision)))
  right-turn None w n P t o x = (λ h. inl h, ⊎_elim (λ h. h) (λ k. absurd (omega (arith, k.1))))
  right-turn (Some q) w n P t o x =
      let one = right-step q (w q refl) n P o t x in
      let by = says-give q t o x in
      let granted = reply-granted q m in (
        λ h. ⊎_elim (λ p. inl p) (λ k. inr (by.0 k.0, granted.1 k.1)) (one.0 h),
        ⊎_elim (λ p. one.1 (inl p)) (λ k. one.1 (inr (by.1 k.0, granted.0 k.1))),
      )

  access-turn : (d : Decoded) → Only Ranged d → (n : Monitor) → OwnersKept m n → (s o : ℕ) (x : Mode)
      → Holds (carry_out d n).monitor s o x ↔ (Holds n s o x × (d ≡ Some (Release s o x) → ⊥))
  access-turn None w n P s o x = (λ h. (h, λ e. let z : ◌≡◌ {A = ℕ} 0 1 = cc in omega arith), λ h. h.0)
  access-turn (Some q) w n P s o x =
      let one = access-step q (w q refl) n P o s x in
      (λ h. let k = one.0 h in (k.0, λ e. k.1 (says-one refl e)), λ h. one.1 (h.0, λ e. h.1 (ap Some e)))

  -- and to a monitor of the profile
  right-one : (b : List ℕ) → Saying m.profile Ranged b → (n : Monitor) → OwnersKept m n → (t o : ℕ) (x : Mode)
      → Permits (respond b n).monitor t o x ↔ (Permits n t o x ⊎ (Gives m.profile t o x b × IsGranted (reply b m)))
  right-one b w n P t o x =
      subst (λ (r : Response). Permits r.monitor t o x ↔ (Permits n t o x ⊎ (Gives m.profile t o x b × IsGranted (reply b m)))) (sym (said-there m (OwnersKept m) Ranged C b n P))
      (subst (λ (r : Response). Permits (carry_out (decode m.profile b) n).monitor t o x ↔ (Permits n t o x ⊎ (Gives m.profile t o x b × IsGranted (number r.decision))))
      (sym (said-there m (OwnersKept m) Ranged C b m C.start)) (right-turn (decode m.profile b) w n P t o x))

  access-one : (b : List ℕ) → Saying m.profile Ranged b → (n : Monitor) → OwnersKept m n → (s o : ℕ) (x : Mode)
      → Holds (respond b n).monitor s o x ↔ (Holds n s o x × (Releases m.profile s o x b → ⊥))
  access-one b w n P s o x =
      subst (λ (r : Response). Holds r.monitor s o x ↔ (Holds n s o x × (Releases m.profile s o x b → ⊥))) (sym (said-there m (OwnersKept m) Ranged C b n P))
      (access-turn (decode m.profile b) w n P s o x)

  -- ---- lists

  rights-all : (bs : List (List ℕ)) → Each (Saying m.profile Ranged) bs → (n : Monitor) → OwnersKept m n → (t o : ℕ) (x : Mode)
      → Permits (after bs n) t o x ↔ (Permits n t o x ⊎ OneOf (λ b. Gives m.profile t o x b × IsGranted (reply b m)) bs)
  unfolding after
  rights-all [] p n P t o x = (λ h. inl h, ⊎_elim (λ h. h) (λ k. absurd k))
  rights-all (b ∷ bs) p n P t o x =
      let one = right-one b p.0 n P t o x in
      let rest = rights-all bs p.1 (respond b n).monitor (keeps-one m (OwnersKept m) Ranged C b p.0 n P) t o x in (
        λ h. ⊎_elim (λ k. ⊎_elim (λ j. inl j) (λ j. inr (inl j)) (one.0 k)) (λ k. inr (inr k)) (rest.0 h),
        ⊎_elim (λ h. rest.1 (inl (one.1 (inl h)))) (⊎_elim (λ k. rest.1 (inl (one.1 (inr k)))) (λ k. rest.1 (inr k))),
      )

  accesses-all : (bs : List (List ℕ)) → Each (Saying m.profile Ranged) bs → (n : Monitor) → OwnersKept m n → (s o : ℕ) (x : Mode)
      → Holds (after bs n) s o x ↔ (Holds n s o x × Each (λ b. Releases m.profile s o x b → ⊥) bs)
  unfolding after
  accesses-all [] p n P s o x = (λ h. (h, tt), λ h. h.0)
  accesses-all (b ∷ bs) p n P s o x =
      let one = access-one b p.0 n P s o x in
      let rest = accesses-all bs p.1 (respond b n).monitor (keeps-one m (OwnersKept m) Ranged C b p.0 n P) s o x in (
        λ h. let k = rest.0 h in let j = one.0 k.0 in (j.0, (j.1, k.1)),
        λ h. rest.1 (one.1 (h.0, h.1.0), h.1.1),
      )

-- what every order of a list of gives and releases leaves is said of the list alone
pub rights-left : (m : Monitor) → Reached m → (bs : List (List ℕ)) → Each (NothingElse m.profile) bs → (cs : List (List ℕ)) → OrderOf bs cs → Left bs m (after cs m)
rights-left m r bs p cs c =
    let S = sound-reached m r in
    let C = rights-commuting m S in
    let v = each-order (Saying m.profile Ranged) c (ranged m.profile bs p) in
    let K = keeps-all m (OwnersKept m) Ranged C cs v m C.start in
    let back = Permᴰ.symm c in
    record {
      rights = λ t o x.
          let here = rights-all m S cs v m C.start t o x in
          (λ h. ⊎_elim (λ k. inl k) (λ k. inr (some-order _ back k)) (here.0 h), λ h. here.1 (⊎_elim (λ k. inl k) (λ k. inr (some-order _ c k)) h));
      accesses = λ s o x.
          let here = accesses-all m S cs v m C.start s o x in
          let none : List ℕ → Type 0 = λ b. Releases m.profile s o x b → ⊥ in
          (λ h. let k = here.0 h in (k.0, each-order none back k.1), λ h. here.1 (h.0, each-order none c h.1));
      profile = K.profile;
      subjects = K.subjects;
      lives = λ o. (K.objects o).live;
      owners = λ o. (K.objects o).owner;
      labels = λ o. (K.objects o).label;
      numbers = λ o. (K.objects o).companies;
      parents = λ o. (K.objects o).parent;
    }

-- and that is all of the state: two well-formed states of which it is so are one
pub left_one : (bs : List (List ℕ)) (m n k : Monitor) → WellFormed n → WellFormed k → Left bs m n → Left bs m k → n ≡ k
left_one bs m n k N K L M =
    state-same n k N K (L.profile ∙ sym M.profile) (λ s h. ap (λ (l : List Subject). clearance_at l s) (L.subjects ∙ sym M.subjects))
    (λ o h. object-same (object n o) (object k o) (N.objects_formed o) (K.objects_formed o)
    (L.lives o ∙ sym (M.lives o)) (L.owners o ∙ sym (M.owners o)) (L.parents o ∙ sym (M.parents o)) (L.labels o ∙ sym (M.labels o)) (L.numbers o ∙ sym (M.numbers o))
    (λ t h x. bool-ext _ _ (λ e. (M.rights t o x).1 ((L.rights t o x).0 e)) (λ e. (L.rights t o x).1 ((M.rights t o x).0 e)))
    (λ s h x. bool-ext _ _ (λ e. (M.accesses s o x).1 ((L.accesses s o x).0 e)) (λ e. (L.accesses s o x).1 ((M.accesses s o x).0 e))))

-- so the order does not matter for the state: this once more, from what single requests do
pub left-agree : (m : Monitor) → Reached m → (bs : List (List ℕ)) → Each (NothingElse m.profile) bs → OrdersAgree bs m
left-agree m r bs p cs ds c d =
    let formed : (es : List (List ℕ)) → WellFormed (after es m) = λ es. (sound-reached (after es m) (reached-after m r es)).formed in
    left_one bs m (after cs m) (after ds m) (formed cs) (formed ds) (rights-left m r bs p cs c) (rights-left m r bs p ds d)
