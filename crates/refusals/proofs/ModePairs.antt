-- The reply to a get by the table of mode pairs.
-- Assumes nothing.
use Prim.Native.Nat.{ℕ, ◌<◌}
use mathlib.Core.Path.{◌≡◌, refl, ap, subst}
use mathlib.Core.Logic.{◌↔◌, ◌≢◌, ◌⊎◌, ⊎_elim, inl, inr}
use mathlib.Core.List.{List}
use Rattle.std.specs.Prelude.{Some, None}
use Rattle.model.specs.declared.Monitor.{Monitor}
use Rattle.model.specs.declared.Mode.{Mode}
use Rattle.model.specs.declared.Mode.TheVariants.{Execute}
use Rattle.model.specs.declared.Request.TheVariants.{Get}
use Rattle.model.specs.declared.Decision.TheVariants.{StarBroken, WallBroken}
use Rattle.model.specs.declared.Response.{Response}
use Rattle.model.specs.Modes.{needs_label}
use Rattle.model.specs.State.{object}
use Rattle.model.specs.Properties.{Star, Wall}
use Rattle.model.specs.ModePairs.{entry, kept, KeptByHeld}
use Rattle.model.specs.Decisions.{number}
use Rattle.model.specs.Requests.{decode}
use Rattle.model.specs.Rules.{changed, afterwards}
use Rattle.model.specs.Runs.{reply}
use Rattle.model.specs.Beginnings.{Reached}
use Rattle.model.proofs.Tests.{apart, split, distinct}
use Rattle.model.proofs.ModePairs.{kept-decides}
use Rattle.model.proofs.Requests.{decode-range, decode-within}
use Rattle.invariants.proofs.Steps.{sound-afterwards}
use Rattle.invariants.proofs.Outcomes.{reply-granted}
use Rattle.invariants.proofs.ModePairs.{star-added}
use Rattle.images.proofs.Reached.{sound-reached, respond-says}
use Rattle.refusals.specs.First.{FirstIn, row, none}
use Rattle.refusals.proofs.First.{over}
use Rattle.refusals.proofs.FirstRefusal.{reply-first-cause, reply-no-cause}

module _ (m : Monitor) (R : Reached m) (g : List ℕ) (s o : ℕ) (x : Mode) (says : decode m.profile g ≡ Some (Get s o x)) where
  -- where no label is missing, the star property after the get is the table's
  by-held : ((x ≢ Execute) × ((object m o).label ≡ None) → ⊥) → Star (afterwards (Get s o x) m) ↔ KeptByHeld m s o x
  unfolding changed
  by-held h =
      let b = decode-range m.profile g (Get s o x) says in
      star-added m (sound-reached m R) s o x b.0 b.1 (λ n e. h (λ q. apart n (ap needs_label q), e))

  -- a get that is granted leaves a state with the star property
  star-after : reply g m < 2 → Star (afterwards (Get s o x) m)
  star-after h =
      (sound-afterwards (Get s o x) m (decode-range m.profile g (Get s o x) says) (decode-within m.profile g (Get s o x) says) (sound-reached m R)
      ((reply-granted (Get s o x) m).0 (subst (λ (r : Response). number r.decision < 2) (respond-says g (Get s o x) m says) h))).secure.star

  kept-granted : reply g m < 2 → KeptByHeld m s o x
  kept-granted h = (by-held ((reply-no-cause m R g (Get s o x) says).0 h).1.1.1.0).0 (star-after h)

  nine-not-kept : reply g m ≡ 9 → KeptByHeld m s o x → ⊥
  nine-not-kept e K =
      let first = (reply-first-cause m R g (Get s o x) says StarBroken refl).0 e in
      let labelled = over (distinct _ _ refl) (over (distinct _ _ refl) (over (distinct _ _ refl) (over (distinct _ _ refl) first).1).1).1 in
      ⊎_elim (λ a. a.1 ((by-held labelled.0).1 K))
      (λ (c : ((Star (afterwards (Get s o x) m) → ⊥) → ⊥) × FirstIn (row WallBroken (Wall (afterwards (Get s o x) m) → ⊥) none) StarBroken). absurd (over (distinct _ _ refl) c.1).1)
      (over (distinct _ _ refl) labelled.1).1

  -- a get that gets 18 has passed the star check; what the table asks is decided, so that nothing is lost by saying that it does not fail
  kept-eighteen : reply g m ≡ 18 → KeptByHeld m s o x
  kept-eighteen e p h held =
      let first = (reply-first-cause m R g (Get s o x) says WallBroken refl).0 e in
      let labelled = over (distinct _ _ refl) (over (distinct _ _ refl) (over (distinct _ _ refl) (over (distinct _ _ refl) first).1).1).1 in
      let simple = over (distinct _ _ refl) labelled.1 in
      let star = over (distinct _ _ refl) simple.1 in
      split (kept (entry h x) (object m p).label (object m o).label) (λ w. (kept-decides _ _ _).0 w)
      (λ w. absurd (star.0 (λ T. apart ((kept-decides _ _ _).1 ((by-held labelled.0).0 T p h held)) w)))

  -- "The check decides by it": a get that gets 0, 1, 9 or 18 gets 9 exactly where, with some access held, the entry is not kept, and passes the star check
  -- where it is
  pub get-by-table : (reply g m < 2) ⊎ ((reply g m ≡ 9) ⊎ (reply g m ≡ 18))
      → (((reply g m < 2) ⊎ (reply g m ≡ 18)) ↔ KeptByHeld m s o x) × ((reply g m ≡ 9) ↔ (KeptByHeld m s o x → ⊥))
  get-by-table passed = (
    (
      λ w. ⊎_elim kept-granted kept-eighteen w,
      λ K. ⊎_elim (λ (h : reply g m < 2). inl h)
          (λ u. ⊎_elim (λ (e : reply g m ≡ 9). absurd (nine-not-kept e K)) (λ (e : reply g m ≡ 18). inr e) u) passed,
    ),
    (
      nine-not-kept,
      λ n. ⊎_elim (λ (h : reply g m < 2). absurd (n (kept-granted h)))
          (λ u. ⊎_elim (λ (e : reply g m ≡ 9). e) (λ (e : reply g m ≡ 18). absurd (n (kept-eighteen e))) u) passed,
    ),
  )
