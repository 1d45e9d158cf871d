-- The rows after a deletion say the state after it, and have no byte without a meaning that was not there before.
-- Assumes nothing.
use Prim.Native.Nat.{ℕ, ◌<◌}
use native.Mathlib.Omega.{arith}
use mathlib.Core.Path.{◌≡◌, sym, ap, ◌∙◌}
use mathlib.Core.Logic.{⊎_elim, ◌≢◌}
use mathlib.Core.Bool.{Bool, cond, ◌||◌}
use lib.ListN.{length, set, length-set}
use lib.Seq.{get_or-set_same, get_or-set_other, ext_get_or}
use lib.Dec.{eqb}
use borrow.Author.Tests.{eq-eqb, ne_eqb}
use Rattle.model.specs.declared.Request.TheVariants.{Delete}
use Rattle.model.specs.State.{nobody, no_object, object_at}
use Rattle.model.specs.Hierarchy.{below, without_below}
use Rattle.model.specs.Rules.{changed, afterwards}
use Rattle.model.proofs.Tests.{split, or_left}
use Rattle.model.proofs.Equal.{monitor-ext}
use Rattle.model.proofs.Hierarchy.{without-length, below-gone}
use Rattle.unit.specs.Rows.{Rows, row_count, clearance_row, profile_row, row_at, label_in, profile_in, subject_in, objects_in, state_in}
use Rattle.unit.proofs.Tabulated.{tabulate-same, same_or_not}
use Rattle.unit.proofs.Plain.{Plain}
use Rattle.hierarchy.specs.Removed.{gone, removed}
use Rattle.hierarchy.proofs.Upward.{objects-length}
use Rattle.hierarchy.proofs.Rowed.{same_object, cleared-object, no-rest, removed-behind, removed-gone, removed-kept}

module _ (u : Rows) (n : length u ≡ row_count) (o : ℕ) (h : o < 64) where
  object-left : (y : ℕ) → y < 64 → object_at (objects_in (removed u o)) y ≡ cond (gone (objects_in u) o y) no_object (object_at (objects_in u) y)
  object-left y b =
      split (gone (objects_in u) o y)
      (λ g. cleared-object (removed u o) y b (removed-gone u o n y b g) ∙ sym (ap (λ (t : Bool). cond t no_object (object_at (objects_in u) y)) g))
      (λ g. same_object u (removed u o) y b (removed-kept u o n y b g) ∙ sym (ap (λ (t : Bool). cond t no_object (object_at (objects_in u) y)) g))

  objects-left : objects_in (removed u o) ≡ set (without_below o (objects_in u)) o no_object
  objects-left =
      let l = objects_in u in
      let k = without-length (below l o) 0 l ∙ objects-length u in
      ext_get_or no_object (objects_in (removed u o)) (set (without_below o l) o no_object)
      (objects-length (removed u o) ∙ sym (length-set (without_below o l) o no_object ∙ k))
      (λ y b.
      object-left y (omega (arith, b, objects-length (removed u o)))
      ∙ ⊎_elim
      (λ (e : y ≡ o). ap (λ (t : Bool). cond t no_object (object_at l y)) (or_left (eqb y o) (below l o y) (eq-eqb y o e))
      ∙ sym (ap (object_at (set (without_below o l) o no_object)) e ∙ get_or-set_same (without_below o l) o no_object no_object (omega (arith, h, k))))
      (λ (e : y ≢ o). ap (λ (t : Bool). cond (t || below l o y) no_object (object_at l y)) (ne_eqb y o e)
      ∙ sym (get_or-set_other (without_below o l) o y no_object no_object e ∙ below-gone l o y))
      (same_or_not y o))

  pub removed-state : (s : ℕ) → state_in (removed u o) ≡ afterwards (Delete s o) (state_in u)
  unfolding changed
  removed-state s =
      monitor-ext _ _ (ap profile_in (removed-behind u o n profile_row (omega arith) (omega arith)))
      (tabulate-same 16 (subject_in u) (subject_in (removed u o)) nobody
      (λ k l. let g = removed-behind u o n (clearance_row k) (omega arith) (omega arith) in λ i. record { clearance = label_in (g i) }))
      objects-left

  pub removed-plain : Plain u → Plain (removed u o)
  removed-plain F =
      record {
        rests = λ p b.
            split (gone (objects_in u) o p)
            (λ g. (no_object, ap (λ (t : Rows). row_at t 2) (removed-gone u o n p b g) ∙ sym no-rest))
            (λ g. let r = F.rests p b in (r.0, ap (λ (t : Rows). row_at t 2) (removed-kept u o n p b g) ∙ r.1));
        clearances = λ s b. let r = F.clearances s b in (r.0, removed-behind u o n (clearance_row s) (omega arith) (omega arith) ∙ r.1);
        profile = (F.profile.0, removed-behind u o n profile_row (omega arith) (omega arith) ∙ F.profile.1);
      }
