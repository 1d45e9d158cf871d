-- The eight tests of a state decide what they are for, at every state whose numbers fit.
-- Assumes nothing.
use Prim.Native.Nat.{ℕ, zero, suc, ◌<◌, ◌≤◌}
use native.Mathlib.Omega.{arith}
use mathlib.Core.Path.{◌≡◌, refl, sym, ◌∙◌, subst}
use mathlib.Core.Logic.{⊎_elim}
use mathlib.Core.Bool.{true, false, ◌&&◌, ◌||◌}
use mathlib.Core.List.{List}
use lib.ListN.{length}
use lib.Dec.{eqb}
use borrow.Author.Tests.{eq-eqb, eqb-true}
use Rattle.model.specs.declared.Subject.{Subject}
use Rattle.model.specs.declared.Object.{Object}
use Rattle.model.specs.declared.Monitor.{Monitor}
use Rattle.model.specs.declared.Mode.{Mode}
use Rattle.model.specs.Tests.{all_of, implies}
use Rattle.model.specs.Levels.{present, subset}
use Rattle.model.specs.Modes.{has, any_needs_label}
use Rattle.model.specs.State.{object_count, no_object, clearance_at, object, rights_of, held_by, ObjectShape, WellFormedObject, WellFormed}
use Rattle.model.specs.Properties.{Discretionary, Labelled, Simple, Star, Wall}
use Rattle.model.specs.Rules.{simple_all, star_all, wall_all}
use Rattle.model.specs.Hierarchy.{parent_at, Ends, none, onward, ends, parent_live, parents_hold, labels_rise, Hierarchy}
use Rattle.model.specs.Reading.{only_enrolled, within_matrix, held_labelled}
use Rattle.model.proofs.Tests.{split, apart, and_left, and_right, and_both, or_cases, or_left, or_right, implies-in, implies-out, below_in, below_out, all_in, all-out, row-all, le-or-lt}
use Rattle.model.proofs.Modes.{subset-in, subset-out, any-needs-label, needs-label-some}
use Rattle.model.proofs.Hierarchy.{no-parent-beyond, live-in, ends-decides}
use Rattle.invariants.proofs.Hierarchy.{parent-shape, rise-out}
use Rattle.invariants.proofs.Form.{no-modes, no-object-formed}
use Rattle.invariants.proofs.Pairs.{none-held}
use Rattle.invariants.proofs.Secure.{simple-in, simple-out}
use Rattle.invariants.proofs.Wall.{wall-all-in, wall-all-out, wall-for, wall-of}
use Rattle.invariants.proofs.Star.{star-all-in, star-all-out, star-for, star-of}
use Rattle.images.proofs.Shapes.{Shape}

-- ---- only enrolled subjects own, have rights or hold

module _ (l : List Subject) where
  object-enrolled : (ob : Object) → ObjectShape ob → only_enrolled l ob ≡ true → WellFormedObject l ob
  unfolding only_enrolled
  object-enrolled ob S e =
      record {
        shape = S;
        owner_enrolled = implies-out _ _ (and_left (implies ob.live (present (clearance_at l ob.owner))) _ e);
        absent_rights = row-all (λ s k. present (clearance_at l s) ≡ false → k ≡ 0) ob.rights S.rights_length (λ s h p. (both s h p).0) (λ s p. refl);
        absent_held = row-all (λ s k. present (clearance_at l s) ≡ false → k ≡ 0) ob.held S.held_length (λ s h p. (both s h p).1) (λ s p. refl);
      }
    where
      both : (s : ℕ) → s < 16 → present (clearance_at l s) ≡ false → (rights_of ob s ≡ 0) × (held_by ob s ≡ 0)
      both s h p =
          let t = below_out 16 (λ (s : ℕ). present (clearance_at l s) || (eqb (rights_of ob s) 0 && eqb (held_by ob s) 0))
          (and_right (implies ob.live (present (clearance_at l ob.owner))) _ e) s h in
          or_cases (present (clearance_at l s)) (eqb (rights_of ob s) 0 && eqb (held_by ob s) 0) t (λ u. apart u p)
          (λ u. (eqb-true _ _ (and_left (eqb (rights_of ob s) 0) _ u), eqb-true _ _ (and_right (eqb (rights_of ob s) 0) _ u)))

  enrolled-object : (ob : Object) → WellFormedObject l ob → only_enrolled l ob ≡ true
  unfolding only_enrolled
  enrolled-object ob F =
      and_both (implies-in _ _ F.owner_enrolled)
      (below_in 16 (λ (s : ℕ). present (clearance_at l s) || (eqb (rights_of ob s) 0 && eqb (held_by ob s) 0))
      (λ s h. split (present (clearance_at l s)) (λ e. or_left (present (clearance_at l s)) _ e)
      (λ e. or_right (present (clearance_at l s)) _ (and_both (eq-eqb (rights_of ob s) 0 (F.absent_rights s e)) (eq-eqb (held_by ob s) 0 (F.absent_held s e))))))

module _ (m : Monitor) (S : Shape m) where
  pub formed-out : all_of (only_enrolled m.subjects) m.objects ≡ true → WellFormed m
  formed-out e =
      record {
        subjects_length = S.table.subjects_length;
        clearances_fit = S.table.clearances_fit;
        objects-length = S.objects-length;
        objects_formed = λ o. object-enrolled m.subjects (object m o) (S.objects o)
            (all-out (only_enrolled m.subjects) no_object m.objects (enrolled-object m.subjects no_object (no-object-formed m.subjects)) e o);
      }

  pub formed-in : WellFormed m → all_of (only_enrolled m.subjects) m.objects ≡ true
  formed-in W = all_in (only_enrolled m.subjects) no_object m.objects (λ o. enrolled-object m.subjects (object m o) (W.objects_formed o))

  -- ---- the four properties, and the wall

  pub matrix-out : all_of within_matrix m.objects ≡ true → Discretionary m
  unfolding within_matrix
  matrix-out e s o =
      row-all (λ s k. (x : Mode) → has x k ≡ true → has x (rights_of (object m o) s) ≡ true) (object m o).held (S.objects o).held_length
      (λ s h. subset-out _ _ ((S.objects o).held_fit s) ((S.objects o).rights-fit s)
      (below_out 16 (λ (s : ℕ). subset 4 (held_by (object m o) s) (rights_of (object m o) s)) (all-out within_matrix no_object m.objects refl e o) s h))
      (λ s x w. none-held x 0 refl w) s

  pub matrix-in : Discretionary m → all_of within_matrix m.objects ≡ true
  unfolding within_matrix
  matrix-in D =
      all_in within_matrix no_object m.objects
      (λ o. below_in 16 (λ (s : ℕ). subset 4 (held_by (object m o) s) (rights_of (object m o) s))
      (λ s h. subset-in _ _ ((S.objects o).held_fit s) ((S.objects o).rights-fit s) (D s o)))

  pub labelled_out : all_of held_labelled m.objects ≡ true → Labelled m
  unfolding held_labelled implies has
  labelled_out e s o x w n =
      row-all (λ s k. has x k ≡ true → present (object m o).label ≡ true) (object m o).held (S.objects o).held_length
      (λ s h v. implies-out _ _
      (below_out 16 (λ (s : ℕ). implies (any_needs_label (held_by (object m o) s)) (present (object m o).label)) (all-out held_labelled no_object m.objects refl e o) s h)
      (any-needs-label x _ v n))
      (λ s v. none-held x 0 refl v) s w

  pub labelled-in : Labelled m → all_of held_labelled m.objects ≡ true
  unfolding held_labelled
  labelled-in L =
      all_in held_labelled no_object m.objects
      (λ o. below_in 16 (λ (s : ℕ). implies (any_needs_label (held_by (object m o) s)) (present (object m o).label))
      (λ s h. implies-in _ _ (λ w. needs-label-some _ w (λ x g n. L s o x g n))))

  pub simple-all-out : all_of (simple_all m.subjects) m.objects ≡ true → Simple m
  simple-all-out e s o =
      simple-out m.subjects (object m o) (S.objects o).held_length
      (all-out (simple_all m.subjects) no_object m.objects (simple-in m.subjects no_object (λ s x w. none-held x _ (no-modes s) w)) e o) s

  pub simple-all-in : Simple m → all_of (simple_all m.subjects) m.objects ≡ true
  simple-all-in T = all_in (simple_all m.subjects) no_object m.objects (λ o. simple-in m.subjects (object m o) (λ s. T s o))

  pub stars-out : star_all m.objects ≡ true → Star m
  stars-out e = star-of m (star-all-out m.objects (λ o. (S.objects o).held_length) e)

  pub stars-in : Star m → star_all m.objects ≡ true
  stars-in T = star-all-in m.objects (star-for m T)

  pub walls-out : wall_all m.objects ≡ true → Wall m
  walls-out e = wall-of m (wall-all-out m.objects (λ o. (S.objects o).held_length) e)

  pub walls-in : Wall m → wall_all m.objects ≡ true
  walls-in T = wall-all-in m.objects (wall-for m T)

  -- ---- parents and their chains, and the rule of labels

  short : length m.objects ≤ 64
  short = omega (arith, S.objects-length)

  -- where parents are live, they are among the objects
  pub parents-in-range : ((o p : ℕ) → (object m o).parent ≡ suc p → (object m p).live ≡ true) → (y x : ℕ) → parent_at m.objects y ≡ suc x → x < 64
  parents-in-range live y x e = live-in m.objects short x (live y x (sym (parent-shape m.objects y (S.objects y)) ∙ e))

  pub parents-out : parents_hold m.objects ≡ true → (o p : ℕ) → (object m o).parent ≡ suc p → (object m p).live ≡ true
  unfolding parents_hold parent_live
  parents-out e o p q =
      subst (λ (k : ℕ). parent_live m.objects k ≡ true) q
      (all-out (λ (ob : Object). parent_live m.objects ob.parent) no_object m.objects refl (and_left (all_of (λ (ob : Object). parent_live m.objects ob.parent) m.objects) _ e) o)

  pub chains-out : parents_hold m.objects ≡ true → (o : ℕ) → Ends m.objects (suc o)
  unfolding parents_hold
  chains-out e o =
      ⊎_elim (λ (b : 64 ≤ o). onward o (subst (Ends m.objects) (sym (no-parent-beyond m.objects short o b)) none))
      (λ (b : o < 64). (ends-decides m.objects short (parents-in-range (parents-out e)) o b).0
      (below_out 64 (λ (k : ℕ). ends object_count m.objects (suc k))
      (and_right (all_of (λ (ob : Object). parent_live m.objects ob.parent) m.objects) _ e) o b)) (le-or-lt 64 o)

  pub hierarchy-out : parents_hold m.objects ≡ true → labels_rise m.objects ≡ true → Hierarchy m
  hierarchy-out e f = record { parents_live = parents-out e; chains_end = chains-out e; rising_labels = rise-out m f }

  pub parents-in : ((o p : ℕ) → (object m o).parent ≡ suc p → (object m p).live ≡ true) → ((o : ℕ) → Ends m.objects (suc o)) → parents_hold m.objects ≡ true
  unfolding parents_hold parent_live
  parents-in live chains =
      and_both
      (all_in (λ (ob : Object). parent_live m.objects ob.parent) no_object m.objects (λ o. go (object m o).parent (live o)))
      (below_in 64 (λ (k : ℕ). ends object_count m.objects (suc k)) (λ o b. (ends-decides m.objects short (parents-in-range live) o b).1 (chains o)))
    where
      go : (q : ℕ) → ((p : ℕ) → q ≡ suc p → (object m p).live ≡ true) → parent_live m.objects q ≡ true
      go zero h = refl
      go (suc p) h = h p refl
