-- What the fields of a piece ask for, and that it is in range; a get that is carried out on the rows and taken back.
-- Assumes nothing.
use Prim.Native.Nat.{ℕ, ◌<◌}
use mathlib.Core.Path.{◌≡◌, refl, sym, ap, ◌∙◌}
use mathlib.Core.Bool.{true, false, cond, not, ◌&&◌}
use mathlib.Core.List.{List, []}
use lib.ListN.{length, set}
use lib.Dec.{leb, ltb, eqb}
use lib.Seq.{set-get_or}
use borrow.Author.Tests.{leb-true, leb-false, lt-ltb, le-ltb}
use Rattle.model.specs.declared.Profile.{Profile}
use Rattle.model.specs.declared.Fields.{Fields}
use Rattle.model.specs.declared.Mode.{Mode}
use Rattle.model.specs.declared.Request.{Request}
use Rattle.model.specs.declared.Request.TheVariants.{Get, Release, Give, Rescind, Create, Delete, ChangeLevel, SetCompanies}
use Rattle.model.specs.Requests.{Decoded, mode_of, level_of, well_formed, creation, request, decode_fields, decode, InRange}
use Rattle.std.specs.Prelude.{Some, None, is_some}
use Rattle.model.specs.State.{object, held_by}
use Rattle.model.specs.Decisions.{number, refuses}
use Rattle.model.specs.Rules.{step}
use Rattle.model.specs.Runs.{carry_out, respond, reply}
use Rattle.model.proofs.Tests.{split, clash, and_left, and_right, and-false, cond-all, cond-true, cond-false}
use Rattle.model.proofs.Requests.{decode-range}
use Rattle.unit.specs.Rows.{Rows, row_count, held_row, row_at, state_in}
use Rattle.unit.specs.Stored.{set_held}
use Rattle.unit.proofs.Readings.{read_held}
use Rattle.kinds.specs.Carried.{stores, carried}
use Rattle.kinds.proofs.Effects.{held_back}
use Rattle.asking.specs.Asked.{asked_said, asked}
use Rattle.start_order.specs.Answers.{Wanted, access, wanted_of, wanted_by, wanted, Fits, alone}

-- ---- what is asked for

of-fits : (q : Request) → InRange q → Fits (wanted_of q)
unfolding Fits
of-fits (Get s o x) r = r
of-fits (Release s o x) r = tt
of-fits (Give s t o x) r = tt
of-fits (Rescind s t o x) r = tt
of-fits (Create s o c) r = tt
of-fits (Delete s o) r = tt
of-fits (ChangeLevel s o l) r = tt
of-fits (SetCompanies s o n) r = tt

by_fits : (k : Profile) (b : List ℕ) (d : Decoded) → decode k b ≡ d → Fits (wanted_by d)
unfolding Fits
by_fits k b None e = tt
by_fits k b (Some q) e = of-fits q (decode-range k b q e)

-- bytes that say a get name a subject and an object that there are
pub wanted-fits : (k : Profile) (b : List ℕ) → Fits (wanted k b)
unfolding wanted
wanted-fits k b = by_fits k b (decode k b) refl

-- fields that are well formed and of kind 1 ask for an access, and no others
pub fields-get : (k : Profile) (f : Fields) → (well_formed k f && eqb f.kind 1) ≡ true → access f.actor f.object (mode_of f.mode) ≡ wanted_by (decode_fields k f)
unfolding decode_fields request
fields-get k f e =
    sym (ap wanted_by (cond-true (well_formed k f) (Some (request f)) None (and_left (well_formed k f) _ e))
    ∙ ap wanted_of (cond-true (eqb f.kind 1) (Get f.actor f.object (mode_of f.mode)) _ (and_right (well_formed k f) _ e)))

pub fields-other : (k : Profile) (f : Fields) → (well_formed k f && eqb f.kind 1) ≡ false → ◌≡◌ {A = Wanted} None (wanted_by (decode_fields k f))
unfolding decode_fields request
fields-other k f e =
    and-false (well_formed k f) _ e
    (λ w. sym (ap wanted_by (cond-false (well_formed k f) (Some (request f)) None w)))
    (λ w. sym (cond-all (λ (d : Decoded). wanted_by d ≡ None) (well_formed k f) (Some (request f)) None
    (λ t. ap wanted_of (cond-false (eqb f.kind 1) _ _ w) ∙ others) (λ t. refl)))
  where
    others : wanted_of (cond (eqb f.kind 2) (Release f.actor f.object (mode_of f.mode))
        (cond (eqb f.kind 3) (Give f.actor f.other f.object (mode_of f.mode))
        (cond (eqb f.kind 4) (Rescind f.actor f.other f.object (mode_of f.mode))
        (cond (eqb f.kind 5) (Create f.actor f.object (creation (eqb f.mode 4) f.needs))
        (cond (eqb f.kind 6) (Delete f.actor f.object)
        (cond (eqb f.kind 7) (ChangeLevel f.actor f.object (level_of f))
        (SetCompanies f.actor f.object f.needs))))))) ≡ None
    others =
        let none : Request → Type 0 = λ q. wanted_of q ≡ None in
        cond-all none (eqb f.kind 2) _ _ (λ t. refl)
        (λ t. cond-all none (eqb f.kind 3) _ _ (λ t. refl)
        (λ t. cond-all none (eqb f.kind 4) _ _ (λ t. refl)
        (λ t. cond-all none (eqb f.kind 5) _ _ (λ t. refl)
        (λ t. cond-all none (eqb f.kind 6) _ _ (λ t. refl)
        (λ t. cond-all none (eqb f.kind 7) _ _ (λ t. refl) (λ t. refl))))))

-- bytes that ask for an access say its get
get_for : Wanted → Request
get_for (Some a) = Get a.subject a.object a.mode
get_for None = Delete 0 0

of-says : (q : Request) (s o : ℕ) (x : Mode) → wanted_of q ≡ access s o x → q ≡ Get s o x
unfolding get_for
of-says (Get t p y) s o x e = ap get_for e
of-says (Release t p y) s o x e = clash (sym (ap (λ (w : Wanted). is_some w) e))
of-says (Give t u p y) s o x e = clash (sym (ap (λ (w : Wanted). is_some w) e))
of-says (Rescind t u p y) s o x e = clash (sym (ap (λ (w : Wanted). is_some w) e))
of-says (Create t p c) s o x e = clash (sym (ap (λ (w : Wanted). is_some w) e))
of-says (Delete t p) s o x e = clash (sym (ap (λ (w : Wanted). is_some w) e))
of-says (ChangeLevel t p l) s o x e = clash (sym (ap (λ (w : Wanted). is_some w) e))
of-says (SetCompanies t p n) s o x e = clash (sym (ap (λ (w : Wanted). is_some w) e))

by-says : (d : Decoded) (s o : ℕ) (x : Mode) → wanted_by d ≡ access s o x → d ≡ Some (Get s o x)
by-says None s o x e = clash (sym (ap (λ (w : Wanted). is_some w) e))
by-says (Some q) s o x e = ap Some (of-says q s o x e)

pub wanted-says : (k : Profile) (b : List ℕ) (s o : ℕ) (x : Mode) → wanted k b ≡ access s o x → decode k b ≡ Some (Get s o x)
unfolding wanted
wanted-says k b s o x e = by-says (decode k b) s o x e

-- ---- a get on the rows, and its set put back

granted-below : (k : ℕ) → ltb k 2 ≡ not (leb 2 k)
granted-below k = split (leb 2 k) (λ e. le-ltb k 2 (leb-true 2 k e) ∙ sym (ap not e)) (λ e. lt-ltb k 2 (leb-false 2 k e) ∙ sym (ap not e))

module _ (u : Rows) (b : List ℕ) (s o : ℕ) (x : Mode) (e : wanted (state_in u).profile b ≡ access s o x) where
  -- granted where the reply is below 2
  pub tried-alone : (r : ℕ) → r ≡ reply b (state_in u) → ltb r 2 ≡ alone (state_in u) (wanted (state_in u).profile b)
  unfolding alone respond
  tried-alone r k =
      let d = (step (Get s o x) (state_in u)).decision in
      ap (λ (n : ℕ). ltb n 2) (k ∙ ap (λ (c : Decoded). number (carry_out c (state_in u)).decision) (wanted-says (state_in u).profile b s o x e))
      ∙ granted-below (number d) ∙ sym (ap (alone (state_in u)) e)

  -- the rows are as they were, whether it was granted or not
  pub taken_back : length u ≡ row_count → o < 64 → (w : Rows) → w ≡ asked b u → set_held w o s (held_by (object (state_in u) o) s) ≡ u
  unfolding asked carried stores
  taken_back n h w k =
      ap (λ (v : Rows). set_held v o s (held_by (object (state_in u) o) s)) (k ∙ ap (λ (d : Decoded). asked_said d u) (wanted-says (state_in u).profile b s o x e))
      ∙ cond-all (λ (v : Rows). set_held v o s (held_by (object (state_in u) o) s) ≡ u) (refuses (step (Get s o x) (state_in u)).decision) u _
      (λ r. ap (set_held u o s) (sym (read_held u o h s)) ∙ ap (set u (held_row o)) (set-get_or (row_at u (held_row o)) s 0) ∙ set-get_or u (held_row o) [])
      (λ r. held_back u n o h s _)
