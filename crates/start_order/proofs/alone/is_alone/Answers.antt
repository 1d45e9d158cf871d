-- `start_order::alone::is_alone` meets its contract.
-- Assumes nothing.
use Prim.Native.Nat.{ℕ}
use mathlib.Core.Path.{◌≡◌, sym, ap, ◌∙◌, subst}
use mathlib.Core.List.{List}
use Rattle.unit.specs.Rows.{state_in}
use Rattle.unit.specs.Stored.{set_held}
use Rattle.model.specs.declared.Profile.{Profile}
use Rattle.start_order.specs.Answers.{Wanted, wanted, Fits, alone}
use Rattle.start_order.proofs.Trying.{wanted-fits, tried-alone, taken_back}
use Rattle.start_order.proofs.alone.is_alone.Goals as goal
use Rattle.start_order.proofs.alone.is_alone.Goals.{In-Some}

wants : (b : List ℕ) (p q : Profile) (v w : Wanted) → q ≡ p → v ≡ wanted q b → v ≡ w → wanted p b ≡ w
wants b p q v w e f g = sym (f ∙ ap (λ (k : Profile). wanted k b) e) ∙ g

pub returns-in_default-clause-answered : goal.returns-in_default-clause-answered
unfolding alone
returns-in_default-clause-answered c =
    sym (ap (alone (state_in c.args.unit.now)) (wants c.args.piece.now _ _ _ _ c.profile_of-profile.ensures c.access_in.ensures c.in_default.is))

pub held_by-had-requires : goal.held_by-had-requires
unfolding Fits
held_by-had-requires c = let r = subst Fits (wants c.args.piece.now _ _ _ _ c.profile_of-profile.ensures c.access_in.ensures c.in-Some.is) (wanted-fits _ c.args.piece.now) in
    record { o_lt_object_count = (r.1, r.0) }

pub set_held-requires : goal.set_held-requires
unfolding Fits
set_held-requires c = let r = subst Fits (wants c.args.piece.now _ _ _ _ c.profile_of-profile.ensures c.access_in.ensures c.in-Some.is) (wanted-fits _ c.args.piece.now) in
    record { o_lt_object_count = (r.1, r.0) }

pub returns : goal.returns
unfolding Fits
returns c = let u = c.args.unit.now in
    let piece = c.args.piece.now in
    let get = c.in-Some.get in
    let tried = c.ask.ensures in
    let asks = wants piece _ _ _ _ c.profile_of-profile.ensures c.access_in.ensures c.in-Some.is in
    let r = subst Fits asks (wanted-fits _ piece) in record {
      answered = tried-alone u piece get.subject get.object get.mode asks _ (c.from-reply.ensures ∙ tried.0);
      left = c.set_held.ensures ∙ ap (set_held c.ask.new.unit get.object get.subject) c.held_by-had.ensures
          ∙ taken_back u piece get.subject get.object get.mode asks c.told-unit r.1 _ tried.1;
    }
