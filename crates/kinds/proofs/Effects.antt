-- What a granted request stores is what it makes of the monitor that the rows say.
-- Assumes nothing.
use Prim.Native.Nat.{ℕ, ◌<◌}
use mathlib.Core.Path.{◌≡◌, refl, sym, ap, ◌∙◌}
use mathlib.Core.Bool.{Bool, true, false, cond}
use lib.ListN.{length, length-set}
use Rattle.std.specs.Prelude.{Some}
use Rattle.model.specs.declared.Request.{Request}
use Rattle.model.specs.declared.Request.TheVariants.{Get, Release, Give, Rescind, Create, Delete, ChangeLevel, SetCompanies}
use Rattle.model.specs.declared.Decision.TheVariants.{Granted, Already}
use Rattle.model.specs.declared.Monitor.{Monitor}
use Rattle.model.specs.declared.Response.{Response}
use Rattle.model.specs.State.{object, held_by}
use Rattle.model.specs.Decisions.{refuses}
use Rattle.model.specs.Requests.{InRange}
use Rattle.model.specs.Rules.{target, created, already, changed, afterwards, checks, answer, step}
use Rattle.model.proofs.Tests.{split, cond-true, cond-false, cond-all}
use Rattle.unit.specs.Rows.{Rows, row_count, state_in}
use Rattle.unit.specs.Stored.{set_held, set_object}
use Rattle.unit.proofs.Readings.{read_held}
use Rattle.unit.proofs.Stores.{rights-stored, held-stored, sets-stored, label-stored, companies-stored, object-stored, held-put-back}
use Rattle.hierarchy.proofs.Rowed.{removed-length}
use Rattle.hierarchy.proofs.Deleted.{removed-state}
use Rattle.kinds.specs.Carried.{stores, carried}

pub stored-state : (q : Request) (u : Rows) → length u ≡ row_count → InRange q → state_in (stores q u) ≡ afterwards q (state_in u)
unfolding stores changed
stored-state (Get s o x) u n r = held-stored u n o r.1 s _
stored-state (Release s o x) u n r = held-stored u n o r.1 s _
stored-state (Give s t o x) u n r = rights-stored u n o r.2 t _
stored-state (Rescind s t o x) u n r = sets-stored u n o r.2 t _ _
stored-state (Create s o c) u n r = object-stored u o (created s c) n r.1
stored-state (Delete s o) u n r = removed-state u n o r.1 s
stored-state (ChangeLevel s o l) u n r = label-stored u n o r.1 (Some l)
stored-state (SetCompanies s o k) u n r = companies-stored u n o r.1 k

-- no request changes how many rows there are
stores-length : (q : Request) (u : Rows) → length (stores q u) ≡ length u
unfolding stores set_object
stores-length (Get s o x) u = simp length-set
stores-length (Release s o x) u = simp length-set
stores-length (Give s t o x) u = simp length-set
stores-length (Rescind s t o x) u = simp length-set
stores-length (Create s o c) u = simp length-set
stores-length (Delete s o) u = removed-length u o
stores-length (ChangeLevel s o l) u = simp length-set
stores-length (SetCompanies s o k) u = simp length-set

pub carried-length : (q : Request) (u : Rows) → length (carried q u) ≡ length u
unfolding carried
carried-length q u = cond-all (λ (w : Rows). length w ≡ length u) (refuses (step q (state_in u)).decision) u (stores q u) (λ e. refl) (λ e. stores-length q u)

-- an access that is taken back
pub held_back : (u : Rows) → length u ≡ row_count → (o : ℕ) → o < 64 → (s k : ℕ) → set_held (set_held u o s k) o s (held_by (object (state_in u) o) s) ≡ u
held_back u n o h s k = ap (set_held (set_held u o s k) o s) (sym (read_held u o h s)) ∙ held-put-back u n o h s k

-- ---- a step, refused or granted

pub step-refused : (q : Request) (m : Monitor) → refuses (checks q m) ≡ true → step q m ≡ record { decision = checks q m; monitor = m }
unfolding step answer
step-refused q m r = cond-true _ _ _ r

pub step-granted : (q : Request) (m : Monitor) → refuses (checks q m) ≡ false
    → step q m ≡ record { decision = cond (already q (object m (target q))) Already Granted; monitor = afterwards q m }
unfolding step answer
step-granted q m r = cond-false _ _ _ r

granted-passes : (b : Bool) → refuses (cond b Already Granted) ≡ false
granted-passes true = refl
granted-passes false = refl

pub granted : (q : Request) (m : Monitor) → refuses (checks q m) ≡ false → refuses (step q m).decision ≡ false
granted q m t = ap (λ (x : Response). refuses x.decision) (step-granted q m t) ∙ granted-passes (already q (object m (target q)))

-- the rows after a request say the state after it
pub carried-state : (q : Request) (u : Rows) → length u ≡ row_count → InRange q → state_in (carried q u) ≡ (step q (state_in u)).monitor
unfolding carried
carried-state q u n r =
    split (refuses (checks q (state_in u)))
    (λ t. let e = step-refused q (state_in u) t in
    ap state_in (cond-true _ u (stores q u) (ap (λ (x : Response). refuses x.decision) e ∙ t)) ∙ ap (λ (x : Response). x.monitor) (sym e))
    (λ t. let e = step-granted q (state_in u) t in
    ap state_in (cond-false _ u (stores q u) (granted q (state_in u) t)) ∙ stored-state q u n r ∙ ap (λ (x : Response). x.monitor) (sym e))
