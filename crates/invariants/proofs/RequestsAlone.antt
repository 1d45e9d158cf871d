-- Every monitor that requests and takings-back reach is one that requests alone reach (change request §9): a taken-back request is left out.
-- Assumes nothing.
use Prim.Native.Nat.{ℕ, zero, suc}
use mathlib.Core.Path.{◌≡◌, sym, ap, ◌∙◌, subst}
use mathlib.Core.List.{List, [], ◌∷◌, ◌++◌}
use lib.ListN.{take}
use Rattle.model.specs.declared.Monitor.{Monitor}
use Rattle.model.specs.State.{with_object}
use Rattle.model.specs.Runs.{respond, after}
use Rattle.model.specs.Journal.{Entry, Journaled, journal_size, entered, without_entries, ask, restored, take_back, Act, asks, takes_back, acted}
use Rattle.model.proofs.Lists.{after-append, after_none, after_one}
use Rattle.invariants.specs.Sound.{Sound}
use Rattle.invariants.specs.TakingBack.{ByRequests}
use Rattle.invariants.proofs.Steps.{sound-after, profile-kept}
use Rattle.invariants.proofs.TakingBack.{ask-cases}

-- requests lead from m to n, and also to what each further taking-back leaves
Leads : Monitor → Monitor → List Entry → Type 0
Leads m n [] = ByRequests m n
Leads m n (e ∷ journal) = ByRequests m n × Leads m (with_object n e.place e.was) journal

leads-now : (m n : Monitor) (journal : List Entry) → Leads m n journal → ByRequests m n
unfolding Leads
leads-now m n [] L = L
leads-now m n (e ∷ journal) L = L.0

-- the oldest entries may give way
leads-take : (m n : Monitor) (k : ℕ) (journal : List Entry) → Leads m n journal → Leads m n (take k journal)
unfolding Leads
leads-take m n zero journal L = leads-now m n journal L
leads-take m n (suc k) [] L = L
leads-take m n (suc k) (e ∷ journal) L = (L.0, leads-take m (with_object n e.place e.was) k journal L.1)

one_more : (m n : Monitor) (b : List ℕ) → ByRequests m n → ByRequests m (respond b n).monitor
one_more m n b R =
    record {
      requests = R.requests ++ (b ∷ []);
      leads = after-append R.requests (b ∷ []) m ∙ ap (after (b ∷ [])) R.leads ∙ (after_one b n).0;
    }

leads-asked : (m : Monitor) (b : List ℕ) (j : Journaled) → Leads m j.monitor j.journal → Leads m (ask b j).monitor (ask b j).journal
unfolding Leads ask entered
leads-asked m b j L =
    let k = ask b j in
    ask-cases b j
    (λ changed none E.
    subst (Leads m k.monitor) (sym E.journal)
    (leads-take m k.monitor journal_size (E.entry ∷ j.journal)
    (one_more m j.monitor b (leads-now m j.monitor j.journal L), subst (λ (n : Monitor). Leads m n j.journal) (sym E.restores) L)))
    (λ changed took e. subst (Leads m k.monitor) (sym e) (one_more m j.monitor b (leads-now m j.monitor j.journal L)))
    (λ other same. subst (λ (x : Journaled). Leads m x.monitor x.journal) (sym same) L)

leads-restored : (m n : Monitor) (journal : List Entry) → Leads m n journal → Leads m (restored n journal).monitor (restored n journal).journal
unfolding Leads restored
leads-restored m n [] L = L
leads-restored m n (e ∷ journal) L = L.1

leads-acted : (m : Monitor) (l : List Act) (j : Journaled) → Leads m j.monitor j.journal → Leads m (acted l j).monitor (acted l j).journal
unfolding acted take_back
leads-acted m [] j L = L
leads-acted m (asks b ∷ l) j L = leads-acted m l (ask b j) (leads-asked m b j L)
leads-acted m (takes_back ∷ l) j L = leads-acted m l (take_back j) (leads-restored m j.monitor j.journal L)

-- what requests lead to from a sound state is sound, and has its profile
pub by-requests-sound : (m n : Monitor) → ByRequests m n → Sound m → Sound n
by-requests-sound m n R S = subst Sound R.leads (sound-after R.requests m S)

pub by-requests-profile : (m n : Monitor) → ByRequests m n → n.profile ≡ m.profile
by-requests-profile m n R = ap (λ (k : Monitor). k.profile) (sym R.leads) ∙ profile-kept R.requests m

-- from any monitor with an empty journal
pub requests-alone : (l : List Act) (m : Monitor) → ByRequests m (acted l (without_entries m)).monitor
unfolding Leads
requests-alone l m =
    let j = without_entries m in
    leads-now m (acted l j).monitor (acted l j).journal (leads-acted m l j (record { requests = []; leads = (after_none m).0 }))
