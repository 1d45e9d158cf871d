-- Taking back (change request §9): it restores the state, n times after n requests with reply 0, and what requests and takings-back reach,
-- requests alone reach. Of every monitor, with every journal of at most 32 entries.
-- Assumes nothing.
use Prim.Native.Nat.{ℕ, zero, suc, ◌-◌, ◌<◌, ◌≤◌}
use native.Mathlib.Omega.{arith}
use native.Mathlib.Nat.{eq-or-lt_of_le}
use mathlib.Core.Path.{◌≡◌, refl, sym, ap, ap₂, ◌∙◌, subst}
use mathlib.Core.Logic.{◌↔◌, ◌≢◌, ⊎_elim}
use mathlib.Core.Bool.{true, false, not, ◌&&◌}
use mathlib.Core.List.{List, [], ◌∷◌, ◌++◌, map}
use lib.ListN.{length, take, replicate, length-take}
use lib.Seq.{take_all, take-take}
use lib.Dec.{eqb}
use borrow.Author.Tests.{eqb-true, eq-eqb, ne_eqb}
use Rattle.model.specs.declared.Monitor.{Monitor}
use Rattle.model.specs.declared.Request.{Request}
use Rattle.model.specs.Requests.{Decoded, decode}
use Rattle.std.specs.Prelude.{Some, None}
use Rattle.model.specs.declared.Decision.TheVariants.{Granted}
use Rattle.model.specs.State.{with_object}
use Rattle.model.specs.Decisions.{number}
use Rattle.model.specs.Rules.{step}
use Rattle.model.specs.Runs.{carry_out, respond, reply, after, replies}
use Rattle.model.specs.Journal.{Entry, Journaled, journal_size, entered, without_entries, entry_of, takes_children, journal_after, ask, restored, take_back, taking_back, Act, asks, takes_back, answer_to, acted, answers}
use Rattle.model.proofs.Tests.{split, apart, and_left, and_right, not_on, cond-true, cond-false}
use Rattle.model.proofs.Children.{one-changes}
use Rattle.model.proofs.Equal.{with-object-back}
use Rattle.invariants.specs.TakingBack.{zeros, said_to_take, took_children, none_took}
use Rattle.invariants.proofs.Outcomes.{step-cases}

-- ---- one request

-- what a reply 0 that took no children does to the journal: one entry more, which restores the monitor before it
pub record Enters (j k : Journaled) : Type 0 where
  pub entry : Entry
  pub journal : k.journal ≡ entered entry j.journal
  pub restores : with_object k.monitor entry.place entry.was ≡ j.monitor

-- what is left of bytes that say this
leaves : Decoded → Journaled → Journaled
leaves d j = record { monitor = (carry_out d j.monitor).monitor; journal = journal_after d j.monitor j.journal }

unchanged : (q : Request) (j : Journaled) → number (step q j.monitor).decision ≢ 0 → (step q j.monitor).monitor ≡ j.monitor → leaves (Some q) j ≡ j
unfolding leaves
unchanged q j n s =
    let same = cond-false (eqb (number (step q j.monitor).decision) 0) _ j.journal (ne_eqb _ 0 n) in
    λ i. record { monitor = s i; journal = same i }

said-cases : {P : Type 0} (d : Decoded) (j : Journaled)
    → (number (carry_out d j.monitor).decision ≡ 0 → said_to_take d j.monitor ≡ false → Enters j (leaves d j) → P)
    → (number (carry_out d j.monitor).decision ≡ 0 → said_to_take d j.monitor ≡ true → (leaves d j).journal ≡ [] → P)
    → (number (carry_out d j.monitor).decision ≢ 0 → leaves d j ≡ j → P) → P
unfolding leaves
said-cases None j f t g = g (λ e. absurd (omega (arith, e))) refl
said-cases (Some q) j f t g =
    let m = j.monitor in
    step-cases q m
    (λ granted was n s. let other : number (step q m).decision ≢ 0 = λ e. absurd (omega (arith, n, e)) in g other (unchanged q j other s))
    (λ granted was n s.
    let zero-reply = cond-true (eqb (number (step q m).decision) 0) _ j.journal (eq-eqb _ 0 n) in
    split (takes_children q m)
    (λ w. t n w (zero-reply ∙ cond-true (takes_children q m) _ _ w))
    (λ w. f n w (record {
      entry = entry_of q m;
      journal = zero-reply ∙ cond-false (takes_children q m) _ _ w;
      restores = ap (λ (k : Monitor). with_object k (entry_of q m).place (entry_of q m).was) (s ∙ one-changes q m w) ∙ with-object-back m _ _;
    })))
    (λ n refused s. let other : number (step q m).decision ≢ 0 = λ e. absurd (omega (arith, n, e)) in g other (unchanged q j other s))

-- a reply 0 enters, or empties the journal where it took children; another leaves monitor and journal as they were
pub ask-cases : {P : Type 0} (b : List ℕ) (j : Journaled)
    → (reply b j.monitor ≡ 0 → took_children b j.monitor ≡ false → Enters j (ask b j) → P)
    → (reply b j.monitor ≡ 0 → took_children b j.monitor ≡ true → (ask b j).journal ≡ [] → P)
    → (reply b j.monitor ≢ 0 → ask b j ≡ j → P) → P
unfolding respond ask leaves took_children
ask-cases b j f t g =
    let d = decode j.monitor.profile b in
    said-cases d j
    (λ z w E. f z (ap₂ ◌&&◌ (eq-eqb _ 0 z) w) E) (λ z w e. t z (ap₂ ◌&&◌ (eq-eqb _ 0 z) w) e) g

-- "Taking back returns 0 and restores exactly the state before the latest request still in the journal, whose entry then goes"
taken-entered : (j k : Journaled) → Enters j k
    → (take_back k ≡ record { monitor = j.monitor; journal = take 31 j.journal }) × (taking_back k.journal ≡ Granted)
unfolding take_back restored taking_back entered
taken-entered j k E = (
  ap (restored k.monitor) E.journal ∙ ap (λ (m : Monitor). record { monitor = m; journal = take 31 j.journal }) E.restores,
  ap taking_back E.journal,
)

-- "up to 32 entries"
pub entered-fits : (j k : Journaled) → Enters j k → length k.journal ≤ journal_size
unfolding entered
entered-fits j k E = subst (λ (l : List Entry). length l ≤ journal_size) (sym E.journal) (omega (arith, length-take journal_size (E.entry ∷ j.journal)))

-- taking back after a reply 0 gives back the state, and of the journal the 31 latest entries
pub taken_back : (b : List ℕ) (j : Journaled) → reply b j.monitor ≡ 0 → took_children b j.monitor ≡ false
    → (take_back (ask b j) ≡ record { monitor = j.monitor; journal = take 31 j.journal }) × (answer_to takes_back (ask b j) ≡ 0)
taken_back b j z none =
    ask-cases b j
    (λ e w E. let t = taken-entered j (ask b j) E in (t.0, ap number t.1))
    (λ e w empty. apart w none)
    (λ n e. absurd (n z))

-- "A deletion that took children empties the journal" (change request §11): the next taking-back returns 17
pub children-empty : (b : List ℕ) (j : Journaled) → took_children b j.monitor ≡ true → ((ask b j).journal ≡ []) × (answer_to takes_back (ask b j) ≡ 17)
unfolding took_children taking_back
children-empty b j took =
    ask-cases b j
    (λ z w E. apart took w)
    (λ z w e. (e, ap (λ (l : List Entry). number (taking_back l)) e))
    (λ n e. absurd (n (eqb-true _ 0 (and_left (eqb (reply b j.monitor) 0) _ took))))

-- any other reply enters nothing
pub nothing-entered : (b : List ℕ) (j : Journaled) → reply b j.monitor ≢ 0 → ask b j ≡ j
nothing-entered b j n = ask-cases b j (λ z w E. absurd (n z)) (λ z w e. absurd (n z)) (λ n e. e)

-- "Refused: 17, an empty journal, state unchanged"
pub empty-17 : (m : Monitor) → (answer_to takes_back (without_entries m) ≡ 17) × (take_back (without_entries m) ≡ without_entries m)
unfolding take_back restored taking_back
empty-17 m = (refl, refl)

-- exactly then; else it returns 0
pub back-17-exactly : (j : Journaled) → (answer_to takes_back j ≡ 17) ↔ (j.journal ≡ [])
unfolding taking_back
back-17-exactly j = (go j.journal, λ e. ap (λ (l : List Entry). number (taking_back l)) e)
  where
    go : (l : List Entry) → number (taking_back l) ≡ 17 → l ≡ []
    go [] e = refl
    go (x ∷ l) e = absurd (omega (arith, e))

pub back-0-exactly : (j : Journaled) → (answer_to takes_back j ≡ 0) ↔ (j.journal ≢ [])
unfolding taking_back
back-0-exactly j = (
  λ z e. absurd (omega (arith, z, ap (λ (l : List Entry). number (taking_back l)) e)),
  go j.journal,
)
  where
    go : (l : List Entry) → l ≢ [] → number (taking_back l) ≡ 0
    go [] h = absurd (h refl)
    go (x ∷ l) h = refl

-- a journal never has more than 32 entries
restored-fits : (m : Monitor) (journal : List Entry) → length journal ≤ journal_size → length (restored m journal).journal ≤ journal_size
unfolding restored
restored-fits m [] h = h
restored-fits m (e ∷ journal) h = omega (arith, h)

pub acted-fits : (l : List Act) (j : Journaled) → length j.journal ≤ journal_size → length (acted l j).journal ≤ journal_size
unfolding acted take_back
acted-fits [] j h = h
acted-fits (asks b ∷ l) j h =
    acted-fits l (ask b j)
    (ask-cases b j (λ z w E. entered-fits j (ask b j) E)
    (λ z w e. subst (λ (x : List Entry). length x ≤ journal_size) (sym e) (omega arith))
    (λ n e. subst (λ (x : Journaled). length x.journal ≤ journal_size) (sym e) h))
acted-fits (takes_back ∷ l) j h = acted-fits l (take_back j) (restored-fits j.monitor j.journal h)

-- ---- "future replies are compared without the journal": requests leave the state and draw the replies that they do without one

pub asked-after : (bs : List (List ℕ)) (j : Journaled) → (acted (map asks bs) j).monitor ≡ after bs j.monitor
unfolding acted after ask
asked-after [] j = refl
asked-after (b ∷ bs) j = asked-after bs (ask b j)

pub asked-replies : (bs : List (List ℕ)) (j : Journaled) → answers (map asks bs) j ≡ replies bs j.monitor
unfolding answers replies ask
asked-replies [] j = refl
asked-replies (b ∷ bs) j = ap (λ (l : List ℕ). reply b j.monitor ∷ l) (asked-replies bs (ask b j))

pub acted-append : (k l : List Act) (j : Journaled) → acted (k ++ l) j ≡ acted l (acted k j)
unfolding acted
acted-append [] l j = refl
acted-append (a ∷ k) l j = acted-append k l _

-- ---- n takings-back

-- the last of them last
times : ℕ → Journaled → Journaled
times zero j = j
times (suc n) j = take_back (times n j)

times-first : (n : ℕ) (j : Journaled) → times n (take_back j) ≡ times (suc n) j
unfolding times
times-first zero j = refl
times-first (suc n) j = ap take_back (times-first n j)

acted-times : (n : ℕ) (j : Journaled) → acted (replicate n takes_back) j ≡ times n j
unfolding acted times
acted-times zero j = refl
acted-times (suc n) j = acted-times n (take_back j) ∙ times-first n j

answers-times : (n : ℕ) (j : Journaled) → ((k : ℕ) → k < n → taking_back (times k j).journal ≡ Granted) → answers (replicate n takes_back) j ≡ replicate n 0
unfolding answers times
answers-times zero j g = refl
answers-times (suc n) j g =
    ap₂ (λ (k : ℕ) (l : List ℕ). k ∷ l) (ap number (g 0 (omega arith)))
    (answers-times n (take_back j) (λ k h. ap (λ (x : Journaled). taking_back x.journal) (times-first k j) ∙ g (suc k) (omega arith)))

-- n takings-back lead from j to k, and each returns 0
record Restores (n : ℕ) (j k : Journaled) : Type 0 where
  left : times n j ≡ k
  granted : (i : ℕ) → i < n → taking_back (times i j).journal ≡ Granted

-- a monitor with the latest entries of its journal, as many as n new ones leave room for
room : ℕ → Journaled → Journaled
room n j = record { monitor = j.monitor; journal = take (journal_size - n) j.journal }

-- where a request entered, and n takings-back lead to the state behind it, one more leads to the state before it
restores-more : (n : ℕ) (j k w : Journaled) → n < journal_size → Enters j k → Restores n w (room n k) → Restores (suc n) w (room (suc n) j)
unfolding times room take_back restored taking_back entered
restores-more n j k w h E R =
    let c = journal_size - suc n in
    let more : journal_size - n ≡ suc c = omega (arith, h) in
    let latest : take (journal_size - n) k.journal ≡ E.entry ∷ take c j.journal =
    ap₂ take more E.journal ∙ take-take (suc c) journal_size (E.entry ∷ j.journal) (omega (arith, h)) in
    let there : (times n w).journal ≡ E.entry ∷ take c j.journal = ap (λ (x : Journaled). x.journal) R.left ∙ latest in
    record {
      left = ap take_back R.left ∙ ap (restored k.monitor) latest
          ∙ ap (λ (m : Monitor). record { monitor = m; journal = take c j.journal }) E.restores;
      granted = λ i l.
          ⊎_elim (λ (e : i ≡ n). ap (λ x. taking_back (times x w).journal) e ∙ ap taking_back there) (R.granted i)
          (eq-or-lt_of_le {n = i} {m = n} (omega (arith, l)));
    }

restores-asked : (bs : List (List ℕ)) (j : Journaled) → length j.journal ≤ journal_size → none_took bs j.monitor ≡ true
    → (n : ℕ) → zeros (replies bs j.monitor) ≡ n → n ≤ journal_size → Restores n (acted (map asks bs) j) (room n j)
unfolding acted replies zeros times room ask none_took
restores-asked [] j fits t n z h =
    subst (λ x. Restores x j (room x j)) z
    (record {
      left = ap (λ (l : List Entry). record { monitor = j.monitor; journal = l }) (sym (take_all journal_size j.journal fits));
      granted = λ i l. absurd (omega (arith, l));
    })
restores-asked (b ∷ bs) j fits t n z h =
    let k = ask b j in
    let behind = and_right (not (took_children b j.monitor)) _ t in
    let later = zeros (replies bs k.monitor) in
    ask-cases b j
    (λ changed none E.
    let one : suc later ≡ n = sym (cond-true (eqb (reply b j.monitor) 0) (suc later) later (eq-eqb _ 0 changed)) ∙ z in
    subst (λ x. Restores x (acted (map asks bs) k) (room x j)) one
    (restores-more later j k (acted (map asks bs) k) (omega (arith, one, h)) E (restores-asked bs k (entered-fits j k E) behind later refl (omega (arith, one, h)))))
    (λ changed took e. apart took (not_on _ (and_left (not (took_children b j.monitor)) _ t)))
    (λ other same.
    let none : later ≡ n = sym (cond-false (eqb (reply b j.monitor) 0) (suc later) later (ne_eqb _ 0 other)) ∙ z in
    subst (λ x. Restores n (acted (map asks bs) k) (room n x)) same
    (restores-asked bs k (subst (λ (x : Journaled). length x.journal ≤ journal_size) (sym same) fits) behind n none h))

-- "after n requests with reply 0, n at most 32 and no taking-back among them, n takings-back restore the state before them all", where none of them took
-- children: whatever other requests stand between them and whatever the journal had before, of which the latest entries are still there; each
-- returns 0
pub takings-restore : (bs : List (List ℕ)) (j : Journaled) → length j.journal ≤ journal_size → none_took bs j.monitor ≡ true
    → (n : ℕ) → zeros (replies bs j.monitor) ≡ n → n ≤ journal_size
    → (acted (replicate n takes_back) (acted (map asks bs) j) ≡ record { monitor = j.monitor; journal = take (journal_size - n) j.journal })
    × (answers (replicate n takes_back) (acted (map asks bs) j) ≡ replicate n 0)
unfolding room
takings-restore bs j fits t n z h =
    let R = restores-asked bs j fits t n z h in
    (acted-times n (acted (map asks bs) j) ∙ R.left, answers-times n (acted (map asks bs) j) R.granted)

-- where 32 were taken back, nothing is left to take back: one more returns 17, and the state is that before them all
pub then-17 : (bs : List (List ℕ)) (j : Journaled) → length j.journal ≤ journal_size → none_took bs j.monitor ≡ true
    → zeros (replies bs j.monitor) ≡ journal_size
    → (answer_to takes_back (acted (replicate journal_size takes_back) (acted (map asks bs) j)) ≡ 17)
    × ((acted (replicate (suc journal_size) takes_back) (acted (map asks bs) j)).monitor ≡ j.monitor)
unfolding take_back taking_back restored times room
then-17 bs j fits t z =
    let R = restores-asked bs j fits t journal_size z (omega arith) in
    let all = acted-times journal_size (acted (map asks bs) j) ∙ R.left in
    let more = acted-times (suc journal_size) (acted (map asks bs) j) ∙ ap take_back R.left in
    (ap (λ (x : Journaled). number (taking_back x.journal)) all, ap (λ (x : Journaled). x.monitor) more)

-- "takings-back are counted from there" (change request §11): after a deletion that took children and then n requests with reply 0, n at most 32, that took
-- none, n takings-back restore the state behind the deletion, and one more returns 17
pub counted-from-there : (b : List ℕ) (bs : List (List ℕ)) (j : Journaled) → took_children b j.monitor ≡ true → none_took bs (respond b j.monitor).monitor ≡ true
    → (n : ℕ) → zeros (replies bs (respond b j.monitor).monitor) ≡ n → n ≤ journal_size
    → (acted (replicate n takes_back) (acted (map asks bs) (ask b j)) ≡ without_entries (respond b j.monitor).monitor)
    × (answer_to takes_back (acted (replicate n takes_back) (acted (map asks bs) (ask b j))) ≡ 17)
unfolding ask taking_back
counted-from-there b bs j took none n z h =
    let e = (children-empty b j took).0 in
    let left = (takings-restore bs (ask b j) (omega (arith, ap length e)) none n z h).0
    ∙ ap (λ (l : List Entry). record { monitor = (respond b j.monitor).monitor; journal = l }) (ap (take (journal_size - n)) e ∙ take_none (journal_size - n)) in
    (left, ap (λ (x : Journaled). number (taking_back x.journal)) left)
  where
    take_none : (k : ℕ) → take {A = Entry} k [] ≡ []
    take_none zero = refl
    take_none (suc k) = refl
