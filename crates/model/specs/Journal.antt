-- The journal and taking back (change request §9). The journal stands beside the monitor, not in it.
-- Assumes nothing.
use Rattle.std.specs.Prelude.{ℕ, Bool, false, cond, List, [], ◌∷◌, take, eqb, Some, None}
use Rattle.model.specs.declared.Object.{Object}
use Rattle.model.specs.declared.Monitor.{Monitor}
use Rattle.model.specs.declared.Request.{Request}
use Rattle.model.specs.declared.Request.TheVariants.{Get, Release, Give, Rescind, Create, Delete, ChangeLevel, SetCompanies}
use Rattle.model.specs.Requests.{Decoded, decode}
use Rattle.model.specs.declared.Decision.{Decision}
use Rattle.model.specs.declared.Decision.TheVariants.{Granted, EmptyJournal}
use Rattle.model.specs.State.{object, with_object}
use Rattle.model.specs.Hierarchy.{has_child}
use Rattle.model.specs.Decisions.{number}
use Rattle.model.specs.Rules.{target, step}
use Rattle.model.specs.Runs.{respond, reply}

-- an entry: the number of an object and "the object's record as it was"
pub record Entry : Type 0 where
  pub place : ℕ
  pub was : Object

-- a monitor and its journal, the latest entry first
pub record Journaled : Type 0 where
  pub monitor : Monitor
  pub journal : List Entry

-- "A journal of up to 32 entries"
abbrev pub journal_size : ℕ
journal_size = 32

-- "the oldest entry gives way"
unfoldable pub entered : Entry → List Entry → List Entry
entered e journal = take journal_size (e ∷ journal)

-- "a monitor begun, also from an image, has an empty one"
abbrev pub without_entries : Monitor → Journaled
without_entries m = record { monitor = m; journal = [] }

-- what a request would enter
abbrev pub entry_of : Request → Monitor → Entry
entry_of q m = record { place = target q; was = object m (target q) }

-- "A deletion that took children" (change request §11)
abbrev pub takes_children : Request → Monitor → Bool
takes_children (Get s o x) m = false
takes_children (Release s o x) m = false
takes_children (Give s t o x) m = false
takes_children (Rescind s t o x) m = false
takes_children (Create s o c) m = false
takes_children (Delete s o) m = has_child m.objects o
takes_children (ChangeLevel s o l) m = false
takes_children (SetCompanies s o n) m = false

-- "keeps, for each reply 0, the object's record as it was"; "A deletion that took children empties the journal" (change request §11)
abbrev pub journal_after : Decoded → Monitor → List Entry → List Entry
journal_after None m journal = journal
journal_after (Some q) m journal =
    cond (eqb (number (step q m).decision) 0) (cond (takes_children q m) [] (entered (entry_of q m) journal)) journal

-- a byte string as a request
unfoldable pub ask : List ℕ → Journaled → Journaled
ask b j =
    record {
      monitor = (respond b j.monitor).monitor;
      journal = journal_after (decode j.monitor.profile b) j.monitor j.journal;
    }

-- "restores exactly the state before the latest request still in the journal, whose entry then goes"; "an empty journal, state unchanged"
unfoldable pub restored : Monitor → List Entry → Journaled
restored m [] = without_entries m
restored m (e ∷ journal) = record { monitor = with_object m e.place e.was; journal = journal }

unfoldable pub take_back : Journaled → Journaled
take_back j = restored j.monitor j.journal

-- "Taking back returns 0"; "Refused: 17, an empty journal"
unfoldable pub taking_back : List Entry → Decision
taking_back [] = EmptyJournal
taking_back (e ∷ journal) = Granted

-- "Taking back isn't a request": what is done with a monitor is one or the other
pub data Act : Type 0 where
  asks : List ℕ → Act
  takes_back : Act

abbrev pub act : Act → Journaled → Journaled
act (asks b) j = ask b j
act takes_back j = take_back j

-- the number that it returns
abbrev pub answer_to : Act → Journaled → ℕ
answer_to (asks b) j = reply b j.monitor
answer_to takes_back j = number (taking_back j.journal)

-- a list of them, each on what the one before it left
unfoldable pub acted : List Act → Journaled → Journaled
acted [] j = j
acted (a ∷ l) j = acted l (act a j)

unfoldable pub answers : List Act → Journaled → List ℕ
answers [] j = []
answers (a ∷ l) j = answer_to a j ∷ answers l (act a j)
