-- A unit that was started or opened, asked and taken back in any order, and saved: what it returns and what is saved are what the definitions say.
-- Assumes nothing.
use Prim.Native.Nat.{ℕ, ◌≤◌}
use mathlib.Core.Path.{◌≡◌, sym, ap, ap₂, ◌∙◌, subst}
use mathlib.Core.Logic.{◌↔◌, ◌≢◌}
use mathlib.Core.List.{List, [], ◌++◌, map}
use lib.ListN.{length, take}
use Rattle.model.specs.declared.Profile.{Profile}
use Rattle.model.specs.declared.Monitor.{Monitor}
use Rattle.model.specs.declared.Request.{Request}
use Rattle.model.specs.declared.Decision.TheVariants.{Granted}
use Rattle.model.specs.declared.Response.{Response}
use Rattle.model.specs.State.{WellFormed}
use Rattle.model.specs.Profiles.{Inside}
use Rattle.model.specs.Properties.{Secure}
use Rattle.model.specs.Decisions.{number}
use Rattle.model.specs.Requests.{encode}
use Rattle.model.specs.Runs.{after, replies}
use Rattle.model.specs.Journal.{Journaled, without_entries, Act, asks, answers}
use Rattle.model.specs.Layout.{image_size, image_of}
use Rattle.model.specs.Reading.{read_image}
use Rattle.model.specs.Writing.{writing, written}
use Rattle.model.specs.Beginnings.{Beginning, begun, Accepted, left_with, left, AllBytes}
use Rattle.telling.specs.Distinguish.{distinguish}
use Rattle.images.specs.Tables.{beginning_profile}
use Rattle.images.proofs.Reached.{reached-left, left-more, sound-left, left-profile, reached-inside, fills}
use Rattle.effects.proofs.Demand2.{always-secure}
use Rattle.equal_images.proofs.Demand3.{distinguishes, distinguishes-not, demand-3}
use Rattle.images.proofs.RoundTrips.{read-written}
use Rattle.invariants.proofs.TakingBack.{asked-replies}
use Rattle.unit.specs.Rows.{state_in}
use Rattle.unit.specs.Stored.{unit_of}
use Rattle.image.proofs.Sizes.{begun-says}
use Rattle.journaled.specs.Units.{monitor_part, said_by, answers_of}
use Rattle.journaled.proofs.Said.{WholeUnit, unit-append, acted-whole, answers-said, begun-whole, begun-said}
use Rattle.journaled.proofs.Plain.{begun-acted, begun-rows}
use Rattle.capi.specs.UnitRuns.{begun_unit, unit_after, unit_asked, unit_replies, saved}

-- ---- started or opened, asked and taken back, saved

module _ (b : Beginning) where
  -- whatever is called, each number returned is the one that the definitions give
  pub unit-answers : (l : List Act) → answers_of l (begun_unit b) ≡ answers l (without_entries (begun b).monitor)
  unit-answers l =
      answers-said l (begun_unit b) (begun-whole (begun b).monitor) ∙ ap (answers l) (begun-said (begun b).monitor ∙ ap without_entries (begun-says b))

  -- asked any list, it replies as the monitor does
  pub unit-replies : (bs : List (List ℕ)) → unit_replies bs (begun_unit b) ≡ replies bs (begun b).monitor
  unit-replies bs = unit-answers (map asks bs) ∙ asked-replies bs (without_entries (begun b).monitor)

  module _ (bs : List Act) where
    -- and then says the monitor and the journal after the list
    pub after-said : said_by (unit_after b bs) ≡ left_with b bs
    after-said = begun-acted bs (begun b).monitor (begun-says b)

    pub after-says : state_in (unit_after b bs) ≡ left b bs
    unfolding said_by
    after-says = ap (λ (j : Journaled). j.monitor) after-said

    -- in every byte the rows of the monitor are those of that state
    pub unit-rows : monitor_part (unit_after b bs) ≡ unit_of (left b bs)
    unit-rows = begun-rows bs (begun b).monitor (begun-says b)

    pub after-whole : WholeUnit (unit_after b bs)
    after-whole = acted-whole bs (begun_unit b) (begun-whole (begun b).monitor)

    -- a further list draws the replies of that state
    pub further-replies : (further : List (List ℕ)) → unit_replies further (unit_after b bs) ≡ replies further (left b bs)
    further-replies further =
        answers-said (map asks further) (unit_after b bs) after-whole ∙ ap (answers (map asks further)) after-said ∙ asked-replies further (left_with b bs)

    -- and leaves what it leaves of that state
    pub asked-unit : (further : List (List ℕ)) → unit_asked further (unit_after b bs) ≡ unit_after b (bs ++ map asks further)
    asked-unit further = sym (unit-append bs (map asks further) (begun_unit b))

    -- saved, every byte of the buffer is what writing that state leaves
    pub unit-saved : (buffer : List ℕ) → saved (unit_after b bs) buffer ≡ written (left b bs) buffer
    unit-saved buffer = ap (λ (m : Monitor). written m buffer) after-says

    -- begun with 0, the state is well formed and secure
    pub unit-secure : Accepted b → WellFormed (state_in (unit_after b bs)) × Secure (state_in (unit_after b bs))
    unit-secure e = subst (λ (m : Monitor). WellFormed m × Secure m) (sym after-says) (always-secure (left b bs) (reached-left b e bs))

    -- its profile is that which it was begun under, and every enrolled subject, live object, clearance and label is inside it
    pub unit-inside : Accepted b → ((state_in (unit_after b bs)).profile ≡ beginning_profile b) × Inside (state_in (unit_after b bs))
    unit-inside e = (
      ap (λ (m : Monitor). m.profile) after-says ∙ left-profile b e bs,
      subst Inside (sym after-says) (reached-inside (left b bs) (reached-left b e bs)),
    )

    -- what was saved is accepted under the profile of the unit, and opened it is that state
    pub saved-opens : Accepted b → (buffer : List ℕ) → number (writing buffer) ≡ 0
        → read_image (beginning_profile b) (take image_size (saved (unit_after b bs) buffer)) ≡ record { decision = Granted; monitor = state_in (unit_after b bs) }
    saved-opens e buffer w =
        ap₂ (λ (p : Profile) (l : List ℕ). read_image p (take image_size l)) (sym (left-profile b e bs)) (unit-saved buffer)
        ∙ read-written (left b bs) (reached-left b e bs) buffer w
        ∙ ap (λ (m : Monitor). record { decision = Granted; monitor = m }) (sym after-says)

-- asked further after a list: the state, and the rows of the monitor in every byte
module _ (b : Beginning) (bs : List Act) (further : List (List ℕ)) where
  pub asked-says : state_in (unit_asked further (unit_after b bs)) ≡ after further (left b bs)
  asked-says = ap state_in (asked-unit b bs further) ∙ after-says b (bs ++ map asks further) ∙ left-more b bs further

  pub asked-rows : monitor_part (unit_asked further (unit_after b bs)) ≡ unit_of (after further (left b bs))
  asked-rows = ap monitor_part (asked-unit b bs further) ∙ unit-rows b (bs ++ map asks further) ∙ ap unit_of (left-more b bs further)

-- ---- two units of one profile

module _ (b c : Beginning) (e : Accepted b) (f : Accepted c) (one : beginning_profile b ≡ beginning_profile c) (qs rs : List Act) (buffer other : List ℕ) (v : number (writing buffer) ≡ 0) (w : number (writing other) ≡ 0) where
  -- demand 3: the images saved are equal in every byte exactly when every further list draws the same replies from both units
  pub unit-demand-3 :
      (take image_size (saved (unit_after b qs) buffer) ≡ take image_size (saved (unit_after c rs) other))
      ↔ ((further : List (List ℕ)) → AllBytes further → unit_replies further (unit_after b qs) ≡ unit_replies further (unit_after c rs))
  unit-demand-3 =
      let D = demand-3 b c e f one qs rs buffer other v w in (
        λ p further g.
            further-replies b qs further
            ∙ D.0 (ap (take image_size) (sym (unit-saved b qs buffer)) ∙ p ∙ ap (take image_size) (unit-saved c rs other)) further g
            ∙ sym (further-replies c rs further),
        λ h.
            ap (take image_size) (unit-saved b qs buffer)
            ∙ D.1 (λ further g. sym (further-replies b qs further) ∙ h further g ∙ further-replies c rs further)
            ∙ ap (take image_size) (sym (unit-saved c rs other)),
      )

  -- the requests that `circmon_distinguish` gives for the two images saved
  told : List Request
  told = distinguish (read_image (beginning_profile b) (take image_size (saved (unit_after b qs) buffer))).monitor (read_image (beginning_profile c) (take image_size (saved (unit_after c rs) other))).monitor

  told_of : told ≡ distinguish (left b qs) (left c rs)
  unfolding told
  told_of =
      ap₂ distinguish (ap (λ (r : Response). r.monitor) (saved-opens b qs e buffer v) ∙ after-says b qs) (ap (λ (r : Response). r.monitor) (saved-opens c rs f other w) ∙ after-says c rs)

  -- none where these are equal
  pub same-units-told : take image_size (saved (unit_after b qs) buffer) ≡ take image_size (saved (unit_after c rs) other)
      → distinguish (read_image (beginning_profile b) (take image_size (saved (unit_after b qs) buffer))).monitor (read_image (beginning_profile c) (take image_size (saved (unit_after c rs) other))).monitor ≡ []
  unfolding told
  same-units-told p =
      told_of ∙ distinguishes-not (left b qs) (left c rs) (sound-left b e qs) (sound-left c f rs)
      (sym (ap (λ (r : Response). r.monitor) (saved-opens b qs e buffer v) ∙ after-says b qs) ∙ ap₂ (λ (k : Profile) (l : List ℕ). (read_image k l).monitor) one p ∙ ap (λ (r : Response). r.monitor) (saved-opens c rs f other w) ∙ after-says c rs)

  -- at most four where they differ, and the two units reply differently to them
  pub different-units-told : (take image_size (saved (unit_after b qs) buffer) ≢ take image_size (saved (unit_after c rs) other))
      → (length (distinguish (read_image (beginning_profile b) (take image_size (saved (unit_after b qs) buffer))).monitor (read_image (beginning_profile c) (take image_size (saved (unit_after c rs) other))).monitor) ≤ 4)
      × (unit_replies (map encode (distinguish (read_image (beginning_profile b) (take image_size (saved (unit_after b qs) buffer))).monitor (read_image (beginning_profile c) (take image_size (saved (unit_after c rs) other))).monitor)) (unit_after b qs)
      ≢ unit_replies (map encode (distinguish (read_image (beginning_profile b) (take image_size (saved (unit_after b qs) buffer))).monitor (read_image (beginning_profile c) (take image_size (saved (unit_after c rs) other))).monitor)) (unit_after c rs))
  unfolding told
  different-units-told h =
      let m = left b qs in
      let n = left c rs in
      let apart : m ≢ n = λ p. h (ap (take image_size) (unit-saved b qs buffer) ∙ fills m buffer v ∙ ap image_of p ∙ sym (fills n other w) ∙ sym (ap (take image_size) (unit-saved c rs other))) in
      let d = distinguishes m n (sound-left b e qs) (sound-left c f rs) (left-profile b e qs ∙ one ∙ sym (left-profile c f rs)) apart in
      subst (λ (l : List Request). (length l ≤ 4) × (unit_replies (map encode l) (unit_after b qs) ≢ unit_replies (map encode l) (unit_after c rs))) (sym told_of)
      (d.1, λ p. d.2 (sym (further-replies b qs _) ∙ p ∙ further-replies c rs _))
