-- "Every request made this way is well formed", and that is sure "under the widest profile only" (change request §8): its bytes say it, so no
-- monitor of that profile replies 2.
-- Assumes nothing.
use Prim.Native.Nat.{ℕ, zero, suc, ◌+◌, ◌*◌, ◌%◌, ◌<◌, ◌≤◌}
use native.Mathlib.Nat.{mod-lt, zero-lt-suc}
use native.Mathlib.Omega.{arith}
use mathlib.Core.Path.{◌≡◌, refl, ap, ◌∙◌}
use mathlib.Core.Logic.{◌≢◌}
use mathlib.Core.Bool.{Bool, true, false, ◌&&◌, ◌||◌}
use mathlib.Core.List.{map}
use lib.Dec.{eqb, leb}
use lib.ListN.{get_or}
use borrow.Author.Tests.{le-leb, eqb-true}
use Rattle.model.specs.declared.Profile.{Profile}
use Rattle.model.specs.declared.Monitor.{Monitor}
use Rattle.std.specs.Prelude.{Some}
use Rattle.model.specs.State.{widest}
use Rattle.model.specs.Requests.{fields, mode_allowed, unused_zero, fields_formed, level_of, within, well_formed, request, decode, pack}
use Rattle.model.specs.Runs.{reply, replies, respond}
use Rattle.model.proofs.Tests.{split, and_both}
use Rattle.model.proofs.Packing.{FieldsFit, pack-length, fields-packed}
use Rattle.model.proofs.Levels.{at-least-decides}
use Rattle.model.proofs.Profiles.{widest-level}
use Rattle.model.proofs.Within.{well-formed, fields_within}
use Rattle.model.proofs.Requests.{in-range, says-decode}
use Rattle.invariants.proofs.Steps.{respond-profile}
use Rattle.refusals.proofs.FirstRefusal.{reply-2-exactly}
use Rattle.refusals.proofs.Malformed.{says-not-malformed}
use Rattle.test_load.specs.Generator.{draw}
use Rattle.test_load.specs.Load.{kind_drawn, where_used, uses_other, uses_level, mode_drawn, made, requests_from}

-- ---- each field

-- a remainder by 4, one more, is a mode from 1 to 4
four-modes : (n : ℕ) → n < 4 → (leb 1 (1 + n) && leb (1 + n) 4) ≡ true
four-modes n h = and_both (le-leb 1 (1 + n) (omega arith)) (le-leb (1 + n) 4 (omega arith))

-- four times a remainder by 2 is 0 or 4
two-modes : (n : ℕ) → n < 2 → (eqb (4 * n) 0 || eqb (4 * n) 4) ≡ true
two-modes zero h = refl
two-modes (suc zero) h = refl
two-modes (suc (suc n)) h = absurd (omega arith)

mode-drawn-allowed : (kind d : ℕ) → mode_allowed kind (mode_drawn kind d) ≡ true
unfolding mode_allowed
mode-drawn-allowed kind d =
    split (leb kind 4) (λ e. rw e (four-modes (d % 4) (mod-lt d (zero-lt-suc 3))))
    (λ e. split (eqb kind 5) (λ f. rw (e, f) (two-modes (d % 2) (mod-lt d (zero-lt-suc 1)))) (λ f. rw (e, f)))

-- what is not used is 0
other-unused : (give rescind : Bool) (x : ℕ) → (give || (rescind || eqb (where_used (give || rescind) x) 0)) ≡ true
other-unused true rescind x = refl
other-unused false true x = refl
other-unused false false x = refl

class-unused : (change : Bool) (c : ℕ) → (change || eqb (where_used change c) 0) ≡ true
class-unused true c = refl
class-unused false c = refl

needs-unused : (create change companies : Bool) (n : ℕ) → (create || (change || (companies || eqb (where_used change n) 0))) ≡ true
needs-unused true change companies n = refl
needs-unused false true companies n = refl
needs-unused false false true n = refl
needs-unused false false false n = refl

-- and what is used stays below a bound
used-below : (used : Bool) (x n : ℕ) → x < n → 0 < n → where_used used x < n
used-below true x n h g = h
used-below false x n h g = g

-- ---- the request

module _ (x : ℕ) where
  abbrev kind : ℕ
  kind = kind_drawn (draw 1 x)

  other-below : (made x).other < 16
  unfolding made
  other-below = used-below (uses_other kind) (draw 3 x % 16) 16 (omega arith) (omega arith)

  mode-below : (made x).mode < 8
  unfolding made
  mode-below =
      split (leb kind 4) (λ e. rw e (omega arith))
      (λ e. split (eqb kind 5) (λ f. rw (e, f) (omega arith)) (λ f. rw (e, f) (omega arith)))

  -- "The test load writes 0 there" (change request §11): no create has a parent
  pub no-parent : (made x).kind ≡ 5 → (made x).needs ≡ 0
  unfolding made
  no-parent e = ap (λ (k : ℕ). where_used (uses_level k) (draw 7 x % 65536)) e

  short-parent : eqb (made x).kind 5 ≡ true → (made x).needs ≤ 64
  short-parent e = omega (arith, no-parent (eqb-true _ _ e))

  -- under every profile but for what the profile asks
  made-formed : fields_formed (made x) ≡ true
  unfolding made unused_zero
  made-formed =
      in-range (made x)
      (and_both (le-leb 1 kind (omega arith)) (le-leb kind 8 (omega arith)))
      (omega arith) other-below (omega arith) short-parent
      (mode-drawn-allowed kind (draw 5 x))
      (and_both (other-unused (eqb kind 3) (eqb kind 4) (draw 3 x % 16))
      (and_both (class-unused (uses_level kind) (draw 6 x % 16)) (and_both (needs-unused (eqb kind 5) (uses_level kind) (eqb kind 8) (draw 7 x % 65536)) refl)))

  -- "The test load keeps to kinds 1 to 7" (change request §10)
  pub keeps-to-seven-kinds : (1 ≤ (made x).kind) × ((made x).kind ≤ 7)
  unfolding made
  keeps-to-seven-kinds = (omega arith, omega arith)

  made-fits : FieldsFit (made x)
  unfolding made
  made-fits =
      record {
        kind = omega arith;
        actor = omega arith;
        other = omega (arith, other-below);
        object = omega arith;
        mode = omega (arith, mode-below);
        class = used-below (uses_level kind) (draw 6 x % 16) 16 (omega arith) (omega arith);
        needs = used-below (uses_level kind) (draw 7 x % 65536) 65536 (omega arith) (omega arith);
        spare = omega arith;
      }

  -- and inside the widest
  made-within : within widest (made x) ≡ true
  unfolding made
  made-within =
      fields_within widest (made x)
      (record {
        actor = omega arith;
        other = other-below;
        object = omega arith;
        parent = short-parent;
        level = λ j k. (at-least-decides widest.highest (level_of (made x))).0 (widest-level (level_of (made x)) made-fits.class);
      })

  -- its six bytes have the fields that were drawn
  pub made-fields : fields (pack (made x)) ≡ made x
  made-fields = fields-packed (made x) made-fits

  -- "Every request made this way is well formed"
  pub made-says : decode widest (pack (made x)) ≡ Some (request (made x))
  made-says =
      says-decode widest (pack (made x)) (pack-length (made x)) (ap (well_formed widest) made-fields ∙ well-formed widest (made x) made-formed made-within)
      ∙ ap (λ f. Some (request f)) made-fields

  -- no monitor of the widest profile replies 2 to it
  pub made-never-2 : (m : Monitor) → m.profile ≡ widest → reply (pack (made x)) m ≢ 2
  made-never-2 m w e =
      let says : decode m.profile (pack (made x)) ≡ Some (request (made x)) = ap (λ (p : Profile). decode p (pack (made x))) w ∙ made-says in
      says-not-malformed m.profile (pack (made x)) (request (made x)) says ((reply-2-exactly (pack (made x)) m).0 e)

-- nor at any place of a run of them, whatever the state
pub run-never-2 : (n x : ℕ) (m : Monitor) → m.profile ≡ widest → (i : ℕ) → get_or (replies (map pack (requests_from n x)) m) i 0 ≢ 2
unfolding replies requests_from
run-never-2 zero x m w i = λ e. absurd (omega (arith, e))
run-never-2 (suc n) x m w zero = made-never-2 x m w
run-never-2 (suc n) x m w (suc i) = run-never-2 n (draw 7 x) (respond (pack (made x)) m).monitor (respond-profile (pack (made x)) m ∙ w) i
