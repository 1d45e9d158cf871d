-- The requests of a test load (change request §5): what each draw says, how a lent buffer is filled, and what is refused.
-- Assumes nothing.
use Rattle.std.specs.Prelude.{ℕ, zero, suc, ◌+◌, ◌*◌, ◌/◌, ◌%◌, Bool, cond, not, ◌||◌, List, [], ◌∷◌, map, length, leb, eqb, Result, Ok, Err}
use Rattle.bits.specs.Bits.{join}
use Rattle.model.specs.declared.Fields.{Fields}
use Rattle.model.specs.declared.Decision.{Decision}
use Rattle.model.specs.declared.Decision.TheVariants.{Granted, ZeroSeed}
use Rattle.model.specs.Tests.{unless}
use Rattle.model.specs.Decisions.{refuses}
use Rattle.model.specs.Requests.{request_size, pack}
use Rattle.model.specs.Buffers.{front}
use Rattle.test_load.specs.Generator.{draw}

-- "kind 1 + d mod 7"; "The test load keeps to kinds 1 to 7" (change request §10)
abbrev pub kind_drawn : ℕ → ℕ
kind_drawn d = 1 + d % 7

-- "Mode is 1 + d mod 4 for kinds 1 to 4, 4 times (d mod 2) for create, else 0"
abbrev pub mode_drawn : ℕ → ℕ → ℕ
mode_drawn kind d = cond (leb kind 4) (1 + d % 4) (cond (eqb kind 5) (4 * (d % 2)) 0)

-- "A field that the kind does not use is drawn and written as 0"
abbrev pub where_used : Bool → ℕ → ℕ
where_used used x = cond used x 0

-- the other subject "stands in kinds 3 and 4"
abbrev pub uses_other : ℕ → Bool
uses_other kind = eqb kind 3 || eqb kind 4

-- "class and needs in kind 7 only"; a create has its parent there, and "The test load writes 0 there" (change request §11)
abbrev pub uses_level : ℕ → Bool
uses_level kind = eqb kind 7

-- "other d mod 16"
abbrev pub other_drawn : ℕ → ℕ → ℕ
other_drawn kind d = where_used (uses_other kind) (d % 16)

-- "class d mod 16"
abbrev pub class_drawn : ℕ → ℕ → ℕ
class_drawn kind d = where_used (uses_level kind) (d % 16)

-- "needs d mod 65536"
abbrev pub needs_drawn : ℕ → ℕ → ℕ
needs_drawn kind d = where_used (uses_level kind) (d % 65536)

-- "Each request takes seven draws d in order: kind .., actor d mod 16, other .., object d mod 64, mode, class .., needs .."
unfoldable pub made : ℕ → Fields
made x =
    let kind = kind_drawn (draw 1 x) in
    record {
      kind = kind;
      actor = draw 2 x % 16;
      other = other_drawn kind (draw 3 x);
      object = draw 4 x % 64;
      mode = mode_drawn kind (draw 5 x);
      class = class_drawn kind (draw 6 x);
      needs = needs_drawn kind (draw 7 x);
      spare = 0;
    }

-- n requests from a state, each from the state that the one before it left
unfoldable pub requests_from : ℕ → ℕ → List Fields
requests_from zero x = []
requests_from (suc n) x = made x ∷ requests_from n (draw 7 x)

-- their bytes, one request behind the other
unfoldable pub bytes_from : ℕ → ℕ → List ℕ
bytes_from n x = join (map pack (requests_from n x))

-- "0 is returned"; "Refused: 15, seed 0"
unfoldable pub loading : ℕ → Decision
loading seed = unless (not (eqb seed 0)) ZeroSeed Granted

-- "as many whole requests as fit", "with their count beside it"
unfoldable pub load_count : ℕ → List ℕ → ℕ
load_count seed buffer = cond (refuses (loading seed)) 0 (length buffer / request_size)

-- the two in one: the refusal, or the count
unfoldable pub load_answer : ℕ → List ℕ → Result ℕ Decision
load_answer seed buffer = cond (refuses (loading seed)) (Err (loading seed)) (Ok (load_count seed buffer))

-- "A lent buffer takes as many whole requests as fit ... and the bytes after the last one are left"; 15 "before any byte is written"
unfoldable pub loaded : ℕ → List ℕ → List ℕ
loaded seed buffer =
    cond (refuses (loading seed)) buffer
    (front (request_size * load_count seed buffer) (bytes_from (load_count seed buffer) seed) buffer)
