-- Requests as byte strings of any length and content, and lists of them.
-- Assumes nothing.
use Rattle.std.specs.Prelude.{ℕ, List, [], ◌∷◌, Some, None}
use Rattle.model.specs.declared.Monitor.{Monitor}
use Rattle.model.specs.Requests.{Decoded, decode}
use Rattle.model.specs.declared.Decision.TheVariants.{MalformedRequest}
use Rattle.model.specs.declared.Response.{Response}
use Rattle.model.specs.Decisions.{number}
use Rattle.model.specs.Rules.{step}

abbrev pub carry_out : Decoded → Monitor → Response
carry_out None m = record { decision = MalformedRequest; monitor = m }
carry_out (Some q) m = step q m

-- the response to a byte string, which is read under the profile of the monitor
unfoldable pub respond : List ℕ → Monitor → Response
respond b m = carry_out (decode m.profile b) m

-- "A reply is the number that a request returns: 0, 1 or that of a refusal"
abbrev pub reply : List ℕ → Monitor → ℕ
reply b m = number (respond b m).decision

-- "The first request gets the monitor just begun, each later one the monitor that the one before it left"
unfoldable pub after : List (List ℕ) → Monitor → Monitor
after [] m = m
after (b ∷ bs) m = after bs (respond b m).monitor

unfoldable pub replies : List (List ℕ) → Monitor → List ℕ
replies [] m = []
replies (b ∷ bs) m = reply b m ∷ replies bs (respond b m).monitor
