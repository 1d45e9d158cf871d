-- Draws and requests, computed.
-- Assumes nothing.
use mathlib.Core.Path.{◌≡◌, refl}
use Prim.Native.Nat.{ℕ}
use mathlib.Core.List.{List, [], ◌∷◌, map}
use lib.ListN.{replicate}
use Rattle.bits.specs.Bits.{odd, to_bits, from_bits, bytes_to_bits, bits_to_bytes, field, cut, join}
use Rattle.model.specs.declared.Decision.TheVariants.{Granted, ZeroSeed}
use Rattle.model.specs.Tests.{implies, unless}
use Rattle.model.specs.declared.Profile.{Profile}
use Rattle.model.specs.declared.Monitor.{Monitor}
use Rattle.model.specs.State.{subject_count, nobody, fresh}
use Rattle.model.specs.Profiles.{site}
use Rattle.model.specs.Requests.{request_size, fields, mode_allowed, unused_zero, parent_within, fields_formed, within, well_formed, request, decode_fields, decode, pack}
use Rattle.model.specs.Rules.{changed, already, checks, answer, step}
use Rattle.model.specs.Runs.{respond, replies}
use Rattle.test_load.specs.Generator.{xorshift, draw}
use Rattle.test_load.specs.Load.{made, requests_from, bytes_from, loading, load_count, loaded}

-- "from 1 the first value is 270369"
pub first-from-1 : xorshift 1 ≡ 270369
unfolding xorshift
first-from-1 = refl

-- the seven draws of the first request from 1
pub seven-from-1 : map (λ n. draw n 1) (1 ∷ 2 ∷ 3 ∷ 4 ∷ 5 ∷ 6 ∷ 7 ∷ []) ≡ 270369 ∷ 67634689 ∷ 2647435461 ∷ 307599695 ∷ 2398689233 ∷ 745495504 ∷ 632435482 ∷ []
unfolding draw xorshift
seven-from-1 = refl

-- the first value from the seed that the paper of 2003 begins with
pub first-from-the-paper : xorshift 2463534242 ≡ 723471715
unfolding xorshift
first-from-the-paper = refl

-- nine requests, every kind and every mode among them, six bytes each: s15 releases r on o11; s0 rescinds e on o43 from s8; s6 deletes o35; s5
-- creates o62; s13 changes o29 to class 1 and needs 42367; s8 gets w on o27; s10 changes o18 to class 11 and needs 18860; s1 creates o33 with
-- e; s5 gives s14 a on o5
pub nine-from-12275 : bytes_from 9 12275
    ≡ 39 ∷ 128 ∷ 89 ∷ 0 ∷ 0 ∷ 0
    ∷ 64 ∷ 33 ∷ 92 ∷ 0 ∷ 0 ∷ 0
    ∷ 99 ∷ 1 ∷ 24 ∷ 0 ∷ 0 ∷ 0
    ∷ 82 ∷ 129 ∷ 240 ∷ 0 ∷ 0 ∷ 0
    ∷ 118 ∷ 128 ∷ 232 ∷ 26 ∷ 87 ∷ 240
    ∷ 20 ∷ 0 ∷ 218 ∷ 0 ∷ 0 ∷ 0
    ∷ 117 ∷ 0 ∷ 144 ∷ 180 ∷ 154 ∷ 192
    ∷ 80 ∷ 129 ∷ 12 ∷ 0 ∷ 0 ∷ 0
    ∷ 50 ∷ 184 ∷ 43 ∷ 0 ∷ 0 ∷ 0 ∷ []
unfolding bytes_from requests_from made draw xorshift pack join bits_to_bytes from_bits to_bits odd
nine-from-12275 = refl

-- a request more with every sixth byte
pub how-many-fit : map (λ n. load_count 1 (replicate n 238)) (0 ∷ 5 ∷ 6 ∷ 11 ∷ 12 ∷ 17 ∷ 18 ∷ []) ≡ 0 ∷ 0 ∷ 1 ∷ 1 ∷ 2 ∷ 2 ∷ 3 ∷ []
unfolding load_count loading unless
how-many-fit = refl

-- a buffer of 14 bytes takes two requests, and its last two bytes are left; one of five takes none
pub two-in-fourteen : (loaded 1 (replicate 14 238) ≡ 32 ∷ 128 ∷ 122 ∷ 0 ∷ 0 ∷ 0 ∷ 34 ∷ 128 ∷ 92 ∷ 0 ∷ 0 ∷ 0 ∷ 238 ∷ 238 ∷ []) × (load_count 1 (replicate 14 238) ≡ 2)
unfolding loaded load_count loading unless bytes_from requests_from made draw xorshift pack join bits_to_bytes from_bits to_bits odd
two-in-fourteen = (refl, refl)

pub none-in-five : (loading 1 ≡ Granted) × (loaded 1 (replicate 5 238) ≡ replicate 5 238) × (load_count 1 (replicate 5 238) ≡ 0)
unfolding loaded load_count loading unless bytes_from requests_from join
none-in-five = (refl, refl, refl)

-- "Refused: 15, seed 0, before any byte is written"
pub nothing-from-0 : (loading 0 ≡ ZeroSeed) × (loaded 0 (replicate 14 238) ≡ replicate 14 238) × (load_count 0 (replicate 14 238) ≡ 0)
unfolding loaded load_count loading unless
nothing-from-0 = (refl, refl, refl)

-- ---- "sure to be well formed under the widest profile only"

-- nobody is enrolled
abbrev begun : Profile → Monitor
begun p = fresh p (replicate subject_count nobody)

-- the replies to the nine above under a profile: 3 where nothing is outside it, since nobody is enrolled, and 2 where something is
abbrev nine : Monitor → List ℕ
nine m = replies (cut 9 request_size (bytes_from 9 12275)) m

-- of the widest profile; with fifteen subjects, with sixty-two objects, with the highest class 10, with all needs but 0
pub profiles-of-nine : (nine (begun (site 16 64 15 65535)) ≡ 3 ∷ 3 ∷ 3 ∷ 3 ∷ 3 ∷ 3 ∷ 3 ∷ 3 ∷ 3 ∷ [])
    × (nine (begun (site 15 64 15 65535)) ≡ 2 ∷ 3 ∷ 3 ∷ 3 ∷ 3 ∷ 3 ∷ 3 ∷ 3 ∷ 3 ∷ [])
    × (nine (begun (site 16 62 15 65535)) ≡ 3 ∷ 3 ∷ 3 ∷ 2 ∷ 3 ∷ 3 ∷ 3 ∷ 3 ∷ 3 ∷ [])
    × (nine (begun (site 16 64 10 65535)) ≡ 3 ∷ 3 ∷ 3 ∷ 3 ∷ 3 ∷ 3 ∷ 2 ∷ 3 ∷ 3 ∷ [])
    × (nine (begun (site 16 64 15 65534)) ≡ 3 ∷ 3 ∷ 3 ∷ 3 ∷ 2 ∷ 3 ∷ 3 ∷ 3 ∷ 3 ∷ [])
unfolding replies respond decode decode_fields fields field bytes_to_bits well_formed fields_formed within mode_allowed unused_zero parent_within implies request cut step checks answer already changed unless bytes_from requests_from made draw xorshift pack join bits_to_bytes from_bits to_bits odd
profiles-of-nine = (refl, refl, refl, refl, refl)
