-- The program `circmon`: the lines that it prints, for accepted and refused tables and lists of requests, a short last piece, and
-- bytes behind the last request that it reads.
-- Assumes nothing.
use Prim.Native.Nat.{ℕ, zero, suc, ◌+◌, ◌*◌, ◌/◌, ◌<◌, ◌≤◌}
use native.Mathlib.Omega.{arith}
use mathlib.Core.Path.{◌≡◌, refl, sym, ap, ap₂, ◌∙◌}
use mathlib.Core.Bool.{true}
use mathlib.Core.List.{List, [], ◌∷◌, ◌++◌, map, append_assoc, append-nil}
use lib.ListN.{length, take, drop, replicate, length-append, length-take, length-drop}
use lib.Seq.{take_at, drop_at, take_all, take-append-le, drop-append-le}
use lib.Dec.{eqb}
use borrow.Author.Tests.{ne_eqb}
use Rattle.bits.specs.Bits.{odd, to_bits, from_bits, bytes_to_bits, field, cut, join, all_zero}
use Rattle.model.specs.declared.Decision.{Decision}
use Rattle.model.specs.declared.Decision.TheVariants.{WrongLength, OutsideProfile}
use Rattle.model.specs.Tests.{implies, unless}
use Rattle.model.specs.Levels.{compare, level_dominates, dominates, same_label}
use Rattle.model.specs.Modes.{has, add, remove}
use Rattle.model.specs.State.{widest}
use Rattle.model.specs.Decisions.{number, refuses}
use Rattle.model.specs.Profiles.{profile_fits, label_inside, absent_beyond, levels_inside}
use Rattle.model.specs.Hierarchy.{meets, without, parent_live, label_under, labels_rise}
use Rattle.model.specs.Requests.{fields, mode_allowed, unused_zero, parent_within, fields_formed, within, well_formed, request, decode_fields, decode}
use Rattle.model.specs.Companies.{company, compatible, confined}
use Rattle.model.specs.Rules.{simple_all, star_pair, star_from, star_for, star_all, not_lowered, changed, already, checks, answer, step, wall_pair, wall_from, wall_for, wall_all}
use Rattle.model.specs.Runs.{respond, after, replies}
use Rattle.model.specs.Layout.{table_size}
use Rattle.model.specs.Reading.{label_from, label_form, table_from, table_form, table_checks, begin, read_table}
use Rattle.model.specs.Beginnings.{table, Accepted}
use Rattle.model.specs.Program.{pieces, line, lines_after, program}
use Rattle.model.proofs.Tests.{pass, stop, cond-true, cond-false}
use Rattle.model.proofs.Lists.{replies-append}
use Rattle.images.proofs.Images.{table-passed}
use Rattle.refusals.specs.Causes.{not_six_bytes}
use Rattle.refusals.proofs.FirstRefusal.{reply-2-exactly}
use Rattle.runs.specs.Inputs.{SixEach}
use Rattle.runs.specs.MarkedRun.{table_w}

-- ---- pieces

pub whole_length : (qs : List (List ℕ)) → SixEach qs → length (join qs) ≡ 6 * length qs
unfolding join
whole_length [] h = omega arith
whole_length (q ∷ qs) h = length-append q (join qs) ∙ omega (arith, h.0, whole_length qs h.1)

-- whole requests are cut off, and what stands behind them is cut further
pub cut-whole : (qs : List (List ℕ)) → SixEach qs → (n k : ℕ) (rest : List ℕ) → n ≡ k + length qs → cut n 6 (join qs ++ rest) ≡ qs ++ cut k 6 rest
unfolding cut join
cut-whole [] h n k rest e = let p : n ≡ k = omega (arith, e) in ap (λ (j : ℕ). cut j 6 rest) p
cut-whole (q ∷ qs) h zero k rest e = absurd (omega (arith, e))
cut-whole (q ∷ qs) h (suc n) k rest e =
    ap (λ (b : List ℕ). take 6 b ∷ cut n 6 (drop 6 b)) (append_assoc q (join qs) rest)
    ∙ ap₂ (λ (x : List ℕ) (y : List (List ℕ)). x ∷ y) (take_at q (join qs ++ rest) 6 h.0)
    (ap (cut n 6) (drop_at q (join qs ++ rest) 6 h.0) ∙ cut-whole qs h.1 n k rest (omega (arith, e)))

pub pieces_whole : (qs : List (List ℕ)) → SixEach qs → pieces (join qs) ≡ qs
unfolding pieces cut
pieces_whole qs h =
    ap (cut ((length (join qs) + 5) / 6) 6) (sym (append-nil (join qs)))
    ∙ cut-whole qs h ((length (join qs) + 5) / 6) 0 [] (omega (arith, whole_length qs h)) ∙ append-nil qs

-- "a last short piece"
pub pieces-short : (qs : List (List ℕ)) → SixEach qs → (short : List ℕ) → 0 < length short → length short < 6
    → pieces (join qs ++ short) ≡ qs ++ (short ∷ [])
unfolding pieces cut
pieces-short qs h short some less =
    cut-whole qs h ((length (join qs ++ short) + 5) / 6) 1 short (omega (arith, length-append (join qs) short, whole_length qs h))
    ∙ ap (λ (b : List ℕ). qs ++ (b ∷ [])) (take_all 6 short (omega arith))

-- ---- accepted tables

accepted-length : (t : List ℕ) → Accepted (table widest t) → length t ≡ table_size
unfolding read_table begin
accepted-length t e = (table-passed widest t e).0

-- what is printed for an accepted table and at most 24,576 bytes of requests
prints : (t rest : List ℕ) → Accepted (table widest t) → length rest ≤ 24576
    → program (t ++ rest) ≡ join (map line (replies (pieces rest) (read_table widest t).monitor))
unfolding program lines_after
prints t rest e h =
    let size = accepted-length t e in
    let front : take table_size (t ++ rest) ≡ t = take_at t rest table_size size in
    let behind : take 24576 (drop table_size (t ++ rest)) ≡ rest = ap (take 24576) (drop_at t rest table_size size) ∙ take_all 24576 rest h in
    ap₂ (λ (a b : List ℕ). lines_after (read_table widest a) b) front behind ∙ cond-false (refuses (read_table widest t).decision) _ _ (ap refuses e)

-- "one line for each request, the reply in decimal", at most 4,096
pub program-lines : (t : List ℕ) (qs : List (List ℕ)) → Accepted (table widest t) → SixEach qs → length qs ≤ 4096
    → program (t ++ join qs) ≡ join (map line (replies qs (read_table widest t).monitor))
program-lines t qs e h few =
    prints t (join qs) e (omega (arith, whole_length qs h))
    ∙ ap (λ (ps : List (List ℕ)). join (map line (replies ps (read_table widest t).monitor))) (pieces_whole qs h)

-- "A last short piece prints 2"
pub program-short-piece : (t : List ℕ) (qs : List (List ℕ)) (short : List ℕ) → Accepted (table widest t) → SixEach qs → length qs < 4096
    → 0 < length short → length short < 6
    → program (t ++ (join qs ++ short)) ≡ join (map line (replies qs (read_table widest t).monitor ++ (2 ∷ [])))
unfolding replies
program-short-piece t qs short e h few some less =
    let m = (read_table widest t).monitor in
    let two : replies (short ∷ []) (after qs m) ≡ 2 ∷ [] =
    ap (λ (n : ℕ). n ∷ []) ((reply-2-exactly short (after qs m)).1 (not_six_bytes (λ w. absurd (omega (arith, w))))) in
    prints t (join qs ++ short) e (omega (arith, length-append (join qs) short, whole_length qs h))
    ∙ ap (λ (l : List ℕ). join (map line l))
    (ap (λ (ps : List (List ℕ)). replies ps m) (pieces-short qs h short some less) ∙ replies-append qs (short ∷ []) m
    ∙ ap (λ (l : List ℕ). replies qs m ++ l) two)

-- "with bytes after these unread"
pub program-unread : (input rest : List ℕ) → length input ≡ table_size + 6 * 4096 → program (input ++ rest) ≡ program input
unfolding program
program-unread input rest size =
    let front : take table_size (input ++ rest) ≡ take table_size input = take-append-le table_size input rest (omega (arith, size)) in
    let behind : take 24576 (drop table_size (input ++ rest)) ≡ take 24576 (drop table_size input) =
    ap (take 24576) (drop-append-le table_size input rest (omega (arith, size)))
    ∙ take-append-le 24576 (drop table_size input) rest (omega (arith, size, length-drop table_size input)) in
    ap₂ (λ (a b : List ℕ). lines_after (read_table widest a) b) front behind

-- ---- refused tables, under the widest profile

-- "a table that is refused .. prints its number and nothing more"
pub program-refused : (input : List ℕ) → refuses (read_table widest (take table_size input)).decision ≡ true
    → program input ≡ line (number (read_table widest (take table_size input)).decision)
unfolding program lines_after
program-refused input e = cond-true (refuses (read_table widest (take table_size input)).decision) _ _ e

-- "also a short one": 10
pub program-short-table : (input : List ℕ) → length input < table_size → program input ≡ 49 ∷ 48 ∷ 10 ∷ []
unfolding read_table begin table_checks profile_fits absent_beyond levels_inside label_inside line
program-short-table input h =
    let t = take table_size input in
    let ten : (read_table widest t).decision ≡ WrongLength =
    pass _ OutsideProfile _ refl ∙ stop (eqb (length t) table_size) WrongLength _ (ne_eqb (length t) table_size (λ e. absurd (omega (arith, e, length-take table_size input)))) in
    program-refused input (ap refuses ten) ∙ ap (λ (d : Decision). line (number d)) ten

-- ---- computed lines

-- "W with steps 1, 3 and 4 prints `0`, `0`, `1` on three lines"; with two bytes of a fourth request behind them it prints 2 too
abbrev three : List ℕ
three =
    table_w ++ (0x50 ∷ 0x80 ∷ 0x00 ∷ 0x00 ∷ 0x00 ∷ 0x00 ∷ 0x70 ∷ 0x80 ∷ 0x00 ∷ 0x00 ∷ 0x00 ∷ 0x00 ∷ 0x70 ∷ 0x80 ∷ 0x00 ∷ 0x00 ∷ 0x00 ∷ 0x00 ∷ [])

pub printed-lines : (program three ≡ 48 ∷ 10 ∷ 48 ∷ 10 ∷ 49 ∷ 10 ∷ [])
    × (program (three ++ (0x10 ∷ 0x80 ∷ [])) ≡ 48 ∷ 10 ∷ 48 ∷ 10 ∷ 49 ∷ 10 ∷ 50 ∷ 10 ∷ [])
    × (program table_w ≡ [])
unfolding program lines_after line pieces table_w join table_from table_form label_form label_from table_checks profile_fits absent_beyond levels_inside label_inside begin read_table all_zero bytes_to_bits to_bits odd cut from_bits field decode decode_fields fields well_formed fields_formed within mode_allowed unused_zero request respond step replies after checks already changed star_all star_for star_from star_pair wall_all wall_for wall_from wall_pair compatible confined company implies unless answer simple_all has add remove not_lowered same_label dominates level_dominates compare parent_within parent_live label_under labels_rise meets without
printed-lines = (refl, refl, refl)

-- 41 bytes print 10, and a bit in the record of subject 2, who is absent there, prints 11
pub printed-refusals : (program (take 41 table_w) ≡ 49 ∷ 48 ∷ 10 ∷ [])
    × (program (0x88 ∷ 0x00 ∷ 0x0C ∷ 0xC0 ∷ 0x00 ∷ 0xD0 ∷ replicate 36 0) ≡ 49 ∷ 49 ∷ 10 ∷ [])
unfolding program lines_after line pieces table_w join table_from table_form label_form label_from table_checks profile_fits absent_beyond levels_inside label_inside begin read_table all_zero bytes_to_bits to_bits odd cut from_bits unless
printed-refusals = (refl, refl)

-- numbers of one digit and of two: 0, 9, 10 and 13
pub decimal-lines : map line (0 ∷ 9 ∷ 10 ∷ 13 ∷ []) ≡ (48 ∷ 10 ∷ []) ∷ (57 ∷ 10 ∷ []) ∷ (49 ∷ 48 ∷ 10 ∷ []) ∷ (49 ∷ 51 ∷ 10 ∷ []) ∷ []
unfolding line
decimal-lines = refl
