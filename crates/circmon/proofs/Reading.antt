-- What is read of an input into a room, and that the program prints the same for it as for the whole input.
-- Assumes nothing.
use Rattle.std.proofs.Common.{◌≡◌, ℕ, ◌+◌, ◌*◌, ◌<◌, ◌≤◌, List, [], ◌++◌, length, take, drop, Some, None, Result, Ok, Err, IfSome, OnOk, subst, ap, ◌∙◌, arith, length-take-le}
use Rattle.std.proofs.lemmas.List.{drop-take}
use Rattle.std.proofs.lemmas.Grind.{common_steps}
use Rattle.std.specs.Prelude.{Option}
use Rattle.std.specs.Io.KnownBytes.{Appends, Consumes, IsAtEnd}
use Rattle.model.specs.Buffers.{put}
use Rattle.model.specs.State.{widest}
use Rattle.model.specs.Requests.{request_size}
use Rattle.model.specs.Layout.{table_size}
use Rattle.model.specs.Reading.{read_table}
use Rattle.model.specs.Program.{most_requests, lines_after, program}

-- ---- the part of an input that is read: until the room is full or the input ends

first-bytes : (part xs ys : List ℕ) (most : ℕ) → xs ≡ part ++ ys → length part ≤ most → (length part < most → ys ≡ []) → part ≡ take most xs
first-bytes part xs ys most e fits end = grind (arith, common_steps)

later-bytes : (part xs ys : List ℕ) (most : ℕ) → xs ≡ part ++ ys → length part ≤ most → (length part < most → ys ≡ []) → ys ≡ drop most xs
later-bytes part xs ys most e fits end = grind (arith, common_steps)

pub part_read : (before after : Option (List ℕ)) (room : List ℕ) (n most : ℕ)
    → Consumes before after (take n room) → n ≤ length room → length room ≡ most → (n < length room → IsAtEnd after)
    → IfSome before (λ xs. take n room ≡ take most xs)
part_read None after room n most taken fits size end = tt
part_read (Some xs) None room n most taken fits size end = absurd taken
part_read (Some xs) (Some ys) room n most taken fits size end =
    let long = length-take-le n room fits in
    first-bytes (take n room) xs ys most taken (omega (arith, long)) (λ h. end (omega (arith, long)))

pub part_unread : (before after : Option (List ℕ)) (room : List ℕ) (n most : ℕ)
    → Consumes before after (take n room) → n ≤ length room → length room ≡ most → (n < length room → IsAtEnd after)
    → IfSome before (λ xs. after ≡ Some (drop most xs))
part_unread None after room n most taken fits size end = tt
part_unread (Some xs) None room n most taken fits size end = absurd taken
part_unread (Some xs) (Some ys) room n most taken fits size end =
    let long = length-take-le n room fits in
    ap Some (later-bytes (take n room) xs ys most taken (omega (arith, long)) (λ h. end (omega (arith, long))))

-- ---- what is printed

take_twice : (n : ℕ) (xs : List ℕ) → take n (take n xs) ≡ take n xs
take_twice n xs = grind (arith, common_steps)

take_both : (a b : ℕ) (xs : List ℕ) → take a (take (a + b) xs) ≡ take a xs
take_both a b xs = grind (arith, common_steps)

drop_both : (a b : ℕ) (xs : List ℕ) → take b (drop a (take (a + b) xs)) ≡ take b (drop a xs)
drop_both a b xs = ap (take b) (drop-take a b xs) ∙ take_twice b (drop a xs)

-- bytes behind the table and the most requests print nothing
pub program-take : (xs : List ℕ) → program (take (table_size + request_size * most_requests) xs) ≡ program xs
unfolding program
program-take xs =
    let rest = take (request_size * most_requests) (drop table_size (take (table_size + request_size * most_requests) xs)) in
    ap (λ (t : List ℕ). lines_after (read_table widest t) rest) (take_both table_size (request_size * most_requests) xs)
    ∙ ap (lines_after (read_table widest (take table_size xs))) (drop_both table_size (request_size * most_requests) xs)

-- the text in front of a buffer
pub take-put : (s text : List ℕ) (n : ℕ) → n ≡ length text → take n (put s 0 text) ≡ text
unfolding put
take-put s text n e = grind (arith, common_steps)

-- the same text for the part as for the whole
pub text_of_part : (f : List ℕ → List ℕ) (most : ℕ) → ((xs : List ℕ) → f (take most xs) ≡ f xs) → (before : Option (List ℕ)) (part text : List ℕ)
    → text ≡ f part → IfSome before (λ xs. part ≡ take most xs) → IfSome before (λ xs. text ≡ f xs)
text_of_part f most law None part text e same = tt
text_of_part f most law (Some xs) part text e same = e ∙ ap f same ∙ law xs

pub appends_text : {E : Type 0} (f : List ℕ → List ℕ) (r : Result (Unit {0}) E) (before old new : Option (List ℕ)) (text : List ℕ)
    → OnOk r (Appends old new text) → IfSome before (λ xs. text ≡ f xs) → OnOk r (IfSome before (λ xs. Appends old new (f xs)))
appends_text f (Err e) before old new text written same = tt
appends_text f (Ok u) None old new text written same = tt
appends_text f (Ok u) (Some xs) old new text written same = subst (Appends old new) same written

pub on_ok : {E : Type 0} (r : Result (Unit {0}) E) (P : Type 0) → P → OnOk r P
on_ok (Err e) P p = tt
on_ok (Ok u) P p = p
