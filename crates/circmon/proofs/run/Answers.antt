-- What was read is the first bytes of the input, and what is printed is the text for them.
use Rattle.std.proofs.Common.{◌≡◌, length, replicate, take, ap, ◌∙◌, rules}
use Rattle.model.specs.Program.{program}
use Rattle.circmon.proofs.Reading.{part_read, part_unread, program-take, take-put, text_of_part, appends_text, on_ok}
use Rattle.circmon.proofs.run.Goals as goal

pub returns-clause-printed : goal.returns-clause-printed
returns-clause-printed g c =
    let read = c.in_ok-count.ensures in
    let size : length c.fill.new.buffer ≡ 24618 = search rules in
    let part = part_read _ _ c.fill.new.buffer c.in_ok-count.count 24618 read.bytes read.within size read.end in
    let told = c.program-printed.ensures in
    let text = take c.program-printed.result.len c.program-printed.result.bytes in
    let input = take c.in_ok-count.count c.fill.new.buffer in
    let printed : text ≡ program input = ap (take c.program-printed.result.len) told.0 ∙ take-put (replicate 12288 0) (program input) _ told.1 in
    appends_text program c.write_all.result _ _ _ text c.write_all.ensures.bytes (text_of_part program 24618 program-take _ input text printed part)

pub returns-clause-unread : goal.returns-clause-unread
returns-clause-unread g c =
    let read = c.in_ok-count.ensures in
    let size : length c.fill.new.buffer ≡ 24618 = search rules in
    on_ok c.write_all.result _ (part_unread _ _ c.fill.new.buffer c.in_ok-count.count 24618 read.bytes read.within size read.end)
