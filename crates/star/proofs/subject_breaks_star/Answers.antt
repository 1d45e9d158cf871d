-- `star::subject_breaks_star` meets its contract.
-- Assumes nothing.
use Rattle.std.proofs.Common.{refl, sym, ap, ◌∙◌, not}
use Rattle.model.specs.State.{no_object, object_at}
use Rattle.unit.specs.Rows.{object_in, objects_in}
use Rattle.unit.proofs.Tabulated.{tabulate-length}
use Rattle.star.proofs.Listed.{listed-all, star-pairs}
use Rattle.star.proofs.subject_breaks_star.Goals as goal

pub returns : goal.returns
returns c = let l = objects_in c.args.unit.now in
    let C = c.requires.s_lt_subject_count.1 in
    let L = c.list_held-held.ensures in
    c.pair_offends.ensures
    ∙ sym (ap not (star-pairs c.args.s l (tabulate-length 64 (object_in c.args.unit.now)) no_object (object_at l) (λ k w. refl) _ _
    (listed-all _ _ _ C.numbers C.reads L.reads) (listed-all _ _ _ C.numbers C.alters L.alters)))
