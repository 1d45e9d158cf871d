-- What any bits read as a table or as objects give: lengths, numbers that fit, and no object where none is live.
-- Assumes nothing.
use Prim.Native.Nat.{ℕ, ◌+◌, ◌<◌}
use native.Mathlib.Omega.{arith}
use mathlib.Core.Path.{◌≡◌, sym, ◌∙◌, subst}
use mathlib.Core.Bool.{Bool}
use mathlib.Core.List.{List}
use lib.ListN.{length, take, drop, length-map, length-replicate}
use Rattle.bits.specs.Bits.{bytes_to_bits, first}
use Rattle.bits.specs.Laws.{from_bits-take}
use Rattle.bits.specs.Records.{length_cut}
use Rattle.std.specs.Prelude.{None}
use Rattle.model.specs.declared.Subject.{Subject}
use Rattle.model.specs.declared.Profile.{Profile}
use Rattle.model.specs.declared.Monitor.{Monitor}
use Rattle.model.specs.Companies.{companies_width}
use Rattle.model.specs.State.{subject_count, object_count, class_width, needs_width, nobody, no_object, object, fresh, LabelFits, ObjectShape, WellFormed}
use Rattle.model.specs.Layout.{label_width, owner_width, label_offset, set_width, pair_width, companies_offset, sets_offset, sets_width, parent_width, parent_offset, object_width, table_size}
use Rattle.model.specs.Reading.{label_from, subject_from, rights_from, held_from, sets_in, live_from, object_from, table_records, object_records, table_from, objects_from, monitor_from}
use Rattle.model.proofs.Tests.{cond-all, map-all, clash, replicate-at}
use Rattle.invariants.proofs.Form.{no-object-shape}
use Rattle.images.specs.Tables.{TableFits}

-- a state that is well formed, but for who is enrolled
pub record Shape (m : Monitor) : Type 0 where
  pub table : TableFits m.subjects
  pub objects-length : length m.objects ≡ 64
  pub objects : (o : ℕ) → ObjectShape (object m o)

pub shape_of : (m : Monitor) → WellFormed m → Shape m
shape_of m W =
    record {
      table = record { subjects_length = W.subjects_length; clearances_fit = W.clearances_fit };
      objects-length = W.objects-length;
      objects = λ o. (W.objects_formed o).shape;
    }

pub fresh-shape : (p : Profile) (l : List Subject) → TableFits l → Shape (fresh p l)
fresh-shape p l t =
    record {
      table = t;
      objects-length = length-replicate 64 no_object;
      objects = λ o. subst ObjectShape (sym (replicate-at no_object 64 o)) no-object-shape;
    }

label-shape : (b : List Bool) → LabelFits (label_from b)
unfolding label_from
label-shape b = cond-all LabelFits (first b) _ None (λ e. (from_bits-take class_width (drop 1 b), from_bits-take needs_width (drop (1 + class_width) b))) (λ e. tt)

live-shape : (b : List Bool) → ObjectShape (live_from b)
live-shape b =
    record {
      rights_length = length-map (sets_in b) rights_from ∙ length_cut subject_count pair_width (take sets_width (drop sets_offset b));
      held_length = length-map (sets_in b) held_from ∙ length_cut subject_count pair_width (take sets_width (drop sets_offset b));
      rights-fit = map-all (λ n. n < 16) rights_from (sets_in b) 0 (λ r. from_bits-take set_width (drop 0 r)) (omega arith);
      held_fit = map-all (λ n. n < 16) held_from (sets_in b) 0 (λ r. from_bits-take set_width (drop set_width r)) (omega arith);
      owner_fits = from_bits-take owner_width (drop 1 b);
      label_fits = label-shape (take label_width (drop label_offset b));
      companies_fit = from_bits-take companies_width (drop companies_offset b);
      parent_fits = from_bits-take parent_width (drop parent_offset b);
      not_live = λ e. clash e;
    }

object-shape : (b : List Bool) → ObjectShape (object_from b)
unfolding object_from
object-shape b = cond-all ObjectShape (first b) _ no_object (λ e. live-shape b) (λ e. no-object-shape)

pub table-shape : (b : List ℕ) → TableFits (table_from b)
unfolding table_from
table-shape b =
    record {
      subjects_length = length-map (table_records b) subject_from ∙ length_cut subject_count label_width (bytes_to_bits b);
      clearances_fit = map-all (λ (x : Subject). LabelFits x.clearance) subject_from (table_records b) nobody label-shape tt;
    }

pub image-shape : (p : Profile) (b : List ℕ) → Shape (monitor_from p b)
unfolding monitor_from objects_from
image-shape p b =
    record {
      table = table-shape (take table_size b);
      objects-length = length-map (object_records (drop table_size b)) object_from ∙ length_cut object_count object_width (bytes_to_bits (drop table_size b));
      objects = map-all ObjectShape object_from (object_records (drop table_size b)) no_object object-shape no-object-shape;
    }
