-- The checks 12, 6, 7 and 8 side by side: at one subject and one object, at one object, over all objects.
-- Assumes nothing.
use Rattle.std.specs.Prelude.{ℕ, ◌&&◌, ◌||◌, List, eqb}
use Rattle.model.specs.Levels.{Label, subset, present, dominates}
use Rattle.model.specs.declared.Subject.{Subject}
use Rattle.model.specs.declared.Object.{Object}
use Rattle.model.specs.Tests.{all_of, implies}
use Rattle.model.specs.Modes.{any_observes, any_needs_label}
use Rattle.model.specs.Rules.{simple_all}
use Rattle.model.specs.Reading.{only_enrolled, within_matrix, held_labelled}
use Rattle.checking.specs.declared.Findings.{Findings}

-- passed at two places
abbrev pub both : Findings → Findings → Findings
both a b =
    record {
      enrolled = a.enrolled && b.enrolled;
      matrix = a.matrix && b.matrix;
      labelled = a.labelled && b.labelled;
      simple = a.simple && b.simple;
    }

-- the test of each check at one subject and one object
abbrev pub at : Label → Label → ℕ → ℕ → Findings
at clearance label rights held =
    record {
      enrolled = present clearance || (eqb rights 0 && eqb held 0);
      matrix = subset 4 held rights;
      labelled = implies (any_needs_label held) (present label);
      simple = implies (any_observes held) (dominates clearance label);
    }

-- the checks of the model at one object
abbrev pub of_object : List Subject → Object → Findings
of_object l ob = record { enrolled = only_enrolled l ob; matrix = within_matrix ob; labelled = held_labelled ob; simple = simple_all l ob }

-- over objects
abbrev pub of_objects : List Subject → List Object → Findings
of_objects l obs =
    record {
      enrolled = all_of (only_enrolled l) obs;
      matrix = all_of within_matrix obs;
      labelled = all_of held_labelled obs;
      simple = all_of (simple_all l) obs;
    }
