-- What is read of bytes that have the length of a table.
-- Assumes nothing.
use mathlib.Core.Path.{◌≡◌}
use mathlib.Core.List.{List}
use Prim.Native.Nat.{ℕ}
use lib.ListN.{length}
use borrow.Author.Tests.{eq-eqb}
use Rattle.model.specs.Layout.{table_size}
use Rattle.model.specs.Reading.{table_from, table_form}
use Rattle.image_records.specs.Records.{subjects_read}

pub table-read : (s : List ℕ) → length s ≡ table_size → subjects_read s ≡ record { subjects = table_from s; formed = table_form s }
unfolding subjects_read
table-read s h = rw (eq-eqb (length s) table_size h)
