-- The table that a first day, marks and readings are.
use Rattle.std.specs.Prelude.{ℕ, List}
use Rattle.method.specs.Table.{Table}
use Rattle.table_days.specs.declared.LentTable.{LentTable}

abbrev pub table_of : ℕ → List ℕ → List ℕ → Table
table_of first marks readings = record { first = first; marks = marks; readings = readings }

-- the same of what is lent together
abbrev pub lent : LentTable → Table
lent t = table_of t.first t.marks.now t.readings.now
