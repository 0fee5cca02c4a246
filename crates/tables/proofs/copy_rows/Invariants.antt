use mathlib.Core.Path.{◌≡◌}
use Rattle.tables.specs.Entries.{copied, in_rows}
use Rattle.tables.proofs.copy_rows.Given as goal

abbrev pub invariant-loop-r : goal.invariant-loop-r
invariant-loop-r l = l.table ≡ copied (in_rows l.first l.r l.kinds) l.source l.initial.table
