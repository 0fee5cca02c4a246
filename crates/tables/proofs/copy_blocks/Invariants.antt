use mathlib.Core.Path.{◌≡◌}
use Rattle.tables.specs.Entries.{copied, in_blocks}
use Rattle.tables.proofs.copy_blocks.Given as goal

abbrev pub invariant-loop-e : goal.invariant-loop-e
invariant-loop-e l = l.table ≡ copied (in_blocks l.e l.kinds) l.source l.initial.table
