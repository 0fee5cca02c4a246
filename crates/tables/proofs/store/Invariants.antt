use Prim.Native.Nat.{min}
use mathlib.Core.Path.{◌≡◌}
use lib.ListN.{length}
use Rattle.tables.specs.Entries.{stored}
use Rattle.tables.proofs.store.Given as goal

abbrev pub invariant-loop-k : goal.invariant-loop-k
invariant-loop-k l = l.table ≡ stored l.values 0 (min l.k (length l.values)) l.at l.initial.table
