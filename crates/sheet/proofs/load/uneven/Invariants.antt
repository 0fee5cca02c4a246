-- `sheet::load::uneven` meets its contract: it counts at most one field or one longer number for each step. Assumes nothing.
use Rattle.std.proofs.Common.{◌≤◌}
use Rattle.sheet.proofs.load.uneven.Given as goal

abbrev pub invariant-loop : goal.invariant-loop
invariant-loop l = (l.fields ≤ l.counter) × (l.longer ≤ l.counter)
