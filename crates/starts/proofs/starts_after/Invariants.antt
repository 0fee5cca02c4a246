use Rattle.std.proofs.Common.{◌≡◌, ℕ, ◌<◌, ◌≤◌, get_or}
use Rattle.model.specs.Sheet.{Sheet}
use Rattle.model.specs.Starts.{start_after}
use Rattle.starts.proofs.starts_after.Given as goal

abbrev pub invariant-loop-time : goal.invariant-loop-time
invariant-loop-time l = record {
  renewed : (s : Sheet) (j k : ℕ) → k < l.time-index → get_or l.time-items k 0 ≡ start_after s j k (get_or l.initial.time-items k 0);
  kept : (k : ℕ) → l.time-index ≤ k → get_or l.time-items k 0 ≡ get_or l.initial.time-items k 0;
}
