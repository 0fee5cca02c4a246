use Rattle.std.proofs.Common.{◌≡◌, ℕ, ◌<◌, ◌≤◌, length, get_or, max}
use Rattle.model.specs.Sheet.{Sheet}
use Rattle.model.specs.Starts.{arrival}
use Rattle.starts.specs.Entries.{entry}
use Rattle.starts.specs.Given.{EdgeTabled}
use Rattle.starts.proofs.arrivals.later.Given as goal

abbrev pub invariant-loop-k : goal.invariant-loop-k
invariant-loop-k l = record {
  four : length l.times ≡ 4;
  renewed : (s : Sheet) → EdgeTabled s l.view l.starts l.e → (k : ℕ) → k < l.k
      → get_or l.times k 0 ≡ max (get_or l.initial.times k 0) (arrival s (entry l.starts) l.e k);
  kept : (k : ℕ) → l.k ≤ k → get_or l.times k 0 ≡ get_or l.initial.times k 0;
}
