use Rattle.std.proofs.Common.{◌≡◌, List, ℕ, length}
use Rattle.model.specs.Sheet.{Sheet}
use Rattle.order.specs.Given.{EdgesGiven}
use Rattle.order.specs.Ready.{Searching}
use Rattle.order.proofs.Counts.{Counting}
use Rattle.order.proofs.search.Search.new.Given as goal

abbrev pub invariant-loop-target : goal.invariant-loop-target
invariant-loop-target l =
    let s = l.search-inside in
    record {
      full : length s.pending ≡ 256;
      stages : s.stages ≡ l.stages;
      searching : (pending : List ℕ) → length pending ≡ 256 → Searching s.stages pending s.behind s.from s.reached;
      counting : (s : Sheet) → EdgesGiven s l.edges l.ends → Counting s l.target-index l.search-inside.pending;
    }
