use Rattle.std.proofs.Common.{◌≡◌, take}
use Rattle.model.specs.Sheet.{Sheet, stages, edges}
use Rattle.order.specs.Given.{Given}
use Rattle.order.specs.Pending.{CanRelease}
use Rattle.order.specs.Ready.{Searching}
use Rattle.order.proofs.Releasing.{Releasing}
use Rattle.order.proofs.search.Search.release.Given as goal

abbrev pub invariant-loop-e : goal.invariant-loop-e
invariant-loop-e l =
    let r = l.self-inside in
    record {
      same_prev : l.e-iterator.prev.now ≡ l.chains.prev.now;
      searching : Searching r.stages r.pending r.behind l.from r.reached;
      releasing : (s : Sheet) → Given s (edges s) (stages s) l.ends l.chains.head.now l.chains.prev.now → CanRelease s l.stage l.fn.self
          → Releasing s l.ends l.stage l.fn.self (take r.stages r.pending) l.e-iterator.at;
    }
