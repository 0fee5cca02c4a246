-- `schedule::start_table` meets its contract: the starts by the chains of the edges into each stage, and the finish from them. Assumes nothing.
use Rattle.model.specs.Sheet.{Sheet, stages, edges}
use Rattle.adjacency.specs.Adjacency.{Chained}
use Rattle.schedule.specs.Given.{Ordered}
use Rattle.schedule.proofs.Layers.{stages_below, chains_of, starts_after, to_start, to_finish}
use Rattle.schedule.proofs.start_table.Goals.{After-chains}
use Rattle.schedule.proofs.start_table.Goals as goal

pub chain-requires-clause-ends_below : goal.chain-requires-clause-ends_below
chain-requires-clause-ends_below c = stages_below c.requires.ordered.1.held

chained : (c : After-chains) (s : Sheet) → Ordered s c.args.view.now c.args.sizes c.args.order.now
    → Chained c.args.view.now.ends.now 1 (edges s) (stages s) c.chains.result.head.now c.chains.result.prev.now
chained c s o = chains_of o.held 1 c.chain.ensures c.chains.ensures.head c.chains.ensures.prev

pub start_times-requires-clause-ordered : goal.start_times-requires-clause-ordered
start_times-requires-clause-ordered c =
    let (s, o) = c.requires.ordered in
    (s, to_start o (chained (goal.at.start_times-requires-clause-ordered c).After-chains s o), o.order_whole)

pub finish_time-requires : goal.finish_time-requires
finish_time-requires c =
    let (s, o) = c.requires.ordered in
    let e = c.start_times.ensures s (to_start o (chained (goal.at.finish_time-requires c).After-chains s o)) o.order_whole in
    (s, to_finish o (starts_after o.held.in_range _ c.requires.in_bounds e))

pub returns : goal.returns
returns c =
    λ s o.
    let e = c.start_times.ensures s (to_start o (chained (goal.at.returns c).After-chains s o)) o.order_whole in
    (c.finish_time.ensures s (to_finish o (starts_after o.held.in_range _ c.requires.in_bounds e)), e)
