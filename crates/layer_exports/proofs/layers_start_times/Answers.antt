-- `layer_exports::layers_start_times` meets its contract: the view and the chains are of the tables. Assumes nothing.
use Rattle.std.proofs.Common.{◌≡◌, ℕ, length, take, subst}
use Rattle.model.specs.Sheet.{Sheet, stages, edges}
use Rattle.model.proofs.Held.{order_front}
use Rattle.adjacency.specs.Adjacency.{Chained}
use Rattle.starts.specs.Given as Starts
use Rattle.layer_exports.specs.Given.{ToStart}
use Rattle.layer_exports.proofs.layers_start_times.Goals.{After-fronts}
use Rattle.layer_exports.proofs.layers_start_times.Goals as goal

pub fronts-requires : goal.fronts-requires
fronts-requires c = let (s, g, n) = c.requires.ordered in (c.args.ends.now, 1, edges s, rw n g.chained)

ordered : (c : After-fronts) (s : Sheet)
    → ToStart s c.args.kinds c.args.durations.now c.args.ends.now c.args.waits.now c.args.head.now c.args.prev.now c.args.order.now
    → c.args.stages ≡ stages s
    → Starts.Ordered s (record { kinds = c.args.kinds; durations = c.args.durations; ends = c.args.ends; waits = c.args.waits }) c.fronts.result
    (take c.args.stages c.args.order.now) × (length (take c.args.stages c.args.order.now) ≡ stages s)
ordered c s g n =
    let u = order_front g.acyclic g.order_in n in
    let chained = subst (λ (k : ℕ). Chained c.args.ends.now 1 (edges s) k c.fronts.result.head.now c.fronts.result.prev.now) n
    (c.fronts.ensures c.args.ends.now 1 (edges s) (rw n g.chained)) in
    (record { given = record { view_of = g.held; chained = chained }; acyclic = g.acyclic; order_in = u.0 }, u.1)

pub start_times-requires-clause-ordered : goal.start_times-requires-clause-ordered
start_times-requires-clause-ordered c =
    let (s, g, n) = c.requires.ordered in
    let o = ordered (goal.at.start_times-requires-clause-ordered c).After-fronts s g n in
    (s, o.0, o.1)

pub returns : goal.returns
returns c = λ s g n. let o = ordered (goal.at.returns c).After-fronts s g n in c.start_times.ensures s o.0 o.1
