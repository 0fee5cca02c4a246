-- `layer_exports::layers_choose_copies` meets its contract: the view and the chains are of the tables. Assumes nothing.
use Rattle.std.proofs.Common.{ℕ, subst}
use Rattle.model.specs.Sheet.{Sheet, edges}
use Rattle.adjacency.specs.Adjacency.{Chained}
use Rattle.copies.specs.Given as Copies
use Rattle.layer_exports.specs.Given.{ToCopy}
use Rattle.layer_exports.proofs.layers_choose_copies.Goals.{After-fronts}
use Rattle.layer_exports.proofs.layers_choose_copies.Goals as goal

pub fronts-requires : goal.fronts-requires
fronts-requires c = let (s, g) = c.requires.ordered in (c.args.ends.now, 0, edges s, rw g.order_whole g.chained)

ordered : (c : After-fronts) (s : Sheet)
    → ToCopy s c.args.kinds c.args.durations.now c.args.ends.now c.args.waits.now c.args.head.now c.args.prev.now c.args.order.now c.args.starts.now
    → Copies.Ordered s (record { kinds = c.args.kinds; durations = c.args.durations; ends = c.args.ends; waits = c.args.waits }) c.fronts.result
    c.args.order.now c.args.starts.now
ordered c s g =
    let chained = subst (λ (n : ℕ). Chained c.args.ends.now 0 (edges s) n c.fronts.result.head.now c.fronts.result.prev.now) g.order_whole
    (c.fronts.ensures c.args.ends.now 0 (edges s) (rw g.order_whole g.chained)) in
    record {
      given = record { view_of = g.held; acyclic = g.acyclic; chained = chained; starts_in = g.starts_in };
      order_in = g.order_in;
      order_whole = g.order_whole;
    }

pub choose_copies-requires-clause-ordered : goal.choose_copies-requires-clause-ordered
choose_copies-requires-clause-ordered c = let (s, g) = c.requires.ordered in (s, ordered (goal.at.choose_copies-requires-clause-ordered c).After-fronts s g)

pub returns : goal.returns
returns c = λ s g. c.choose_copies.ensures s (ordered (goal.at.returns c).After-fronts s g)
