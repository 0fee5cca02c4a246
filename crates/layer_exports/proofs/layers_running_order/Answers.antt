-- `layer_exports::layers_running_order` meets its contract: the chains are those of the tables. Assumes nothing.
use Rattle.std.proofs.Common.{ap, ◌∙◌}
use Rattle.model.specs.Sheet.{Sheet}
use Rattle.model.specs.Held.{bit}
use Rattle.model.proofs.Bit.{byte_is}
use Rattle.order.specs.Given as Order
use Rattle.layer_exports.proofs.layers_running_order.Goals.{After-fronts}
use Rattle.layer_exports.proofs.layers_running_order.Goals as goal

pub fronts-requires : goal.fronts-requires
fronts-requires c = let (s, g) = c.requires.given in (c.args.ends.now, 0, c.args.edges, g.chained)

given : (c : After-fronts) (s : Sheet) → Order.Given s c.args.edges c.args.stages c.args.ends.now c.args.head.now c.args.prev.now
    → Order.Given s c.args.edges c.args.stages c.args.ends.now c.fronts.result.head.now c.fronts.result.prev.now
given c s g =
    record {
      edges_given = g.edges_given;
      stages_are = g.stages_are;
      chained = c.fronts.ensures c.args.ends.now 0 c.args.edges g.chained;
    }

pub running_order-requires-clause-given : goal.running_order-requires-clause-given
running_order-requires-clause-given c =
    let (s, g) = c.requires.given in
    (s, given (goal.at.running_order-requires-clause-given c).After-fronts s g)

pub returns : goal.returns
returns c =
    λ s g.
    let e = c.running_order.ensures s (given (goal.at.returns c).After-fronts s g) in
    (c.into.ensures ∙ byte_is _ ∙ ap bit e.0, e.1)
