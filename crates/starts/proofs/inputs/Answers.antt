-- `starts::inputs` meets its contract: what is left of the chain is what is still to be counted. Assumes nothing.
use Rattle.std.proofs.Common.{rules}
use Rattle.model.specs.Sheet.{Sheet, edges}
use Rattle.adjacency.proofs.Adjacency.{Step}
use Rattle.starts.specs.Given.{StageGiven}
use Rattle.starts.proofs.AlongChain.{reached_none, reached_step, step_on, edge_tabled}
use Rattle.starts.proofs.inputs.Goals.{In-Some}
use Rattle.starts.proofs.inputs.Goals as goal

-- the walk has come to edge e, whichever sheet it is of
step : (c : In-Some) (s : Sheet) → StageGiven s c.args.view.now c.args.chains.now c.args.starts.now c.args.j
    → Step c.args.view.now.ends.now 1 (edges s) c.args.j c.loop-e.e-iterator.at c.in-Some.e c.next.new.self.at
step c s g =
    let l = c.loop-e.invariant in
    let next = c.in-Some.ensures.steps in
    step_on g (l.reached s g) l.prev next.edge next.link

pub loop-e-init : goal.loop-e-init
loop-e-init c = record {
  four = search rules;
  prev = search rules;
  reached = λ s g. reached_none g (search rules);
}

pub later-requires : goal.later-requires
later-requires c =
    let p = c.requires in
    (p.0, edge_tabled p.1 (step (goal.at.later-requires c).In-Some p.0 p.1))

pub loop-e-preserved : goal.loop-e-preserved
loop-e-preserved c =
    let l = c.loop-e.invariant in
    let at = (goal.at.loop-e-preserved c).In-Some in
    record {
      four = search rules;
      prev = search rules;
      reached = λ s g.
          let step = step at s g in
          reached_step g c.in-Some.ensures.steps.edge step c.loop-e.times _ (c.later.ensures s (edge_tabled g step)) (l.reached s g);
    }
