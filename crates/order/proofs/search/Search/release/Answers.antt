-- `Search::release` meets its contract: the walk has released the edges from its place on. Assumes nothing.
use Rattle.std.proofs.Common.{◌+◌, ◌*◌, get_or, ◌∙◌, arith}
use Rattle.model.specs.Sheet.{Sheet, stages, edges}
use Rattle.order.specs.Given.{Given}
use Rattle.order.specs.Pending.{CanRelease}
use Rattle.order.proofs.Behind.{released}
use Rattle.order.proofs.Releasing.{ReleaseStep, releasing_start, releasing_more, releasing_done}
use Rattle.order.proofs.search.Search.release.Goals.{In-Some}
use Rattle.order.proofs.search.Search.release.Goals as goal

-- the edge that is released, of whichever sheet it is
step : (c : In-Some) → (s : Sheet) → Given s (edges s) (stages s) c.args.ends.now c.args.chains.now.head.now c.args.chains.now.prev.now
    → CanRelease s c.args.stage c.args.self.now
    → ReleaseStep s c.args.ends.now c.args.stage c.args.self.now c.loop-e.self-inside.stages c.loop-e.self-inside.pending
    (get_or c.args.ends.now (2 * c.in-Some.e + 1) 0) c.next.new.self.at
step c s g r =
    let l = c.loop-e.invariant in
    let t = c.in-Some.ensures.steps in
    releasing_more g c.args.stage r _ _ _ c.in-Some.e _ l.searching.room (l.releasing s g r) t.edge (t.link ∙ rw l.same_prev)

pub loop-e-init : goal.loop-e-init
loop-e-init c =
    let i = c.into_iter-e-iterator.ensures.into_iter_gives in
    record {
      same_prev = rw i c.of-e-items.ensures.prev;
      searching = c.self.invariant;
      releasing = λ s g r. rw (c.self.view_is, i, c.of-e-items.ensures.at) (releasing_start g _ r);
    }

pub overflow_sub-left : goal.overflow_sub-left
overflow_sub-left c =
    let g = c.requires.given in
    omega (arith, (step (goal.at.overflow_sub-left c).In-Some g.0 g.1 g.2).some_pending)

pub loop-e-preserved : goal.loop-e-preserved
loop-e-preserved c =
    let l = c.loop-e.invariant in
    let g = c.requires.given in
    let here = (goal.at.loop-e-preserved c).In-Some in
    let t = step here g.0 g.1 g.2 in
    record {
      same_prev = c.in-Some.ensures.steps.prev ∙ l.same_prev;
      searching = rw (c.note-from.ensures.from, c.note-from.ensures.behind) (released l.searching _ _ t.within t.some_pending);
      releasing = λ s g r. (step here s g r).after;
    }

pub returns : goal.returns
returns c = λ s g r. releasing_done g c.args.stage r _ _ (c.loop-e.invariant.releasing s g r) c.in-None.ensures.steps
