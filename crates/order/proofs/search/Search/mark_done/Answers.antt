-- `Search::mark_done` meets its contract: a stage behind the search leaves the set. Assumes nothing.
use Rattle.order.proofs.Behind.{done_ahead, done_behind}
use Rattle.order.proofs.search.Search.mark_done.Goals.{then-stage-self, else-stage-self}
use Rattle.order.proofs.search.Search.mark_done.Goals as goal

pub invariant_of-self : goal.invariant_of-self
invariant_of-self c =
    let s = c.self in
    elim c.if-stage-self.branch [
      | then-stage-self w ↦ rw (w.self-inside-is, w.remove.ensures) (done_behind s.invariant s.view_is _ c.requires w.if-stage-self.true)
      | else-stage-self w ↦ rw w.self-inside-is (done_ahead s.invariant s.view_is _ c.requires w.if-stage-self.false)
    ]
