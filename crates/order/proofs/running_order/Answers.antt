-- `order::running_order` meets its contract: the loop has written the first stages of the order. Assumes nothing.
use Rattle.std.proofs.Common.{◌<◌, ℕ, length, arith}
use Rattle.std.proofs.lemmas.List.{set-append_left, set-get_or, length-take-le}
use Rattle.model.specs.Sheet.{Sheet}
use Rattle.order.specs.Given.{Given}
use Rattle.order.specs.Pending.{CanRelease}
use Rattle.order.proofs.Given.{own_numbers}
use Rattle.order.proofs.Running.{running_marked, running_more, running_stuck, running_done}
use Rattle.order.proofs.running_order.Goals.{After-mark_done}
use Rattle.order.proofs.running_order.Goals as goal

-- the edges of the stage that is done can be released, of whichever sheet it is
can_release : (c : After-mark_done) → (s : Sheet)
    → Given s c.args.edges c.args.stages c.args.ends.now c.args.chains.now.head.now c.args.chains.now.prev.now
    → CanRelease s c.in-Some.stage c.mark_done.new.self
can_release c s g = rw c.mark_done.ensures (running_marked (c.loop-slot.invariant s g) _ c.in-Some.ensures g.edges_given.in_range)

pub returns-in_default : goal.returns-in_default
returns-in_default c = λ s g.
    rw set-get_or
    (running_stuck (c.loop-slot.invariant s g) c.in_default.ensures
    (omega (arith, length-take-le {A = ℕ}, g.stages_are)))

pub release-requires : goal.release-requires
release-requires c =
    let g = c.requires.given in
    record { given = (g.0, own_numbers g.1, can_release (goal.at.release-requires c).After-mark_done g.0 g.1) }

pub loop-slot-preserved : goal.loop-slot-preserved
loop-slot-preserved c = λ s g.
    let here = (goal.at.loop-slot-preserved c).After-mark_done in
    let l : c.loop-slot.slot-index < length c.loop-slot.slot-items = omega arith in
    rw (← set-append_left)
    (running_more (c.loop-slot.invariant s g) _ c.in-Some.ensures _
    (omega (arith, length-take-le {A = ℕ}))
    (rw c.mark_done.ensures at (c.release.ensures s (own_numbers g) (can_release here s g))))

pub returns : goal.returns
returns c = λ s g.
    running_done (c.loop-slot.invariant s g)
    (omega (arith, length-take-le {A = ℕ}, g.stages_are))
