-- `starts::starts_in_order` meets its contract: the table has the starts of the stages of the running order that are passed. Assumes nothing.
use Rattle.std.proofs.Common.{sym, ◌∙◌, arith}
use Rattle.starts.proofs.FrontTable.{front_none, turn, turns_done, stage_given}
use Rattle.starts.proofs.starts_in_order.Goals.{In-loop-j}
use Rattle.starts.proofs.starts_in_order.Goals as goal

-- the stage that is next, whichever sheet it is of

pub loop-j-init : goal.loop-j-init
loop-j-init g c = λ s o n. sym (front_none _ _)

pub stage_starts-requires : goal.stage_starts-requires
stage_starts-requires g c =
    let p = c.requires.ordered in
    let l = c.loop-j in
    let next = turn p.1 _ c.requires.in_bounds l.j-index (omega (arith, p.2)) in
    (p.0, stage_given p.1 _ c.requires.in_bounds next (l.invariant p.0 p.1 p.2) c.requires.kinds_are)

pub loop-j-preserved : goal.loop-j-preserved
loop-j-preserved g c = λ s o n.
    let l = c.loop-j in
    let next = turn o _ c.requires.in_bounds l.j-index (omega (arith, n)) in
    let so_far = l.invariant s o n in
    c.stage_starts.ensures s (stage_given o _ c.requires.in_bounds next so_far c.requires.kinds_are) ∙ rw so_far next.more

pub returns : goal.returns
returns g c = λ s o n.
    c.loop-j.invariant s o n ∙ turns_done o _ c.requires.in_bounds _ (omega (arith, n))
