-- `starts::finish::finish_time` meets its contract: the largest earliest end of the stages below i. Assumes nothing.
use Rattle.std.proofs.Common.{◌≡◌, ◌∙◌, arith}
use Rattle.std.proofs.lemmas.Grind.{common_steps}
use Rattle.model.specs.Starts.{earliest_end, finish}
use Rattle.model.proofs.Bounded.{largest_more}
use Rattle.starts.proofs.Started.{stage_tabled, earliest_is}
use Rattle.starts.proofs.finish.finish_time.Goals as goal

pub earliest_end-requires : goal.earliest_end-requires
earliest_end-requires c = let p = c.requires in (p.0, stage_tabled p.1 _ c.loop-i-test.true, p.1.kinds_are)

pub loop-i-preserved : goal.loop-i-preserved
loop-i-preserved c = λ s g.
    let l = c.loop-i in
    let b = c.loop-i-test.true in
    let end = c.earliest_end.ensures s (stage_tabled g l.i b) g.kinds_are ∙ earliest_is g l.i b in
    let so_far = l.invariant s g in
    let more = largest_more l.i (earliest_end s) in
    grind (arith, common_steps)

pub returns : goal.returns
unfolding finish
returns c = λ s g.
    let l = c.loop-i in
    let all : l.i ≡ c.args.stages = omega arith in
    l.invariant s g ∙ rw (all, g.stages_are)
