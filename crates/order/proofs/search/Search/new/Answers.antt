-- `Search::new` meets its contract: the loop has counted the edges of the pairs passed. Assumes nothing.
use Rattle.std.proofs.Common.{ℕ, [], get_or, refl, arith, length-set}
use Rattle.std.proofs.lemmas.List.{length-replicate}
use Rattle.model.specs.Sheet.{Sheet}
use Rattle.order.specs.Given.{EdgesGiven}
use Rattle.order.proofs.Behind.{searching_start}
use Rattle.order.proofs.Counts.{CountStep, counting_zeros, counting_step}
use Rattle.order.proofs.search.Search.new.Goals.{In-loop-target}
use Rattle.order.proofs.search.Search.new.Goals as goal

-- the edge that is counted, of whichever sheet it is
step : (c : In-loop-target) → (s : Sheet) → EdgesGiven s c.args.edges c.args.ends.now
    → CountStep s c.loop-target.target-index c.loop-target.search-inside.pending (get_or (get_or c.as_chunks.result.0.now c.loop-target.target-index []) 1 0)
step c s g =
    let l = c.loop-target.invariant in
    let e = c.as_chunks.ensures in
    counting_step g (l.counting s g) _ e.front_len e.front c.loop-target-test.true l.full

pub loop-target-init : goal.loop-target-init
loop-target-init c =
    let g = c.requires.given in
    record {
      full = length-replicate {A = ℕ} 256 0;
      stages = refl;
      searching = λ pending l. rw c.new.ensures (searching_start _ pending (omega (arith, g.1.in_range.stages_256, g.2)) l);
      counting = λ s _. counting_zeros s 256;
    }

pub bounds-search-inside-target : goal.bounds-search-inside-target
bounds-search-inside-target c =
    let g = c.requires.given in
    (step (goal.at.bounds-search-inside-target c).In-loop-target g.0 g.1).within

pub bounds-search-inside-target-in-loop-target : goal.bounds-search-inside-target-in-loop-target
bounds-search-inside-target-in-loop-target c =
    let g = c.requires.given in
    (step (goal.at.bounds-search-inside-target-in-loop-target c).In-loop-target g.0 g.1).within

pub overflow_add-search : goal.overflow_add-search
overflow_add-search c =
    let g = c.requires.given in
    omega (arith, (step (goal.at.overflow_add-search c).In-loop-target g.0 g.1).few)

pub loop-target-preserved : goal.loop-target-preserved
loop-target-preserved c =
    let l = c.loop-target.invariant in
    let here = (goal.at.loop-target-preserved c).In-loop-target in
    record {
      full = simp length-set l.full;
      stages = l.stages;
      searching = l.searching;
      counting = λ s g. (step here s g).after;
    }
