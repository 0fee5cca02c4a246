-- `boards::place_all` meets its contract: the copies passed have their rows and boards. Assumes nothing.
use Rattle.std.proofs.Common.{◌≡◌, ℕ, ◌<◌, length, get_or, ◌∙◌, arith, rules}
use Rattle.model.specs.Plans.{at}
use Rattle.boards.specs.Keys.{in_order}
use Rattle.boards.proofs.Placing.{nowhere, counts_of, loop_needs, loop_leaves, loop_done}
use Rattle.boards.proofs.place_all.Goals as goal

pub place-requires : goal.place-requires
place-requires c =
    let l = c.loop-c in
    let p = c.requires.keyed in
    (p.0, at (in_order p.0) l.c, loop_needs p.1 l.c (omega arith) c.requires.in_bounds (l.invariant p.0 p.1))

pub loop-c-preserved : goal.loop-c-preserved
loop-c-preserved c =
    let l = c.loop-c in
    λ s g. loop_leaves g l.c (omega arith) c.requires.in_bounds (l.invariant s g) (c.place.ensures s (at (in_order s) l.c))

pub returns : goal.returns
returns c = λ s g.
    let p = c.loop-c.invariant s g in
    let done = loop_done g p (omega arith) in
    let kinds = c.each_ref in
    let counted = c.map.ensures.items in
    let each : (k : ℕ) → k < 4 → get_or c.map.result k 0 ≡ length (get_or kinds.result k nowhere).now =
    λ k h. let called = (counted.at k nowhere 0 h).2 in search rules in
    record {
      copies_are = done.0;
      rows_are = done.1;
      boards_are = counts_of kinds.result c.loop-c.boards c.map.result kinds.ensures.items p.kinds_4 counted.long each ∙ done.2;
    }
