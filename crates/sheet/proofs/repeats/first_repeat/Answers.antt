-- `sheet::repeats::first_repeat` meets its contract: no edge passed repeats one, and the set has their marks. Assumes nothing.
use mathlib.Core.Path.{◌≡◌, sym, ◌∙◌}
use native.Mathlib.Omega.{arith}
use Rattle.sheet.proofs.Marks.{edge_given, passed_more, passed_all}
use Rattle.sheet.proofs.repeats.first_repeat.Goals as goal

pub loop-e-preserved : goal.loop-e-preserved
loop-e-preserved c =
    λ s g.
    let is_mark = c.edge_mark-mark.ensures.is_mark s (edge_given g c.loop-e.e (omega arith)) in
    rw (c.insert.ensures, is_mark)
    (passed_more g (c.loop-e.invariant s g) (omega arith) (rw is_mark at (sym c.contains.ensures ∙ c.if-contains.false)))

pub returns : goal.returns
returns c =
    let all : c.loop-e.e ≡ c.args.edges = omega arith in
    λ s g. passed_all g (rw all at (c.loop-e.invariant s g))
