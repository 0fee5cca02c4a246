-- `copies::mark_edge` meets its contract: the copies on the kinds below k are passed. Assumes nothing.
use Rattle.std.proofs.Common.{◌≡◌, ◌∙◌, arith, eq-eqb, ne_eqb}
use Rattle.copies.proofs.Times.{target_few, copied_is, start_is}
use Rattle.copies.proofs.Marking.{passed_start, passed_copy, passed_other}
use Rattle.copies.proofs.mark_edge.Goals.{then-copied-to-eq1, else-copied-to-eq1}
use Rattle.copies.proofs.mark_edge.Goals as goal

pub loop-k-init : goal.loop-k-init
loop-k-init c = (omega (arith, target_few c.requires.edge_given.1), λ s g. passed_start s _ _ _)

pub loop-k-preserved : goal.loop-k-preserved
loop-k-preserved c =
    let l = c.loop-k in
    let copied = c.args.copied.now in (
      l.invariant.0,
      λ s g.
          let start = start_is g l.k c.loop-k-test.true in
          elim c.if-copied-to-eq1.branch [
            | then-copied-to-eq1 w ↦
                rw w.marks-is
                (passed_copy s _ _ _ l.k _ (l.invariant.1 s g) _ (copied_is g l.k copied ∙ eq-eqb _ 1 w.if-copied-to-eq1.true)
                (w.after_copy-marks.ensures s _ _ (w.serving-serving.ensures s g.waits start)))
            | else-copied-to-eq1 w ↦
                rw w.marks-is (passed_other s _ _ _ l.k _ (l.invariant.1 s g) (copied_is g l.k copied ∙ ne_eqb _ 1 w.if-copied-to-eq1.false))
          ],
    )

pub returns : goal.returns
returns c =
    let l = c.loop-k in
    let z : l.k ≡ c.args.view.now.kinds = omega arith in
    rw z at l.invariant.1
