-- `copies::stage_kinds` meets its contract: the edges of the chain that came before are passed. Assumes nothing.
use Rattle.std.proofs.Common.{sym, ◌∙◌, refl, arith}
use mathlib.Core.Bool.{true≢false}
use Rattle.copies.proofs.Walks.{stage_given, sink_rule, walked_start, edge_given, walked_on, chosen_rule}
use Rattle.copies.proofs.stage_kinds.Goals as goal

pub returns-then-is_empty : goal.returns-then-is_empty
returns-then-is_empty c = λ s g l h b.
    let none = sym c.of-edges.ensures.at ∙ c.if-is_empty.ensures.0 refl in
    let k = g.view_of.kinds_are in
    c.sink_kind.ensures s (stage_given g _ l) h (omega arith) ∙ sink_rule g _ l _ none h

pub loop-e-init : goal.loop-e-init
loop-e-init c =
    let same = c.into_iter-e-iterator.ensures.into_iter_gives in (
      rw same c.of-edges.ensures.prev,
      λ s g l. rw (same, c.of-edges.ensures.at) (walked_start g _ l _ _ (c.all.ensures s g.view_of.kinds_are _) c.empty.ensures),
    )

pub mark_edge-marks-requires-clause-edge_given : goal.mark_edge-marks-requires-clause-edge_given
mark_edge-marks-requires-clause-edge_given c =
    let p = c.requires.given in
    let w = c.loop-e.invariant.1 p.0 p.1 p.2 in
    (p.0, edge_given p.1 _ p.2 w _ c.in-Some.ensures.steps.edge (c.row_ends-row.ensures p.0 (stage_given p.1 _ p.2)))

pub loop-e-preserved : goal.loop-e-preserved
loop-e-preserved c =
    let same = c.loop-e.invariant.0 in
    let step = c.in-Some.ensures.steps in (
      step.prev ∙ same,
      λ s g l.
          let w = c.loop-e.invariant.1 s g l in
          walked_on g _ l w _ step.edge (rw same at step.link)
          (c.mark_edge-marks.ensures s (edge_given g _ l w _ step.edge (c.row_ends-row.ensures s (stage_given g _ l)))),
    )

pub returns : goal.returns
returns c = λ s g l h b.
    let w = c.loop-e.invariant.1 s g l in
    let k = g.view_of.kinds_are in
    c.chosen.ensures s _ _ _ w.marked h (omega arith)
    ∙ chosen_rule g _ l w c.in-None.ensures.steps (λ none. true≢false (sym (c.if-is_empty.ensures.1 (c.of-edges.ensures.at ∙ none)))) h
