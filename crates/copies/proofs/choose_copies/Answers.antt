-- `copies::choose_copies` meets its contract: the stages that the order has after those that are left are done. Assumes nothing.
use Rattle.std.proofs.Common.{◌≡◌, [], ◌∷◌, ◌++◌, length, sym, ap, ◌∙◌, append-nil, append_assoc, length-append}
use Rattle.copies.proofs.BackTable.{back_none, back_all, stage_below, back_next}
use Rattle.copies.proofs.choose_copies.Goals.{In-Some}
use Rattle.copies.proofs.choose_copies.Goals as goal

pub loop-i-init : goal.loop-i-init
loop-i-init c =
    rw (c.into_iter-i-iterator.ensures.into_iter_gives, c.rev-i-items.ensures.source, c.iter.ensures.rest)
    (([], sym (append-nil _)), λ s o. let g = o.given in rw o.order_whole (sym (back_none s g.view_of.in_range g.acyclic _)))

-- the last stage that is left
parts : (c : In-Some) → let i = c.in-Some.field-0.now in c.args.order.now ≡ c.next.new.self.iter.rest.now ++ i ∷ c.loop-i.invariant.0.0
parts c =
    let i = c.in-Some.field-0.now in
    c.loop-i.invariant.0.1 ∙ rw c.in-Some.ensures.steps (append_assoc c.next.new.self.iter.rest.now (i ∷ []) c.loop-i.invariant.0.0)

pub choose_kinds-requires-clause-given : goal.choose_kinds-requires-clause-given
choose_kinds-requires-clause-given c =
    let p = c.requires.ordered in
    (p.0, p.1.given, stage_below p.1 _ _ _ (parts (goal.at.choose_kinds-requires-clause-given c).In-Some))

pub loop-i-preserved : goal.loop-i-preserved
loop-i-preserved c =
    let e = parts (goal.at.loop-i-preserved c).In-Some in
    let one_less = ap (λ l. length l) c.in-Some.ensures.steps ∙ length-append c.next.new.self.iter.rest.now (c.in-Some.field-0.now ∷ []) in (
      (c.in-Some.field-0.now ∷ c.loop-i.invariant.0.0, e),
      λ s o.
          c.choose_kinds.ensures s o.given (stage_below o _ _ _ e)
          ∙ rw (c.loop-i.invariant.1 s o, one_less) (back_next o _ _ _ e c.args.copied.now c.requires.in_bounds),
    )

pub returns : goal.returns
returns c = λ s o.
    let g = o.given in
    c.loop-i.invariant.1 s o ∙ rw c.in-None.ensures.steps.0 (back_all s g.view_of.in_range g.acyclic _)
