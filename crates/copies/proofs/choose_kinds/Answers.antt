-- `copies::choose_kinds` meets its contract. Assumes nothing.
use Rattle.std.proofs.Common.{ap, ◌∙◌}
use Rattle.model.specs.Held.{bit}
use Rattle.copies.proofs.Flags.{row_same}
use Rattle.copies.proofs.choose_kinds.Goals as goal

pub returns : goal.returns
returns c = λ s g b.
    let a = c.args in
    c.store.ensures ∙ row_same a.i _ a.copied.now a.view.now.kinds _ (λ h l. ap bit (c.stage_kinds-chosen.ensures s g b h l))
