-- `judge::clearing_line` meets its contract: the line of this form, and what its numbers are judged. Assumes nothing.
use Prim.Native.Nat.{ℕ}
use mathlib.Core.Path.{◌∙◌}
use mathlib.Core.List.{[], ◌∷◌}
use borrow.Author.Rules.{rules}
use lib.Seq.{length-take-le}
use Rattle.judge.proofs.Judging.{read_front, clearing_refused, clearing_answered}
use Rattle.judge.proofs.clearing_line.Goals as goal

pub returns-in_err-next : goal.returns-in_err-next
returns-in_err-next c =
    let a = c.args in
    let count = length-take-le {A = ℕ} a.kinds (0 ∷ 0 ∷ 0 ∷ 0 ∷ []) c.requires.le_kinds.1 in
    clearing_refused a.sheet.now a.kinds a.at c.requires.at_line (rw (c.in_err-next.ensures.ok_part, count) at c.line-read.ensures) (search rules)

pub returns : goal.returns
returns c =
    let a = c.args in
    let count = length-take-le {A = ℕ} a.kinds (0 ∷ 0 ∷ 0 ∷ 0 ∷ []) c.requires.le_kinds.1 in
    clearing_answered a.sheet.now a.kinds a.at c.requires.at_line c.requires.le_kinds.1
    (read_front _ (c.line-read.auto.values ∙ count) (rw (c.in_ok-next.ensures.ok_part, count) at c.line-read.ensures)) c.clearing_values.ensures
