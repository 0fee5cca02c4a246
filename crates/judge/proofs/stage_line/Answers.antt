-- `judge::stage_line` meets its contract: the line of this form, and what its numbers are judged. Assumes nothing.
use Prim.Native.Nat.{◌+◌}
use mathlib.Core.Path.{◌∙◌}
use native.Mathlib.Omega.{arith}
use borrow.Author.Rules.{rules}
use lib.Seq.{length-take-le}
use Rattle.judge.proofs.Judging.{read_front, stage_refused, stage_answered}
use Rattle.judge.proofs.stage_line.Goals as goal

pub returns-in_err-next : goal.returns-in_err-next
returns-in_err-next c =
    let a = c.args in
    let count = length-take-le (1 + a.kinds) a.values.now (omega arith) in
    stage_refused a.sheet.now a.kinds a.stage a.at c.stage_line_at-line.ensures c.requires.at_line
    (rw (c.in_err-next.ensures.ok_part, count) at c.line-read.ensures) (search rules)

pub returns : goal.returns
returns c =
    let a = c.args in
    let count = length-take-le (1 + a.kinds) a.values.now (omega arith) in
    stage_answered a.sheet.now a.kinds a.stage a.at c.stage_line_at-line.ensures c.requires.at_line
    (read_front _ (c.line-read.auto.values ∙ count) (rw (c.in_ok-next.ensures.ok_part, count) at c.line-read.ensures)) c.stage_values.ensures
