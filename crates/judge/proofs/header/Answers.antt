-- `judge::header` meets its contract: the line of this form, and what its numbers are judged. Assumes nothing.
use borrow.Author.Rules.{rules}
use Rattle.judge.proofs.Judging.{header_refused, header_answered}
use Rattle.judge.proofs.header.Goals as goal

pub returns-in_err-next : goal.returns-in_err-next
returns-in_err-next c = header_refused c.args.sheet.now (rw c.in_err-next.ensures.ok_part at c.line.ensures) (search rules)

pub returns : goal.returns
returns c = header_answered c.args.sheet.now (rw c.in_ok-next.ensures.ok_part at c.line.ensures) c.header_values.ensures
