-- `judge::edge_line` meets its contract: the line of this form, and what its numbers are judged. Assumes nothing.
use Prim.Native.Nat.{◌+◌, ◌*◌}
use mathlib.Core.Path.{◌∙◌}
use native.Mathlib.Omega.{arith}
use borrow.Author.Rules.{rules}
use lib.Seq.{length-take-le}
use Rattle.judge.proofs.RangeChecks.{square_16}
use Rattle.judge.proofs.Judging.{read_front, edge_refused, edge_answered}
use Rattle.judge.proofs.edge_line.Goals as goal

pub returns-in_err-next : goal.returns-in_err-next
returns-in_err-next c =
    let a = c.args in
    let count = length-take-le (2 + a.kinds * a.kinds) a.values.now (omega (arith, square_16 a.kinds c.requires.sizes_in_range.kinds_4)) in
    edge_refused a.sheet.now a.kinds a.stages a.edge a.at c.edge_line_at-line.ensures c.requires.at_line
    (rw (c.in_err-next.ensures.ok_part, count) at c.line-read.ensures) (search rules)

pub returns : goal.returns
returns c =
    let a = c.args in
    let count = length-take-le (2 + a.kinds * a.kinds) a.values.now (omega (arith, square_16 a.kinds c.requires.sizes_in_range.kinds_4)) in
    edge_answered a.sheet.now a.kinds a.stages a.edge a.at c.edge_line_at-line.ensures c.requires.at_line
    (read_front _ (c.line-read.auto.values ∙ count) (rw (c.in_ok-next.ensures.ok_part, count) at c.line-read.ensures)) c.edge_values.ensures
