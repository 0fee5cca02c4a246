-- `plan_call::plan_tables` meets its contract: short tables first, then what `read` says, then the plan. Assumes nothing.
use native.Mathlib.Omega.{arith}
use Rattle.plan_call.proofs.Call.{lent_short, read_refuses, read_succeeds, sheet_held, sheet_called}
use Rattle.plan_call.proofs.plan_tables.Goals as goal

pub returns-then-starts-lt-STARTS_LEN : goal.returns-then-starts-lt-STARTS_LEN
returns-then-starts-lt-STARTS_LEN c = rw c.refused.ensures (lent_short (grind arith))

pub plan_sheet-requires-clause-sheet_held : goal.plan_sheet-requires-clause-sheet_held
plan_sheet-requires-clause-sheet_held c = let w = read_succeeds _ c.in-Ok.is c.read_sheet-read.ensures in (w.0, sheet_held w.1, w.1.cleared)

pub returns-in-Ok : goal.returns-in-Ok
returns-in-Ok c =
    let w = read_succeeds _ c.in-Ok.is c.read_sheet-read.ensures in
    sheet_called w.1 (omega arith) (omega arith) (omega (arith, c.requires, c.plan_sheet.auto)) (c.plan_sheet.ensures w.0 (sheet_held w.1) w.1.cleared)

pub returns-in-Err : goal.returns-in-Err
returns-in-Err c = rw c.refused-in-Err.ensures (read_refuses _ (omega arith) (omega arith) (rw c.in-Err.is at c.read_sheet-read.ensures.done))
