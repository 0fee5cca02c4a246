-- `report::write_answer` meets its contract: what the call `plan` leaves is what the program prints. Assumes nothing.
use native.Mathlib.Omega.{arith}
use borrow.Author.Rules.{rules}
use Rattle.report.proofs.Shown.{refusal_short, refusal_shown, plan_shown, plan_short}
use Rattle.report.proofs.write_answer.Goals as goal

pub returns-in-Ok : goal.returns-in-Ok
returns-in-Ok c =
    let done = c.plan_tables-done.ensures in (
      omega (arith, plan_short done (search rules, search rules, search rules, search rules) c.requires c.in-Ok.is),
      plan_shown done (search rules, search rules, search rules, search rules) c.requires c.in-Ok.is,
    )

pub returns-in-Err : goal.returns-in-Err
returns-in-Err c =
    let n = c.into-number.result in
    let written = c.write_refusal.ensures in (
      omega (arith, written.counted, refusal_short n.number n.line (omega arith) (omega arith)),
      refusal_shown c.plan_tables-done.ensures (search rules, search rules, search rules, search rules) c.requires c.in-Err.is c.into-number.ensures written,
    )
