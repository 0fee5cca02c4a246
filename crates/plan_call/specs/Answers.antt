-- What the answers of the call `plan` say (SPEC 8.2, 12.8), and what its rows are. Assumes nothing.
use Rattle.std.specs.Prelude.{ℕ, ◌+◌, ◌*◌, ◌≡◌, cond, List, length, get_or, leb, Result, Ok, Err}
use Rattle.model.specs.Bounded.{table}
use Rattle.model.specs.Sheet.{Sheet}
use Rattle.model.specs.SheetText.{Judged, refused, judged}
use Rattle.model.specs.declared.Copy.{Copy}
use Rattle.model.specs.PlanText.{plan_text}
use Rattle.model.specs.Tables.{over}
use Rattle.model.specs.Calls.{SheetTables, Buffers, Totals, totals, Planned}
use Rattle.model.specs.Faults.{fault_judged}
use Rattle.model.specs.declared.Fault.{Fault}
use Rattle.plan_call.specs.declared.Totals as Code
use Rattle.plan_call.specs.declared.Outcome.{Outcome}

-- SPEC 8.2: what `plan` returns, or the fault's number and line
abbrev pub plan_answer : Result Code.Totals Fault → Judged Totals
plan_answer (Ok t) = judged (record { finish = t.finish; boards = t.boards; copies = t.copies; printed = t.printed })
plan_answer (Err f) = fault_judged f

-- a refusal before there is a plan: no rows
abbrev pub refusing : Fault → Outcome
refusing f = record { answer = Err f; count = 0 }

-- the copy that row c is, and those that the first n rows are
unfoldable pub copy_at : List ℕ → ℕ → Copy
copy_at rows c =
    record { stage = get_or rows (4 * c) 0; kind = get_or rows (4 * c + 1) 0; board = get_or rows (4 * c + 2) 0; start = get_or rows (4 * c + 3) 0 }

unfoldable pub copies_of : List ℕ → ℕ → List Copy
copies_of rows n = table n (copy_at rows)

-- what is lent, as one
abbrev pub buffers_of : SheetTables → List ℕ → List Copy → List ℕ → Buffers
buffers_of tables starts copies output = record { tables = tables; starts = starts; copies = copies; output = output }

abbrev pub done_with : Judged Totals → Buffers → Planned
done_with answer buffers = record { answer = answer; buffers = buffers }

-- SPEC 8.3.8: 8, or the totals with the plan printed; the rows count in both cases
pub record PrintSays (s : Sheet) (copies : ℕ) (out out' : List ℕ) (r : Outcome) : Type 0 where
  pub count : r.count ≡ copies
  pub answer : plan_answer r.answer ≡ cond (leb (length (plan_text s)) (length out)) (judged (totals s)) (refused 8 0)
  pub output : out' ≡ cond (leb (length (plan_text s)) (length out)) (over (plan_text s) out) out
