-- What the call `plan` on plain tables answers and leaves (SPEC 8.2, 8.3): of a sheet that is in the tables, and whole. Both speak
-- of whatever list the rows go to. Assumes nothing.
use Rattle.std.specs.Prelude.{ℕ, ◌*◌, ◌≤◌, ◌≡◌, List, length}
use Rattle.model.specs.Sheet.{Sheet}
use Rattle.model.specs.Judge.{not_circular}
use Rattle.model.specs.declared.Copy.{Copy}
use Rattle.model.specs.Tables.{over}
use Rattle.model.specs.Calls.{SheetTables, sheet_tables, plan_after, plan_call}
use Rattle.plan_call.specs.declared.Outcome.{Outcome}
use Rattle.plan_call.specs.Answers.{plan_answer, copies_of, buffers_of, done_with}

-- 7, 8 or success of a sheet that is in the tables, whatever they held before, and for whatever list the rows go to
pub record SheetSays (s : Sheet) (starts out starts' rows out' : List ℕ) (r : Outcome) : Type 0 where
  pub within : r.count ≤ 1024
  pub called : (t : SheetTables) (l : List Copy)
      → done_with (plan_answer r.answer) (buffers_of (sheet_tables s t) starts' (over (copies_of rows r.count) l) out')
      ≡ plan_after (buffers_of t starts l out) s (not_circular s)

-- the call, for whatever list of so many records the rows go to
pub record TablesSays (text : List ℕ) (t : SheetTables) (starts : List ℕ) (records : ℕ) (out : List ℕ)
    (t' : SheetTables) (starts' rows out' : List ℕ) (r : Outcome) : Type 0 where
  pub room : 4 * r.count ≤ length rows
  pub within : r.count ≤ records
  pub called : (l : List Copy) → length l ≡ records
      → done_with (plan_answer r.answer) (buffers_of t' starts' (over (copies_of rows r.count) l) out')
      ≡ plan_call text (buffers_of t starts l out)
