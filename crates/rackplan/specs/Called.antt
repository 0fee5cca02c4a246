-- What the calls for C and Rust promise. Assumes nothing.
use Rattle.std.specs.Prelude.{ℕ, ◌≡◌, cond, List, eqb}
use Rattle.model.specs.SheetText.{Judged, refused, judged}
use Rattle.model.specs.Calls.{SheetTables, read_call, Buffers, Totals, plan_call}
use Rattle.model.specs.Demand.{Demand3}
use Rattle.abi.specs.declared.results.ReadResult.{ReadResult}
use Rattle.abi.specs.declared.results.PlanResult.{PlanResult}
use Rattle.abi.specs.Results.{read_result, plan_result}

-- the call `read`: its answer, and the tables as it leaves them, are the model's
pub record ReadCalled (text : List ℕ) (before after : SheetTables) (r : ReadResult) : Type 0 where
  pub answer : r ≡ read_result (read_call text before).answer
  pub tables : after ≡ (read_call text before).tables

-- the answer that a struct of numbers is
abbrev pub answer_of : PlanResult → Judged Totals
answer_of r =
    cond (eqb r.fault 0) (judged (record { finish = r.finish; boards = r.boards; copies = r.copies; printed = r.printed }))
    (refused r.fault r.line)

-- the call `plan`: its answer, and all that is lent as it leaves it, are the model's, and demand 3 holds of what the caller has
pub record PlanCalled (text : List ℕ) (before after : Buffers) (r : PlanResult) : Type 0 where
  pub answer : r ≡ plan_result (plan_call text before).answer
  pub buffers : after ≡ (plan_call text before).buffers
  pub demand : Demand3 text (answer_of r) after
