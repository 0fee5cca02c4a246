-- What the answers of the call `read` say (SPEC 8.1, 12.8). Assumes nothing.
use Rattle.std.specs.Prelude.{ℕ, ◌≡◌, true, List, [], ◌∷◌, Result, Ok, Err}
use Rattle.model.specs.Sheet.{Sheet}
use Rattle.model.specs.SheetText.{Judged, judged, read_sheet}
use Rattle.model.specs.Calls.{SheetTables, long_enough, Sizes, read_call}
use Rattle.model.specs.Held.{ClearingIn}
use Rattle.model.specs.Faults.{fault_judged}
use Rattle.model.specs.declared.Fault.{Fault}
use Rattle.model.specs.declared.Sizes as Code
use Rattle.sheet.specs.declared.SheetRead.{SheetRead}

-- SPEC 8.1: K, N and M, or the fault's number and line
abbrev pub read_answer : Result Code.Sizes Fault → Judged Sizes
read_answer (Ok z) = judged (record { kinds = z.kinds; stages = z.stages; edges = z.edges })
read_answer (Err f) = fault_judged f

-- SPEC 10.1: the call: its answer, and the tables as it leaves them, are the model's
pub record ReadDone (text : List ℕ) (before after : SheetTables) (r : Result Code.Sizes Fault) : Type 0 where
  pub answer : read_answer r ≡ (read_call text before).answer
  pub tables : after ≡ (read_call text before).tables

-- a refusal before the clearing times are known
abbrev pub refusing : Fault → SheetRead
refusing f = record { answer = Err f; clearing = 0 ∷ 0 ∷ 0 ∷ 0 ∷ [] }

-- the call, and beside it the clearing times of a sheet that was read (SPEC 2.4)
pub record SheetDone (text : List ℕ) (before after : SheetTables) (r : SheetRead) : Type 0 where
  pub done : ReadDone text before after r.answer
  pub clearing : long_enough before ≡ true → (s : Sheet) → read_sheet text ≡ judged s → ClearingIn s r.clearing
