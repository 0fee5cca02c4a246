-- What is answered of a sheet that was read, and what the lent tables are then (SPEC 8.1, 8.3.6). Assumes nothing.
use Rattle.std.specs.Prelude.{◌≡◌, Result}
use Rattle.model.specs.Sheet.{Sheet}
use Rattle.model.specs.SheetText.{judged}
use Rattle.model.specs.Calls.{SheetTables, read_from}
use Rattle.sheet.specs.Answers.{read_answer}
use Rattle.model.specs.declared.Fault.{Fault}
use Rattle.model.specs.declared.Sizes as Code

-- the tables contain the sheet, and the answer is the model's
pub record HandedOver (s : Sheet) (before after : SheetTables) (r : Result Code.Sizes Fault) : Type 0 where
  pub answer : read_answer r ≡ (read_from before (judged s)).answer
  pub tables : after ≡ (read_from before (judged s)).tables
