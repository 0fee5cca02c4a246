-- The answers of the calls as structs of numbers (SPEC 8.8). Assumes nothing.
use Rattle.std.specs.Prelude.{[], ◌∷◌}
use Rattle.model.specs.SheetText.{Judged, refused, judged}
use Rattle.model.specs.Calls.{Sizes, Totals}
use Rattle.abi.specs.declared.results.ReadResult.{ReadResult}
use Rattle.abi.specs.declared.results.PlanResult.{PlanResult}

-- fault 0 with K, N, M, or the fault's number and line
abbrev pub read_result : Judged Sizes → ReadResult
read_result (refused number line) = record { fault = number; line = line; kinds = 0; stages = 0; edges = 0 }
read_result (judged s) = record { fault = 0; line = 0; kinds = s.kinds; stages = s.stages; edges = s.edges }

-- fault 0 with the totals, or the fault's number and line
abbrev pub plan_result : Judged Totals → PlanResult
plan_result (refused number line) =
    record { fault = number; line = line; finish = 0; boards = 0 ∷ 0 ∷ 0 ∷ 0 ∷ []; copies = 0; printed = 0 }
plan_result (judged t) =
    record { fault = 0; line = 0; finish = t.finish; boards = t.boards; copies = t.copies; printed = t.printed }
