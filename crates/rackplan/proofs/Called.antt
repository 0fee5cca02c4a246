-- The answer of `plan` as a struct of numbers, and back. Assumes nothing.
use Prim.Native.Nat.{ℕ}
use mathlib.Core.Path.{◌≡◌, refl, sym, ap, ◌∙◌, subst}
use mathlib.Core.List.{List}
use Rattle.std.specs.Prelude.{Result, Ok, Err}
use Rattle.model.specs.declared.Fault.{Fault}
use Rattle.model.specs.declared.Fault.TheVariants as F
use Rattle.model.specs.SheetText.{Judged}
use Rattle.model.specs.Calls.{Buffers, Totals, Planned}
use Rattle.model.specs.Demand.{Demand3}
use Rattle.plan_call.specs.declared.Totals as Code
use Rattle.plan_call.specs.Answers.{plan_answer}
use Rattle.planner.specs.Done.{PlanDone}
use Rattle.abi.specs.declared.results.PlanResult.{PlanResult}
use Rattle.abi.specs.Results.{plan_result}
use Rattle.rackplan.specs.Called.{answer_of, PlanCalled}

-- no fault has number 0
answered : (r : Result Code.Totals Fault) → answer_of (plan_result (plan_answer r)) ≡ plan_answer r
answered (Ok totals) = refl
answered (Err F.ShortTable) = refl
answered (Err F.LongSheet) = refl
answered (Err (F.BadForm line)) = refl
answered (Err (F.OutOfRange line)) = refl
answered (Err (F.BadStage line)) = refl
answered (Err (F.RepeatedEdge line)) = refl
answered (Err F.Circular) = refl
answered (Err F.ShortOutput) = refl

pub plan_called : {text : List ℕ} {before after : Buffers} {r : Result Code.Totals Fault} {f : PlanResult}
    → PlanDone text before after r → f ≡ plan_result (plan_answer r) → PlanCalled text before after f
plan_called {text} {before} {after} {r} d e =
    record {
      answer = e ∙ ap (λ (p : Planned). plan_result p.answer) d.called;
      buffers = ap (λ (p : Planned). p.buffers) d.called;
      demand = subst (λ (j : Judged Totals). Demand3 text j after) (sym (ap answer_of e ∙ answered r)) d.demand;
    }
