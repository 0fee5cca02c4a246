-- The rows of `plan_tables` in the lent list are what the call promises. Assumes nothing.
use Prim.Native.Nat.{ℕ, ◌*◌, ◌/◌}
use mathlib.Core.Path.{◌≡◌, refl, sym, subst}
use mathlib.Core.List.{List}
use lib.ListN.{length, take}
use Rattle.model.specs.declared.Copy.{Copy}
use Rattle.model.specs.Tables.{over}
use Rattle.model.specs.Calls.{SheetTables, Planned, plan_call}
use Rattle.model.specs.Demand.{Demand3}
use Rattle.model.proofs.Demand.{demand_3}
use Rattle.plan_call.specs.declared.Outcome.{Outcome}
use Rattle.plan_call.specs.Answers.{plan_answer, copies_of, buffers_of, done_with}
use Rattle.plan_call.specs.Says.{TablesSays}
use Rattle.plan_call.proofs.CopyRows.{copies_front}
use Rattle.planner.specs.Done.{PlanDone}

pub plan_done : {text : List ℕ} {t t' : SheetTables} {starts starts' rows out out' : List ℕ} {l l' : List Copy} {r : Outcome}
    → TablesSays text t starts (length l) out t' starts' rows out' r
    → (let used = take (4 * r.count) rows in l' ≡ over (copies_of used (length used / 4)) l)
    → PlanDone text (buffers_of t starts l out) (buffers_of t' starts' l' out') r.answer
plan_done {text} {t} {t'} {starts} {starts'} {rows} {out} {out'} {l} {l'} {r} says e =
    let b = buffers_of t starts l out in
    let c : done_with (plan_answer r.answer) (buffers_of t' starts' l' out') ≡ plan_call text b =
    rw (e, copies_front rows r.count says.room) (says.called l refl) in
    record { called = c; demand = subst (λ (o : Planned). Demand3 text o.answer o.buffers) (sym c) (demand_3 text b) }
