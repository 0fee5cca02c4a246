-- `plan_call::circular::plan_sheet` meets its contract: 7 where the schedule says circular, or else what printing says. Assumes nothing.
use Rattle.std.proofs.Common.{◌*◌, ◌≤◌, length, length-take-le, arith}
use Rattle.plan_call.proofs.SheetPlan.{sheet_circular, rows_there, to_print, planned_says}
use Rattle.plan_call.proofs.circular.plan_sheet.Goals.{In-Some}
use Rattle.plan_call.proofs.circular.plan_sheet.Goals as goal

-- the rows of all copies
rows_in : (c : In-Some) → (c.in-Some.planned.copies ≤ 1024) × (4 * c.in-Some.planned.copies ≤ length c.schedule.new.rows)
rows_in c = let (s, h, v) = c.requires.sheet_held in rows_there h (c.in-Some.ensures s h v) c.requires.in_bounds.1

pub overflow_mul-plan : goal.overflow_mul-plan
overflow_mul-plan c = omega (arith, rows_in (goal.at.overflow_mul-plan c).In-Some)

pub slice_bounds-plan-end : goal.slice_bounds-plan-end
slice_bounds-plan-end c = (rows_in (goal.at.slice_bounds-plan-end c).In-Some).1

pub slice_bounds-plan-end-2 : goal.slice_bounds-plan-end-2
slice_bounds-plan-end-2 c =
    omega (arith, length-take-le (4 * c.in-Some.planned.copies) c.schedule.new.rows (rows_in (goal.at.slice_bounds-plan-end-2 c).In-Some).1)

pub print_plan-requires : goal.print_plan-requires
print_plan-requires c = let (s, h, v) = c.requires.sheet_held in (s, to_print h (c.in-Some.ensures s h v) c.requires.in_bounds.1)

pub returns-in_default : goal.returns-in_default
returns-in_default c = λ s h v. let q = c.in_default.ensures s h v in rw (c.refused.ensures, q.1) (sheet_circular s _ _ _ q.0)

pub returns : goal.returns
returns c =
    λ s h v.
    let q = c.in-Some.ensures s h v in
    let b = c.requires.in_bounds.1 in
    planned_says h q b (c.print_plan.ensures s (to_print h q b))
