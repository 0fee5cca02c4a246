-- A plan in tables as it is handed over: its text, that it can be printed, and whose plan it is. Assumes nothing.
use Rattle.std.specs.Prelude.{ℕ, ◌/◌, List, length}
use Rattle.model.specs.Sheet.{Sheet}
use Rattle.plan_text.specs.declared.TabledPlan.{TabledPlan}
use Rattle.plan_text.specs.Given.{Given}
use Rattle.plan_text.specs.Rows.{tabled_text, Printable}

-- each copy has a row of four numbers
abbrev pub copy_count : TabledPlan → ℕ
copy_count p = length p.rows.now / 4

abbrev pub printed : TabledPlan → List ℕ
printed p = tabled_text p.kinds p.durations.now p.finish p.counts p.rows.now (copy_count p)

abbrev pub IsPrintable : TabledPlan → Type 0
IsPrintable p = Printable p.kinds p.durations.now p.finish p.counts p.rows.now (copy_count p)

-- the sheet's plan
abbrev pub IsPlanOf : Sheet → TabledPlan → Type 0
IsPlanOf s p = Given s p.kinds p.durations.now p.finish p.counts p.rows.now (copy_count p)
