-- `sheet::read_sheet` meets its contract: a table is too short, the sheet too long, the first line bad, or the other lines are read. Assumes nothing.
use mathlib.Core.Path.{◌≡◌, refl, sym, ◌∙◌}
use mathlib.Core.Bool.{true}
use native.Mathlib.Omega.{arith}
use Rattle.model.specs.Calls.{tables_of, long_enough}
use Rattle.judge.proofs.Judging.{first_line}
use Rattle.sheet.proofs.ReadCall.{refused_done, sheet_long}
use Rattle.sheet.proofs.read_sheet.Goals.{Else-not-long_enough}
use Rattle.sheet.proofs.read_sheet.Goals as goal

long : (c : Else-not-long_enough) → let a = c.args in long_enough (tables_of a.durations.now a.ends.now a.waits.now) ≡ true
unfolding long_enough
long c = sym c.long_enough.ensures ∙ c.if-not-long_enough.false

pub returns-then-sheet-gt-SHEET_MAX : goal.returns-then-sheet-gt-SHEET_MAX
returns-then-sheet-gt-SHEET_MAX c =
    let s = c.args.sheet.now in
    rw c.refused-then-sheet-gt-SHEET_MAX.ensures
    (refused_done s _ _ (long (goal.at.returns-then-sheet-gt-SHEET_MAX c).Else-not-long_enough) (sheet_long s c.if-sheet-gt-SHEET_MAX.true))

pub read_after-requires : goal.read_after-requires
read_after-requires c =
    record {
      short = omega arith;
      first_line = first_line c.args.sheet.now c.in-Ok.ensures refl;
      long_enough = long (goal.at.read_after-requires c).Else-not-long_enough;
    }
