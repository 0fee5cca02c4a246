-- What is answered and left of a sheet in tables, where it is circular and where it is planned: the model's. Assumes nothing.
use Prim.Native.Nat.{ℕ, ◌*◌, ◌/◌, ◌≤◌, ◌<◌}
use mathlib.Core.Path.{◌≡◌, refl, sym, ◌∙◌, subst, subst₂}
use mathlib.Core.Bool.{Bool, true, false, cond}
use mathlib.Core.List.{List}
use native.Mathlib.Omega.{arith}
use lib.Dec.{leb}
use lib.ListN.{length, take}
use lib.Seq.{ext_get_or}
use Rattle.model.specs.declared.Fault.TheVariants as F
use Rattle.model.specs.Sheet.{Sheet, InRange}
use Rattle.model.specs.SheetText.{Judged, refused, judged}
use Rattle.model.specs.Judge.{not_circular}
use Rattle.model.specs.Paths.{circular}
use Rattle.model.specs.Plans.{at}
use Rattle.model.specs.Boards.{plan}
use Rattle.model.specs.PlanText.{plan_text}
use Rattle.model.specs.Tables.{over, starts_table}
use Rattle.model.specs.Held.{PlanIn, rows_of, SheetHeld}
use Rattle.model.specs.Calls.{sheet_tables, Buffers, Totals, totals, with_sheet, with_plan, write_plan}
use Rattle.model.proofs.Distinct.{length_table}
use Rattle.model.proofs.SheetText.{get_or_table}
use Rattle.model.proofs.Fewest.{plan_length}
use Rattle.model.proofs.Held.{rows_length, plan_in}
use Rattle.model.proofs.Calls.{length_over}
use Rattle.plan_text.specs.Given as goal
use Rattle.plan_text.proofs.Plans.{given_in_use}
use Rattle.plan_text.proofs.TableRows.{front_count}
use Rattle.schedule.specs.Says.{Planned}
use Rattle.schedule.specs.declared.Scheduled.{Scheduled}
use Rattle.plan_call.specs.declared.Outcome.{Outcome}
use Rattle.plan_call.specs.Answers.{refusing, copy_at, copies_of, buffers_of, done_with, PrintSays}
use Rattle.plan_call.specs.Says.{SheetSays}

-- a closed path

pub sheet_circular : (s : Sheet) (starts rows out : List ℕ) → circular s ≡ true
    → SheetSays s starts out starts rows out (refusing F.Circular)
unfolding not_circular copies_of with_sheet
sheet_circular s starts rows out c = record { within = omega arith; called = λ t l. rw c }

-- rows

pub copies_planned : (s : Sheet) (n : ℕ) (rows : List ℕ) → PlanIn s n rows → copies_of rows n ≡ plan s
unfolding copies_of copy_at at
copies_planned s n rows p =
    ext_get_or (record { stage = 0; kind = 0; board = 0; start = 0 }) (copies_of rows n) (plan s) (length_table n (copy_at rows) ∙ p.count)
    (λ c l.
    let b : c < n = subst (λ (x : ℕ). c < x) (length_table n (copy_at rows)) l in
    get_or_table n (copy_at rows) (record { stage = 0; kind = 0; board = 0; start = 0 }) c b
    ∙ (λ i. record { stage = p.stage_at c b i; kind = p.kind_at c b i; board = p.board_at c b i; start = p.start_at c b i }))

-- what `boards` leaves is our plan
pub planned_in : (s : Sheet) → InRange s → (n : ℕ) (old rows : List ℕ) → 4096 ≤ length old → n ≡ length (plan s) → rows ≡ over (rows_of (plan s)) old
    → PlanIn s n rows
planned_in s i n old rows b e f =
    let r = rows_length (plan s) in
    let l = plan_length s i in
    subst₂ (PlanIn s) (sym e) (sym f) (plan_in s old (rw (length_over (rows_of (plan s)) old (omega arith)) (omega arith)))

-- a sheet in tables

pub sheet_planned : (s : Sheet) (starts rows out out' : List ℕ) (r : Outcome) (n : ℕ) → circular s ≡ false → PrintSays s n out out' r
    → copies_of rows n ≡ plan s → n ≤ 1024
    → SheetSays s starts out (starts_table s starts) rows out' r
unfolding not_circular write_plan with_plan
sheet_planned s starts rows out out' r n c p q b =
    record {
      within = rw p.count b;
      called = λ t l.
          rw (c, p.count, q, p.answer, p.output)
          (either (leb (length (plan_text s)) (length out)) (judged (totals s)) (refused 8 0)
          (buffers_of (sheet_tables s t) (starts_table s starts) (over (plan s) l)) (over (plan_text s) out) out);
    }
  where
    either : (b : Bool) (x y : Judged Totals) (f : List ℕ → Buffers) (o u : List ℕ)
        → done_with (cond b x y) (f (cond b o u)) ≡ cond b (done_with x (f o)) (done_with y (f u))
    either true x y f o u = refl
    either false x y f o u = refl

-- what printing takes of a schedule, with the rows in use
module _ {s : Sheet} {k n m : ℕ} {ds es ws : List ℕ} (h : SheetHeld s k n m ds es ws)
    {starts starts' rows rows' : List ℕ} {p : Scheduled} (q : Planned s starts starts' rows rows' p) (room : 4096 ≤ length rows) where
  abbrev in_use : List ℕ
  in_use = take (4 * p.copies) rows'

  pub plan_there : PlanIn s p.copies rows'
  plan_there = planned_in s h.in_range p.copies rows rows' room q.copies_are q.rows_are

  pub to_print : goal.Given s k ds p.finish p.boards in_use (length in_use / 4)
  to_print =
      given_in_use (record {
        acyclic = record { in_range = h.in_range; acyclic = q.acyclic };
        kinds_are = h.kinds_are;
        durations_in = h.durations_in;
        finish_is = q.finish_is;
        counts_are = q.boards_are;
        plan_in = plan_there;
      })

  pub rows_there : (p.copies ≤ 1024) × (4 * p.copies ≤ length rows')
  rows_there = (omega (arith, plan_length s h.in_range, q.copies_are), plan_there.room)

  -- printed or too long, it is what the call says
  pub planned_says : {out out' : List ℕ} {r : Outcome} → PrintSays s (length in_use / 4) out out' r → SheetSays s starts out starts' rows' out' r
  planned_says {out} {out'} {r} e =
      let says : PrintSays s p.copies out out' r = rw (front_count rows' p.copies plan_there.room) at e in
      rw q.starts_are (sheet_planned s starts rows' out out' r p.copies q.acyclic says (copies_planned s p.copies rows' plan_there) rows_there.0)
