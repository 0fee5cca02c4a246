-- The call `plan`: what it does with an accepted sheet, and that it changes no buffer's length. Assumes nothing.
use Prim.Native.Nat.{ℕ, ◌≤◌}
use mathlib.Core.Path.{◌≡◌, refl, sym, ◌∙◌, subst}
use mathlib.Core.Bool.{true, false, not, ◌&&◌}
use mathlib.Core.List.{List}
use native.Mathlib.Omega.{arith}
use borrow.Author.Tests.{leb-true}
use lib.Dec.{leb}
use lib.ListN.{length, drop, length-append, length-drop}
use Rattle.model.specs.Sheet.{Sheet, InRange, stages, edges}
use Rattle.model.specs.SheetText.{Judged, refused, judged, ◌>>◌, edge_line_at, read_sheet}
use Rattle.model.specs.Judge.{first_repeat, no_repeat, not_circular, judge}
use Rattle.model.specs.Paths.{circular}
use Rattle.model.specs.Boards.{plan}
use Rattle.model.specs.PlanText.{plan_text}
use Rattle.model.specs.Tables.{over, durations_table, ends_table, waits_table, starts_table}
use Rattle.model.specs.Calls.{Buffers, Totals, totals, Planned, long_enough, sheet_tables, buffers_long_enough, with_sheet, with_plan, write_plan}
use Rattle.model.specs.Calls.{plan_after, plan_from, plan_call}
use Rattle.model.proofs.Bounded.{by_test, and_left, and_right}
use Rattle.model.proofs.Paths.{unnot_true}
use Rattle.model.proofs.SheetText.{first_judged, passed, judged_inj, refused≢judged, read_in_range}
use Rattle.model.proofs.Tables.{length_filled}
use Rattle.model.proofs.Fewest.{plan_length}

-- an accepted text

pub no_repeat_self : (s u : Sheet) → no_repeat s ≡ judged u → no_repeat s ≡ judged s
unfolding no_repeat
no_repeat_self s u e = e ∙ sym (passed (leb (edges s) (first_repeat s)) 6 (edge_line_at (stages s) (first_repeat s)) (judged s) e).1

pub accepted : (text : List ℕ) (s : Sheet) → judge text ≡ judged s → (read_sheet text ≡ judged s) × (no_repeat s ≡ judged s) × (circular s ≡ false)
unfolding judge not_circular
accepted text s e =
    let a = first_judged (read_sheet text) _ e in
    let b = first_judged (no_repeat a.0) _ a.2 in
    let c = passed (not (circular a.0)) 7 0 _ b.2 in
    subst (λ (x : Sheet). (read_sheet text ≡ judged x) × (no_repeat x ≡ judged x) × (circular x ≡ false)) (judged_inj c.1)
    (a.1, no_repeat_self a.0 b.0 b.1, unnot_true (circular a.0) c.0)

-- the call on it

pub call_accepted : (text : List ℕ) (b : Buffers) (s : Sheet) → buffers_long_enough b ≡ true → judge text ≡ judged s → plan_call text b ≡ write_plan s b
unfolding plan_call not_circular
call_accepted text b s l e = let a = accepted text s e in rw (l, a.0, a.1, a.2)

pub call_short : (text : List ℕ) (b : Buffers) → buffers_long_enough b ≡ false → plan_call text b ≡ record { answer = refused 1 0; buffers = b }
unfolding plan_call
call_short text b l = rw l

-- a plan that was written: the answer, and what the buffers hold
pub written : (s : Sheet) (b : Buffers) (r : Totals) → (write_plan s b).answer ≡ judged r
    → (totals s ≡ r) × ((write_plan s b).buffers ≡ with_plan s b (over (plan_text s) b.output))
unfolding write_plan
written s b r =
    by_test (λ (o : Planned). o.answer ≡ judged r → (totals s ≡ r) × (o.buffers ≡ with_plan s b (over (plan_text s) b.output)))
    (leb (length (plan_text s)) (length b.output)) (λ t e. (judged_inj e, refl)) (λ t e. absurd (refused≢judged e))

-- the answer on a sheet that reaches the planning is never 7
pub written_not_7 : (s : Sheet) (b : Buffers) → (write_plan s b).answer ≡ refused 7 0 → ⊥
unfolding write_plan
written_not_7 s b =
    by_test (λ (o : Planned). o.answer ≡ refused 7 0 → ⊥) (leb (length (plan_text s)) (length b.output)) (λ t e. refused≢judged (sym e))
    (λ t e. let z : ◌≡◌ {A = ℕ} 8 7 = cc in omega arith)

-- no buffer changes its length

pub length_over : {A : Type 0} (new old : List A) → length new ≤ length old → length (over new old) ≡ length old
length_over new old l = length-append new (drop (length new) old) ∙ rw length-drop (omega arith)

pub record AsLong (a b : Buffers) : Type 0 where
  pub durations : length a.tables.durations ≡ length b.tables.durations
  pub ends : length a.tables.ends ≡ length b.tables.ends
  pub waits : length a.tables.waits ≡ length b.tables.waits
  pub starts : length a.starts ≡ length b.starts
  pub copies : length a.copies ≡ length b.copies
  pub output : length a.output ≡ length b.output

as_before : (b : Buffers) → AsLong b b
as_before b = record { durations = refl; ends = refl; waits = refl; starts = refl; copies = refl; output = refl }

with_sheet_long : (s : Sheet) (b : Buffers) → AsLong (with_sheet s b) b
unfolding with_sheet sheet_tables durations_table ends_table waits_table
with_sheet_long s b =
    record { durations = length_filled _ _ _; ends = length_filled _ _ _; waits = length_filled _ _ _; starts = refl; copies = refl; output = refl }

with_plan_long : (s : Sheet) (b : Buffers) (out : List ℕ) → length (plan s) ≤ length b.copies → length out ≡ length b.output
    → AsLong (with_plan s b out) b
unfolding with_plan sheet_tables durations_table ends_table waits_table starts_table
with_plan_long s b out l e =
    record {
      durations = length_filled _ _ _;
      ends = length_filled _ _ _;
      waits = length_filled _ _ _;
      starts = length_filled _ _ _;
      copies = length_over (plan s) b.copies l;
      output = e;
    }

write_plan_long : (s : Sheet) (b : Buffers) → length (plan s) ≤ length b.copies → AsLong (write_plan s b).buffers b
unfolding write_plan
write_plan_long s b l =
    by_test (λ (o : Planned). AsLong o.buffers b) (leb (length (plan_text s)) (length b.output))
    (λ t. with_plan_long s b _ l (length_over (plan_text s) b.output (leb-true (length (plan_text s)) (length b.output) t)))
    (λ t. with_plan_long s b b.output l refl)

after_long : (b : Buffers) (s : Sheet) (j : Judged Sheet) → ((u : Sheet) → j ≡ judged u → length (plan u) ≤ length b.copies)
    → AsLong (plan_after b s j).buffers b
after_long b s (refused n l) f = with_sheet_long s b
after_long b s (judged u) f = write_plan_long u b (f u refl)

from_long : (b : Buffers) (j : Judged Sheet) → 1024 ≤ length b.copies → ((s : Sheet) → j ≡ judged s → InRange s) → AsLong (plan_from b j).buffers b
unfolding not_circular
from_long b (refused n l) c f = as_before b
from_long b (judged s) c f =
    after_long b s (no_repeat s >> not_circular s)
    (λ u e.
    let q = first_judged (no_repeat s) _ e in
    let same : s ≡ u = judged_inj (passed (not (circular s)) 7 0 (judged s) q.2).1 in
    omega (arith, plan_length u (subst InRange same (f s refl))))

pub copies_long : (b : Buffers) → buffers_long_enough b ≡ true → 1024 ≤ length b.copies
unfolding buffers_long_enough
copies_long b l = leb-true 1024 (length b.copies) (and_right (long_enough b.tables && leb 1024 (length b.starts)) _ l)

pub starts_long : (b : Buffers) → buffers_long_enough b ≡ true → 1024 ≤ length b.starts
unfolding buffers_long_enough
starts_long b l =
    leb-true 1024 (length b.starts) (and_right (long_enough b.tables) _ (and_left (long_enough b.tables && leb 1024 (length b.starts)) _ l))

pub lengths_kept : (text : List ℕ) (b : Buffers) → AsLong (plan_call text b).buffers b
unfolding plan_call
lengths_kept text b =
    by_test (λ (o : Planned). AsLong o.buffers b) (buffers_long_enough b)
    (λ l. from_long b (read_sheet text) (copies_long b l) (read_in_range text)) (λ l. as_before b)

pub long_enough_kept : (text : List ℕ) (b : Buffers) → buffers_long_enough (plan_call text b).buffers ≡ buffers_long_enough b
unfolding buffers_long_enough long_enough
long_enough_kept text b = let l = lengths_kept text b in rw (l.durations, l.ends, l.waits, l.starts, l.copies)
