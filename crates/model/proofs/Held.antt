-- What the tables of `specs/Held.antt` hold, read off the equations by which the layers promise them; and what every layer needs of a sheet in tables.
-- Assumes nothing.
use Prim.Native.Nat.{ℕ, zero, suc, ◌+◌, ◌*◌, ◌≤◌, ◌<◌}
use mathlib.Core.Path.{◌≡◌, refl, ap, ◌∙◌}
use mathlib.Core.Bool.{false}
use mathlib.Core.List.{List, [], ◌∷◌}
use Rattle.std.proofs.Common.{take, length-take-le, get_or-take}
use native.Mathlib.Nat.{le_of_suc-le-suc, not-suc-le-zero}
use native.Mathlib.Omega.{arith}
use lib.ListN.{length, get_or, drop, get_or-append}
use Rattle.model.specs.Sheet.{Sheet, InRange, stages, edges}
use Rattle.model.specs.Paths.{running_order, circular}
use Rattle.model.specs.Copies.{has_copy}
use Rattle.model.specs.Plans.{Copy, at}
use Rattle.model.specs.Boards.{plan}
use Rattle.model.specs.Tables.{durations_table, ends_table, waits_table, starts_table, over, of_stage}
use Rattle.model.specs.Held.{Acyclic, DurationsIn, EndsIn, WaitsIn, SheetHeld, OrderIn, StartsIn, bit, copies_table, CopiesIn, rows_of, PlanIn}
use Rattle.model.proofs.Starts.{Ranked}
use Rattle.model.proofs.Paths.{ranked, order_length}
use Rattle.model.proofs.Tables.{length_filled, durations_at, sources_at, targets_at, waits_at, starts_at, stage_used, stage_at, filled_used}

pub ranked_of : {s : Sheet} → Acyclic s → Ranked s
ranked_of {s} a = ranked s a.in_range a.acyclic

-- tables that were filled from a sheet hold it
module _ (s : Sheet) (r : InRange s) where
  pub durations_in : (old : List ℕ) → 1024 ≤ length old → DurationsIn s (durations_table s old)
  unfolding durations_table
  durations_in old b =
      record {
        room = rw (length_filled _ _ old) b;
        entries = λ i h l m. durations_at s r old i h l m (omega (arith, r.stages_256, r.kinds_4));
      }

  pub ends_in : (old : List ℕ) → 2048 ≤ length old → EndsIn s (ends_table s old)
  unfolding ends_table
  ends_in old b =
      let few = r.edges_1024 in
      record {
        room = rw (length_filled _ _ old) b;
        sources = λ e l. sources_at s r old e l (omega arith);
        targets = λ e l. targets_at s r old e l (omega arith);
      }

  pub waits_in : (old : List ℕ) → 16384 ≤ length old → WaitsIn s (waits_table s old)
  unfolding waits_table
  waits_in old b =
      record {
        room = rw (length_filled _ _ old) b;
        entries = λ e h k l m n. waits_at s r old e h k l m n (omega (arith, r.edges_1024, r.kinds_4));
      }

-- the sheet that tables hold, by its own N and M
pub seen : {s : Sheet} {k n m : ℕ} {ds es ws : List ℕ} → SheetHeld s k n m ds es ws → SheetHeld s k (stages s) (edges s) ds es ws
seen h =
    record {
      in_range = h.in_range;
      kinds_are = h.kinds_are;
      stages_are = refl;
      edges_are = refl;
      durations_in = h.durations_in;
      ends_in = h.ends_in;
      waits_in = h.waits_in;
    }

-- of a running order in a table, as many entries from the front as there are stages are the order too, and no more
pub order_front : {s : Sheet} {order : List ℕ} → circular s ≡ false → OrderIn s order → {n : ℕ} → n ≡ stages s
    → OrderIn s (take n order) × (length (take n order) ≡ stages s)
order_front {s} {order} c o {n} e =
    let all = order_length s c in
    let long = length-take-le n order (rw e o.room) in (
      record { room = omega (arith, long, e); entries = λ x l. get_or-take n order x 0 (omega (arith, e)) ∙ o.entries x l },
      long ∙ e,
    )

-- what new elements from the front hold
over_at : (new old : List ℕ) (x : ℕ) → x < length new → get_or (over new old) x 0 ≡ get_or new x 0
over_at new old x l = get_or-append new (drop (length new) old) 0 x l

module _ (s : Sheet) (r : InRange s) (old : List ℕ) where
  pub order_in_front : stages s ≤ length (over (running_order s) old) → OrderIn s (over (running_order s) old)
  order_in_front b = record { room = b; entries = over_at (running_order s) old }

  pub starts_in : 1024 ≤ length old → StartsIn s (starts_table s old)
  unfolding starts_table
  starts_in b =
      record {
        room = rw (length_filled _ _ old) b;
        entries = λ i h l m. starts_at s r old i h l m (omega (arith, r.stages_256, r.kinds_4));
      }

  pub copies_in : 1024 ≤ length old → CopiesIn s (copies_table s old)
  unfolding copies_table
  copies_in b =
      record {
        room = rw (length_filled _ _ old) b;
        entries = λ i h l m.
            filled_used (of_stage s) _ old (4 * i + h) (omega (arith, r.stages_256, r.kinds_4)) (stage_used s r old i h l m)
            ∙ stage_at s r old (λ i h. bit (has_copy s i h)) i h m;
      }

-- rows of copies
pub rows_length : (p : List Copy) → length (rows_of p) ≡ 4 * length p
rows_length [] = refl
rows_length (c ∷ p) = let r = rows_length p in omega arith

pub record RowAt (p : List Copy) (c : ℕ) (l : List ℕ) : Type 0 where
  pub stage : get_or l (4 * c) 0 ≡ (at p c).stage
  pub kind : get_or l (4 * c + 1) 0 ≡ (at p c).kind
  pub board : get_or l (4 * c + 2) 0 ≡ (at p c).board
  pub start : get_or l (4 * c + 3) 0 ≡ (at p c).start

pub row_at : (p : List Copy) (c : ℕ) → c < length p → RowAt p c (rows_of p)
unfolding at
row_at [] c l = absurd (not-suc-le-zero l)
row_at (d ∷ p) zero l = record { stage = refl; kind = refl; board = refl; start = refl }
row_at (d ∷ p) (suc c) l =
    let r = row_at p c (le_of_suc-le-suc l) in
    let on : (y x : ℕ) → x ≡ suc (suc (suc (suc y)))
    → get_or (rows_of (d ∷ p)) x 0 ≡ get_or (rows_of p) y 0 = λ y x e. ap (λ (z : ℕ). get_or (rows_of (d ∷ p)) z 0) e in
    record {
      stage = on (4 * c) (4 * suc c) (omega arith) ∙ r.stage;
      kind = on (4 * c + 1) (4 * suc c + 1) (omega arith) ∙ r.kind;
      board = on (4 * c + 2) (4 * suc c + 2) (omega arith) ∙ r.board;
      start = on (4 * c + 3) (4 * suc c + 3) (omega arith) ∙ r.start;
    }

pub plan_in : (s : Sheet) (old : List ℕ) → 4 * length (plan s) ≤ length (over (rows_of (plan s)) old) → PlanIn s (length (plan s)) (over (rows_of (plan s)) old)
plan_in s old b =
    let n = rows_length (plan s) in
    let kept : (x : ℕ) → x < 4 * length (plan s)
    → get_or (over (rows_of (plan s)) old) x 0 ≡ get_or (rows_of (plan s)) x 0 = λ x l. over_at (rows_of (plan s)) old x (omega arith) in
    record {
      count = refl;
      room = b;
      stage_at = λ c l. kept (4 * c) (omega arith) ∙ (row_at (plan s) c l).stage;
      kind_at = λ c l. kept (4 * c + 1) (omega arith) ∙ (row_at (plan s) c l).kind;
      board_at = λ c l. kept (4 * c + 2) (omega arith) ∙ (row_at (plan s) c l).board;
      start_at = λ c l. kept (4 * c + 3) (omega arith) ∙ (row_at (plan s) c l).start;
    }
