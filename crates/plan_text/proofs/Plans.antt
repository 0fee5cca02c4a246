-- What is printed: a plan in tables by its first line and the lines of its rows, and that the tables of a sheet's plan print that plan. Assumes nothing.
use Prim.Native.Nat.{ℕ, ◌+◌, ◌*◌, ◌/◌, ◌<◌}
use mathlib.Core.Path.{◌≡◌, sym, ap, ◌∙◌}
use mathlib.Core.List.{List, ◌++◌, map}
use native.Mathlib.Numerals.{add-one}
use native.Mathlib.Omega.{arith}
use lib.ListN.{length, get_or, take, length-append, length-map, get_or-map}
use lib.Seq.{take_at, ext_get_or}
use Rattle.std.proofs.Common.{add-zero}
use Rattle.model.specs.Bounded.{table}
use Rattle.model.specs.Sheet.{Sheet, InRange, dur}
use Rattle.model.specs.Plans.{at, end}
use Rattle.model.specs.Boards.{plan, board_count}
use Rattle.model.specs.PlanText.{PrintedCopy, copy_line, head_line, printed_text, printed_copy, printed_plan, plan_text}
use Rattle.model.specs.Calls.{board_counts}
use Rattle.model.specs.Held.{PlanIn}
use Rattle.model.proofs.Distinct.{length_table}
use Rattle.model.proofs.SheetText.{get_or_table}
use Rattle.model.proofs.Boards.{at_mem, plan_sound}
use Rattle.model.proofs.Calls.{length_over}
use Rattle.model.proofs.Limits.{Small, plan_small, text_length}
use Rattle.model.proofs.Held.{ranked_of}
use Rattle.text.specs.LineText.{line_text}
use Rattle.plan_text.specs.Rows.{row_copy, row_line, RowIn, rows_text, head_text, tabled_plan, tabled_text, Printable}
use Rattle.plan_text.specs.Given.{Given}
use Rattle.plan_text.proofs.TableRows.{front_entry, front_room, front_count}

-- a list by its elements, each taken to another
map_table : {A B : Type 0} (f : A → B) (d : A) (l : List A) (n : ℕ) (g : ℕ → B) → n ≡ length l
    → ((i : ℕ) → i < n → f (get_or l i d) ≡ g i) → map f l ≡ table n g
map_table f d l n g e same =
    ext_get_or (f d) (map f l) (table n g) (length-map l f ∙ sym e ∙ sym (length_table n g))
    (λ i h.
    let b : i < n = omega (arith, length-map l f) in
    get_or-map f l i d ∙ same i b ∙ sym (get_or_table n g (f d) i b))

-- a plan in tables, line by line
module _ (k : ℕ) (ds : List ℕ) (f : ℕ) (counts rows : List ℕ) (n : ℕ) where
  lines_are : map copy_line (table n (row_copy ds rows)) ≡ table n (row_line ds rows)
  unfolding row_line
  lines_are =
      let none : PrintedCopy = record { stage = 0; kind = 0; board = 0; start = 0; end = 0 } in
      map_table copy_line none (table n (row_copy ds rows)) n (row_line ds rows) (sym (length_table n (row_copy ds rows)))
      (λ c l. ap copy_line (get_or_table n (row_copy ds rows) none c l))

  pub tabled_parts : tabled_text k ds f counts rows n ≡ head_text k f counts ++ rows_text ds rows n
  unfolding printed_text tabled_plan head_line line_text
  tabled_parts = rw (add-one, lines_are)

-- how long its two parts are
pub lengths_of : {k : ℕ} {ds : List ℕ} {f : ℕ} {counts rows : List ℕ} {n : ℕ} → Printable k ds f counts rows n
    → length (tabled_text k ds f counts rows n) ≡ length (head_text k f counts) + length (rows_text ds rows n)
lengths_of {k} {ds} {f} {counts} {rows} {n} p = ap length (tabled_parts k ds f counts rows n) ∙ length-append (head_text k f counts) (rows_text ds rows n)

-- the board counts of a sheet with at most four kinds
pub four_counts : (s : Sheet) → InRange s → length (board_counts s) ≡ 4
unfolding board_counts
four_counts s i = length_over (table s.kinds (board_count s)) (table 4 (λ k. 0)) (omega (arith, length_table s.kinds (board_count s), i.kinds_4))

-- the tables of a sheet's plan
module _ {s : Sheet} {k : ℕ} {ds : List ℕ} {f : ℕ} {counts rows : List ℕ} {copies : ℕ} (g : Given s k ds f counts rows copies) where
  abbrev p : PlanIn s copies rows
  p = g.plan_in

  small : (c : ℕ) → c < copies → Small s g.acyclic.in_range (at (plan s) c)
  small c l = plan_small s g.acyclic.in_range (ranked_of g.acyclic) (at (plan s) c) (at_mem (plan s) c (omega (arith, p.count)))

  duration : (c : ℕ) → c < copies → get_or ds (4 * get_or rows (4 * c) 0 + get_or rows (4 * c + 1) 0) 0 ≡ dur s (at (plan s) c).stage (at (plan s) c).kind
  duration c l =
      let o = plan_sound s (at (plan s) c) (at_mem (plan s) c (omega (arith, p.count))) in
      rw (p.stage_at c l, p.kind_at c l) (g.durations_in.entries (at (plan s) c).stage (at (plan s) c).kind o.stage_below o.kind_below)

  row_in : (c : ℕ) → c < copies → RowIn ds rows c
  unfolding end
  row_in c l =
      let t = small c l in
      let room = p.room in
      let durations_room = g.durations_in.room in
      record {
        room = omega arith;
        entry = rw (p.stage_at c l, p.kind_at c l) (omega arith);
        fits = rw (duration c l, p.start_at c l) (omega arith);
      }

  row_is : (c : ℕ) → c < copies → printed_copy s (at (plan s) c) ≡ row_copy ds rows c
  unfolding row_copy printed_copy end
  row_is c l = rw (duration c l, p.stage_at c l, p.kind_at c l, p.board_at c l, p.start_at c l)

  counts_are : table s.kinds (board_count s) ≡ take k counts
  unfolding board_counts
  counts_are =
      let used = table s.kinds (board_count s) in
      sym (rw (g.kinds_are, g.counts_are) (take_at used _ s.kinds (length_table s.kinds (board_count s))))

  pub plan_is : plan_text s ≡ tabled_text k ds f counts rows copies
  unfolding plan_text printed_plan tabled_plan at
  plan_is = rw (counts_are, map_table (printed_copy s) _ (plan s) copies (row_copy ds rows) p.count row_is, g.finish_is)

  pub printable : Printable k ds f counts rows copies
  printable =
      let i = g.acyclic.in_range in
      record {
        kinds_4 = omega (arith, g.kinds_are, i.kinds_4);
        counts_4 = ap length g.counts_are ∙ four_counts s i;
        row_in = row_in;
        short = omega (arith, ap length plan_is, text_length s i (ranked_of g.acyclic));
      }

-- the same of the rows in use alone, as they are handed over
module _ {s : Sheet} {k : ℕ} {ds : List ℕ} {f : ℕ} {counts rows : List ℕ} {n : ℕ} (g : Given s k ds f counts rows n) where
  pub given_in_use : Given s k ds f counts (take (4 * n) rows) (length (take (4 * n) rows) / 4)
  given_in_use =
      let p = g.plan_in in
      let entry = front_entry rows n in
      record {
        acyclic = g.acyclic;
        kinds_are = g.kinds_are;
        durations_in = g.durations_in;
        finish_is = g.finish_is;
        counts_are = g.counts_are;
        plan_in = rw (front_count rows n p.room) (record {
          count = p.count;
          room = front_room rows n p.room;
          stage_at = λ c l. simp add-zero at (entry c 0 l (omega arith)) ∙ p.stage_at c l;
          kind_at = λ c l. entry c 1 l (omega arith) ∙ p.kind_at c l;
          board_at = λ c l. entry c 2 l (omega arith) ∙ p.board_at c l;
          start_at = λ c l. entry c 3 l (omega arith) ∙ p.start_at c l;
        });
      }
