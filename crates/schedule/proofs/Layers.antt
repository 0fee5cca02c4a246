-- What each layer takes of a sheet in tables: from what a step is given, and what the steps before it left, to the record of the next. Assumes nothing.
use Rattle.std.proofs.Common.{◌≡◌, ℕ, ◌≤◌, false, List, length, take, sym, subst, arith}
use Rattle.model.specs.Sheet.{Sheet, InRange, stages, edges}
use Rattle.model.specs.Paths.{running_order, circular}
use Rattle.model.specs.Tables.{over, starts_table}
use Rattle.model.specs.Held.{StartsIn, copies_table, CopiesIn, OrderIn, ClearingIn, Acyclic, SheetHeld}
use Rattle.model.specs.declared.SheetView.{SheetView}
use Rattle.model.specs.declared.Sizes.{Sizes}
use Rattle.model.proofs.Held.{seen, order_front, starts_in, copies_in, order_in_front}
use Rattle.adjacency.specs.Adjacency.{EndsBelow, Chained}
use Rattle.adjacency.specs.declared.chains.Chains.{Chains}
use Rattle.adjacency.proofs.Adjacency.{ends_below}
use Rattle.order.specs.Given as Order
use Rattle.starts.specs.Given as Starts
use Rattle.boards.specs.Given as Boards
use Rattle.schedule.specs.Given.{Ordered, Given}

-- its stages are below N
pub stages_below : {s : Sheet} {k n m : ℕ} {ds es ws : List ℕ} → SheetHeld s k n m ds es ws → EndsBelow m n es
stages_below h = ends_below h.in_range h.stages_are h.edges_are h.ends_in

pub few : {s : Sheet} {k n m : ℕ} {ds es ws : List ℕ} → SheetHeld s k n m ds es ws → (n ≤ 256) × (m ≤ 1024)
few h = (omega (arith, h.stages_are, h.in_range.stages_256), omega (arith, h.edges_are, h.in_range.edges_1024))

-- the chains of its edges by one side, by its own N and M
pub chains_of : {s : Sheet} {k n m : ℕ} {ds es ws : List ℕ} → SheetHeld s k n m ds es ws → (side : ℕ) {head prev heads prevs : List ℕ}
    → Chained es side m n heads prevs → head ≡ heads → prev ≡ prevs → Chained es side (edges s) (stages s) head prev
chains_of h side c e f = rw (e, f, ← h.edges_are, ← h.stages_are) c

-- what the running order takes, and what it says

module _ {s : Sheet} {k n m : ℕ} {ds es ws : List ℕ} (h : SheetHeld s k n m ds es ws) where
  pub to_order : {head prev : List ℕ} → Chained es 0 (edges s) (stages s) head prev → Order.Given s m n es head prev
  to_order c =
      record {
        edges_given = record { in_range = h.in_range; edges_are = h.edges_are; ends_in = h.ends_in };
        stages_are = h.stages_are;
        chained = rw (h.edges_are, h.stages_are) c;
      }

  order_there : (order old : List ℕ) → n ≤ length order → order ≡ over (running_order s) old → OrderIn s order
  order_there order old b e =
      subst (OrderIn s) (sym e) (order_in_front s h.in_range old (subst (λ (l : List ℕ). stages s ≤ length l) e (rw h.stages_are at b)))

-- the order's front has all of it
pub to_ordered : {s : Sheet} {view : SheetView} {z : Sizes} → SheetHeld s view.kinds z.stages z.edges view.durations.now view.ends.now view.waits.now
    → (order old : List ℕ) → circular s ≡ false → z.stages ≤ length order → order ≡ over (running_order s) old → Ordered s view z (take z.stages order)
to_ordered h order old f b o =
    let u = order_front f (order_there h order old b o) h.stages_are in
    record { held = h; acyclic = f; order_in = u.0; order_whole = u.1 }

-- what the layers before left

pub starts_after : {s : Sheet} → InRange s → (old : List ℕ) {starts : List ℕ} → 1024 ≤ length old → starts ≡ starts_table s old → StartsIn s starts
starts_after {s} r old b e = subst (StartsIn s) (sym e) (starts_in s r old b)

pub copies_after : {s : Sheet} → InRange s → (old : List ℕ) {copied : List ℕ} → 1024 ≤ length old → copied ≡ copies_table s old → CopiesIn s copied
copies_after {s} r old b e = subst (CopiesIn s) (sym e) (copies_in s r old b)

-- what the starts, the finish, the copies and the boards take

module _ {s : Sheet} {view : SheetView} {z : Sizes} {order : List ℕ} (o : Ordered s view z order) where
  acyclic : Acyclic s
  acyclic = record { in_range = o.held.in_range; acyclic = o.acyclic }

  pub to_start : {chains : Chains} → Chained view.ends.now 1 (edges s) (stages s) chains.head.now chains.prev.now → Starts.Ordered s view chains order
  to_start c = record { given = record { view_of = seen o.held; chained = c }; acyclic = o.acyclic; order_in = o.order_in }

  pub to_finish : {starts : List ℕ} → StartsIn s starts → Starts.Started s view.kinds view.durations.now z.stages starts
  to_finish t =
      let h = o.held in
      record { acyclic = acyclic; kinds_are = h.kinds_are; stages_are = h.stages_are; durations_in = h.durations_in; starts_in = t }

  pub to_given : {chains : Chains} {starts clearing : List ℕ} → Chained view.ends.now 0 (edges s) (stages s) chains.head.now chains.prev.now
      → StartsIn s starts → ClearingIn s clearing → Given s view chains order starts clearing
  to_given c t v =
      record {
        to_copy =
            record {
              given = record { view_of = seen o.held; acyclic = o.acyclic; chained = c; starts_in = t };
              order_in = o.order_in;
              order_whole = o.order_whole;
            };
        clearing_in = v;
      }

module _ {s : Sheet} {view : SheetView} {chains : Chains} {order starts clearing : List ℕ} (g : Given s view chains order starts clearing) where
  pub to_place : {copied : List ℕ} → CopiesIn s copied → Boards.Given s view.kinds (length order) view.durations.now clearing starts copied
  to_place u =
      let o = g.to_copy in
      let v = o.given.view_of in
      record {
        acyclic = record { in_range = v.in_range; acyclic = o.given.acyclic };
        kinds_are = v.kinds_are;
        stages_are = o.order_whole;
        durations_in = v.durations_in;
        clearing_in = g.clearing_in;
        starts_in = o.given.starts_in;
        copies_in = u;
      }
