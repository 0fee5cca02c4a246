-- Laws of the running order while it is written: the stages so far, one more, and all of them. Assumes nothing.
use Prim.Native.Nat.{ℕ, zero, suc, ◌+◌, ◌*◌, ◌≤◌, ◌<◌}
use mathlib.Core.Path.{◌≡◌, refl, sym, ◌∙◌}
use mathlib.Core.Bool.{true, false, ◌&&◌, or-true, or-false}
use mathlib.Core.Logic.{⊎_elim}
use mathlib.Core.List.{List, [], ◌∷◌, ◌++◌}
use native.Mathlib.Nat.{le_of_suc-le-suc, eq-or-lt_of_le}
use native.Mathlib.Numerals.{add-one}
use native.Mathlib.Omega.{arith}
use borrow.Author.Tests.{lt-ltb, le-ltb, eq-eqb, ne_eqb}
use lib.Dec.{ltb, eqb}
use lib.ListN.{length, get_or, set, drop, length-set, length-append}
use lib.Seq.{drop-cons, set_at, append_snoc}
use Rattle.model.specs.Bounded.{lowest, elem}
use Rattle.model.specs.Sheet.{Sheet, InRange, stages, edges, source, target}
use Rattle.model.specs.Paths.{next, order_in, running_order, circular}
use Rattle.model.specs.Tables.{over}
use Rattle.model.specs.Held.{bit}
use Rattle.adjacency.proofs.Stores.{entry_by_entry}
use Rattle.order.specs.Ready.{ready, NoneReady, IsNext}
use Rattle.order.specs.Pending.{edges_between, pending_into, Counted, CanRelease, Released}
use Rattle.model.proofs.Bit.{bit_zero}
use Rattle.model.proofs.Bounded.{lowest_is, lowest_none}
use Rattle.order.proofs.Counts.{count_le, elem_snoc, pending_parts, next_is}

-- one more element from the front
over_more : (new old : List ℕ) (k v : ℕ) → length new ≡ k → k < length old → set (over new old) k v ≡ over (new ++ (v ∷ [])) old
over_more new old k v e l =
    let n : length (new ++ (v ∷ [])) ≡ suc k = length-append new (v ∷ []) ∙ rw e (add-one k) in
    rw (n, e, drop-cons old k 0 l) (set_at new (get_or old k 0) (drop (suc k) old) v k e ∙ sym (append_snoc new v (drop (suc k) old)))

-- the order doesn't grow where no stage can run
order_stays : (s : Sheet) (d : ℕ) → stages s ≤ next s (order_in s d) → (k : ℕ) → d ≤ k → order_in s k ≡ order_in s d
order_stays s d stuck zero l = let e : d ≡ 0 = omega arith in rw e
order_stays s d stuck (suc k) l =
    ⊎_elim (λ e. rw e) (λ b. rw (order_stays s d stuck k (le_of_suc-le-suc b), le-ltb (next s (order_in s d)) (stages s) stuck)) (eq-or-lt_of_le l)

-- stage i is next: it isn't done, and the edges from it are pending

module _ (s : Sheet) (done pending : List ℕ) (size : length pending ≡ stages s) (c : Counted s done pending) (i : ℕ) (q : IsNext pending i) where
  new : elem i done ≡ false
  new = bit_zero (elem i done) (omega (arith, c.entries i q.in_bounds, q.none_pending))

  parts : (j : ℕ) → pending_into s (edges s) done j ≡ pending_into s (edges s) (done ++ (i ∷ [])) j + edges_between s (edges s) i j
  parts j = pending_parts s (edges s) done i j new

  -- its entry gets a mark, which is above every number of edges
  marked : InRange s → CanRelease s i (set pending i 2048)
  unfolding edges_between
  marked r =
      record {
        below = omega (arith, q.in_bounds);
        room = omega (arith, length-set pending i 2048);
        fits = λ j b.
            entry_by_entry (λ j v. j < length pending → edges_between s (edges s) i j ≤ v) pending i 2048 q.in_bounds
            (λ _. omega (arith, r.edges_1024, count_le (edges s) (λ e. eqb (source s e) i && eqb (target s e) i)))
            (λ j _ l. omega (arith, c.entries j l, parts j)) j (rw length-set at b);
      }

  -- i is done, too
  counted_more : (left : List ℕ) → Released s i (set pending i 2048) left → Counted s (done ++ (i ∷ [])) left
  counted_more left r =
      record {
        entries = λ j b.
            let h : j < length pending = rw (r.same_length, length-set) at b in
            entry_by_entry
            (λ j v. j < length pending → get_or left j 0 + edges_between s (edges s) i j ≡ v
            → get_or left j 0 ≡ pending_into s (edges s) (done ++ (i ∷ [])) j + 2048 * bit (elem j (done ++ (i ∷ []))))
            pending i 2048 q.in_bounds
            (λ h e. rw (elem_snoc i done i, eq-eqb i i refl, or-true) (omega (arith, c.entries i h, parts i, q.none_pending)))
            (λ j d h e. rw (elem_snoc j done i, ne_eqb j i d, or-false) (omega (arith, c.entries j h, parts j)))
            j h (r.entries j (rw length-set h));
      }

-- the first stages of the order are written, and done; `pending` has an entry for each stage
pub record Running (s : Sheet) (order₀ pending order : List ℕ) (done : ℕ) : Type 0 where
  pub size : length pending ≡ stages s
  pub so_far : length (order_in s done) ≡ done
  pub written : order ≡ over (order_in s done) order₀
  pub counted : Counted s (order_in s done) pending

module _ {s : Sheet} {order₀ pending order : List ℕ} {done : ℕ} (r : Running s order₀ pending order done) where
  next_now : lowest (stages s) (ready pending) ≡ next s (order_in s done)
  next_now = next_is s (order_in s done) pending (omega (arith, r.size)) r.counted

  -- stage i is next
  module _ (i : ℕ) (q : IsNext pending i) where
    pub running_marked : InRange s → CanRelease s i (set pending i 2048)
    running_marked = marked s (order_in s done) pending r.size r.counted i q

    pub running_more : (left : List ℕ) → done < length order₀ → Released s i (set pending i 2048) left → Running s order₀ left (set order done i) (done + 1)
    running_more left b released =
        let l : i < stages s = omega (arith, q.in_bounds, r.size) in
        let n : next s (order_in s done) ≡ i = sym next_now ∙ lowest_is (stages s) (ready pending) i l (eq-eqb _ 0 q.none_pending) q.none_lower in
        let more : order_in s (done + 1) ≡ order_in s done ++ (i ∷ []) = rw (add-one, n, lt-ltb i (stages s) l) in
        record {
          size = released.same_length ∙ length-set pending i 2048 ∙ r.size;
          so_far = rw more (length-append (order_in s done) (i ∷ []) ∙ rw r.so_far);
          written = rw (more, r.written) (over_more (order_in s done) order₀ done i r.so_far b);
          counted = rw more (counted_more s (order_in s done) pending r.size r.counted i q left released);
        }

  -- the whole order is the order so far
  running_whole : order_in s (stages s) ≡ order_in s done → (ltb done (stages s) ≡ circular s) × (order ≡ over (running_order s) order₀)
  unfolding circular running_order
  running_whole whole = (rw (whole, r.so_far), rw whole r.written)

  -- no stage is ready before all are done
  pub running_stuck : NoneReady (length pending) pending → done < stages s → (true ≡ circular s) × (order ≡ over (running_order s) order₀)
  running_stuck none l =
      let n = lowest_none (stages s) (ready pending) (λ j b. none j (omega (arith, r.size))) in
      rw (lt-ltb done (stages s) l) at (running_whole (order_stays s done (omega (arith, next_now, n)) (stages s) (omega arith)))

  pub running_done : done ≡ stages s → (false ≡ circular s) × (order ≡ over (running_order s) order₀)
  running_done e = rw (le-ltb done (stages s) (omega arith)) at (running_whole (rw e))
