-- Laws of the chains: what a walk of one stage's chain passes, and that the tables can be walked. Assumes nothing.
use Prim.Native.Nat.{ℕ, zero, suc, ◌+◌, ◌*◌, ◌≤◌, ◌<◌}
use mathlib.Core.Path.{◌≡◌, refl, ◌∙◌}
use mathlib.Core.Logic.{⊎_elim}
use mathlib.Core.List.{List}
use native.Mathlib.Nat.{le_of_suc-le-suc, eq-or-lt_of_le, not-suc-le-zero}
use native.Mathlib.Omega.{arith}
use borrow.Author.Tests.{eqb-true, eqb-false}
use lib.Dec.{eqb}
use lib.ListN.{get_or, take}
use Rattle.std.proofs.lemmas.List.{get_or-take, length-take}
use Rattle.model.specs.Bounded.{largest}
use Rattle.model.specs.Sheet.{Sheet, InRange, stages, edges}
use Rattle.model.specs.Held.{EndsIn}
use Rattle.model.proofs.Bounded.{by_test}
use Rattle.adjacency.specs.Adjacency.{edge_stage, last_before, EndsBelow, Chained}
use Rattle.adjacency.specs.Linked.{IsFalling, StartsWithin, Walkable, WalksEnd}

-- the last edge

module _ (ends : List ℕ) (side : ℕ) where
  pub last_le : (e j : ℕ) → last_before ends side e j ≤ e
  last_le zero j = omega arith
  last_le (suc e) j = by_test (λ (x : ℕ). x ≤ suc e) (eqb (edge_stage ends side e) j) (λ t. omega arith) (λ t. let r = last_le e j in omega arith)

  -- it has stage j
  last_has : (e j d : ℕ) → last_before ends side e j ≡ d + 1 → edge_stage ends side d ≡ j
  last_has zero j d = λ q. absurd (omega arith)
  last_has (suc e) j d =
      by_test (λ (x : ℕ). x ≡ d + 1 → edge_stage ends side d ≡ j) (eqb (edge_stage ends side e) j)
      (λ t q. let z : d ≡ e = omega arith in rw z (eqb-true (edge_stage ends side e) j t)) (λ t. last_has e j d)

  -- and the edges after it have not
  pub last_after : (e j d : ℕ) → last_before ends side e j ≤ d → d < e → edge_stage ends side d ≡ j → ⊥
  last_after zero j d = λ b l. absurd (not-suc-le-zero l)
  last_after (suc e) j d =
      by_test (λ (x : ℕ). x ≤ d → d < suc e → edge_stage ends side d ≡ j → ⊥) (eqb (edge_stage ends side e) j) (λ t b l. absurd (omega arith))
      (λ t b l q.
      ⊎_elim (λ z. eqb-false (edge_stage ends side e) j t (rw (← z) q)) (λ z. last_after e j d b z q)
      (eq-or-lt_of_le (le_of_suc-le-suc l)))

  last_fixed : (e j : ℕ) → last_before ends side (last_before ends side e j) j ≡ last_before ends side e j
  last_fixed zero j = refl
  last_fixed (suc e) j =
      by_test (λ (x : ℕ). last_before ends side x j ≡ x) (eqb (edge_stage ends side e) j) (λ t. rw t) (λ t. last_fixed e j)

-- a walk of stage j's chain: `at` is 0, or one more than an edge of j
pub record Walk (ends : List ℕ) (side m j at : ℕ) : Type 0 where
  pub within : at ≤ m
  pub fixed : last_before ends side at j ≡ at

-- the walk has come to edge e of stage j, and goes on below it; the edges that it leaps over are of other stages
pub record Step (ends : List ℕ) (side m j at e next : ℕ) : Type 0 where
  pub here : edge_stage ends side e ≡ j
  pub in_range : e < m
  pub lower : next < at
  pub walk : Walk ends side m j next
  pub leapt : (d : ℕ) → next ≤ d → d < e → edge_stage ends side d ≡ j → ⊥

module _ (ends : List ℕ) (side m n : ℕ) (head prev : List ℕ) (c : Chained ends side m n head prev) where
  pub walk_start : (j : ℕ) → j < n → Walk ends side m j (get_or head j 0)
  walk_start j l = rw (c.heads j l) (record { within = last_le ends side m j; fixed = last_fixed ends side m j })

  -- no edge of j is above the first one
  pub walk_above : (j d : ℕ) → j < n → get_or head j 0 ≤ d → d < m → edge_stage ends side d ≡ j → ⊥
  walk_above j d l b = last_after ends side m j d (rw (c.heads j l) at b)

  pub walk_step : (j at e : ℕ) → at ≡ e + 1 → Walk ends side m j at → Step ends side m j at e (get_or prev e 0)
  walk_step j at e q w =
      let here : edge_stage ends side e ≡ j = last_has ends side at j e (w.fixed ∙ q) in
      let b = w.within in
      let p : get_or prev e 0 ≡ last_before ends side e j = c.prevs e (omega arith) ∙ rw here in
      let le = last_le ends side e j in
      rw p
      (record {
        here = here;
        in_range = omega arith;
        lower = omega arith;
        walk = record { within = omega arith; fixed = last_fixed ends side e j };
        leapt = last_after ends side e j;
      })

  -- as an iterator's step says it
  pub walk_on : (j at e next : ℕ) → at ≡ e + 1 → next ≡ get_or prev e 0 → Walk ends side m j at → Step ends side m j at e next
  walk_on j at e next q p w = rw p (walk_step j at e q w)

  -- the used fronts of the two tables are chains too, and can be walked

  pub chained_fronts : Chained ends side m n (take n head) (take m prev)
  chained_fronts =
      record {
        head_room = omega (arith, length-take n head, c.head_room);
        prev_room = omega (arith, length-take m prev, c.prev_room);
        heads = λ j l. get_or-take n head j 0 l ∙ c.heads j l;
        prevs = λ e l. get_or-take m prev e 0 l ∙ c.prevs e l;
      }

  pub fronts_falling : IsFalling (take m prev)
  fronts_falling e l =
      let f = chained_fronts in
      omega (arith, length-take m prev, f.prevs e (omega (arith, length-take m prev)), last_le ends side e (edge_stage ends side e))

  pub fronts_start_within : StartsWithin (take n head) (take m prev)
  fronts_start_within j l =
      let f = chained_fronts in
      omega (arith, length-take n head, f.prev_room, f.heads j (omega (arith, length-take n head)), last_le ends side m j)

  pub fronts_walkable : Walkable n m head prev
  fronts_walkable =
      record { stages_room = c.head_room; edges_room = c.prev_room; falling = fronts_falling; starts_within = fronts_start_within }

  -- so can the front of the heads, over all of the table of links

  pub chained_front : Chained ends side m n (take n head) prev
  chained_front =
      record {
        head_room = chained_fronts.head_room;
        prev_room = c.prev_room;
        heads = chained_fronts.heads;
        prevs = c.prevs;
      }

  pub walks_end : WalksEnd (take n head) prev
  walks_end j l =
      let f = chained_fronts in
      let q = f.heads j (omega (arith, length-take n head)) in
      let b = last_le ends side m j in
      (omega (arith, q, b, c.prev_room), λ e h. omega (arith, q, b, h, c.prevs e (omega (arith, q, b, h)), last_le ends side e (edge_stage ends side e)))

-- what counts nothing is leapt over

-- of a family that doesn't change from n to m
pub leap : {A : Type 0} (g : ℕ → A) (n m : ℕ) → n ≤ m → ((d : ℕ) → n ≤ d → d < m → g (suc d) ≡ g d) → g m ≡ g n
leap g n zero b z = let e : n ≡ 0 = omega arith in rw e
leap g n (suc m) b z =
    ⊎_elim (λ e. rw e) (λ l. z m (le_of_suc-le-suc l) (omega arith) ∙ leap g n m (le_of_suc-le-suc l) (λ d c h. z d c (omega arith))) (eq-or-lt_of_le b)

pub largest_leap : (f : ℕ → ℕ) (n m : ℕ) → n ≤ m → ((d : ℕ) → n ≤ d → d < m → f d ≡ 0) → largest m f ≡ largest n f
largest_leap f n m b z = leap (λ x. largest x f) n m b (λ d c l. omega (arith, z d c l))

-- the ends of a sheet's edges are below N
pub ends_below : {s : Sheet} {n m : ℕ} {es : List ℕ} → InRange s → n ≡ stages s → m ≡ edges s → EndsIn s es → EndsBelow m n es
ends_below {s} {n} {m} {es} r a b h = record { room = omega (arith, r.edges_1024, h.room); below = at }
  where
    at : (e side : ℕ) → e < m → side ≤ 1 → edge_stage es side e < n
    at e zero l _ =
        let q : 2 * e + 0 ≡ 2 * e = omega arith in
        let f : e < edges s = omega arith in
        rw (q, h.sources e f, a) (r.source_below e f)
    at e (suc zero) l _ =
        let f : e < edges s = omega arith in
        rw (h.targets e f, a) (r.target_below e f)
    at e (suc (suc side)) l c = absurd (omega arith)
