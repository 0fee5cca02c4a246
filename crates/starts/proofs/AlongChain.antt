-- Laws of the walk over the edges to a stage: the largest arrival so far, and each edge as the step along it takes it. Assumes nothing.
use Rattle.std.proofs.Common.{◌≡◌, ℕ, ◌+◌, ◌≤◌, ◌<◌, cond, max, List, get_or, replicate, eqb, sym, ◌∙◌, arith, eq-eqb, ne_eqb}
use Rattle.std.proofs.lemmas.List.{get_or-replicate}
use Rattle.model.specs.Bounded.{largest}
use Rattle.model.specs.Sheet.{Sheet, edges, target}
use Rattle.model.specs.Starts.{arrival, inputs_by}
use Rattle.model.specs.declared.SheetView.{SheetView}
use Rattle.model.proofs.Bounded.{largest_more}
use Rattle.adjacency.specs.Adjacency.{edge_stage}
use Rattle.adjacency.specs.declared.chains.Chains.{Chains}
use Rattle.adjacency.proofs.Adjacency.{Walk, Step, walk_start, walk_above, walk_on, largest_leap}
use Rattle.starts.specs.Entries.{entry}
use Rattle.starts.specs.Given.{EdgeTabled, StageGiven}

-- what edge e counts for the inputs of stage j on kind k
abbrev counted : Sheet → (ℕ → ℕ → ℕ) → ℕ → ℕ → ℕ → ℕ
counted s t j k e = cond (eqb (target s e) j) (arrival s t e k) 0

-- the edges from `at` on are passed: for each kind, the largest of their arrivals and of what is left is the inputs' time
pub record Reached (s : Sheet) (view : SheetView) (starts : List ℕ) (j : ℕ) (times : List ℕ) (at : ℕ) : Type 0 where
  pub walk : Walk view.ends.now 1 (edges s) j at
  pub passed : (k : ℕ) → k < view.kinds → max (get_or times k 0) (largest at (counted s (entry starts) j k)) ≡ inputs_by s (entry starts) j k

module _ {s : Sheet} {view : SheetView} {chains : Chains} {starts : List ℕ} {j : ℕ} (g : StageGiven s view chains starts j) where
  counted_other : (k d : ℕ) → d < edges s → (edge_stage view.ends.now 1 d ≡ j → ⊥) → counted s (entry starts) j k d ≡ 0
  counted_other k d l q = rw (← g.given.view_of.ends_in.targets d l, ne_eqb (edge_stage view.ends.now 1 d) j q)

  counted_here : (k d : ℕ) → d < edges s → edge_stage view.ends.now 1 d ≡ j → counted s (entry starts) j k d ≡ arrival s (entry starts) d k
  counted_here k d l q = rw (← g.given.view_of.ends_in.targets d l, eq-eqb (edge_stage view.ends.now 1 d) j q)

  pub reached_start : {at : ℕ} → at ≡ get_or chains.head.now j 0 → (times : List ℕ) → ((k : ℕ) → k < view.kinds → get_or times k 0 ≡ 0)
      → Reached s view starts j times at
  unfolding inputs_by
  reached_start q times z =
      let c = g.given.chained in
      let first = get_or chains.head.now j 0 in
      let w = walk_start _ _ _ _ _ _ c j g.below in
      rw q
      (record {
        walk = w;
        passed = λ k b.
            let above = largest_leap (counted s (entry starts) j k) first (edges s) w.within
            (λ d a l. counted_other k d l (walk_above _ _ _ _ _ _ c j d g.below a l)) in
            omega (arith, z k b);
      })

  -- of a table for four kinds
  pub reached_none : {at : ℕ} → at ≡ get_or chains.head.now j 0 → Reached s view starts j (replicate 4 0) at
  reached_none q =
      let four : view.kinds ≤ 4 = omega (arith, g.given.view_of.kinds_are, g.given.view_of.in_range.kinds_4) in
      reached_start q (replicate 4 0) (λ k b. get_or-replicate {A = ℕ} 4 k 0 0 (omega arith))

  pub reached_step : {at e next : ℕ} → at ≡ e + 1 → Step view.ends.now 1 (edges s) j at e next → (times new : List ℕ)
      → ((k : ℕ) → k < view.kinds → get_or new k 0 ≡ max (get_or times k 0) (arrival s (entry starts) e k))
      → Reached s view starts j times at → Reached s view starts j new next
  reached_step {at} {e} {next} q w times new later r =
      let l = w.in_range in
      record {
        walk = w.walk;
        passed = λ k b.
            let p = rw (q, largest_more e (counted s (entry starts) j k), counted_here k e l w.here) at (r.passed k b) in
            let between = largest_leap (counted s (entry starts) j k) next e (omega (arith, w.lower))
            (λ d a c. counted_other k d (omega arith) (w.leapt d a c)) in
            omega (arith, later k b);
      }

  pub reached_done : (times : List ℕ) {at : ℕ} → at ≡ 0 → Reached s view starts j times at
      → (k : ℕ) → k < view.kinds → get_or times k 0 ≡ inputs_by s (entry starts) j k
  reached_done times q r k b = let p = rw q at (r.passed k b) in omega arith

  -- an edge that the walk comes to, as a step of the iterator gives it
  pub step_on : {times prev : List ℕ} {at e next : ℕ} → Reached s view starts j times at → prev ≡ chains.prev.now → at ≡ e + 1 → next ≡ get_or prev e 0
      → Step view.ends.now 1 (edges s) j at e next
  step_on {at = at} {e} {next} r p q n =
      walk_on _ _ _ _ _ _ g.given.chained j at e next q (rw p at n) r.walk

  pub edge_tabled : {at e next : ℕ} → Step view.ends.now 1 (edges s) j at e next → EdgeTabled s view starts e
  edge_tabled {e = e} w =
      let b = w.in_range in
      let v = g.given.view_of in
      record { view_of = v; below = b; bounded = g.inputs e b (sym (v.ends_in.targets e b) ∙ w.here) }
