-- The walk of the chain of the edges from a stage: the marks after each edge, and the stage's kinds by the rules of copies. Assumes nothing.
use Rattle.std.proofs.Common.{◌≡◌, ℕ, ◌+◌, ◌-◌, ◌≤◌, ◌<◌, Bool, true, false, not, ◌||◌, ◌==◌, List, get_or, refl, sym, ap, ◌∙◌, arith, eqb-true, eq-eqb}
use Rattle.std.specs.FinSet as finite
use Rattle.std.specs.FinSet.{contains-empty}
use Rattle.std.specs.Ordering.{nat_cmp}
use Rattle.model.specs.Sheet.{Sheet, stages, edges, source}
use Rattle.model.specs.Copies.{has_successor, sink_kind, serves_all, common_kind, copy_rule}
use Rattle.model.specs.declared.SheetView.{SheetView}
use Rattle.model.proofs.Bounded.{on, some_at, some_of}
use Rattle.model.proofs.StageKinds.{preferred_cong}
use Rattle.adjacency.specs.Adjacency.{edge_stage}
use Rattle.adjacency.specs.declared.chains.Chains.{Chains}
use Rattle.adjacency.proofs.Adjacency.{Walk, Step, walk_start, walk_above, walk_on, walk_step}
use Rattle.kinds.specs.Sets.{KindsOf}
use Rattle.kinds.proofs.Sets.{kinds_same}
use Rattle.copies.specs.Given.{Given, StageGiven, EndsOf, EdgeGiven}
use Rattle.copies.specs.Marks.{misses, picks, along, along_from, Marked, Passed, chosen_of}
use Rattle.copies.specs.declared.marks.Marks.{Marks}
use Rattle.copies.proofs.Along.{from_none, from_more, all_picked, none_missed}
use Rattle.copies.proofs.Marking.{marked_same}

-- what a walk keeps: its place, and the marks of the edges passed
pub record Walked (s : Sheet) (es : List ℕ) (has : ℕ → ℕ → Bool) (i : ℕ) (marks : Marks) (at : ℕ) : Type 0 where
  pub place : Walk es 0 (edges s) i at
  pub marked : Marked s i (along_from s has i at (misses s)) (along_from s has i at (picks s)) marks

module _ {s : Sheet} {view : SheetView} {chains : Chains} {ts : List ℕ} (g : Given s view chains ts) (i : ℕ) (l : i < stages s) where
  abbrev es : List ℕ
  es = view.ends.now

  abbrev head : List ℕ
  head = chains.head.now

  abbrev prev : List ℕ
  prev = chains.prev.now

  pub stage_given : StageGiven s view ts i
  stage_given =
      let v = g.view_of in
      record {
        acyclic = record { in_range = v.in_range; acyclic = g.acyclic };
        kinds_are = v.kinds_are;
        durations_in = v.durations_in;
        starts_in = g.starts_in;
        below = l;
      }

  -- the first stage of an edge, as the chains have it
  end_at : (d : ℕ) → d < edges s → source s d ≡ edge_stage es 0 d
  end_at d b = sym (g.view_of.ends_in.sources d b) ∙ ap (λ (x : ℕ). get_or es x 0) (omega arith)

  above : (d : ℕ) → get_or head i 0 ≤ d → d < edges s → source s d ≡ i → ⊥
  above d b e q = walk_above _ _ _ _ _ _ g.chained i d l b e (rw (end_at d e) at q)

  -- without an edge the stage has no successor
  pub sink_rule : (has : ℕ → ℕ → Bool) → get_or head i 0 ≡ 0 → (h : ℕ) → (h == sink_kind s i) ≡ copy_rule s has i h
  unfolding copy_rule has_successor
  sink_rule has z h = rw none
    where
      none : has_successor s i ≡ false
      none =
          on (has_successor s i)
          (λ u. let f = some_at (edges s) (λ e. source s e == i) u in absurd (above f.0 (omega arith) f.1 (eqb-true (source s f.0) i f.2)))
          (λ u. u)

  -- no edge is passed
  pub walked_start : (has : ℕ → ℕ → Bool) (marks : Marks) → KindsOf s i (λ h. true) marks.common → marks.picked ≡ finite.empty
      → Walked s es has i marks (get_or head i 0)
  walked_start has marks u e =
      let none : (q : ℕ → ℕ → ℕ → Bool) (h : ℕ) → along_from s has i (get_or head i 0) q h ≡ false = λ q h. from_none s has i q h (get_or head i 0) above in
      record {
        place = walk_start _ _ _ _ _ _ g.chained i l;
        marked =
            record {
              serving = kinds_same u _ (λ h. sym (ap not (none (misses s) h)));
              picking = λ h b. rw (e, contains-empty nat_cmp h) (sym (none (picks s) h));
            };
      }

  -- the walk has come to edge e
  module _ {has : ℕ → ℕ → Bool} {old : Marks} {at : ℕ} (w : Walked s es has i old at) (e : ℕ) (q : at ≡ e + 1) where
    pub step : (next : ℕ) → next ≡ get_or prev e 0 → Step es 0 (edges s) i at e next
    step next p = walk_on _ _ _ _ _ _ g.chained i at e next q p w.place

    here : source s e ≡ i
    here = let b = step _ refl in end_at e b.in_range ∙ b.here

    pub edge_given : {row : List ℕ} → EndsOf s i row → EdgeGiven s view row ts e
    edge_given v =
        record {
          waits = record { kinds_are = g.view_of.kinds_are; ends_of = rw here v; waits_in = g.view_of.waits_in; below = (step _ refl).in_range };
          ends_in = g.view_of.ends_in;
          starts_in = g.starts_in;
        }

    -- and goes on below it
    one_more : (next : ℕ) → Step es 0 (edges s) i at e next → (r : ℕ → ℕ → ℕ → Bool) (h : ℕ)
        → along_from s has i next r h ≡ (along_from s has i at r h || along s has e view.kinds r h)
    one_more next b r h =
        rw g.view_of.kinds_are
        (from_more s has i r h at e next q (omega (arith, b.lower)) b.in_range here
        (λ d c f p. b.leapt d c f (rw (end_at d (omega (arith, b.in_range))) at p)))

    pub walked_on : {new : Marks} {next : ℕ} → next ≡ get_or prev e 0
        → Passed s (source s e) (along s has e view.kinds (misses s)) (along s has e view.kinds (picks s)) old new
        → Walked s es has i new next
    walked_on {new} {next} b p =
        record {
          place = (step next b).walk;
          marked =
              marked_same ((rw here at p) (along_from s has i at (misses s)) (along_from s has i at (picks s)) w.marked) _ _
              (λ h. sym (one_more next (step next b) (misses s) h)) (λ h. sym (one_more next (step next b) (picks s) h));
        }

  -- all edges are passed
  pub chosen_rule : {has : ℕ → ℕ → Bool} {marks : Marks} {at : ℕ} → Walked s es has i marks at → at ≡ 0 → (get_or head i 0 ≡ 0 → ⊥)
      → (h : ℕ) → chosen_of s i (along_from s has i at (misses s)) (along_from s has i at (picks s)) h ≡ copy_rule s has i h
  unfolding chosen_of copy_rule common_kind has_successor
  chosen_rule {has} w z f h =
      let none : ℕ → Bool = λ g. not (along_from s has i 0 (misses s) g) in
      rw (z, some_edge, all_picked s has i h, preferred_cong s i none (serves_all s has i) (λ g t. none_missed s has i g))
    where
      some_edge : has_successor s i ≡ true
      some_edge =
          let e = get_or head i 0 - 1 in
          let b = walk_step _ _ _ _ _ _ g.chained i (get_or head i 0) e (omega arith)
          (walk_start _ _ _ _ _ _ g.chained i l) in
          some_of (edges s) (λ e. source s e == i) e b.in_range (eq-eqb (source s e) i (end_at e b.in_range ∙ b.here))
