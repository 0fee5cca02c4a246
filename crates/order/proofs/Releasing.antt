-- Laws of releasing the edges of a stage along its chain. Assumes nothing.
use Rattle.std.proofs.Common.{◌≡◌, ℕ, ◌+◌, ◌*◌, ◌-◌, ◌≤◌, ◌<◌, eqb, List, length, get_or, set, take, refl, sym, ap, ◌∙◌, arith}
use Rattle.std.proofs.Common.{length-set, length-take, get_or-take, eq-eqb, ne_eqb}
use Rattle.std.proofs.Math.Seq.{take-set-lt}
use Rattle.model.specs.Sheet.{Sheet, stages, edges, source, target}
use Rattle.model.specs.Held.{bit}
use Rattle.adjacency.specs.Adjacency.{edge_stage}
use Rattle.adjacency.proofs.Adjacency.{Walk, Step, walk_start, walk_above, walk_on}
use Rattle.adjacency.proofs.Stores.{entry_by_entry}
use Rattle.order.specs.Given.{Given}
use Rattle.order.specs.Pending.{edges_between, CanRelease, Released}
use Rattle.order.proofs.Counts.{count_more, count_leap}

-- a walk of stage i's chain has released its edges from `at` on; those below are still pending
pub record Releasing (s : Sheet) (ends : List ℕ) (i : ℕ) (old pending : List ℕ) (at : ℕ) : Type 0 where
  pub same_length : length pending ≡ length old
  pub walk : Walk ends 0 (edges s) i at
  pub entries : (j : ℕ) → j < length old → get_or pending j 0 + edges_between s (edges s) i j ≡ get_or old j 0 + edges_between s at i j

-- an edge to stage t is released, in a table of n stages
pub record ReleaseStep (s : Sheet) (ends : List ℕ) (i : ℕ) (old : List ℕ) (n : ℕ) (table : List ℕ) (t next : ℕ) : Type 0 where
  pub within : t < n
  pub some_pending : 1 ≤ get_or table t 0
  pub after : Releasing s ends i old (take n (set table t (get_or table t 0 - 1))) next

module _ {s : Sheet} {ends head prev : List ℕ} (g : Given s (edges s) (stages s) ends head prev) (i : ℕ) where
  source_is : (e : ℕ) → e < edges s → edge_stage ends 0 e ≡ source s e
  source_is e l = ap (λ (x : ℕ). get_or ends x 0) (omega arith) ∙ g.edges_given.ends_in.sources e l

  -- no edge of the stage is between two steps of the walk
  between_leap : (j x y : ℕ) → x ≤ y → y ≤ edges s → ((d : ℕ) → x ≤ d → d < y → edge_stage ends 0 d ≡ i → ⊥) → edges_between s y i j ≡ edges_between s x i j
  unfolding edges_between
  between_leap j x y l m z = count_leap _ x y l (λ d u v. rw (ne_eqb (source s d) i (λ q. z d u v (source_is d (omega arith) ∙ q))))

  between_step : (j at e next : ℕ) → at ≡ e + 1 → Step ends 0 (edges s) i at e next
      → edges_between s at i j ≡ edges_between s next i j + bit (eqb (target s e) j)
  unfolding edges_between
  between_step j at e next q w =
      let l = w.in_range in
      rw (q, count_more e _, eq-eqb (source s e) i (sym (source_is e l) ∙ w.here))
      (ap (λ (x : ℕ). x + bit (eqb (target s e) j)) (between_leap j next e (omega (arith, w.lower)) (omega arith) w.leapt))

  module _ {old : List ℕ} (r : CanRelease s i old) where
    pub releasing_start : Releasing s ends i old old (get_or head i 0)
    releasing_start =
        let w = walk_start ends 0 (edges s) (stages s) head prev g.chained i r.below in
        record {
          same_length = refl;
          walk = w;
          entries = λ j l.
              ap (λ (x : ℕ). get_or old j 0 + x)
              (between_leap j (get_or head i 0) (edges s) w.within (omega arith)
              (λ d. walk_above ends 0 (edges s) (stages s) head prev g.chained i d r.below));
        }

    -- at a step of the walk, as an iterator's
    module _ (pending : List ℕ) (at e next : ℕ) (h : Releasing s ends i old pending at) (edge : at ≡ e + 1) (link : next ≡ get_or prev e 0) where
      step : Step ends 0 (edges s) i at e next
      step = walk_on ends 0 (edges s) (stages s) head prev g.chained i at e next edge link h.walk

      pub edge_in_range : e < edges s
      edge_in_range = step.in_range

      target_within : target s e < length old
      target_within = omega (arith, g.edges_given.in_range.target_below e step.in_range, r.room)

      released_more : (j : ℕ) → j < length old
          → get_or pending j 0 + edges_between s (edges s) i j ≡ get_or old j 0 + edges_between s next i j + bit (eqb (target s e) j)
      released_more j l = h.entries j l ∙ rw (between_step j at e next edge step) (omega arith)

      some_pending : 1 ≤ get_or pending (target s e) 0
      some_pending =
          let t = target s e in
          omega (arith, r.fits t target_within, rw (eq-eqb t t refl) at (released_more t target_within))

      release_one : Releasing s ends i old (set pending (target s e) (get_or pending (target s e) 0 - 1)) next
      release_one =
          let t = target s e in
          let l : t < length pending = omega (arith, target_within, h.same_length) in
          let here = rw (eq-eqb t t refl) at (released_more t target_within) in
          record {
            same_length = simp length-set h.same_length;
            walk = step.walk;
            entries = λ j l.
                entry_by_entry (λ j v. j < length old → v + edges_between s (edges s) i j ≡ get_or old j 0 + edges_between s next i j)
                pending t _ (omega (arith, target_within, h.same_length)) (λ _. omega (arith, r.fits t target_within))
                (λ j d l. omega (arith, rw (ne_eqb t j (λ p. d (sym p))) at (released_more j l))) j l;
          }

    pub releasing_more : (n : ℕ) (table : List ℕ) (at e next : ℕ) → n ≤ length table → Releasing s ends i old (take n table) at → at ≡ e + 1
        → next ≡ get_or prev e 0 → ReleaseStep s ends i old n table (get_or ends (2 * e + 1) 0) next
    releasing_more n table at e next room h edge link =
        let t = target s e in
        let to = g.edges_given.ends_in.targets e (edge_in_range (take n table) at e next h edge link) in
        let within : t < n = omega (arith, target_within (take n table) at e next h edge link, h.same_length, length-take n table) in
        rw to
        (record {
          within = within;
          some_pending = rw get_or-take at (some_pending (take n table) at e next h edge link);
          after = rw take-set-lt (rw get_or-take at (release_one (take n table) at e next h edge link));
        })

    pub releasing_done : (pending : List ℕ) (at : ℕ) → Releasing s ends i old pending at → at ≡ 0 → Released s i old pending
    unfolding edges_between
    releasing_done pending at h z = record { same_length = h.same_length; entries = λ j l. let q = h.entries j l in omega (arith, rw z at q) }
