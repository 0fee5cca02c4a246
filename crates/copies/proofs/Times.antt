-- When a stage ends on each of its kinds, and which kinds serve, by the numbers in the tables. Assumes nothing.
use Rattle.std.proofs.Common.{◌≡◌, ℕ, ◌+◌, ◌*◌, ◌≤◌, ◌<◌, true, false, ◌&&◌, ◌==◌, min, List, get_or, leb, sym, ap₂, ◌∙◌, arith, ne_eqb}
use Rattle.model.specs.Sheet.{Sheet, stages, dur, source, target, wait, has_kind}
use Rattle.model.specs.Starts.{start, earliest_end}
use Rattle.model.specs.Copies.{serves}
use Rattle.model.specs.Held.{Acyclic}
use Rattle.model.specs.declared.SheetView.{SheetView}
use Rattle.model.proofs.Bounded.{on}
use Rattle.model.proofs.StageKinds.{kind_below, smallest_over_le, smallest_over_at}
use Rattle.model.proofs.Starts.{end_le}
use Rattle.model.proofs.Held.{ranked_of}
use Rattle.kinds.specs.Ends.{end_by, EndTabled}
use Rattle.kinds.proofs.Sets.{below_4}
use Rattle.copies.specs.Given.{StageGiven, end_on, EndsOf, WaitsGiven, EdgeGiven}
use Rattle.copies.specs.Marks.{has_in}

end_small : {s : Sheet} → Acyclic s → (i h : ℕ) → i < stages s → h < s.kinds → start s i h + dur s i h ≤ 511000000
end_small {s} a i h l b = end_le s (ranked_of a) a.in_range i h l b

-- a stage's rows
module _ {s : Sheet} {view : SheetView} {ts : List ℕ} {i : ℕ} (g : StageGiven s view ts i) where
  sum_is : (h : ℕ) → has_kind s i h ≡ true → end_by view.durations.now ts i h ≡ start s i h + dur s i h
  sum_is h t = let b = kind_below s i h t in ap₂ ◌+◌ (g.starts_in.entries i h g.below b) (g.durations_in.entries i h g.below b)

  pub end_tabled : (h : ℕ) → has_kind s i h ≡ true → EndTabled view.durations.now ts i h
  end_tabled h t =
      let few = g.acyclic.in_range.stages_256 in
      let four = g.acyclic.in_range.kinds_4 in
      let b = kind_below s i h t in
      record {
        durations_room = omega (arith, g.below, g.durations_in.room);
        starts_room = omega (arith, g.below, g.starts_in.room);
        fits = omega (arith, sum_is h t, end_small g.acyclic i h g.below b);
      }

  pub end_there : (h : ℕ) → has_kind s i h ≡ true → end_by view.durations.now ts i h ≡ end_on s i h
  unfolding end_on
  end_there h t = rw t (sum_is h t)

pub end_lacking : (s : Sheet) (i h : ℕ) → has_kind s i h ≡ false → 4000000000 ≡ end_on s i h
unfolding end_on
end_lacking s i h f = rw f

-- its ends in a row
module _ {s : Sheet} {i : ℕ} {row : List ℕ} (v : EndsOf s i row) where
  row_kind : (h : ℕ) → h < 4 → has_kind s i h ≡ true → get_or row h 0 ≡ start s i h + dur s i h
  unfolding end_on
  row_kind h l t = rw t at (v.ends_are h l)

  row_lacking : (h : ℕ) → h < 4 → has_kind s i h ≡ false → get_or row h 0 ≡ 4000000000
  row_lacking h l f = v.ends_are h l ∙ sym (end_lacking s i h f)

  row_small : (h : ℕ) → h < 4 → get_or row h 0 ≤ 4000000000
  row_small h l =
      on (has_kind s i h)
      (λ t. omega (arith, row_kind h l t, end_small v.acyclic i h v.below (kind_below s i h t)))
      (λ f. omega (arith, row_lacking h l f))

  -- the earliest

  earliest_at : (h : ℕ) × (h < 4) × (get_or row h 0 ≡ earliest_end s i)
  unfolding earliest_end
  earliest_at =
      let m = smallest_over_at s i v.acyclic.in_range (λ h. start s i h + dur s i h) in
      let four = v.acyclic.in_range.kinds_4 in
      let b = kind_below s i m.0 m.1 in
      (m.0, omega arith, row_kind m.0 (omega arith) m.1 ∙ sym m.2)

  earliest_small : earliest_end s i ≤ 511000000
  unfolding earliest_end
  earliest_small =
      let m = smallest_over_at s i v.acyclic.in_range (λ h. start s i h + dur s i h) in
      omega (arith, m.2, end_small v.acyclic i m.0 v.below (kind_below s i m.0 m.1))

  earliest_le : (h : ℕ) → h < 4 → earliest_end s i ≤ get_or row h 0
  unfolding earliest_end
  earliest_le h l =
      on (has_kind s i h)
      (λ t. rw (row_kind h l t) (smallest_over_le s i (λ h. start s i h + dur s i h) h t))
      (λ f. omega (arith, row_lacking h l f, earliest_small))

  pub earliest_is : min (min (min (get_or row 0 0) (get_or row 1 0)) (get_or row 2 0)) (get_or row 3 0) ≡ earliest_end s i
  earliest_is =
      let least = min (min (min (get_or row 0 0) (get_or row 1 0)) (get_or row 2 0)) (get_or row 3 0) in
      let a = earliest_le 0 (omega arith) in
      let b = earliest_le 1 (omega arith) in
      let c = earliest_le 2 (omega arith) in
      let d = earliest_le 3 (omega arith) in
      let at = earliest_at in
      below_4 (λ h. get_or row h 0 ≡ earliest_end s i → least ≡ earliest_end s i) (λ e. omega arith) (λ e. omega arith) (λ e. omega arith) (λ e. omega arith)
      at.0 at.1 at.2

  -- the kinds that end then
  pub ends_then : {end : ℕ} → end ≡ earliest_end s i → (h : ℕ) → h < 4
      → (get_or row h 0 == end) ≡ (has_kind s i h && start s i h + dur s i h == earliest_end s i)
  ends_then e h l =
      on (has_kind s i h) (λ t. rw (e, t, row_kind h l t))
      (λ f. rw (e, f, row_lacking h l f) (ne_eqb 4000000000 (earliest_end s i) (λ q. omega (arith, earliest_small))))

-- the waits of an edge
module _ {s : Sheet} {view : SheetView} {row : List ℕ} {e : ℕ} (g : WaitsGiven s view row e) where
  module _ (h j : ℕ) (t : has_kind s (source s e) h ≡ true) (b : j < view.kinds) where
    abbrev arrival : ℕ
    arrival = get_or row h 0 + get_or view.waits.now (16 * e + 4 * h + j) 0

    kind_there : h < s.kinds
    kind_there = kind_below s (source s e) h t

    row_is : get_or row h 0 ≡ start s (source s e) h + dur s (source s e) h
    row_is = row_kind g.ends_of h (omega (arith, kind_there, g.ends_of.acyclic.in_range.kinds_4)) t

    wait_is : get_or view.waits.now (16 * e + 4 * h + j) 0 ≡ wait s e h j
    wait_is = g.waits_in.entries e h j g.below kind_there (rw (sym g.kinds_are) b)

    pub arrival_small : arrival < 4294967296
    arrival_small =
        let r = g.ends_of.acyclic.in_range in
        let first = end_small g.ends_of.acyclic (source s e) h g.ends_of.below kind_there in
        omega (arith, wait_is, row_is, first, r.wait_to e h j g.below kind_there (rw (sym g.kinds_are) b))

    -- whether kind h serves a copy on j
    pub serves_is : (start_there : ℕ) → start_there ≡ start s (target s e) j → leb arrival start_there ≡ (has_kind s (source s e) h && serves s e h j)
    unfolding serves
    serves_is start_there q = rw (t, row_is, wait_is, q)

-- its second stage
module _ {s : Sheet} {view : SheetView} {row ts : List ℕ} {e : ℕ} (g : EdgeGiven s view row ts e) where
  target_is : get_or view.ends.now (2 * e + 1) 0 ≡ target s e
  target_is = g.ends_in.targets e g.waits.below

  target_below : target s e < stages s
  target_below = g.waits.ends_of.acyclic.in_range.target_below e g.waits.below

  pub target_few : get_or view.ends.now (2 * e + 1) 0 < 256
  target_few = omega (arith, target_is, target_below, g.waits.ends_of.acyclic.in_range.stages_256)

  module _ (j : ℕ) where
    -- whether it has a copy on j, and when that starts
    pub copied_is : (copied : List ℕ) → has_in copied (target s e) j ≡ has_in copied (get_or view.ends.now (2 * e + 1) 0) j
    copied_is copied = rw target_is

    pub start_is : j < view.kinds → get_or ts (4 * get_or view.ends.now (2 * e + 1) 0 + j) 0 ≡ start s (target s e) j
    start_is l = rw target_is (g.starts_in.entries (target s e) j target_below (rw (sym g.waits.kinds_are) l))
