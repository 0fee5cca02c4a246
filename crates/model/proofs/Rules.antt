-- The definitions of starts, finish and copies meet the clauses of SPEC 3 and 4 (specs/Rules.antt), and the table of starts is the only one that does.
-- Assumes nothing.
use Prim.Native.Nat.{ℕ, ◌+◌, ◌≤◌, ◌<◌}
use mathlib.Core.Path.{◌≡◌, refl, sym, ◌∙◌, subst}
use mathlib.Core.Logic.Iff
use mathlib.Core.Logic.{◌↔◌}
use mathlib.Core.Bool.{Bool, true, false, cond, not, ◌&&◌, ◌||◌}
use native.Mathlib.Nat.{le_antisymm}
use native.Mathlib.Omega.{arith}
use borrow.Author.Tests.{leb-true, le-leb, ltb-true, ltb-false, lt-ltb, le-ltb, eqb-true, eq-eqb}
use lib.Dec.{ltb, eqb}
use Rattle.model.specs.Bounded.{every, some_below}
use Rattle.model.specs.Sheet.{Sheet, InRange, stages, edges, dur, source, target, wait, has_kind, preferred}
use Rattle.model.specs.Starts.{arrival, inputs_by, start_after, start_rule, start, earliest_end, finish}
use Rattle.model.specs.Copies.{serves, has_successor, sink_kind, serves_all, common_kind, serving_kind, picked, copy_rule, has_copy}
use Rattle.model.specs.Rules.{IsSmallest, IsLargest, EdgeTo, EdgeFrom, IsEnd, IsSum, StartEquation, FinishEquation, LowestKind, Serves, ServesAll}
use Rattle.model.specs.Rules.{CopyRules}
use Rattle.model.proofs.Bounded.{on, by_test, never, and_left, and_right, and_both, largest_ge, largest_le, largest_at, every_at, every_all, some_at}
use Rattle.model.proofs.Bounded.{some_of, some_none}
use Rattle.model.proofs.StageKinds.{smallest_over_le, smallest_over_at, preferred_le, preferred_found, preferred_passes}
use Rattle.model.proofs.Paths.{implied}
use Rattle.model.proofs.Starts.{Ranked, start_after_le, start_rule_ge, start_equation, start_unique}
use Rattle.model.proofs.Copies.{copy_equation, sink_below, serving_below}

-- there is one smallest number, and one largest

pub smallest_alone : (P : ℕ → Type 0) (a b : ℕ) → IsSmallest P a → IsSmallest P b → a ≡ b
smallest_alone P a b p q = le_antisymm (p.1 b q.0) (q.1 a p.0)

pub largest_alone : (P : ℕ → Type 0) (a b : ℕ) → IsLargest P a → IsLargest P b → a ≡ b
largest_alone P a b p q = le_antisymm (q.1 a p.0) (p.1 b q.0)

-- whether a stage has an edge to it, or from it

edge_to : {C : Type 0} (s : Sheet) (j : ℕ) → ((e : ℕ) → EdgeTo s j e → C) → (((e : ℕ) → EdgeTo s j e → ⊥) → C) → C
edge_to s j f g =
    on (some_below (edges s) (λ e. eqb (target s e) j))
    (λ t. let e = some_at (edges s) (λ e. eqb (target s e) j) t in f e.0 (e.1, eqb-true (target s e.0) j e.2))
    (λ t. g (λ e q. never (eq-eqb (target s e) j q.1) (some_none (edges s) (λ e. eqb (target s e) j) t e q.0)))

has_edge : (s : Sheet) (i e : ℕ) → EdgeFrom s i e → has_successor s i ≡ true
unfolding has_successor
has_edge s i e q = some_of (edges s) (λ e. eqb (source s e) i) e q.0 (eq-eqb (source s e) i q.1)

no_edge : (s : Sheet) (i : ℕ) → ((e : ℕ) → EdgeFrom s i e → ⊥) → has_successor s i ≡ false
unfolding has_successor
no_edge s i none =
    on (has_successor s i)
    (λ t. let e = some_at (edges s) (λ e. eqb (source s e) i) t in absurd (none e.0 (e.1, eqb-true (source s e.0) i e.2))) (λ t. t)

module _ (s : Sheet) (rng : InRange s) where
  -- the rule of starts, from any table

  arrival_is : (t : ℕ → ℕ → ℕ) (e k : ℕ) → IsSmallest (IsSum s t e k) (arrival s t e k)
  unfolding arrival
  arrival_is t e k =
      let f : ℕ → ℕ = λ h. t (source s e) h + dur s (source s e) h + wait s e h k in
      (smallest_over_at s (source s e) rng f, λ x q. rw q.2 (smallest_over_le s (source s e) f q.0 q.1))

  rule_without : (t : ℕ → ℕ → ℕ) (j k : ℕ) → ((e : ℕ) → EdgeTo s j e → ⊥) → start_rule s t j k ≡ 0
  unfolding start_rule inputs_by
  rule_without t j k none =
      le_antisymm
      (start_after_le s j k (inputs_by s t j k) 0
      (largest_le (edges s) _ 0 λ e l.
      by_test (λ (x : ℕ). x ≤ 0) (eqb (target s e) j) (λ q. absurd (none e (l, eqb-true (target s e) j q))) (λ q. omega arith)))
      (omega arith)

  rule_with : (t : ℕ → ℕ → ℕ) (j k e : ℕ) → EdgeTo s j e → IsLargest (λ x. (d : ℕ) × EdgeTo s j d × IsSmallest (IsSum s t d k) x) (start_rule s t j k)
  unfolding start_rule inputs_by start_after
  rule_with t j k e q =
      let f : ℕ → ℕ = λ d. cond (eqb (target s d) j) (arrival s t d k) 0 in
      let Reached : ℕ → Type 0 = λ x. (d : ℕ) × EdgeTo s j d × IsSmallest (IsSum s t d k) x in
      let upper : (d : ℕ) → EdgeTo s j d → arrival s t d k ≤ start_rule s t j k = λ d g. rw g.1 at (start_rule_ge s t d k g.0) in
      let m = largest_at (edges s) f (omega (arith, q.0)) in (
        on (eqb (target s m.0) j)
            (λ u.
            let v : start_rule s t j k ≡ arrival s t m.0 k = m.2 ∙ rw u in
            (m.0, (m.1, eqb-true (target s m.0) j u), subst (IsSmallest (IsSum s t m.0 k)) (sym v) (arrival_is t m.0 k)))
            (λ u.
            let z : start_rule s t j k ≡ 0 = m.2 ∙ rw u in
            let v : start_rule s t j k ≡ arrival s t e k = le_antisymm (omega arith) (upper e q) in
            (e, q, subst (IsSmallest (IsSum s t e k)) (sym v) (arrival_is t e k))),
        λ x g. rw (smallest_alone (IsSum s t g.0 k) x (arrival s t g.0 k) g.2 (arrival_is t g.0 k)) (upper g.0 g.1),
      )

  earliest_end_is : (i : ℕ) → IsSmallest (IsEnd s (start s) i) (earliest_end s i)
  unfolding earliest_end
  earliest_end_is i =
      let f : ℕ → ℕ = λ h. start s i h + dur s i h in
      (smallest_over_at s i rng f, λ x q. rw q.2 (smallest_over_le s i f q.0 q.1))

  pub finish_meets : FinishEquation s (start s) (finish s)
  unfolding finish
  finish_meets =
      let m = largest_at (stages s) (earliest_end s) rng.some_stage in (
        (m.0, m.1, subst (IsSmallest (IsEnd s (start s) m.0)) (sym m.2) (earliest_end_is m.0)),
        λ x g.
            rw (smallest_alone (IsEnd s (start s) g.0) x (earliest_end s g.0) g.2 (earliest_end_is g.0))
            (largest_ge (stages s) (earliest_end s) g.0 g.1),
      )

  module _ (r : Ranked s) where
    pub start_meets : StartEquation s (start s)
    start_meets =
        record {
          without_edge = λ j k lj lk none. start_equation s r j k lj ∙ rule_without (start s) j k none;
          with_edge = λ j k lj lk e q.
              subst (IsLargest (λ x. (d : ℕ) × EdgeTo s j d × IsSmallest (IsSum s (start s) d k) x)) (sym (start_equation s r j k lj))
              (rule_with (start s) j k e q);
        }

    -- the only table that does
    pub start_only : (t : ℕ → ℕ → ℕ) → StartEquation s t → (j k : ℕ) → j < stages s → k < s.kinds → t j k ≡ start s j k
    start_only t m =
        start_unique s r rng t
        (λ j k lj lk.
        edge_to s j
        (λ e q. largest_alone (λ x. (d : ℕ) × EdgeTo s j d × IsSmallest (IsSum s t d k) x) (t j k) (start_rule s t j k) (m.with_edge j k lj lk e q)
        (rule_with t j k e q))
        (λ none. m.without_edge j k lj lk none ∙ sym (rule_without t j k none)))

  -- the preferred kind is the lowest

  lowest_kind : (i : ℕ) (p : ℕ → Bool) (P : ℕ → Type 0) → ((h : ℕ) → (p h ≡ true) ↔ P h) → preferred s i p < s.kinds
      → (h : ℕ) → (h ≡ preferred s i p) ↔ LowestKind s i P h
  lowest_kind i p P same l h =
      let q = preferred_passes s i p l in
      let low : LowestKind s i P (preferred s i p) = ((q.0, (same (preferred s i p)).0 q.1), λ g u. preferred_le s i p g u.0 ((same g).1 u.1)) in
      (λ e. subst (LowestKind s i P) (sym e) low, λ m. smallest_alone (λ g. (has_kind s i g ≡ true) × P g) h (preferred s i p) m low)

  eqb_iff : (a b : ℕ) → (eqb a b ≡ true) ↔ (a ≡ b)
  eqb_iff a b = (eqb-true a b, eq-eqb a b)

  serves_iff : (e h k : ℕ) → (serves s e h k ≡ true) ↔ Serves s (start s) e h k
  unfolding serves
  serves_iff e h k =
      let x = start s (source s e) h + dur s (source s e) h + wait s e h k in
      (leb-true x (start s (target s e) k), le-leb x (start s (target s e) k))

  or_intro : (a b : Bool) → (a ≡ true → b ≡ true) → (not a || b) ≡ true
  or_intro true b f = f refl
  or_intro false b f = refl

  serves_all_iff : (has : ℕ → ℕ → Bool) (i h : ℕ) → (serves_all s has i h ≡ true) ↔ ServesAll s (start s) has i h
  unfolding serves_all
  serves_all_iff has i h =
      let row : ℕ → ℕ → Bool = λ e k. not (has (target s e) k) || serves s e h k in
      let all : ℕ → Bool = λ e. not (eqb (source s e) i) || every s.kinds (row e) in (
        λ t e q k l u.
            (serves_iff e h k).0
            (implied (has (target s e) k) (serves s e h k)
            (every_at s.kinds (row e)
            (implied (eqb (source s e) i) (every s.kinds (row e)) (every_at (edges s) all t e q.0) (eq-eqb (source s e) i q.1)) k l) u),
        λ f.
            every_all (edges s) all
            (λ e l.
            or_intro (eqb (source s e) i) (every s.kinds (row e))
            (λ q. every_all s.kinds (row e)
            (λ k m. or_intro (has (target s e) k) (serves s e h k) (λ u. (serves_iff e h k).1 (f e (l, eqb-true (source s e) i q) k m u))))),
      )

  ends_iff : (i h : ℕ) → (eqb (start s i h + dur s i h) (earliest_end s i) ≡ true) ↔ IsSmallest (IsEnd s (start s) i) (start s i h + dur s i h)
  ends_iff i h =
      let x = start s i h + dur s i h in (
        λ t. subst (IsSmallest (IsEnd s (start s) i)) (sym (eqb-true x (earliest_end s i) t)) (earliest_end_is i),
        λ m. eq-eqb x (earliest_end s i) (smallest_alone (IsEnd s (start s) i) x (earliest_end s i) m (earliest_end_is i)),
      )

  module _ (r : Ranked s) where
    same_truth : (a b : Bool) → a ≡ b → (a ≡ true) ↔ (b ≡ true)
    same_truth a b e = (λ t. sym e ∙ t, λ t. e ∙ t)

    rule_1 : (i : ℕ) → i < stages s → ((e : ℕ) → EdgeFrom s i e → ⊥) → (h : ℕ) → has_copy s i h ≡ eqb h (sink_kind s i)
    unfolding copy_rule
    rule_1 i l none h = copy_equation s rng r i h l ∙ rw (no_edge s i none)

    rule_2 : (i : ℕ) → i < stages s → (e : ℕ) → EdgeFrom s i e → common_kind s (has_copy s) i < s.kinds → (h : ℕ)
        → has_copy s i h ≡ eqb h (common_kind s (has_copy s) i)
    unfolding copy_rule
    rule_2 i l e q c h = copy_equation s rng r i h l ∙ rw (has_edge s i e q, lt-ltb (common_kind s (has_copy s) i) s.kinds c)

    rule_3 : (i : ℕ) → i < stages s → (e : ℕ) → EdgeFrom s i e → s.kinds ≤ common_kind s (has_copy s) i → (h : ℕ) → has_copy s i h ≡ picked s (has_copy s) i h
    unfolding copy_rule
    rule_3 i l e q c h = copy_equation s rng r i h l ∙ rw (has_edge s i e q, le-ltb (common_kind s (has_copy s) i) s.kinds c)

    no_common : (i : ℕ) → ((g : ℕ) → has_kind s i g ≡ true → ServesAll s (start s) (has_copy s) i g → ⊥) → s.kinds ≤ common_kind s (has_copy s) i
    unfolding common_kind
    no_common i none =
        on (ltb (common_kind s (has_copy s) i) s.kinds)
        (λ t.
        let q = preferred_passes s i (serves_all s (has_copy s) i) (ltb-true (common_kind s (has_copy s) i) s.kinds t) in
        absurd (none (common_kind s (has_copy s) i) q.0 ((serves_all_iff (has_copy s) i (common_kind s (has_copy s) i)).0 q.1)))
        (λ t. ltb-false (common_kind s (has_copy s) i) s.kinds t)

    -- the kind that an edge from i picks

    lowest_serving : (i d k h : ℕ) → EdgeFrom s i d → (h ≡ serving_kind s d k) ↔ LowestKind s i (λ g. Serves s (start s) d g k) h
    unfolding serving_kind
    lowest_serving i d k h q =
        subst (λ (x : ℕ). (h ≡ serving_kind s d k) ↔ LowestKind s x (λ g. Serves s (start s) d g k) h) q.1
        (lowest_kind (source s d) (λ g. serves s d g k) (λ g. Serves s (start s) d g k) (λ g. serves_iff d g k) (serving_below s rng r d k q.0) h)

    picked_iff : (i h : ℕ) → (picked s (has_copy s) i h ≡ true)
        ↔ ((d k : ℕ) × EdgeFrom s i d × (k < s.kinds) × (has_copy s (target s d) k ≡ true) × LowestKind s i (λ g. Serves s (start s) d g k) h)
    unfolding picked
    picked_iff i h =
        let copy : ℕ → ℕ → Bool = λ e k. has_copy s (target s e) k && eqb h (serving_kind s e k) in
        let from : ℕ → Bool = λ e. eqb (source s e) i && some_below s.kinds (copy e) in (
          λ t.
              let e = some_at (edges s) from t in
              let d = e.0 in
              let q : EdgeFrom s i d = (e.1, eqb-true (source s d) i (and_left (eqb (source s d) i) _ e.2)) in
              let k = some_at s.kinds (copy d) (and_right (eqb (source s d) i) _ e.2) in
              let p = and_right (has_copy s (target s d) k.0) (eqb h (serving_kind s d k.0)) k.2 in
              (d, k.0, q, k.1, and_left (has_copy s (target s d) k.0) _ k.2, (lowest_serving i d k.0 h q).0 (eqb-true h (serving_kind s d k.0) p)),
          λ w.
              let d = w.0 in
              let k = w.1 in
              some_of (edges s) from d w.2.0
              (and_both (eqb (source s d) i) (some_below s.kinds (copy d)) (eq-eqb (source s d) i w.2.1)
              (some_of s.kinds (copy d) k w.3
              (and_both (has_copy s (target s d) k) (eqb h (serving_kind s d k)) w.4
              (eq-eqb h (serving_kind s d k) ((lowest_serving i d k h w.2).1 w.5))))),
        )

    pub copies_meet : CopyRules s (start s) (has_copy s)
    unfolding sink_kind common_kind
    copies_meet =
        record {
          without_successor = λ i l none h.
              Iff.trans (Iff.trans (same_truth _ _ (rule_1 i l none h)) (eqb_iff h (sink_kind s i)))
              (lowest_kind i (λ h. eqb (start s i h + dur s i h) (earliest_end s i)) (λ g. IsSmallest (IsEnd s (start s) i) (start s i g + dur s i g))
              (ends_iff i) (sink_below s rng r i) h);
          with_common = λ i l e q g u a h.
              let c = preferred_found s i (serves_all s (has_copy s) i) g u ((serves_all_iff (has_copy s) i g).1 a) in
              Iff.trans (Iff.trans (same_truth _ _ (rule_2 i l e q c h)) (eqb_iff h (common_kind s (has_copy s) i)))
              (lowest_kind i (serves_all s (has_copy s) i) (ServesAll s (start s) (has_copy s) i) (serves_all_iff (has_copy s) i) c h);
          without_common = λ i l e q none h. Iff.trans (same_truth _ _ (rule_3 i l e q (no_common i none) h)) (picked_iff i h);
        }
