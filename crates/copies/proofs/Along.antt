-- What is found along the edges of a stage, copy by copy and edge by edge, and what it says once all are passed. Assumes nothing.
use Rattle.std.proofs.Common.{◌≡◌, ℕ, zero, suc, ◌+◌, ◌≤◌, ◌<◌, Bool, true, false, not, ◌&&◌, ◌||◌, ◌==◌, nat_le, refl, ap, ap₂, ◌∙◌, inl, inr, arith}
use Rattle.std.proofs.Common.{leb-true, le-leb, eqb-true, eq-eqb}
use Rattle.std.proofs.lemmas.Bool.{leb-false, cases_eq}
use mathlib.Core.Bool.{or-false}
use Rattle.model.specs.Bounded.{every, some_below}
use Rattle.model.specs.Sheet.{Sheet, edges, source, target}
use Rattle.model.specs.Copies.{serves, serves_all, picked}
use Rattle.model.proofs.Bounded.{on, and_left, and_right, and_both, some_at, some_of, some_cong, some_more}
use Rattle.kinds.proofs.Sets.{same_test}
use Rattle.copies.specs.Marks.{misses, picks, along, along_from}

-- one edge: the copies on the kinds below k are passed
module _ (s : Sheet) (has : ℕ → ℕ → Bool) (e : ℕ) (q : ℕ → ℕ → ℕ → Bool) (h : ℕ) where
  pub along_none : along s has e 0 q h ≡ false
  unfolding along
  along_none = refl

  module _ (k : ℕ) where
    pub along_copy : has (target s e) k ≡ true → along s has e (k + 1) q h ≡ (along s has e k q h || q e k h)
    unfolding along
    along_copy t = some_more k _ ∙ rw t

    pub along_other : has (target s e) k ≡ false → along s has e (k + 1) q h ≡ along s has e k q h
    unfolding along
    along_other f = some_more k _ ∙ rw f (or-false (along s has e k q h))

-- the edges from `at` on are passed

module _ (s : Sheet) (has : ℕ → ℕ → Bool) (i : ℕ) (q : ℕ → ℕ → ℕ → Bool) (h : ℕ) where
  -- an edge that a walk has found
  record Found (at e : ℕ) : Type 0 where
    pub in_range : e < edges s
    pub not_below : at ≤ e
    pub of_stage : source s e ≡ i
    pub passes : along s has e s.kinds q h ≡ true

  found_from : {at at' e : ℕ} → Found at e → at' ≤ e → Found at' e
  found_from f b = record { in_range = f.in_range; not_below = b; of_stage = f.of_stage; passes = f.passes }

  found : (at : ℕ) → along_from s has i at q h ≡ true → (e : ℕ) × Found at e
  unfolding along_from
  found at t =
      let f = some_at (edges s) (λ e. nat_le at e && (source s e == i && along s has e s.kinds q h)) t in
      let e = f.0 in
      let r = and_right (nat_le at e) _ f.2 in (
        e,
        record {
          in_range = f.1;
          not_below = leb-true at e (and_left (nat_le at e) _ f.2);
          of_stage = eqb-true (source s e) i (and_left (source s e == i) _ r);
          passes = and_right (source s e == i) _ r;
        },
      )

  finds : (at e : ℕ) → Found at e → along_from s has i at q h ≡ true
  unfolding along_from
  finds at e f =
      some_of (edges s) (λ e. nat_le at e && (source s e == i && along s has e s.kinds q h)) e f.in_range
      (and_both (nat_le at e) _ (le-leb at e f.not_below) (and_both (source s e == i) _ (eq-eqb (source s e) i f.of_stage) f.passes))

  pub from_none : (at : ℕ) → ((d : ℕ) → at ≤ d → d < edges s → source s d ≡ i → ⊥) → along_from s has i at q h ≡ false
  from_none at n =
      on (along_from s has i at q h) (λ t. let f = found at t in absurd (n f.0 f.1.not_below f.1.in_range f.1.of_stage)) (λ t. t)

  -- edge e is seen, and those of other stages are leapt over
  pub from_more : (at e next : ℕ) → at ≡ e + 1 → next ≤ e → e < edges s → source s e ≡ i → ((d : ℕ) → next ≤ d → d < e → source s d ≡ i → ⊥)
      → along_from s has i next q h ≡ (along_from s has i at q h || along s has e s.kinds q h)
  from_more at e next q₁ b l here leapt =
      same_test (along_from s has i next q h) (along_from s has i at q h || along s has e s.kinds q h) seen still
    where
      or_left : (a b : Bool) → a ≡ true → (a || b) ≡ true
      or_left a b t = rw t

      or_right : (a b : Bool) → b ≡ true → (a || b) ≡ true
      or_right true b t = refl
      or_right false b t = t

      at_e : (d : ℕ) → Found next d → (along_from s has i at q h || along s has e s.kinds q h) ≡ true
      at_e d f =
          elim (cases_eq d e) [
            | inl p ↦ or_right (along_from s has i at q h) _ (rw p at f.passes)
            | inr n ↦
                on (nat_le at d)
                (λ t. or_left _ (along s has e s.kinds q h) (finds at d (found_from f (leb-true at d t))))
                (λ t. absurd (leapt d f.not_below (omega (arith, leb-false at d t)) f.of_stage))
          ]

      seen : along_from s has i next q h ≡ true → (along_from s has i at q h || along s has e s.kinds q h) ≡ true
      seen t = let f = found next t in at_e f.0 f.1

      still : (along_from s has i at q h || along s has e s.kinds q h) ≡ true → along_from s has i next q h ≡ true
      still t =
          on (along_from s has i at q h)
          (λ u. let f = found at u in finds next f.0 (found_from f.1 (omega (arith, f.1.not_below))))
          (λ u. finds next e (record { in_range = l; not_below = b; of_stage = here; passes = rw u at t }))

-- all edges are passed

-- not some is every not
not_some : (n : ℕ) (p r : ℕ → Bool) → ((x : ℕ) → x < n → not (p x) ≡ r x) → not (some_below n p) ≡ every n r
not_some zero p r e = refl
not_some (suc n) p r e = not_or (some_below n p) (p n) ∙ ap₂ ◌&&◌ (not_some n p r (λ x l. e x (omega arith))) (e n (omega arith))
  where
    not_or : (a b : Bool) → not (a || b) ≡ (not a && not b)
    not_or true b = refl
    not_or false b = refl

module _ (s : Sheet) (has : ℕ → ℕ → Bool) (i h : ℕ) where
  pub all_picked : along_from s has i 0 (picks s) h ≡ picked s has i h
  unfolding along_from along picked
  all_picked = some_cong (edges s) _ _ (λ e l. rw (le-leb 0 e (omega arith)))

  pub none_missed : not (along_from s has i 0 (misses s) h) ≡ serves_all s has i h
  unfolding along_from along serves_all
  none_missed =
      not_some (edges s) _ _ λ e l.
      rw (le-leb 0 e (omega arith))
      (not_and (source s e == i) _
      ∙ ap (λ (b : Bool). not (source s e == i) || b) (not_some s.kinds _ _ λ k m. not_and_not (has (target s e) k) (serves s e h k)))
    where
      not_and : (a b : Bool) → not (a && b) ≡ (not a || not b)
      not_and true b = refl
      not_and false b = refl

      not_and_not : (a b : Bool) → not (a && not b) ≡ (not a || b)
      not_and_not true true = refl
      not_and_not true false = refl
      not_and_not false b = refl
