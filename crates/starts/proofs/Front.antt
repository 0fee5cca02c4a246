-- Laws of the running order's front: its first stages, while there are more. Assumes nothing.
use Rattle.std.proofs.Common.{◌≡◌, ℕ, zero, suc, ◌+◌, ◌≤◌, ◌<◌, true, false, not, List, [], ◌∷◌, ◌++◌, length, get_or, ltb, eqb, refl, ⊎_elim, ◌∙◌, arith}
use Rattle.std.proofs.Common.{add-one, length-append, ltb-true, eq-eqb, le_of_suc-le-suc, not-suc-le-zero, eq-or-lt_of_le}
use Rattle.std.proofs.Math.ListN.{get_or-append}
use Rattle.std.proofs.Math.Seq.{get_or_at}
use Rattle.model.specs.Bounded.{elem}
use Rattle.model.specs.Sheet.{Sheet, stages, edges, source, target}
use Rattle.model.specs.Paths.{can_run, next, order_in, running_order, circular}
use Rattle.model.proofs.Bounded.{on, by_test, never, and_right, lowest_passes, every_at}
use Rattle.model.proofs.Distinct.{elem_append_cases, elem_singleton}
use Rattle.model.proofs.Paths.{implied, order_length}

module _ (s : Sheet) where
  -- each step adds at most one stage
  front_grows : (x n : ℕ) → x ≤ n → length (order_in s n) + x ≤ length (order_in s x) + n
  front_grows x zero l = let z : x ≡ 0 = omega arith in rw z (omega arith)
  front_grows x (suc n) l =
      ⊎_elim (λ e. rw e (omega arith))
      (λ b.
      let r = front_grows x n (le_of_suc-le-suc b) in
      by_test (λ (o : List ℕ). length o + x ≤ length (order_in s x) + suc n) (ltb (next s (order_in s n)) (stages s))
      (λ t. omega (arith, length-append (order_in s n) (next s (order_in s n) ∷ []))) (λ t. omega arith))
      (eq-or-lt_of_le l)

  -- the predecessors of a stage that can run are done
  pub sources_done : (done : List ℕ) (j e : ℕ) → can_run s done j ≡ true → e < edges s → target s e ≡ j → elem (source s e) done ≡ true
  unfolding can_run
  sources_done done j e c l q =
      implied (eqb (target s e) j) (elem (source s e) done) (every_at (edges s) _ (and_right (not (elem j done)) _ c) e l) (eq-eqb (target s e) j q)

  -- the front has stages alone
  pub front_in_range : (i x : ℕ) → elem i (order_in s x) ≡ true → i < stages s
  front_in_range i zero = λ m. absurd (never m refl)
  front_in_range i (suc x) =
      by_test (λ (o : List ℕ). elem i o ≡ true → i < stages s) (ltb (next s (order_in s x)) (stages s))
      (λ t m.
      let l = ltb-true (next s (order_in s x)) (stages s) t in
      ⊎_elim (λ q. front_in_range i x q) (λ q. let e = elem_singleton i (next s (order_in s x)) q in omega arith)
      (elem_append_cases i (order_in s x) (next s (order_in s x) ∷ []) m))
      (λ t m. front_in_range i x m)

-- where there is no closed path, each step adds one
module _ (s : Sheet) (c : circular s ≡ false) where
  front_length : (x : ℕ) → x ≤ stages s → length (order_in s x) ≡ x
  unfolding running_order
  front_length x l = omega (arith, front_grows s 0 x (omega arith), front_grows s x (stages s) l, order_length s c)

  front_runs : (x : ℕ) → x < stages s → ltb (next s (order_in s x)) (stages s) ≡ true
  front_runs x l =
      on (ltb (next s (order_in s x)) (stages s)) (λ t. t)
      (λ t. absurd (omega (arith, rw t at (front_length (suc x) l), front_length x (omega arith))))

  pub front_below : (x : ℕ) → x < stages s → next s (order_in s x) < stages s
  front_below x l = ltb-true (next s (order_in s x)) (stages s) (front_runs x l)

  pub front_can_run : (x : ℕ) → x < stages s → can_run s (order_in s x) (next s (order_in s x)) ≡ true
  unfolding next
  front_can_run x l = lowest_passes (stages s) (can_run s (order_in s x)) (front_below x l)

  pub front_more : (x : ℕ) → x < stages s → order_in s (x + 1) ≡ order_in s x ++ (next s (order_in s x) ∷ [])
  front_more x l = rw (add-one, front_runs x l)

  front_held : (x n : ℕ) → x < n → n ≤ stages s → get_or (order_in s n) x 0 ≡ next s (order_in s x)
  front_held x zero l b = absurd (not-suc-le-zero l)
  front_held x (suc n) l b =
      rw (front_runs n b)
      (⊎_elim (λ e. rw e (get_or_at (order_in s n) (next s (order_in s n)) [] 0 n (front_length n (omega arith))))
      (λ d.
      get_or-append (order_in s n) (next s (order_in s n) ∷ []) 0 x (omega (arith, front_length n (omega arith)))
      ∙ front_held x n d (omega arith))
      (eq-or-lt_of_le (le_of_suc-le-suc l)))

  -- the stage at place x is the next one after the first x
  pub front_at : (x : ℕ) → x < stages s → get_or (running_order s) x 0 ≡ next s (order_in s x)
  unfolding running_order
  front_at x l = front_held x (stages s) l (omega arith)
