-- Laws of counting and of the pending edges: what one more edge and one more stage done change, and that the counts say which stage is next.
-- Assumes nothing.
use Prim.Native.Nat.{ℕ, zero, suc, ◌+◌, ◌*◌, ◌/◌, ◌≤◌, ◌<◌}
use mathlib.Core.Path.{◌≡◌, refl, sym, ap, ◌∙◌}
use mathlib.Core.Bool.{Bool, true, false, not, ◌&&◌, ◌||◌, or-true, or-false, or_assoc}
use mathlib.Core.List.{List, [], ◌∷◌, ◌++◌}
use native.Mathlib.Numerals.{add-one}
use native.Mathlib.Omega.{arith}
use Rattle.std.proofs.lemmas.Bool.Decides.{nat_tests}
use borrow.Author.Tests.{eqb-true, eq-eqb, ne_eqb}
use lib.Dec.{eqb}
use lib.ListN.{length, get_or, set, take, replicate, length-set, length-replicate}
use Rattle.std.specs.Simd.{first_chunks}
use Rattle.std.proofs.lemmas.List.{get_or-replicate, get_or-take, length-take-le}
use Rattle.model.specs.Bounded.{every, lowest, elem}
use Rattle.model.specs.Sheet.{Sheet, stages, edges, source, target}
use Rattle.model.specs.Paths.{can_run, next}
use Rattle.model.specs.Held.{bit}
use Rattle.model.proofs.Bounded.{never, lowest_cong}
use Rattle.adjacency.proofs.Adjacency.{leap}
use Rattle.adjacency.proofs.Stores.{entry_by_entry}
use Rattle.order.specs.Given.{EdgesGiven}
use Rattle.order.specs.Ready.{ready}
use Rattle.order.specs.Pending.{count, edges_between, pending_into, Counted}
use Rattle.model.proofs.Bit.{bit_le}
use Rattle.model.proofs.Chunks.{chunk_entry}

-- counting

pub count_le : (n : ℕ) (p : ℕ → Bool) → count n p ≤ n
count_le zero p = omega arith
count_le (suc n) p = let r = count_le n p in let b = bit_le (p n) in omega arith

pub count_more : (n : ℕ) (p : ℕ → Bool) → count (n + 1) p ≡ count n p + bit (p n)
count_more n p = rw add-one

-- numbers that fail are leapt over
pub count_leap : (p : ℕ → Bool) (n m : ℕ) → n ≤ m → ((d : ℕ) → n ≤ d → d < m → p d ≡ false) → count m p ≡ count n p
count_leap p n m b z = leap (λ x. count x p) n m b (λ d c l. rw (z d c l) (omega arith))

-- two tests part what a third one counts
count_parts : (n : ℕ) (p q r : ℕ → Bool) → ((e : ℕ) → bit (p e) ≡ bit (q e) + bit (r e)) → count n p ≡ count n q + count n r
count_parts zero p q r h = refl
count_parts (suc n) p q r h = let a = count_parts n p q r h in let b = h n in omega arith

-- nothing is counted where every number fails
count_none : (n : ℕ) (p q : ℕ → Bool) → ((e : ℕ) → q e ≡ not (p e)) → every n q ≡ eqb (count n p) 0
count_none zero p q h = refl
count_none (suc n) p q h = rw (count_none n p q h, h n) (last (p n) (count n p))
  where
    last : (b : Bool) (x : ℕ) → (eqb x 0 && not b) ≡ eqb (x + bit b) 0
    last true x = grind (arith, nat_tests)
    last false x = grind (arith, nat_tests)

-- before any stage is done: the table has counted the first e edges

pub record Counting (s : Sheet) (e : ℕ) (pending : List ℕ) : Type 0 where
  pub entries : (j : ℕ) → j < length pending → get_or pending j 0 ≡ pending_into s e [] j

-- no edge is counted where every entry is 0
pub counting_start : (s : Sheet) (pending : List ℕ) → ((j : ℕ) → j < length pending → get_or pending j 0 ≡ 0) → Counting s 0 pending
unfolding pending_into
counting_start s pending z = record { entries = z }

pub counting_zeros : (s : Sheet) (n : ℕ) → Counting s 0 (replicate n 0)
counting_zeros s n = counting_start s (replicate n 0) (λ j l. get_or-replicate n j 0 0 (omega (arith, length-replicate {A = ℕ} n 0)))

-- one more edge

module _ (s : Sheet) (pending : List ℕ) (e : ℕ) (c : Counting s e pending) where
  pending_more : (j : ℕ) → j < length pending → pending_into s (e + 1) [] j ≡ get_or pending j 0 + bit (eqb (target s e) j)
  unfolding pending_into
  pending_more j b = count_more e _ ∙ rw c.entries refl

  pub counting_more : target s e < length pending → Counting s (e + 1) (set pending (target s e) (get_or pending (target s e) 0 + 1))
  counting_more within =
      let t = target s e in
      record {
        entries = λ j h.
            entry_by_entry (λ j v. j < length pending → v ≡ pending_into s (e + 1) [] j) pending t _ within
            (λ b. rw (eq-eqb t t refl) at (sym (pending_more t b)))
            (λ j d b. omega (arith, rw (ne_eqb t j (λ p. d (sym p))) at (pending_more j b))) j (rw length-set at h);
      }

-- edge e, which goes to stage t, is counted
pub record CountStep (s : Sheet) (e : ℕ) (pending : List ℕ) (t : ℕ) : Type 0 where
  pub within : t < 256
  pub few : get_or pending t 0 < 1024
  pub after : Counting s (e + 1) (set pending t (get_or pending t 0 + 1))

module _ {s : Sheet} {m : ℕ} {ends : List ℕ} (g : EdgesGiven s m ends) {e : ℕ} {pending : List ℕ} (c : Counting s e pending) where
  module _ (l : e < edges s) (full : length pending ≡ 256) where
    to_stage : target s e < length pending
    to_stage = omega (arith, g.in_range.target_below e l, g.in_range.stages_256)

    -- no more edges go to a stage than there are
    step_to : CountStep s e pending (target s e)
    unfolding pending_into
    step_to =
        let t = target s e in
        record {
          within = omega (arith, to_stage);
          few = omega (arith, c.entries t to_stage, count_le e (λ d. eqb (target s d) t), g.in_range.edges_1024);
          after = counting_more s pending e c to_stage;
        }

  -- the pairs of the table's front are the edges

  module _ (pairs : List (List ℕ)) (count : length pairs ≡ length (take (2 * m) ends) / 2) where
    pairs_all : length pairs ≡ m
    pairs_all = omega (arith, length-take-le {A = ℕ}, g.ends_in.room, g.edges_are, g.in_range.edges_1024)

    pub counting_step : pairs ≡ first_chunks 2 (length (take (2 * m) ends) / 2) (take (2 * m) ends) → e < length pairs → length pending ≡ 256
        → CountStep s e pending (get_or (get_or pairs e []) 1 0)
    counting_step front l full =
        let b : e < m = omega (arith, pairs_all) in
        let to : get_or (get_or pairs e []) 1 0 ≡ target s e =
        rw front
        (chunk_entry 2 (length (take (2 * m) ends) / 2) (take (2 * m) ends) e 1 (omega arith) (omega arith)
        ∙ get_or-take (2 * m) ends (2 * e + 1) 0 (omega arith) ∙ g.ends_in.targets e (omega (arith, g.edges_are))) in
        rw to (step_to (omega (arith, g.edges_are)) full)

-- one more stage done

pub elem_snoc : (x : ℕ) (l : List ℕ) (y : ℕ) → elem x (l ++ (y ∷ [])) ≡ (elem x l || eqb x y)
elem_snoc x [] y = or-false (eqb x y)
elem_snoc x (z ∷ l) y = rw (elem_snoc x l y) (sym (or_assoc (eqb x z) (elem x l) (eqb x y)))

-- its edges were pending, and are no longer
pub pending_parts : (s : Sheet) (m : ℕ) (done : List ℕ) (i j : ℕ) → elem i done ≡ false
    → pending_into s m done j ≡ pending_into s m (done ++ (i ∷ [])) j + edges_between s m i j
unfolding pending_into edges_between
pending_parts s m done i j new =
    count_parts m _ _ _
    (λ e.
    rw (elem_snoc (source s e) done i)
    (parts (elem (source s e) done) (eqb (source s e) i) (eqb (target s e) j) (λ t. ap (λ (x : ℕ). elem x done) (eqb-true (source s e) i t) ∙ new)))
  where
    parts : (a b t : Bool) → (b ≡ true → a ≡ false) → bit (not a && t) ≡ bit (not (a || b) && t) + bit (b && t)
    parts true true t h = absurd (never refl (h refl))
    parts true false t h = refl
    parts false true t h = omega arith
    parts false false t h = omega arith

-- the stage that is next: a stage can run when it isn't done and no edge into it is pending

module _ (s : Sheet) (done : List ℕ) where
  none_pending : (j : ℕ) → every (edges s) (λ e. not (eqb (target s e) j) || elem (source s e) done) ≡ eqb (pending_into s (edges s) done j) 0
  unfolding pending_into
  none_pending j = count_none (edges s) _ _ (λ e. not_pending (elem (source s e) done) (eqb (target s e) j))
    where
      not_pending : (a t : Bool) → (not t || a) ≡ not (not a && t)
      not_pending true t = or-true (not t)
      not_pending false t = or-false (not t)

  can_run_is : (j : ℕ) → can_run s done j ≡ eqb (pending_into s (edges s) done j + 2048 * bit (elem j done)) 0
  unfolding can_run
  can_run_is j = rw (none_pending j) (unmarked (elem j done) (pending_into s (edges s) done j))
    where
      unmarked : (b : Bool) (x : ℕ) → (not b && eqb x 0) ≡ eqb (x + 2048 * bit b) 0
      unmarked true x = grind (arith, nat_tests)
      unmarked false x = grind (arith, nat_tests)

  pub next_is : (pending : List ℕ) → stages s ≤ length pending → Counted s done pending → lowest (stages s) (ready pending) ≡ next s done
  unfolding next
  next_is pending l c =
      lowest_cong (stages s) _ _ (λ j b. ap (λ (x : ℕ). eqb x 0) (c.entries j (omega arith)) ∙ sym (can_run_is j))
