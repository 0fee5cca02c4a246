-- Our plan meets the clauses on boards and on the printed order (specs/Rules.antt, `PlanRules`). Assumes nothing.
use Prim.Native.Nat.{ℕ, zero, suc, ◌≤◌, ◌<◌}
use mathlib.Core.Path.{◌≡◌, refl, sym}
use mathlib.Core.Logic.{◌⊎◌, inl, inr, ⊎_elim}
use mathlib.Core.Bool.{Bool, true, false, ◌&&◌, ◌||◌}
use mathlib.Core.List.Memᴰ
use mathlib.Core.List.{List, [], ◌∷◌}
use native.Mathlib.Nat.{not-suc-le-zero, le_of_suc-le-suc}
use native.Mathlib.Omega.{arith}
use borrow.Author.Tests.{leb-false, ltb-true, ltb-false, eqb-true, eqb-false}
use lib.Dec.{leb, ltb, eqb}
use lib.ListN.{length, get_or}
use Rattle.model.specs.Sheet.{Sheet, stages}
use Rattle.model.specs.Starts.{start}
use Rattle.model.specs.Copies.{has_copy}
use Rattle.model.specs.Plans.{Copy, ◌∈◌, end, freed, at}
use Rattle.model.specs.Boards.{before, insert_copy, unassigned, with_stage, ordered, free_board, occupy, ends_with, assign, plan}
use Rattle.model.specs.Rules.{Before, PlanRules}
use Rattle.model.proofs.Bounded.{on, by_test, never}
use Rattle.model.proofs.Boards.{insert_cases, with_sound, ordered_sound, assign_sound, plan_sound, plan_has, Pairwise, pairwise_at, free_le}
use Rattle.model.proofs.Boards.{assign_after}

-- the order of SPEC 6.1: each step compares a number first, and where it is equal goes on

pub first_true : (x y : ℕ) (b : Bool) {R : Type 0} → (b ≡ true → R) → (ltb x y || eqb x y && b) ≡ true → (x < y) ⊎ ((x ≡ y) × R)
first_true x y b f t =
    on (ltb x y) (λ l. inl (ltb-true x y l))
    (λ l. on (eqb x y) (λ e. inr (eqb-true x y e, f (rw (l, e) at t))) (λ e. absurd (never (rw (l, e) at t) refl)))

pub first_false : (x y : ℕ) (b : Bool) {R : Type 0} → (x ≡ y → b ≡ false → R) → (ltb x y || eqb x y && b) ≡ false → (y < x) ⊎ ((y ≡ x) × R)
first_false x y b f t =
    on (ltb x y) (λ l. absurd (never refl (rw l at t)))
    (λ l.
    on (eqb x y) (λ e. let q = eqb-true x y e in inr (sym q, f q (rw (l, e) at t)))
    (λ e. inl (omega (arith, ltb-false x y l, eqb-false x y e))))

first_trans : {x y z : ℕ} {R S T : Type 0} → (R → S → T) → (x < y) ⊎ ((x ≡ y) × R) → (y < z) ⊎ ((y ≡ z) × S) → (x < z) ⊎ ((x ≡ z) × T)
first_trans f (inl p) (inl q) = inl (omega arith)
first_trans f (inl p) (inr q) = inl (omega arith)
first_trans f (inr p) (inl q) = inl (omega arith)
first_trans f (inr p) (inr q) = inr (omega arith, f p.1 q.1)

before_true : (a b : Copy) → before a b ≡ true → Before a b
unfolding before
before_true a b = first_true a.start b.start _ (first_true a.kind b.kind _ (ltb-true a.stage b.stage))

before_trans : (a b c : Copy) → Before a b → Before b c → Before a c
before_trans a b c = first_trans (first_trans (λ p q. omega arith))

-- copies of different stages or kinds, so that one is before the other
abbrev Other : Copy → Copy → Type 0
Other a b = a.kind ≡ b.kind → a.stage ≡ b.stage → ⊥

before_false : (a b : Copy) → Other a b → before a b ≡ false → Before b a
unfolding before
before_false a b o =
    first_false a.start b.start _
    (λ e. first_false a.kind b.kind _ (λ k t. let l = ltb-false a.stage b.stage t in let n = o k in omega arith))

insert_order : (a : Copy) (p : List Copy) → ((d : Copy) → d ∈ p → Other a d) → Pairwise Before p → Pairwise Before (insert_copy a p)
insert_order a [] f o = (λ d m. absurd (Memᴰ.not-nil m), tt)
insert_order a (c ∷ p) f o =
    by_test (Pairwise Before) (before a c)
    (λ t.
    let l = before_true a c t in
    (λ d m. ⊎_elim (λ e. rw e l) (λ g. before_trans a c d l (o.0 d g)) (Memᴰ.cases_cons m), o))
    (λ t.
    let l = before_false a c (f c (Memᴰ.head refl)) t in
    (λ d m. ⊎_elim (λ e. rw e l) (λ g. o.0 d g) (insert_cases d a p m), insert_order a p (λ d m. f d (Memᴰ.tail m)) o.1))

module _ (s : Sheet) where
  -- the kinds below h, in turn, of a stage that is not in the list yet
  with_order : (i h : ℕ) (p : List Copy) → ((c : Copy) → c ∈ p → c.stage < i) → Pairwise Before p → Pairwise Before (with_stage s i h p)
  unfolding unassigned
  with_order i zero p f o = o
  with_order i (suc h) p f o =
      let r = with_order i h p f o in
      by_test (Pairwise Before) (has_copy s i h)
      (λ t.
      insert_order (unassigned s i h) (with_stage s i h p)
      (with_sound s i h p (Other (unassigned s i h)) (λ g l u k q. omega arith) (λ c m k q. omega (arith, f c m))) r)
      (λ t. r)

  pub ordered_order : (n : ℕ) → Pairwise Before (ordered s n)
  ordered_order zero = tt
  ordered_order (suc n) = with_order n s.kinds (ordered s n) (λ c m. (ordered_sound s n c m).stage_below) (ordered_order n)

  -- the order looks at no board
  assign_order : (ends : ℕ → List ℕ) (p : List Copy) → Pairwise Before p → Pairwise Before (assign s ends p)
  assign_order ends [] o = tt
  assign_order ends (c ∷ p) o = (assign_sound s (ends_with s ends c) p (Before c) (λ d b m. o.0 d m), assign_order (ends_with s ends c) p o.1)

  pub printed_order : (m n : ℕ) → m < n → n < length (plan s) → Before (at (plan s) m) (at (plan s) n)
  unfolding plan
  printed_order = pairwise_at Before (plan s) (assign_order (λ k. []) (ordered s (stages s)) (ordered_order (stages s)))

-- SPEC 5.1: each board below the one that a copy gets is in use

free_lower : (l : List ℕ) (t b : ℕ) → b < free_board l t → t < get_or l b 0
free_lower [] t b = λ h. absurd (not-suc-le-zero h)
free_lower (e ∷ l) t zero = by_test (λ (f : ℕ). 0 < f → t < e) (leb e t) (λ q h. absurd (not-suc-le-zero h)) (λ q h. leb-false e t q)
free_lower (e ∷ l) t (suc b) =
    by_test (λ (f : ℕ). suc b < f → t < get_or l b 0) (leb e t) (λ q h. absurd (not-suc-le-zero h)) (λ q h. free_lower l t b (le_of_suc-le-suc h))

-- a time after t is that at which the copy just put there frees its board, or an older one
occupy_end : (l : List ℕ) (b e x t : ℕ) → b ≤ length l → t < get_or (occupy l b e) x 0 → ((b ≡ x) × (t < e)) ⊎ (t < get_or l x 0)
occupy_end [] zero e zero t h u = inl (refl, u)
occupy_end [] zero e (suc x) t h u = absurd (not-suc-le-zero u)
occupy_end [] (suc b) e x t h u = absurd (not-suc-le-zero h)
occupy_end (y ∷ l) zero e zero t h u = inl (refl, u)
occupy_end (y ∷ l) zero e (suc x) t h u = inr u
occupy_end (y ∷ l) (suc b) e zero t h u = inr u
occupy_end (y ∷ l) (suc b) e (suc x) t h u = ⊎_elim (λ r. inl (omega arith)) (λ r. inr r) (occupy_end l b e x t (le_of_suc-le-suc h) u)

module _ (s : Sheet) where
  -- when copy n starts, an earlier copy is still on board b of its kind
  abbrev InUse : List Copy → ℕ → ℕ → Type 0
  InUse p n b = (m : ℕ) × (m < n) × ((at p m).kind ≡ (at p n).kind) × ((at p m).board ≡ b) × ((at p n).start < freed s (at p m))

  -- a board below that of copy n was in use at first, or came into use in this list
  assign_use : (ends : ℕ → List ℕ) (p : List Copy) (n b : ℕ) → b < (at (assign s ends p) n).board
      → ((at (assign s ends p) n).start < get_or (ends (at (assign s ends p) n).kind) b 0) ⊎ InUse (assign s ends p) n b
  unfolding at ends_with freed end
  assign_use ends [] n b h = absurd (not-suc-le-zero h)
  assign_use ends (c ∷ p) zero b h = inl (free_lower (ends c.kind) c.start b h)
  assign_use ends (c ∷ p) (suc n) b h =
      let d = at (assign s (ends_with s ends c) p) n in
      let l = ends d.kind in
      ⊎_elim
      (λ u.
      on (eqb d.kind c.kind)
      (λ t.
      let k = eqb-true d.kind c.kind t in
      ⊎_elim (λ r. inr (0, omega arith, sym k, rw (← k) r.0, r.1)) (λ r. inl r)
      (occupy_end l (free_board l c.start) (freed s c) b d.start (free_le l c.start) (rw t at u)))
      (λ t. inl (rw t at u)))
      (λ r. inr (suc r.0, omega arith, r.2, r.3, r.4))
      (assign_use (ends_with s ends c) p n b h)

  -- SPEC 4.6, 5 and the order of 6.1, of any sheet
  pub plan_rules : PlanRules s (start s) (has_copy s) (plan s)
  unfolding plan
  plan_rules =
      record {
        copies = λ c m. let o = plan_sound s c m in (o.stage_below, o.kind_below, o.has);
        all_copies = λ i h l m t. let r = plan_has s i h l m t in (r.0, r.1, r.2, r.3);
        at_start = λ c m. (plan_sound s c m).at_start;
        in_order = printed_order s;
        board_free = λ m n l h b. pairwise_at _ (plan s) (assign_after s (λ k. []) (ordered s (stages s))) m n l h b.kind b.board;
        lower_in_use = λ n b h l. ⊎_elim (λ u. absurd (not-suc-le-zero u)) (λ r. r) (assign_use (λ k. []) (ordered s (stages s)) n b l);
      }
