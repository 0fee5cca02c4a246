-- Boards: no assignment of boards to our copies uses fewer boards of a kind than the first-fit rule. When the rule opens a board, all the
-- others still run their last copies or clear after them, so as many copies keep a board of that kind at one time as are open then. Assumes nothing.
use Prim.Native.Nat.{ℕ, zero, suc, ◌+◌, ◌*◌, ◌≤◌, ◌<◌}
use mathlib.Core.Path.{◌≡◌, refl, sym, ap, ◌∙◌, subst, subst₂}
use mathlib.Core.Logic.{◌⊎◌, inl, inr, ⊎_elim}
use mathlib.Core.Bool.{true, cond}
use mathlib.Core.List.Memᴰ
use mathlib.Core.List.{List, [], ◌∷◌, map}
use native.Mathlib.Nat.{not-suc-le-zero, le_of_suc-le-suc, le_trans, le_antisymm}
use native.Mathlib.Omega.{arith}
use borrow.Author.Tests.{leb-false, ltb-true, ltb-false, eqb-true, eq-eqb}
use lib.Dec.{leb, ltb, eqb}
use lib.ListN.{length, length-map}
use Rattle.model.specs.Bounded.{keep, elem}
use Rattle.model.specs.Sheet.{Sheet, InRange, stages}
use Rattle.model.specs.Copies.{has_copy}
use Rattle.model.specs.Plans.{Copy, on_board, ◌∈◌, end, freed, boards_of, boards_used, on_boards, Assignment}
use Rattle.model.specs.Boards.{before, insert_copy, unassigned, with_stage, ordered, free_board, occupy, ends_with, assign, plan, board_count}
use Rattle.model.specs.Rules.{Before}
use Rattle.model.proofs.Bounded.{on, by_test, never}
use Rattle.model.proofs.Distinct.{Distinct, elem_here, elem_there, elem_cases, not_elem, pigeonhole, different_fits}
use Rattle.model.proofs.Boards.{ordered_sound, Disjoint, Pairwise, AllDisjoint, disjoint_of, free_le, occupy_same, ends_grow, assign_disjoint}
use Rattle.model.proofs.PlanRules.{ordered_order}

-- the printed order is first by start
before_start : (a b : Copy) → Before a b → a.start ≤ b.start
before_start a b o = ⊎_elim (λ l. omega arith) (λ e. omega arith) o

-- the boards of a kind

pub boards_mem : (k x : ℕ) (p : List Copy) → elem x (boards_of k p) ≡ true → (c : Copy) × (c ∈ p) × (c.kind ≡ k) × (c.board ≡ x)
unfolding boards_of
boards_mem k x [] = λ h. absurd (never h refl)
boards_mem k x (c ∷ p) =
    by_test (λ (q : List Copy). elem x (map (λ c. c.board) q) ≡ true → (d : Copy) × (d ∈ (c ∷ p)) × (d.kind ≡ k) × (d.board ≡ x)) (eqb c.kind k)
    (λ t h.
    ⊎_elim (λ e. (c, Memᴰ.head refl, eqb-true c.kind k t, sym e))
    (λ g. let r = boards_mem k x p g in (r.0, Memᴰ.tail r.1, r.2, r.3))
    (elem_cases x c.board (boards_of k p) h))
    (λ t h. let r = boards_mem k x p h in (r.0, Memᴰ.tail r.1, r.2, r.3))

mem_boards : (c : Copy) (p : List Copy) → c ∈ p → elem c.board (boards_of c.kind p) ≡ true
unfolding boards_of
mem_boards c [] m = absurd (Memᴰ.not-nil m)
mem_boards c (d ∷ p) m =
    ⊎_elim
    (λ e.
    subst (λ (x : Copy). elem c.board
    (map (λ b. b.board) (cond (eqb x.kind c.kind) (x ∷ keep (λ b. eqb b.kind c.kind) p) (keep (λ b. eqb b.kind c.kind) p))) ≡ true) e
    (rw (eq-eqb c.kind c.kind refl) (elem_here c.board (boards_of c.kind p) refl)))
    (λ g.
    by_test (λ (q : List Copy). elem c.board (map (λ b. b.board) q) ≡ true) (eqb d.kind c.kind)
    (λ t. elem_there c.board d.board (boards_of c.kind p) (mem_boards c p g)) (λ t. mem_boards c p g))
    (Memᴰ.cases_cons m)

-- the boards that the rule opens

abbrev pub final_ends : Sheet → (ℕ → List ℕ) → List Copy → ℕ → List ℕ
final_ends s ends [] = ends
final_ends s ends (c ∷ p) = final_ends s (ends_with s ends c) p

module _ (s : Sheet) where
  final_grow : (ends : ℕ → List ℕ) (p : List Copy) (k x : ℕ) → x < length (ends k) → x < length (final_ends s ends p k)
  final_grow ends [] k x h = h
  final_grow ends (c ∷ p) k x h = final_grow (ends_with s ends c) p k x (ends_grow s ends c k x h).0

  pub board_below : (ends : ℕ → List ℕ) (p : List Copy) (c : Copy) → c ∈ assign s ends p → c.board < length (final_ends s ends p c.kind)
  unfolding ends_with
  board_below ends [] c m = absurd (Memᴰ.not-nil m)
  board_below ends (d ∷ p) c m =
      ⊎_elim
      (λ e.
      subst (λ (x : Copy). x.board < length (final_ends s (ends_with s ends d) p x.kind)) (sym e)
      (final_grow (ends_with s ends d) p d.kind (free_board (ends d.kind) d.start)
      (rw (eq-eqb d.kind d.kind refl)
      (occupy_same (ends d.kind) (free_board (ends d.kind) d.start) (freed s d) (free_le (ends d.kind) d.start)).0)))
      (λ g. board_below (ends_with s ends d) p c g)
      (Memᴰ.cases_cons m)

  count_le : (k : ℕ) → board_count s k ≤ length (final_ends s (λ j. []) (ordered s (stages s)) k)
  unfolding board_count boards_used plan
  count_le k =
      different_fits (length (final_ends s (λ j. []) (ordered s (stages s)) k)) (boards_of k (assign s (λ j. []) (ordered s (stages s))))
      (λ x h.
      let r = boards_mem k x (assign s (λ j. []) (ordered s (stages s))) h in
      subst₂ (λ (j y : ℕ). y < length (final_ends s (λ i. []) (ordered s (stages s)) j)) r.2 r.3
      (board_below (λ i. []) (ordered s (stages s)) r.0 r.1))

-- copies that keep their boards at one time

occupy_cases : (c d : Copy) (l : List Copy) (b : ℕ) → d ∈ occupy l b c → (d ≡ c) ⊎ (d ∈ l)
occupy_cases c d [] b m = Memᴰ.cases_cons m
occupy_cases c d (x ∷ l) zero m = ⊎_elim (λ e. inl e) (λ g. inr (Memᴰ.tail g)) (Memᴰ.cases_cons m)
occupy_cases c d (x ∷ l) (suc b) m =
    ⊎_elim (λ e. inr (Memᴰ.head e)) (λ g. ⊎_elim (λ e. inl e) (λ h. inr (Memᴰ.tail h)) (occupy_cases c d l b g)) (Memᴰ.cases_cons m)

occupy_map : (f : Copy → ℕ) (l : List Copy) (b : ℕ) (c : Copy) → occupy (map f l) b (f c) ≡ map f (occupy l b c)
occupy_map f [] b c = refl
occupy_map f (x ∷ l) zero c = refl
occupy_map f (x ∷ l) (suc b) c = ap {B = List ℕ} (λ (r : List ℕ). f x ∷ r) (occupy_map f l b c)

occupy_length : (l : List ℕ) (b e : ℕ) → b < length l → length (occupy l b e) ≡ length l
occupy_length [] b e h = absurd (not-suc-le-zero h)
occupy_length (x ∷ l) zero e h = refl
occupy_length (x ∷ l) (suc b) e h = ap suc (occupy_length l b e (le_of_suc-le-suc h))

map_mem : (x : ℕ) (l : List Copy) → elem x (map (λ d. d.board) l) ≡ true → (d : Copy) × (d ∈ l) × (d.board ≡ x)
map_mem x [] h = absurd (never h refl)
map_mem x (c ∷ l) h =
    ⊎_elim (λ e. (c, Memᴰ.head refl, sym e)) (λ g. let r = map_mem x l g in (r.0, Memᴰ.tail r.1, r.2))
    (elem_cases x c.board (map (λ d. d.board) l) h)

module _ (s : Sheet) where
  disjoint_sym : (c d : Copy) → Disjoint s c d → Disjoint s d c
  disjoint_sym c d f k b = ⊎_elim (λ l. inr l) (λ l. inl l) (f (sym k) (sym b))

  occupy_disjoint : (l : List Copy) (b : ℕ) (c : Copy) → AllDisjoint s l → ((d : Copy) → d ∈ l → Disjoint s d c) → AllDisjoint s (occupy l b c)
  occupy_disjoint [] b c k f = (λ d m. absurd (Memᴰ.not-nil m), tt)
  occupy_disjoint (x ∷ l) zero c k f = (λ d m. disjoint_sym d c (f d (Memᴰ.tail m)), k.1)
  occupy_disjoint (x ∷ l) (suc b) c k f = (
    λ d m. ⊎_elim (λ e. subst (λ (y : Copy). Disjoint s x y) (sym e) (f x (Memᴰ.head refl))) (λ g. k.0 d g) (occupy_cases c d l b m),
    occupy_disjoint l b c k.1 (λ d m. f d (Memᴰ.tail m)),
  )

  -- where no board is free, each last copy still keeps its own
  busy : (l : List Copy) (t : ℕ) → length (map (freed s) l) ≤ free_board (map (freed s) l) t → (d : Copy) → d ∈ l → t < freed s d
  busy [] t = λ h d m. absurd (Memᴰ.not-nil m)
  busy (x ∷ l) t =
      by_test (λ (b : ℕ). suc (length (map (freed s) l)) ≤ b → (d : Copy) → d ∈ (x ∷ l) → t < freed s d) (leb (freed s x) t) (λ q h. absurd (not-suc-le-zero h))
      (λ q h d m. ⊎_elim (λ e. rw e (leb-false (freed s x) t q)) (λ g. busy l t (le_of_suc-le-suc h) d g) (Memᴰ.cases_cons m))

  -- copies of one kind that keep their boards at one time are on different boards
  at_once : (k t : ℕ) (l : List Copy) → AllDisjoint s l → ((d : Copy) → d ∈ l → (d.kind ≡ k) × (d.start ≤ t) × (t < freed s d))
      → Distinct (map (λ d. d.board) l)
  at_once k t [] c f = tt
  at_once k t (x ∷ l) c f = (
    not_elem x.board (map (λ d. d.board) l)
        (λ h.
        let d = map_mem x.board l h in
        let a = f x (Memᴰ.head refl) in
        let b = f d.0 (Memᴰ.tail d.1) in
        ⊎_elim (λ g. absurd (omega arith)) (λ g. absurd (omega arith)) (c.0 d.0 d.1 (a.0 ∙ sym b.0) (sym d.2))),
    at_once k t l c.1 (λ d m. f d (Memᴰ.tail m)),
  )

  -- while the copies of a plan are given boards, of one kind: the last copy on each open board
  record Open (full rest : List Copy) (k : ℕ) (l : List ℕ) (tops : List Copy) : Type 0 where
    ends_are : l ≡ map (freed s) tops
    kind_is : (d : Copy) → d ∈ tops → d.kind ≡ k
    in_full : (d : Copy) → d ∈ tops → elem d.board (boards_of k full) ≡ true
    started : (d c : Copy) → d ∈ tops → c ∈ rest → d.start ≤ c.start
    disjoint_later : (d c : Copy) → d ∈ tops → c ∈ rest → Disjoint s d c
    disjoint_tops : AllDisjoint s tops
    few : length l ≤ boards_used k full

  -- the copies that have no board yet
  record Left (full rest : List Copy) : Type 0 where
    sorted : Pairwise Before rest
    disjoint : AllDisjoint s rest
    lasting : (c : Copy) → c ∈ rest → c.start < freed s c
    within : (c : Copy) → c ∈ rest → c ∈ full

  left_tail : (full : List Copy) (c : Copy) (rest : List Copy) → Left full (c ∷ rest) → Left full rest
  left_tail full c rest f =
      record {
        sorted = f.sorted.1;
        disjoint = f.disjoint.1;
        lasting = λ d m. f.lasting d (Memᴰ.tail m);
        within = λ d m. f.within d (Memᴰ.tail m);
      }

  -- a copy of another kind changes nothing
  pass : (full : List Copy) (c : Copy) (rest : List Copy) (k : ℕ) (l : List ℕ) (tops : List Copy) → Open full (c ∷ rest) k l tops → Open full rest k l tops
  pass full c rest k l tops o =
      record {
        ends_are = o.ends_are;
        kind_is = o.kind_is;
        in_full = o.in_full;
        started = λ d b m h. o.started d b m (Memᴰ.tail h);
        disjoint_later = λ d b m h. o.disjoint_later d b m (Memᴰ.tail h);
        disjoint_tops = o.disjoint_tops;
        few = o.few;
      }

  -- a copy of this kind is the last one on its board
  module _ (full : List Copy) (c : Copy) (rest : List Copy) (l : List ℕ) (tops : List Copy) (f : Left full (c ∷ rest))
      (o : Open full (c ∷ rest) c.kind l tops) where
    b : ℕ
    b = free_board l c.start

    tops' : List Copy
    tops' = occupy tops b c

    either : (P : Copy → Type 0) → P c → ((d : Copy) → d ∈ tops → P d) → (d : Copy) → d ∈ tops' → P d
    unfolding tops'
    either P p g d m = ⊎_elim (λ e. subst P (sym e) p) (λ h. g d h) (occupy_cases c d tops b m)

    disjoint' : AllDisjoint s tops'
    unfolding tops'
    disjoint' = occupy_disjoint tops b c o.disjoint_tops (λ d m. o.disjoint_later d c m (Memᴰ.head refl))

    in_full' : (d : Copy) → d ∈ tops' → elem d.board (boards_of c.kind full) ≡ true
    in_full' = either (λ d. elem d.board (boards_of c.kind full) ≡ true) (mem_boards c full (f.within c (Memᴰ.head refl))) o.in_full

    kind' : (d : Copy) → d ∈ tops' → d.kind ≡ c.kind
    kind' = either (λ d. d.kind ≡ c.kind) refl o.kind_is

    ends' : occupy l b (freed s c) ≡ map (freed s) tops'
    unfolding tops'
    ends' = ap (λ (r : List ℕ). occupy r b (freed s c)) o.ends_are ∙ occupy_map (freed s) tops b c

    few' : length (occupy l b (freed s c)) ≤ boards_used c.kind full
    unfolding b boards_used
    few' =
        on (ltb b (length l))
        (λ t. rw (occupy_length l b (freed s c) (ltb-true b (length l) t)) o.few)
        (λ t.
        let full_now : length (map (freed s) tops) ≤ free_board (map (freed s) tops) c.start = rw o.ends_are at (ltb-false b (length l) t) in
        let run = either (λ d. (d.kind ≡ c.kind) × (d.start ≤ c.start) × (c.start < freed s d))
        (refl, omega arith, f.lasting c (Memᴰ.head refl))
        (λ d m. (o.kind_is d m, o.started d c m (Memᴰ.head refl), busy tops c.start full_now d m)) in
        let p = pigeonhole (boards_of c.kind full) (map (λ d. d.board) tops') (at_once c.kind c.start tops' disjoint' run)
        (λ x h. let d = map_mem x tops' h in subst (λ (y : ℕ). elem y (boards_of c.kind full) ≡ true) d.2 (in_full' d.0 d.1)) in
        rw ends' (omega (arith, length-map tops' (freed s), length-map tops' (λ (d : Copy). d.board))))

    placed : Open full rest c.kind (occupy l b (freed s c)) tops'
    placed =
        record {
          ends_are = ends';
          kind_is = kind';
          in_full = in_full';
          started = λ d a m h. either (λ d. d.start ≤ a.start) (before_start c a (f.sorted.0 a h)) (λ e g. o.started e a g (Memᴰ.tail h)) d m;
          disjoint_later = λ d a m h. either (λ d. Disjoint s d a) (f.disjoint.0 a h) (λ e g. o.disjoint_later e a g (Memᴰ.tail h)) d m;
          disjoint_tops = disjoint';
          few = few';
        }

  -- so at the end too
  opened : (full rest : List Copy) (ends : ℕ → List ℕ) (tops : List Copy) (k : ℕ) → Left full rest → Open full rest k (ends k) tops
      → length (final_ends s ends rest k) ≤ boards_used k full
  unfolding ends_with b
  opened full [] ends tops k f o = o.few
  opened full (c ∷ rest) ends tops k f o =
      on (eqb k c.kind)
      (λ t.
      let e = eqb-true k c.kind t in
      let o' = subst (λ (j : ℕ). Open full (c ∷ rest) j (ends j) tops) e o in
      let T = tops' full c rest (ends c.kind) tops f o' in
      let q = subst (λ (j : ℕ). Open full rest j (occupy (ends j) (free_board (ends j) c.start) (freed s c)) T) (sym e)
      (placed full c rest (ends c.kind) tops f o') in
      opened full rest (ends_with s ends c) T k (left_tail full c rest f) (rw t q))
      (λ t. opened full rest (ends_with s ends c) tops k (left_tail full c rest f) (rw t (pass full c rest k (ends k) tops o)))

-- another assignment of boards to our copies

on_boards_assign : (s : Sheet) (ends : ℕ → List ℕ) (p : List Copy) (bs : List ℕ) → on_boards (assign s ends p) bs ≡ on_boards p bs
on_boards_assign s ends [] bs = refl
on_boards_assign s ends (c ∷ p) [] = refl
on_boards_assign s ends (c ∷ p) (b ∷ bs) = ap {B = List Copy} (λ (q : List Copy). on_board c b ∷ q) (on_boards_assign s (ends_with s ends c) p bs)

pub length_assign : (s : Sheet) (ends : ℕ → List ℕ) (p : List Copy) → length (assign s ends p) ≡ length p
length_assign s ends [] = refl
length_assign s ends (c ∷ p) = ap suc (length_assign s (ends_with s ends c) p)

on_boards_own : (s : Sheet) (ends : ℕ → List ℕ) (p : List Copy) → on_boards p (map (λ (c : Copy). c.board) (assign s ends p)) ≡ assign s ends p
on_boards_own s ends [] = refl
on_boards_own s ends (c ∷ p) = ap {B = List Copy} (λ (q : List Copy). on_board c (free_board (ends c.kind) c.start) ∷ q)
    (on_boards_own s (ends_with s ends c) p)

insert_length : (a : Copy) (p : List Copy) → length (insert_copy a p) ≡ suc (length p)
insert_length a [] = refl
insert_length a (c ∷ p) = by_test (λ (q : List Copy). length q ≡ suc (suc (length p))) (before a c) (λ t. refl) (λ t. ap suc (insert_length a p))

on_boards_mem : (p : List Copy) (bs : List ℕ) (d : Copy) → d ∈ on_boards p bs → (c : Copy) × (b : ℕ) × (c ∈ p) × (d ≡ on_board c b)
on_boards_mem [] bs d m = absurd (Memᴰ.not-nil m)
on_boards_mem (c ∷ p) [] d m = absurd (Memᴰ.not-nil m)
on_boards_mem (c ∷ p) (b ∷ bs) d m =
    ⊎_elim (λ e. (c, b, Memᴰ.head refl, e)) (λ g. let r = on_boards_mem p bs d g in (r.0, r.1, Memᴰ.tail r.2, r.3)) (Memᴰ.cases_cons m)

on_boards_sorted : (p : List Copy) (bs : List ℕ) → Pairwise Before p → Pairwise Before (on_boards p bs)
on_boards_sorted [] bs o = tt
on_boards_sorted (c ∷ p) [] o = tt
on_boards_sorted (c ∷ p) (b ∷ bs) o =
    (λ d m. let r = on_boards_mem p bs d m in subst (λ (x : Copy). Before c x) (sym r.3) (o.0 r.0 r.2), on_boards_sorted p bs o.1)

on_boards_ends : (s : Sheet) (p : List Copy) (bs : List ℕ) (ends : ℕ → List ℕ) (k : ℕ) → length bs ≡ length p
    → final_ends s ends (on_boards p bs) k ≡ final_ends s ends p k
unfolding ends_with freed end
on_boards_ends s [] bs ends k e = refl
on_boards_ends s (c ∷ p) [] ends k e = absurd (omega arith)
on_boards_ends s (c ∷ p) (b ∷ bs) ends k e = on_boards_ends s p bs (ends_with s ends c) k (omega arith)

-- the boards that our plan opens, of each kind
abbrev pub opened_boards : Sheet → ℕ → ℕ
opened_boards s k = length (final_ends s (λ j. []) (ordered s (stages s)) k)

module _ (s : Sheet) (rng : InRange s) where
  no_fewer : (bs : List ℕ) → length bs ≡ length (ordered s (stages s)) → AllDisjoint s (on_boards (ordered s (stages s)) bs) → (k : ℕ)
      → opened_boards s k ≤ boards_used k (on_boards (ordered s (stages s)) bs)
  unfolding freed end
  no_fewer bs long c k =
      let p = ordered s (stages s) in
      let full = on_boards p bs in
      let left : Left s full full =
      record {
        sorted = on_boards_sorted p bs (ordered_order s (stages s));
        disjoint = c;
        lasting = λ d m.
            let r = on_boards_mem p bs d m in
            let o = ordered_sound s (stages s) r.0 r.2 in
            subst (λ (x : Copy). x.start < freed s x) (sym r.3) (omega (arith, rng.dur_from r.0.stage r.0.kind o.stage_below o.kind_below));
        within = λ d m. m;
      } in
      let empty : Open s full full k [] [] =
      record {
        ends_are = refl;
        kind_is = λ d m. absurd (Memᴰ.not-nil m);
        in_full = λ d m. absurd (Memᴰ.not-nil m);
        started = λ d c m h. absurd (Memᴰ.not-nil m);
        disjoint_later = λ d c m h. absurd (Memᴰ.not-nil m);
        disjoint_tops = tt;
        few = omega arith;
      } in
      rw (on_boards_ends s p bs (λ j. []) k long) at (opened s full full (λ j. []) [] k left empty)

  -- SPEC 10.3.5: no assignment of boards to our copies uses fewer boards of a kind than our plan
  pub fewest : (bs : List ℕ) → Assignment s (plan s) bs → (k : ℕ) → board_count s k ≤ boards_used k (on_boards (plan s) bs)
  unfolding plan
  fewest bs a k =
      let p = ordered s (stages s) in
      let same = on_boards_assign s (λ j. []) p bs in
      rw same (le_trans (count_le s k)
      (no_fewer bs (a.one_each ∙ length_assign s (λ j. []) p) (disjoint_of s (on_boards p bs) (rw same at a.no_overlap)) k))

  -- the boards used are those that the rule opens, so a planner may count them as it opens them
  pub count_is : (k : ℕ) → board_count s k ≡ opened_boards s k
  unfolding board_count plan
  count_is k =
      let p = ordered s (stages s) in
      let q = assign s (λ j. []) p in
      let bs = map (λ (c : Copy). c.board) q in
      let same : on_boards p bs ≡ q = on_boards_own s (λ j. []) p in
      le_antisymm (count_le s k)
      (rw same at (no_fewer bs (length-map q (λ (c : Copy). c.board) ∙ length_assign s (λ j. []) p) (rw same (assign_disjoint s (λ j. []) p)) k))

-- at most four copies of a stage, so at most 1024

with_length : (s : Sheet) (i h : ℕ) (p : List Copy) → length (with_stage s i h p) ≤ length p + h
with_length s i zero p = omega arith
with_length s i (suc h) p =
    let r = with_length s i h p in
    by_test (λ (q : List Copy). length q ≤ length p + suc h) (has_copy s i h) (λ t. omega (arith, insert_length (unassigned s i h) (with_stage s i h p)))
    (λ t. omega arith)

ordered_length : (s : Sheet) → s.kinds ≤ 4 → (n : ℕ) → length (ordered s n) ≤ 4 * n
ordered_length s k zero = omega arith
ordered_length s k (suc n) = let r = ordered_length s k n in omega (arith, with_length s n s.kinds (ordered s n))

pub plan_length : (s : Sheet) → InRange s → length (plan s) ≤ 1024
unfolding plan
plan_length s i =
    let k = i.kinds_4 in
    let n = i.stages_256 in
    omega (arith, length_assign s (λ j. []) (ordered s (stages s)), ordered_length s i.kinds_4 (stages s))
