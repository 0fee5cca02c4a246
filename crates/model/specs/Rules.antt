-- The clauses on starts, copies and boards (SPEC 3, 4, 5, 6.1), said of any table and any list, with smallest, largest and lowest as properties.
-- The definitions of specs/Starts.antt, Copies.antt and Boards.antt meet them (proofs/Rules.antt, proofs/PlanRules.antt), and one table of starts
-- alone does. Assumes nothing.
use Rattle.std.specs.Prelude.{ℕ, ◌+◌, ◌≤◌, ◌<◌, ◌≡◌, ◌⊎◌, ◌↔◌, Bool, true, List, length}
use Rattle.model.specs.Sheet.{Sheet, stages, edges, dur, source, target, wait, has_kind}
use Rattle.model.specs.Plans.{Copy, ◌∈◌, at, freed}

-- v is the smallest, or the largest, of the numbers that are P
abbrev pub IsSmallest : (ℕ → Type 0) → ℕ → Type 0
IsSmallest P v = P v × ((x : ℕ) → P x → v ≤ x)

abbrev pub IsLargest : (ℕ → Type 0) → ℕ → Type 0
IsLargest P v = P v × ((x : ℕ) → P x → x ≤ v)

-- e is an edge to stage j, or from stage i
abbrev pub EdgeTo : Sheet → ℕ → ℕ → Type 0
EdgeTo s j e = (e < edges s) × (target s e ≡ j)

abbrev pub EdgeFrom : Sheet → ℕ → ℕ → Type 0
EdgeFrom s i e = (e < edges s) × (source s e ≡ i)

-- x is the start of stage i on one of its kinds, plus its duration there
abbrev pub IsEnd : Sheet → (ℕ → ℕ → ℕ) → ℕ → ℕ → Type 0
IsEnd s start i x = (h : ℕ) × (has_kind s i h ≡ true) × (x ≡ start i h + dur s i h)

-- x is the start of edge e's first stage on one of its kinds, plus its duration there, plus the wait from there to kind k
abbrev pub IsSum : Sheet → (ℕ → ℕ → ℕ) → ℕ → ℕ → ℕ → Type 0
IsSum s start e k x = (h : ℕ) × (has_kind s (source s e) h ≡ true) × (x ≡ start (source s e) h + dur s (source s e) h + wait s e h k)

-- SPEC 3.1, 3.2: the table of starts
pub record StartEquation (s : Sheet) (start : ℕ → ℕ → ℕ) : Type 0 where
  -- SPEC 3.1: without an edge to it a stage starts at 0
  pub without_edge : (j k : ℕ) → j < stages s → k < s.kinds → ((e : ℕ) → EdgeTo s j e → ⊥) → start j k ≡ 0
  -- SPEC 3.2: with one, at the largest, over these edges, of the smallest sum of the edge
  pub with_edge : (j k : ℕ) → j < stages s → k < s.kinds → (e : ℕ) → EdgeTo s j e
      → IsLargest (λ x. (d : ℕ) × EdgeTo s j d × IsSmallest (IsSum s start d k) x) (start j k)

-- SPEC 3.3: the finish is the largest of the stages' earliest ends, and an earliest end the smallest of the stage's ends
abbrev pub FinishEquation : Sheet → (ℕ → ℕ → ℕ) → ℕ → Type 0
FinishEquation s start finish = IsLargest (λ x. (i : ℕ) × (i < stages s) × IsSmallest (IsEnd s start i) x) finish

-- the copies, where `has i h` says that stage i has a copy on kind h

-- h is the lowest kind of stage i that is P
abbrev pub LowestKind : Sheet → ℕ → (ℕ → Type 0) → ℕ → Type 0
LowestKind s i P h = IsSmallest (λ g. (has_kind s i g ≡ true) × P g) h

-- SPEC 4.3: along edge e, kind h serves a copy of the second stage on k
abbrev pub Serves : Sheet → (ℕ → ℕ → ℕ) → ℕ → ℕ → ℕ → Type 0
Serves s start e h k = start (source s e) h + dur s (source s e) h + wait s e h k ≤ start (target s e) k

-- SPEC 4.4, its condition: along each edge from stage i, kind h serves each copy of the second stage
abbrev pub ServesAll : Sheet → (ℕ → ℕ → ℕ) → (ℕ → ℕ → Bool) → ℕ → ℕ → Type 0
ServesAll s start has i h = (e : ℕ) → EdgeFrom s i e → (k : ℕ) → k < s.kinds → has (target s e) k ≡ true → Serves s start e h k

-- SPEC 4.2, 4.4, 4.5: which kinds have a copy
pub record CopyRules (s : Sheet) (start : ℕ → ℕ → ℕ) (has : ℕ → ℕ → Bool) : Type 0 where
  -- SPEC 4.2: of a stage without successors, the lowest kind whose end is the smallest
  pub without_successor : (i : ℕ) → i < stages s → ((e : ℕ) → EdgeFrom s i e → ⊥)
      → (h : ℕ) → (has i h ≡ true) ↔ LowestKind s i (λ g. IsSmallest (IsEnd s start i) (start i g + dur s i g)) h
  -- SPEC 4.4: where some kind serves all copies of the successors, the lowest such kind
  pub with_common : (i : ℕ) → i < stages s → (e : ℕ) → EdgeFrom s i e → (g : ℕ) → has_kind s i g ≡ true → ServesAll s start has i g
      → (h : ℕ) → (has i h ≡ true) ↔ LowestKind s i (ServesAll s start has i) h
  -- SPEC 4.5: where none does, each kind that is the lowest to serve some copy along some edge
  pub without_common : (i : ℕ) → i < stages s → (e : ℕ) → EdgeFrom s i e → ((g : ℕ) → has_kind s i g ≡ true → ServesAll s start has i g → ⊥)
      → (h : ℕ) → (has i h ≡ true)
      ↔ ((d k : ℕ) × EdgeFrom s i d × (k < s.kinds) × (has (target s d) k ≡ true) × LowestKind s i (λ g. Serves s start d g k) h)

-- the plan

-- SPEC 6.1, the order of copies: by start, then kind, then stage
abbrev pub Before : Copy → Copy → Type 0
Before a b = (a.start < b.start) ⊎ ((a.start ≡ b.start) × ((a.kind < b.kind) ⊎ ((a.kind ≡ b.kind) × (a.stage < b.stage))))

-- the copies m and n of a plan are on one board of one kind
pub record SameBoard (p : List Copy) (m n : ℕ) : Type 0 where
  pub kind : (at p m).kind ≡ (at p n).kind
  pub board : (at p m).board ≡ (at p n).board

pub record PlanRules (s : Sheet) (start : ℕ → ℕ → ℕ) (has : ℕ → ℕ → Bool) (p : List Copy) : Type 0 where
  -- SPEC 4: a copy for each stage and kind that has one, and no other
  pub copies : (c : Copy) → c ∈ p → (c.stage < stages s) × (c.kind < s.kinds) × (has c.stage c.kind ≡ true)
  pub all_copies : (i h : ℕ) → i < stages s → h < s.kinds → has i h ≡ true → (c : Copy) × (c ∈ p) × (c.stage ≡ i) × (c.kind ≡ h)
  -- SPEC 4.6: it starts when the table of starts says
  pub at_start : (c : Copy) → c ∈ p → c.start ≡ start c.stage c.kind
  -- SPEC 6.1: the order; so no copy occurs twice, and those of one kind stand in the order of 5.1
  pub in_order : (m n : ℕ) → m < n → n < length p → Before (at p m) (at p n)
  -- SPEC 5.1, 5.3: what was on its board before has ended and cleared, and each lower board is in use by a copy that has not. SPEC 5.2: so boards count
  -- from 0 in each kind
  pub board_free : (m n : ℕ) → m < n → n < length p → SameBoard p m n → freed s (at p m) ≤ (at p n).start
  pub lower_in_use : (n b : ℕ) → n < length p → b < (at p n).board
      → (m : ℕ) × (m < n) × ((at p m).kind ≡ (at p n).kind) × ((at p m).board ≡ b) × ((at p n).start < freed s (at p m))
