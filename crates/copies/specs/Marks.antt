-- What the copies of the successors of a stage say of its kinds (SPEC 4.4, 4.5): which one misses, and which one picks. Assumes nothing.
use Rattle.std.specs.Prelude.{ℕ, ◌+◌, ◌*◌, ◌<◌, ◌≡◌, Bool, if◌then◌else◌, not, ◌&&◌, ◌||◌, ◌==◌, List, slice_index, nat_le, nat_lt}
use Rattle.std.specs.FinSet as finite
use Rattle.model.specs.Bounded.{some_below}
use Rattle.model.specs.Sheet.{Sheet, edges, source, target, preferred}
use Rattle.model.specs.Copies.{serves, serving_kind}
use Rattle.kinds.specs.Sets.{KindsOf}
use Rattle.copies.specs.declared.marks.Marks.{Marks}

-- a table of copies as a test: stage j has a copy on kind k where it has 1
abbrev pub has_in : List ℕ → ℕ → ℕ → Bool
has_in copied j k = slice_index copied (4 * j + k) == 1

-- a copy of edge e's second stage on k: kind h doesn't serve it; it picks kind h
abbrev pub misses : Sheet → ℕ → ℕ → ℕ → Bool
misses s e k h = not (serves s e h k)

abbrev pub picks : Sheet → ℕ → ℕ → ℕ → Bool
picks s e k h = h == serving_kind s e k

-- below, q is one of these two

-- some copy of edge e's second stage on a kind below `upto` passes
unfoldable pub along : Sheet → (ℕ → ℕ → Bool) → ℕ → ℕ → (ℕ → ℕ → ℕ → Bool) → ℕ → Bool
along s has e upto q h = some_below upto (λ k. has (target s e) k && q e k h)

-- some copy of the second stage of an edge from i, not below edge `from`, passes
unfoldable pub along_from : Sheet → (ℕ → ℕ → Bool) → ℕ → ℕ → (ℕ → ℕ → ℕ → Bool) → ℕ → Bool
along_from s has i from q h = some_below (edges s) (λ e. nat_le from e && (source s e == i && along s has e s.kinds q h))

-- of the copies passed, some misses the kinds in `missed` and some picks those in `picked`; as the two sets of stage i's kinds
pub record Marked (s : Sheet) (i : ℕ) (missed picked : ℕ → Bool) (marks : Marks) : Type 0 where
  pub serving : KindsOf s i (λ h. not (missed h)) marks.common
  pub picking : (h : ℕ) → h < s.kinds → finite.contains marks.picked h ≡ picked h

-- from marks to others, copies are passed of which some misses the kinds in `missed` and some picks those in `picked`
abbrev pub Passed : Sheet → ℕ → (ℕ → Bool) → (ℕ → Bool) → Marks → Marks → Type 0
Passed s i missed picked old new =
    (missed₀ picked₀ : ℕ → Bool) → Marked s i missed₀ picked₀ old → Marked s i (λ h. missed₀ h || missed h) (λ h. picked₀ h || picked h) new

-- the kinds of stage i when all copies are passed: the preferred of those that none misses, or else those picked
unfoldable pub chosen_of : Sheet → ℕ → (ℕ → Bool) → (ℕ → Bool) → ℕ → Bool
chosen_of s i missed picked h =
    let common = preferred s i (λ g. not (missed g)) in if nat_lt common s.kinds then h == common else picked h
