-- Laws of ranges, and of what the numbers of a line are asked for. Assumes nothing.
use Prim.Native.Nat.{ℕ, zero, suc, ◌+◌, ◌-◌, ◌*◌, ◌≤◌}
use mathlib.Core.Path.{◌≡◌, refl, sym, ap, ◌∙◌}
use mathlib.Core.Bool.{Bool, true, false, ◌&&◌, and-true, and_assoc}
use mathlib.Core.List.{List, [], ◌∷◌}
use native.Mathlib.Omega.{arith}
use native.Mathlib.Nat.{zero-add, add-zero, add-suc, mul-zero, mul-suc, mul-le-mul_left}
use borrow.Author.Tests.{le-leb}
use lib.Dec.{leb, ltb, eqb}
use lib.ListN.{length, get_or, drop, length-drop}
use lib.Seq.{length-take-le, get_or-take, get_or-drop}
use Rattle.std.specs.List.{list_all, slice_range}
use Rattle.model.specs.Bounded.{every}
use Rattle.model.specs.SheetText.{refused, judged, ◌>>◌, check, between, clearing_line_at, clearing_check, stage_check, edge_check}
use Rattle.model.proofs.Bounded.{on, every_cong}

-- what every element passes is passed at every place

every_first : (n : ℕ) (p : ℕ → Bool) → every (suc n) p ≡ (p 0 && every n (λ h. p (suc h)))
every_first zero p = sym (and-true (p 0))
every_first (suc n) p = rw (every_first n p) (and_assoc (p 0) (every n (λ h. p (suc h))) (p (suc n)))

all_every : (p : ℕ → Bool) (ns : List ℕ) → list_all p ns ≡ every (length ns) (λ h. p (get_or ns h 0))
all_every p [] = refl
all_every p (n ∷ ns) = rw (all_every p ns) (sym (every_first (length ns) (λ h. p (get_or (n ∷ ns) h 0))))

-- so of the elements of a part
part : (p : ℕ → Bool) (ns : List ℕ) (from count to : ℕ) → from + count ≡ to → to ≤ length ns
    → list_all p (slice_range ns from to) ≡ every count (λ h. p (get_or ns (from + h) 0))
part p ns from count to e l =
    let n : to - from ≡ count = omega arith in
    let many : length (slice_range ns from to) ≡ count = length-take-le (to - from) (drop from ns) (omega (arith, length-drop from ns)) ∙ n in
    all_every p (slice_range ns from to)
    ∙ rw many (every_cong count _ _ (λ h m. ap p (get_or-take (to - from) (drop from ns) h 0 (omega arith) ∙ get_or-drop from ns h 0)))

-- where 0 is the lower limit
from_0 : (high n : ℕ) → between 0 high n ≡ leb n high
unfolding between
from_0 high n = rw (le-leb 0 n (omega arith))

-- rows of k, one after the other

every_add : (a b : ℕ) (p : ℕ → Bool) → every (a + b) p ≡ (every a p && every b (λ j. p (a + j)))
every_add a zero p = rw add-zero (sym (and-true (every a p)))
every_add a (suc b) p = rw (add-suc, every_add a b p) (and_assoc (every a p) (every b (λ j. p (a + j))) (p (a + b)))

every_grid : (k n : ℕ) (p : ℕ → Bool) → every (k * n) p ≡ every n (λ h. every k (λ j. p (k * h + j)))
every_grid k zero p = rw mul-zero
every_grid k (suc n) p = rw (mul-suc, every_add (k * n) k p, every_grid k n p)

pub square_16 : (k : ℕ) → k ≤ 4 → k * k ≤ 16
square_16 k l = omega (arith, mul-le-mul_left k l)

-- what is judged of the numbers of a line, as the tests are made

module _ (k : ℕ) (ns : List ℕ) where
  abbrev times_in_range : Bool
  times_in_range = every k (λ h. between 0 1000000 (get_or ns (0 + h) 0))

  same_times : every k (λ h. leb (get_or ns h 0) 1000000) ≡ times_in_range
  same_times = simp (zero-add, from_0 1000000)

  -- a clearing time out of range is refused, and none in range is
  pub clearing_range : times_in_range ≡ false → clearing_check k ns ≡ refused 4 2
  unfolding clearing_check clearing_line_at
  clearing_range r = rw (same_times, r)

  pub clearing_good : times_in_range ≡ true → clearing_check k ns ≡ judged tt
  unfolding clearing_check
  clearing_good r = rw (same_times, r)

  pub clearing_is : k ≤ length ns → clearing_check k ns ≡ check (list_all (between 0 1000000) (slice_range ns 0 k)) 4 2
  clearing_is l =
      rw (part (between 0 1000000) ns 0 k k (zero-add k) l)
      (on times_in_range (λ t. rw t (clearing_good t)) (λ f. rw f (clearing_range f)))

pub stage_is : (k i at : ℕ) (ns : List ℕ) → 1 + k ≤ length ns
    → stage_check k i at ns ≡ (check (list_all (between 1 1000000) (slice_range ns 1 (1 + k))) 4 at >> check (eqb (get_or ns 0 0) i) 5 at)
unfolding stage_check
stage_is k i at ns l = rw (part (between 1 1000000) ns 1 k (1 + k) refl l)

pub edge_is : (k n at : ℕ) (ns : List ℕ) → k ≤ 4 → 18 ≤ length ns
    → edge_check k n at ns
    ≡ (check (list_all (between 0 1000000) (slice_range ns 2 (2 + k * k))) 4 at >> check (ltb (get_or ns 0 0) n && ltb (get_or ns 1 0) n) 5 at)
unfolding edge_check
edge_is k n at ns f l =
    rw (part (between 0 1000000) ns 2 (k * k) (2 + k * k) refl (omega (arith, square_16 k f)), every_grid k k (λ x. between 0 1000000 (get_or ns (2 + x) 0)))
    (simp (from_0 1000000))
