-- The laws of the kinds that a stage has (specs/Sheet.antt): what `smallest_over` and `preferred` say of each of them. Assumes nothing.
use Prim.Native.Nat.{ℕ, ◌≤◌, ◌<◌}
use mathlib.Core.Path.{◌≡◌, ap}
use mathlib.Core.Bool.{Bool, true, ◌&&◌}
use native.Mathlib.Omega.{arith}
use borrow.Author.Tests.{ltb-true, lt-ltb}
use Rattle.model.specs.Sheet.{Sheet, InRange, has_kind, smallest_over, preferred}
use Rattle.model.proofs.Bounded.{and_left, and_right, and_both, smallest_le, smallest_at, smallest_cong, lowest_passes, lowest_found, lowest_cong}

-- SPEC 1.5: these are the kinds below K
pub kind_below : (s : Sheet) (i h : ℕ) → has_kind s i h ≡ true → h < s.kinds
unfolding has_kind
kind_below s i h k = ltb-true h s.kinds k

pub kind_of : (s : Sheet) (i h : ℕ) → h < s.kinds → has_kind s i h ≡ true
unfolding has_kind
kind_of s i h l = lt-ltb h s.kinds l

-- each stage has a kind
pub some_kind : (s : Sheet) → InRange s → (i : ℕ) → (h : ℕ) × (has_kind s i h ≡ true)
some_kind s r i = (0, kind_of s i 0 r.some_kind)

module _ (s : Sheet) (i : ℕ) where
  pub smallest_over_le : (f : ℕ → ℕ) (h : ℕ) → has_kind s i h ≡ true → smallest_over s i f ≤ f h
  unfolding smallest_over
  smallest_over_le f h k = smallest_le s.kinds (has_kind s i) f h (kind_below s i h k) k

  pub smallest_over_at : InRange s → (f : ℕ → ℕ) → (h : ℕ) × (has_kind s i h ≡ true) × (smallest_over s i f ≡ f h)
  unfolding smallest_over
  smallest_over_at r f =
      let k = some_kind s r i in
      let a = smallest_at s.kinds (has_kind s i) f k.0 (kind_below s i k.0 k.1) k.1 in
      (a.0, a.2, a.3)

  pub smallest_over_cong : (f g : ℕ → ℕ) → ((h : ℕ) → has_kind s i h ≡ true → f h ≡ g h) → smallest_over s i f ≡ smallest_over s i g
  unfolding smallest_over
  smallest_over_cong f g e = smallest_cong s.kinds (has_kind s i) f g (λ h l k. e h k)

  -- the preferred kind: there is one where a kind passes; it passes; and it is the lowest that does
  pub preferred_le : (p : ℕ → Bool) (h : ℕ) → has_kind s i h ≡ true → p h ≡ true → preferred s i p ≤ h
  unfolding preferred
  preferred_le p h k t = lowest_found s.kinds (λ h. has_kind s i h && p h) h (kind_below s i h k) (and_both (has_kind s i h) (p h) k t)

  pub preferred_found : (p : ℕ → Bool) (h : ℕ) → has_kind s i h ≡ true → p h ≡ true → preferred s i p < s.kinds
  preferred_found p h k t = omega (arith, preferred_le p h k t, kind_below s i h k)

  pub preferred_passes : (p : ℕ → Bool) → preferred s i p < s.kinds → (has_kind s i (preferred s i p) ≡ true) × (p (preferred s i p) ≡ true)
  unfolding preferred
  preferred_passes p l =
      let q = lowest_passes s.kinds (λ h. has_kind s i h && p h) l in
      (and_left (has_kind s i (preferred s i p)) (p (preferred s i p)) q, and_right (has_kind s i (preferred s i p)) (p (preferred s i p)) q)

  pub preferred_cong : (p q : ℕ → Bool) → ((h : ℕ) → has_kind s i h ≡ true → p h ≡ q h) → preferred s i p ≡ preferred s i q
  unfolding preferred
  preferred_cong p q e = lowest_cong s.kinds (λ h. has_kind s i h && p h) (λ h. has_kind s i h && q h)
      (λ h l. ap (λ (b : Bool). has_kind s i h && b) (e h (kind_of s i h l)))
