-- Laws of sets of kinds: what is in them, kind by kind. Assumes nothing.
use Rattle.std.proofs.Common.{◌≡◌, ℕ, ◌+◌, ◌*◌, ◌<◌, ◌≤◌, Bool, true, false, ◌&&◌, ◌||◌, ◌==◌, nat_eq, min, max, bit_and, bit_or}
use Rattle.std.proofs.Common.{refl, sym, ap, ap₂, ◌∙◌, arith}
use Rattle.std.proofs.Math.Nat.{not-suc-le-zero}
use Rattle.std.proofs.lemmas.Nat.Bits.{bit_at-zero, bit_at-lt, bit_at_and, bit_at_or}
use Rattle.std.proofs.lemmas.Bool.Decides.{nat_tests}
use Rattle.std.specs.Cmp.{nat_cmp_total}
use Rattle.std.specs.FinSet as finite
use Rattle.std.specs.FinSet.{contains-empty, contains-intersection, contains-union, nat_cmp-IsAntisymmetric, same_set}
use Rattle.std.specs.Int.{bit_at, from_bool}
use Rattle.std.specs.List.{list_any}
use Rattle.std.specs.Ordering.{nat_cmp}
use mathlib.Core.Bool.{and-false}
use Rattle.model.specs.Sheet.{Sheet, has_kind}
use Rattle.model.proofs.Bounded.{below_suc}
use Rattle.kinds.specs.Sets.{in_set, kinds_in, four_kinds, KindsOf}
use Rattle.kinds.specs.Masks.{in_kinds}

-- two tests are equal where each passes with the other
pub same_test : (a b : Bool) → (a ≡ true → b ≡ true) → (b ≡ true → a ≡ true) → a ≡ b
same_test true b f g = sym (f refl)
same_test false true f g = g refl
same_test false false f g = refl

-- what holds of two digits, or of four kinds

below_2 : (P : ℕ → Type 0) → P 0 → P 1 → (h : ℕ) → h < 2 → P h
below_2 P a b = below_suc P 1 (below_suc P 0 (λ i l. absurd (not-suc-le-zero l)) a) b

pub below_4 : (P : ℕ → Type 0) → P 0 → P 1 → P 2 → P 3 → (h : ℕ) → h < 4 → P h
below_4 P a b c d = below_suc P 3 (below_suc P 2 (below_2 P a b) c) d

-- numbers as sets

pub in_four : (mask h : ℕ) → h < 4 → finite.contains (kinds_in mask) h ≡ in_set mask h
in_four mask =
    below_4 (λ h. finite.contains (kinds_in mask) h ≡ in_set mask h) (in_kinds mask 0) (in_kinds mask 1) (in_kinds mask 2) (in_kinds mask 3)

-- none of four kinds is above
pub from_four : (mask h : ℕ) → 4 ≤ h → finite.contains (kinds_in mask) h ≡ false
from_four mask h l = in_kinds mask h ∙ rw (other 0 (omega arith), other 1 (omega arith), other 2 (omega arith), other 3 (omega arith)) refl
  where
    other : (k : ℕ) → k < h → nat_eq k h ≡ false
    other k b = grind (arith, nat_tests)

same_kinds : (mask : ℕ) (s : finite.FinSet nat_cmp) → ((h : ℕ) → finite.contains (kinds_in mask) h ≡ finite.contains s h) → kinds_in mask ≡ s
same_kinds mask s = same_set nat_cmp_total nat_cmp-IsAntisymmetric (kinds_in mask) s

pub kinds_in-zero : kinds_in 0 ≡ finite.empty
unfolding in_set
kinds_in-zero = same_kinds 0 finite.empty (λ h. in_kinds 0 h ∙ rw (bit_at-zero h) (and-false _) ∙ sym (contains-empty nat_cmp h))

-- an operation that goes digit by digit
digit_wise : (f : ℕ → ℕ → ℕ) (g : Bool → Bool → Bool) → g false false ≡ false → ((x y h : ℕ) → in_set (f x y) h ≡ g (in_set x h) (in_set y h))
    → (a b : ℕ) (s : finite.FinSet nat_cmp) → ((h : ℕ) → finite.contains s h ≡ g (finite.contains (kinds_in a) h) (finite.contains (kinds_in b) h))
    → kinds_in (f a b) ≡ s
digit_wise f g none digits a b s members =
    same_kinds (f a b) s λ h.
    in_kinds (f a b) h ∙ rw (digits a b h) (of_both (list_any (λ y. nat_eq y h) four_kinds) (in_set a h) (in_set b h))
    ∙ sym (members h ∙ ap₂ g (in_kinds a h) (in_kinds b h))
  where
    of_both : (k x y : Bool) → (k && g x y) ≡ g (k && x) (k && y)
    of_both true x y = refl
    of_both false x y = sym none

pub kinds_in-and : (a b : ℕ) → kinds_in (bit_and a b) ≡ finite.intersection (kinds_in a) (kinds_in b)
unfolding in_set
kinds_in-and a b =
    digit_wise bit_and ◌&&◌ refl (λ x y h. rw (bit_at_and x y h) (digits (bit_at x h) (bit_at-lt x h) (bit_at y h) (bit_at-lt y h))) a b _
    (contains-intersection nat_cmp_total (kinds_in a) (kinds_in b))
  where
    digits : (x : ℕ) → x < 2 → (y : ℕ) → y < 2 → (min x y == 1) ≡ (x == 1 && y == 1)
    digits = below_2 _ (below_2 _ refl refl) (below_2 _ refl refl)

pub kinds_in-or : (a b : ℕ) → kinds_in (bit_or a b) ≡ finite.union (kinds_in a) (kinds_in b)
unfolding in_set
kinds_in-or a b =
    digit_wise bit_or ◌||◌ refl (λ x y h. rw (bit_at_or x y h) (digits (bit_at x h) (bit_at-lt x h) (bit_at y h) (bit_at-lt y h))) a b _
    (contains-union nat_cmp_total (kinds_in a) (kinds_in b))
  where
    digits : (x : ℕ) → x < 2 → (y : ℕ) → y < 2 → (max x y == 1) ≡ (x == 1 || y == 1)
    digits = below_2 _ (below_2 _ refl refl) (below_2 _ refl refl)

-- the sum of four answers has the kinds that pass
module _ (a b c d : Bool) where
  abbrev pub sum : ℕ
  sum = from_bool a + 2 * from_bool b + 4 * from_bool c + 8 * from_bool d

  abbrev has : ℕ → Bool
  has = finite.contains (kinds_in sum)

  pub in_sum : (has 0 ≡ a) × (has 1 ≡ b) × (has 2 ≡ c) × (has 3 ≡ d)
  unfolding in_set
  in_sum =
      let p = bound a in
      let q = bound b in
      let r = bound c in
      let s = bound d in
      (is 0 a (omega arith) (omega arith), is 1 b (omega arith) (omega arith), is 2 c (omega arith) (omega arith), is 3 d (omega arith) (omega arith))
    where
      bound : (p : Bool) → from_bool p < 2
      bound true = omega arith
      bound false = omega arith

      digit : (p : Bool) → (from_bool p == 1) ≡ p
      digit true = refl
      digit false = refl

      is : (h : ℕ) (p : Bool) → h < 4 → bit_at sum h ≡ from_bool p → has h ≡ p
      is h p l e = in_four sum h l ∙ ap (λ (x : ℕ). x == 1) e ∙ digit p

-- sets of a stage's kinds
module _ {s : Sheet} {i : ℕ} {p : ℕ → Bool} {a : finite.FinSet nat_cmp} (u : KindsOf s i p a) where
  pub kinds_same : (q : ℕ → Bool) → ((h : ℕ) → p h ≡ q h) → KindsOf s i q a
  kinds_same q e = record { four = u.four; members = λ h l. u.members h l ∙ ap (λ (b : Bool). has_kind s i h && b) (e h) }

  -- the kinds in both
  pub kinds_and : {q : ℕ → Bool} {b : finite.FinSet nat_cmp} → KindsOf s i q b → KindsOf s i (λ h. p h && q h) (finite.intersection a b)
  kinds_and {q} {b} v =
      record {
        four = u.four;
        members = λ h l. contains-intersection nat_cmp_total a b h ∙ ap₂ ◌&&◌ (u.members h l) (v.members h l) ∙ both (has_kind s i h) (p h) (q h);
      }
    where
      both : (k x y : Bool) → ((k && x) && (k && y)) ≡ (k && (x && y))
      both true x y = refl
      both false x y = refl
