-- Laws of the model's `number`, as a loop over the digits uses them. Assumes nothing.
use Rattle.std.proofs.Common.{◌≡◌, ℕ, suc, ◌+◌, ◌-◌, ◌*◌, ◌%◌, ◌^◌, ◌<◌, ◌≤◌, true, false, ◌&&◌, leb, List, [], ◌∷◌, length, get_or, drop, sym, refl}
use Rattle.std.proofs.Common.{ap, ◌∙◌, not-suc-le-zero, add-zero, add-suc, suc-add, zero-add, add-one, arith, drop-cons, le-ltb, lt-ltb, le-leb}
use Rattle.std.proofs.Common.{leb-false, leb-true}
use mathlib.Core.Bool.{and-false}
use Rattle.std.specs.Prelude.{Option, None, Some}
use native.Mathlib.Nat.{pow-succ', pow-le-pow_right}
use borrow.Author.Tests.{lt-leb}
use lib.Seq.{drop-length}
use Rattle.model.proofs.Bounded.{on, by_test, and_left, and_right, None≢Some, some_inj}
use Rattle.numerals.specs.Numbers.{DigitValue}
use Rattle.model.specs.Lines.{digit, all_digits, value, no_leading_zero, number}

-- a byte of a number

pub is_digit : (b : ℕ) → 48 ≤ b → b ≤ 57 → digit b ≡ true
unfolding digit
is_digit b l h = rw (le-leb 48 b l, le-leb b 57 h)

pub below_digits : (b : ℕ) → b < 48 → digit b ≡ false
unfolding digit
below_digits b l = rw (lt-leb 48 b l)

pub above_digits : (b : ℕ) → 57 < b → digit b ≡ false
unfolding digit
above_digits b l = rw (lt-leb b 57 l, and-false)

-- a subtraction that wraps finds the digits
pub digit_by_value : (b v : ℕ) → b < 256 → v < 2 ^ 32 → (v + 48) % 2 ^ 32 ≡ b → DigitValue b v
unfolding digit
digit_by_value b v lb lv e =
    record {
      is_digit = on (leb v 9)
          (λ t. let l = leb-true v 9 t in rw (t, le-leb 48 b (omega arith), le-leb b 57 (omega arith)))
          (λ t.
          let l = leb-false v 9 t in
          on (leb 48 b) (λ q. let m = leb-true 48 b q in rw (t, q, lt-leb b 57 (omega arith))) (λ q. rw (t, q)));
      counts = λ l. omega arith;
    }

-- the digit that a value shows, or that it is none

pub digit_found : (b v : ℕ) → DigitValue b v → v ≤ 9 → digit b ≡ true
digit_found b v d l = d.is_digit ∙ le-leb v 9 l

pub digit_missed : (b v : ℕ) → DigitValue b v → 9 < v → digit b ≡ false
digit_missed b v d l = d.is_digit ∙ lt-leb v 9 l

-- the number of at most w digits, by what was found

module _ (w : ℕ) (f : List ℕ) where
  pub number_empty : length f ≡ 0 → number w f ≡ None
  unfolding number
  number_empty e = go f e
    where
      go : (g : List ℕ) → length g ≡ 0 → number w g ≡ None
      go [] q = refl
      go (b ∷ g) q = absurd (omega arith)

  pub number_long : w < length f → number w f ≡ None
  unfolding number
  number_long l = rw (lt-leb (length f) w l, and-false)

  pub number_other : all_digits f ≡ false → number w f ≡ None
  unfolding number
  number_other d = rw d

pub number_zero : (w : ℕ) (f : List ℕ) → 1 < length f → get_or f 0 0 ≡ 48 → number w f ≡ None
unfolding number
number_zero w [] l e = absurd (not-suc-le-zero l)
number_zero w (b ∷ []) l e = absurd (omega arith)
number_zero w (b ∷ c ∷ f) l e = rw (le-ltb 48 b (omega arith), and-false)

-- a first byte that is no `0`, or the only one
leads : (f : List ℕ) → 1 ≤ length f → all_digits f ≡ true → (1 < length f → get_or f 0 0 ≡ 48 → ⊥) → no_leading_zero f ≡ true
unfolding digit
leads [] l d n = absurd (not-suc-le-zero l)
leads (b ∷ []) l d n = refl
leads (b ∷ c ∷ f) l d n =
    let q = n (omega arith) in
    let g = leb-true 48 b (and_left (leb 48 b) (leb b 57) (and_left (digit b) _ d)) in
    lt-ltb 48 b (omega arith)

pub number_is : (w : ℕ) (f : List ℕ) → 1 ≤ length f → length f ≤ w → all_digits f ≡ true → (1 < length f → get_or f 0 0 ≡ 48 → ⊥)
    → number w f ≡ Some (value 0 f)
unfolding number
number_is w f l h d n = rw (d, leads f l d n, le-leb (length f) w h)

-- a number of at most w digits is below 10 ^ w

value_below : (f : List ℕ) (v k : ℕ) → all_digits f ≡ true → v < 10 ^ k → value v f < 10 ^ (k + length f)
unfolding digit
value_below [] v k d l = rw add-zero l
value_below (b ∷ f) v k d l =
    let g = and_left (digit b) _ d in
    let high = leb-true b 57 (and_right (leb 48 b) (leb b 57) g) in
    rw (add-suc k (length f), ← suc-add k (length f))
    (value_below f (10 * v + (b - 48)) (suc k) (and_right (digit b) _ d) (rw (pow-succ' 10 k) (omega arith)))

pub number_below : (w : ℕ) (f : List ℕ) (v : ℕ) → number w f ≡ Some v → v < 10 ^ w
unfolding number
number_below w f v =
    by_test (λ (r : Option ℕ). r ≡ Some v → v < 10 ^ w) (all_digits f && no_leading_zero f && leb (length f) w)
    (λ t e.
    let digits = and_left (all_digits f) (no_leading_zero f) (and_left (all_digits f && no_leading_zero f) (leb (length f) w) t) in
    let few = leb-true (length f) w (and_right (all_digits f && no_leading_zero f) (leb (length f) w) t) in
    let wide = pow-le-pow_right {n = 10} (omega arith) {i = length f} {j = w} few in
    let below = rw (zero-add (length f)) at (value_below f 0 0 digits (omega arith)) in
    let is : value 0 f ≡ v = some_inj e in
    omega arith)
    (λ t e. absurd (None≢Some e))

-- the first i bytes of a field are digits, and denote v
pub record Passed (f : List ℕ) (i v : ℕ) : Type 0 where
  pub within : i ≤ length f
  pub small : v < 10 ^ i
  pub digits : all_digits (drop i f) ≡ all_digits f
  pub value_is : value v (drop i f) ≡ value 0 f

module _ {f : List ℕ} {i v : ℕ} (p : Passed f i v) where
  pub passed_more : i < length f → digit (get_or f i 0) ≡ true → Passed f (i + 1) (10 * v + (get_or f i 0 - 48))
  unfolding digit
  passed_more l d =
      let b = get_or f i 0 in
      let high = leb-true b 57 (and_right (leb 48 b) (leb b 57) d) in
      record {
        within = omega arith;
        small = rw (add-one, pow-succ' 10 i) (omega (arith, p.small));
        digits = sym (rw (drop-cons f i 0 l, d, add-one)) ∙ p.digits;
        value_is = sym (rw (drop-cons f i 0 l, add-one)) ∙ p.value_is;
      }

  pub passed_other : (w : ℕ) → i < length f → digit (get_or f i 0) ≡ false → number w f ≡ None
  passed_other w l d = number_other w f (sym p.digits ∙ rw (drop-cons f i 0 l, d))

  -- one digit more fits 64 bits
  pub passed_room : i < 19 → 10 * v + 9 < 2 ^ 64
  passed_room l = omega (arith, p.small, pow-le-pow_right {n = 10} (omega arith) {i = i} {j = 18} (omega arith))

  pub passed_all : (w : ℕ) → length f ≤ i → 1 ≤ length f → length f ≤ w → (1 < length f → get_or f 0 0 ≡ 48 → ⊥) → Some v ≡ number w f
  passed_all w all l h z =
      let end : i ≡ length f = omega (arith, p.within) in
      let d : all_digits f ≡ true = sym (rw (end, drop-length) at p.digits) in
      let is : v ≡ value 0 f = rw (end, drop-length) at p.value_is in
      ap {B = Option ℕ} Some is ∙ sym (number_is w f l h d z)

-- what the check applies by itself to the loop over a field's bytes
pub ruleset number_steps = (number_empty, number_long, number_zero, passed_more, passed_other, passed_room, passed_all)
