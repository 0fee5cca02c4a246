-- Laws of the number that bytes begin with, as a loop over them uses them. Assumes nothing.
use Rattle.std.proofs.Common.{◌≡◌, ℕ, suc, ◌+◌, ◌-◌, ◌*◌, ◌^◌, ◌<◌, ◌≤◌, true, false, ltb, List, [], ◌∷◌, ◌++◌, length, get_or, take, drop, sym, ◌∙◌}
use Rattle.std.proofs.Common.{ap₂, not-suc-le-zero, add-one, arith, drop_of_length-le, length-take-le, drop-cons, get_or-take, take-suc, ltb-true}
use Rattle.std.proofs.Common.{le-ltb, lt-ltb}
use native.Mathlib.Nat.{pow-succ', pow-le-pow_right}
use Rattle.std.specs.Prelude.{None, Some}
use Rattle.model.specs.Lines.{digit, all_digits, value, number}
use Rattle.model.proofs.Bounded.{on}
use Rattle.model.proofs.PlanText.{value_snoc, all_digits_snoc}
use Rattle.numerals.specs.Numbers.{DigitValue, digit_count, leading_answer}
use Rattle.numerals.proofs.Numbers.{digit_found, digit_missed, number_zero, number_is}

-- the first i bytes are digits
pub record Sofar (w : List ℕ) (i v : ℕ) : Type 0 where
  pub some : 1 ≤ i
  pub within : i ≤ length w
  pub count : digit_count w ≡ i + digit_count (drop i w)
  pub digits : all_digits (take i w) ≡ true
  pub value_is : value 0 (take i w) ≡ v
  pub small : v < 10 ^ i

pub leading_start : (w : List ℕ) (v : ℕ) → 1 ≤ length w → DigitValue (get_or w 0 0) v → v ≤ 9 → Sofar w 1 v
leading_start [] v l d h = absurd (not-suc-le-zero l)
leading_start (b ∷ w) v l d h =
    let g = digit_found b v d h in
    let c = d.counts h in
    record { some = omega arith; within = omega arith; count = rw g (omega arith); digits = rw g; value_is = omega arith; small = omega arith }

pub leading_none : (w : List ℕ) → 1 ≤ length w → digit (get_or w 0 0) ≡ false → leading_answer w ≡ None
unfolding leading_answer number
leading_none [] l d = absurd (not-suc-le-zero l)
leading_none (b ∷ w) l d = rw (d, lt-ltb 0 (length (b ∷ w)) l)

module _ {w : List ℕ} {i v : ℕ} (s : Sofar w i v) where
  pub leading_more : (x : ℕ) → i < length w → DigitValue (get_or w i 0) x → x ≤ 9 → Sofar w (i + 1) (10 * v + x)
  leading_more x l q h =
      let b = get_or w i 0 in
      let d = digit_found b x q h in
      let c : b - 48 ≡ x = omega (arith, q.counts h) in
      let t : take (i + 1) w ≡ take i w ++ (b ∷ []) = rw add-one (take-suc w i 0 l) in
      let r : digit_count (drop i w) ≡ suc (digit_count (drop (i + 1) w)) = rw (add-one, drop-cons w i 0 l, d) in
      record {
        some = omega arith;
        within = omega arith;
        count = omega (arith, s.count, r);
        digits = rw t (all_digits_snoc (take i w) b s.digits d);
        value_is = rw t (value_snoc 0 (take i w) b ∙ ap₂ (λ (y z : ℕ). 10 * y + z) s.value_is c);
        small = rw (add-one, pow-succ' 10 i) (omega (arith, s.small));
      }

  -- one digit more fits 32 bits
  pub leading_room : i ≤ 7 → 10 * v + 9 < 2 ^ 32
  leading_room h = omega (arith, s.small, pow-le-pow_right {n = 10} (omega arith) {i = i} {j = 7} h)

  first_same : get_or (take i w) 0 0 ≡ get_or w 0 0
  first_same = get_or-take i w 0 0 s.some

  pub leading_stop : i < length w → i ≤ 7 → digit (get_or w i 0) ≡ false → (1 < i → get_or w 0 0 ≡ 48 → ⊥)
      → leading_answer w ≡ Some (record { value = v; next = i + 1; after = get_or w i 0 })
  unfolding leading_answer
  leading_stop l h d z =
      let none_left : digit_count (drop i w) ≡ 0 = rw (drop-cons w i 0 l, d) in
      let n : digit_count w ≡ i = omega (arith, s.count) in
      let len : length (take i w) ≡ i = length-take-le i w s.within in
      let is = number_is 7 (take i w) (omega (arith, s.some)) (omega arith) s.digits (λ k q. z (omega arith) (sym first_same ∙ q)) in
      rw (n, lt-ltb i (length w) l, is, s.value_is)

  pub leading_zero : 1 < i → get_or w 0 0 ≡ 48 → leading_answer w ≡ None
  unfolding leading_answer
  leading_zero m z =
      let n = digit_count w in
      let more : 1 < n = omega (arith, s.count) in
      on (ltb n (length w))
      (λ t.
      let l = ltb-true n (length w) t in
      let len : length (take n w) ≡ n = length-take-le n w (omega arith) in
      rw (t, number_zero 7 (take n w) (omega arith) (get_or-take n w 0 0 (omega arith) ∙ z)))
      (λ t. rw t)

  pub leading_full : length w ≤ i → leading_answer w ≡ None
  unfolding leading_answer
  leading_full l =
      let none_left : digit_count (drop i w) ≡ 0 = rw (drop_of_length-le w l) in
      let n : digit_count w ≡ i = omega (arith, s.count) in
      rw (n, le-ltb i (length w) l)

-- what the check applies by itself to the loop over eight bytes
pub ruleset leading_steps = (digit_missed, leading_none, leading_room, leading_full)
