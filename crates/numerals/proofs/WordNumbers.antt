-- Laws of a number that is found in a word: the bytes that it was made of spell it. Assumes nothing.
use Rattle.std.proofs.Common.{◌≡◌, ℕ, zero, suc, ◌+◌, ◌-◌, ◌*◌, ◌/◌, ◌%◌, ◌^◌, ◌<◌, ◌≤◌, true, false, List, [], ◌∷◌, length, get_or, take, sym, refl}
use Rattle.std.proofs.Common.{ap, ◌∙◌, subst, le_of_suc-le-suc, not-suc-le-zero, arith, length-take-le, get_or-take, lt-ltb}
use native.Mathlib.Nat.{pow-succ'}
use lib.Bits.{bit_and, and_comm, and_shifted, and_block, and_mod}
use Rattle.std.specs.Prelude.{Some}
use Rattle.model.specs.Lines.{digit, all_digits, value}
use Rattle.numerals.specs.Packed.{DigitBytes, decimal_of, word_of}
use Rattle.numerals.proofs.PackedBytes.{word_next, LowBytes, digits_found, moved_low, pow_bytes, Digits, unaligned}
use Rattle.numerals.specs.Numbers.{digit_count, leading_answer}
use Rattle.numerals.proofs.Numbers.{is_digit, below_digits, number_is}

-- the bytes that a number with n digits' values is made of, by 48 less in each

-- 48 in each of k bytes
abbrev pub zeros : ℕ → ℕ
zeros zero = 0
zeros (suc k) = 48 + 256 * zeros k

pub record Spelt (w : List ℕ) (n u stop : ℕ) : Type 0 where
  pub count : digit_count w ≡ n
  pub digits : all_digits (take n w) ≡ true
  pub values : (v : ℕ) → value v (take n w) ≡ decimal_of n v u
  pub stopped : get_or w n 0 ≡ stop

pub spelt : (n : ℕ) (w : List ℕ) (u e d c stop : ℕ) → ((i : ℕ) → get_or w i 0 < 256) → n < length w → digit stop ≡ false → (e + 48) % 256 ≡ stop
    → d ≡ u + e * 256 ^ n → DigitBytes n u → d + zeros (length w) ≡ word_of w + c * 256 ^ length w → Spelt w n u stop
spelt n [] u e d c stop bytes l other is q h t = absurd (not-suc-le-zero l)
spelt zero (b ∷ w) u e d c stop bytes l other is q h t =
    let p = pow-succ' 256 (length w) in
    let byte = bytes 0 in
    let s : b ≡ stop = omega (arith, ap (λ (x : ℕ). c * x) p) in
    record { count = rw (ap digit s ∙ other); digits = refl; values = λ v. refl; stopped = s }
spelt (suc n) (b ∷ w) u e d c stop bytes l other is q h t =
    let p = pow-succ' 256 (length w) in
    let r = pow-succ' 256 n in
    let byte = bytes 0 in
    let s : d ≡ u + 256 * (e * 256 ^ n) = omega (arith, ap (λ (x : ℕ). e * x) r) in
    let k : d + (48 + 256 * zeros (length w)) ≡ b + 256 * word_of w + 256 * (c * 256 ^ length w) = omega (arith, ap (λ (x : ℕ). c * x) p) in
    let f : b ≡ u % 256 + 48 = omega (arith, h.0) in
    let g = is_digit b (omega arith) (omega (arith, h.0)) in
    let i : b - 48 ≡ u % 256 = omega arith in
    let rest = spelt n w (u / 256) e (u / 256 + e * 256 ^ n) c stop (λ j. bytes (suc j)) (le_of_suc-le-suc l) other is refl h.1 (omega arith) in
    record {
      count = rw g (ap suc rest.count);
      digits = rw g rest.digits;
      values = λ v. rest.values (10 * v + (b - 48)) ∙ ap (λ (x : ℕ). decimal_of n (10 * v + x) (u / 256)) i;
      stopped = rest.stopped;
    }

pub spelt_leading : (w : List ℕ) (n u stop : ℕ) → Spelt w n u stop → 1 ≤ n → n ≤ 7 → n < length w → (1 < n → get_or w 0 0 ≡ 48 → ⊥)
    → leading_answer w ≡ Some (record { value = decimal_of n 0 u; next = n + 1; after = stop })
unfolding leading_answer
spelt_leading w n u stop s some few l z =
    let len : length (take n w) ≡ n = length-take-le n w (omega arith) in
    let is = number_is 7 (take n w) (omega arith) (omega arith) s.digits (λ k q. z (omega arith) (sym (get_or-take n w 0 0 some) ∙ q)) in
    rw (s.count, lt-ltb n (length w) l, is, s.values 0, s.stopped)

-- eight bytes, judged at once

-- a subtraction that wraps, undone
pub moved_back : (x end : ℕ) → end < 256 → ((x % 2 ^ 64 + (2 ^ 64 - end * 2 ^ 56 % 2 ^ 64)) % 2 ^ 64 + end * 72057594037927936) % 2 ^ 64 ≡ x % 2 ^ 64
moved_back x end l = omega arith

pub aligned_digits : (d n end x y : ℕ) → n ≤ 7 → LowBytes n d → y < 2 ^ 64 → (y + end * 72057594037927936) % 2 ^ 64 ≡ (d * 2 ^ (56 - 8 * n)) % 2 ^ 64
    → x ≡ (y + 33344298417550966) % 2 ^ 64 → bit_and x 18410856566090662016 ≡ 0 → DigitBytes 7 y
aligned_digits d n end x y few h l q is e =
    let z = d * 2 ^ (56 - 8 * n) in
    let a = 256 * ((y + end * 72057594037927936) / 2 ^ 64) in
    let b = end + 256 * (z / 2 ^ 64) in
    let whole : z + a * 72057594037927936 ≡ y + b * 72057594037927936 = omega arith in
    let k : 56 - 8 * n ≡ 8 * (7 - n) = omega arith in
    let seven : n + (7 - n) ≡ 7 = omega arith in
    let moved : d * 256 ^ (7 - n) + a * 256 ^ (n + (7 - n)) ≡ y + b * 256 ^ (n + (7 - n)) = rw (seven, ← pow_bytes (7 - n), ← k) whole in
    let low = moved_low (7 - n) n d y a b moved h in
    digits_found 7 x y ((y + 33344298417550966) / 2 ^ 64) l (omega arith) (rw seven at low) e

-- at least two digits' values
two_small : (n u e d : ℕ) → 1 < n → DigitBytes n u → d ≡ u + e * 256 ^ n → (d % 256 ≤ 9) × (d / 256 % 256 ≤ 9)
two_small zero u e d l h q = absurd (omega arith)
two_small (suc zero) u e d l h q = absurd (omega arith)
two_small (suc (suc n)) u e d l h q =
    let p = pow-succ' 256 (suc n) ∙ ap (λ (x : ℕ). 256 * x) (pow-succ' 256 n) in
    let s : d ≡ u + 65536 * (e * 256 ^ n) = omega (arith, ap (λ (x : ℕ). e * x) p) in
    (omega (arith, h.0), omega (arith, h.1.0))

-- no high bit in two bytes of which the first is 0 and the second small
no_others : (d : ℕ) → d % 256 ≡ 0 → d / 256 % 256 ≤ 9 → bit_and d 18410856566090662016 % 65536 ≡ 0
no_others d z l =
    let k = d / 256 % 256 in
    let s : d % 65536 ≡ k * 2 ^ 8 + 0 = omega arith in
    and_mod d 18410856566090662016 16 ∙ ap (λ (x : ℕ). bit_and x 32896) s ∙ and_block 8 k 128 0 128 (omega arith) (omega arith)
    ∙ omega (arith, and_comm k 128, and_shifted 1 7 k (omega arith))

-- eight bytes, 48 less in each, and a byte below the digits
pub record Word (w : List ℕ) (d stop : ℕ) : Type 0 where
  pub long : length w ≡ 8
  pub bytes : (i : ℕ) → get_or w i 0 < 256
  pub is : (d + 3472328296227680304) % 2 ^ 64 ≡ word_of w
  pub low : stop < 48

module _ {w : List ℕ} {d stop : ℕ} (word : Word w d stop) (n : ℕ) (some : 1 ≤ n) (few : n ≤ 7) where
  leads : (u e : ℕ) → DigitBytes n u → d ≡ u + e * 256 ^ n → (d % 256 + bit_and d 18410856566090662016 % 65536 ≡ 0 → ⊥) → 1 < n → get_or w 0 0 ≡ 48 → ⊥
  leads u e h q z l b =
      let t = two_small n u e d l h q in
      let zero : d % 256 ≡ 0 = omega (arith, word_next w 0 (omega (arith, word.long)), t.0, word.is, word.bytes 0) in
      z (omega (arith, no_others d zero t.1))

  found : (e c v : ℕ) → Digits n d e v → (e + 48) % 256 ≡ stop → d + zeros (length w) ≡ word_of w + c * 256 ^ length w
      → (d % 256 + bit_and d 18410856566090662016 % 65536 ≡ 0 → ⊥) → leading_answer w ≡ Some (record { value = v; next = n + 1; after = stop })
  found e c v g is sum z =
      let s = spelt n w g.digits e d c stop word.bytes (omega (arith, word.long)) (below_digits stop word.low) is g.sum g.small sum in
      rw (← g.value_is) (spelt_leading w n g.digits stop s some few (omega (arith, word.long)) (leads g.digits e g.small g.sum z))

  pub judged_at_once : (end y : ℕ) → (end + 48) % 256 ≡ stop → end < 256 → DigitBytes 7 y
      → (y + end * 72057594037927936) % 2 ^ 64 ≡ (d * 2 ^ (56 - 8 * n)) % 2 ^ 64
      → (d % 256 + bit_and d 18410856566090662016 % 65536 ≡ 0 → ⊥) → leading_answer w ≡ Some (record { value = decimal_of 7 0 y; next = n + 1; after = stop })
  judged_at_once end y is le h q z =
      let x = d * 2 ^ (56 - 8 * n) in
      let e = end + 256 * (x / 2 ^ 64) in
      let small : y < 72057594037927936 = omega (arith, h.1.1.1.1.1.1.1) in
      let whole : x ≡ y + e * 72057594037927936 = omega arith in
      let k : 56 - 8 * n ≡ 8 * (7 - n) = omega arith in
      let seven : n + (7 - n) ≡ 7 = omega arith in
      let shifted : d * 256 ^ (7 - n) ≡ y + e * 256 ^ (n + (7 - n)) = rw (seven, ← pow_bytes (7 - n), ← k) whole in
      let c = (d + 3472328296227680304) / 2 ^ 64 in
      let sum : d + zeros (length w) ≡ word_of w + c * 256 ^ length w = rw word.long (omega (arith, word.is)) in
      let digits = subst (λ (m : ℕ). Digits n d e (decimal_of m 0 y)) seven (unaligned (7 - n) n d y e shifted (rw seven h)) in
      found e c (decimal_of 7 0 y) digits (omega arith) sum z
