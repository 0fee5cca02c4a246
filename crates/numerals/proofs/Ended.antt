-- Laws of a number that a byte below the digits ends: its length is what is guessed, and its bytes pass where all are judged at once. Assumes nothing.
use Rattle.std.proofs.Common.{◌≡◌, ℕ, zero, suc, ◌+◌, ◌-◌, ◌*◌, ◌/◌, ◌%◌, ◌^◌, ◌<◌, ◌≤◌, true, eqb, ltb, leb, List, [], ◌∷◌, length, get_or, take}
use Rattle.std.proofs.Common.{sym, refl, ap, ◌∙◌, ap₂, le_of_suc-le-suc, not-suc-le-zero, add-zero, add-suc, suc-add, zero-add, mul-one, arith}
use Rattle.std.proofs.Common.{length-take-le, get_or-take, pow-add, ltb-false, ltb-true, eq-eqb, eqb-true, leb-false, leb-true}
use Rattle.std.specs.Prelude.{Option, None, Some}
use native.Mathlib.Nat.{pow-succ'}
use lib.Bits.{bit_and, and_comm, and_shifted, and_mask, and_mod, shifted_half, shifted_even}
use lib.Count.{count_trailing_zeros, trailing_of_zero, under}
use Rattle.model.specs.Lines.{digit, all_digits, number}
use Rattle.model.proofs.Bounded.{on, and_left, and_right, None≢Some}
use Rattle.numerals.specs.Packed.{DigitBytes, word_of}
use Rattle.numerals.proofs.PackedBytes.{word_next, added, judged, judged_low, judged_rest, low_bytes, trailing_divides, pow_bytes}
use Rattle.numerals.specs.Numbers.{digit_count, counted, leading_answer}
use Rattle.numerals.specs.declared.digits.LeadingNumber.{LeadingNumber}
use Rattle.numerals.proofs.Numbers.{number_empty, number_long, number_other, number_zero}
use Rattle.numerals.specs.Words.{ended_by}
use Rattle.numerals.proofs.WordNumbers.{Word, zeros}

-- bytes that begin with a number of n digits, and `stop` after it
record Ends (w : List ℕ) (n stop : ℕ) : Type 0 where
  starts : 1 ≤ n
  few : n ≤ 7
  within : n < length w
  digits : all_digits (take n w) ≡ true
  leads : 1 < n → get_or w 0 0 ≡ 48 → ⊥
  stopped : get_or w n 0 ≡ stop

ends : (w : List ℕ) (n v stop : ℕ) → n < length w → number 7 (take n w) ≡ Some v → get_or w n 0 ≡ stop → Ends w n stop
ends w n v stop l q s =
    let f = take n w in
    let len : length f ≡ n = length-take-le n w (omega arith) in
    record {
      starts = on (leb 1 n) (leb-true 1 n) (λ t. absurd (None≢Some (sym (number_empty 7 f (omega (arith, leb-false 1 n t))) ∙ q)));
      few = on (leb n 7) (leb-true n 7) (λ t. absurd (None≢Some (sym (number_long 7 f (omega (arith, leb-false n 7 t))) ∙ q)));
      within = l;
      digits = on (all_digits f) (λ t. t) (λ t. absurd (None≢Some (sym (number_other 7 f t) ∙ q)));
      leads = λ m z. None≢Some (sym (number_zero 7 f (omega arith) (get_or-take n w 0 0 (omega arith) ∙ z)) ∙ q);
      stopped = s;
    }

-- the answer, where the number is found and where there is none

pub ended_found : {r : Option LeadingNumber} {l : LeadingNumber} → r ≡ Some l → Some l ≡ ended_by l.after r
ended_found {l = l} e = rw (e, eq-eqb l.after l.after refl)

none_ends : (w : List ℕ) (stop : ℕ) → (Ends w (digit_count w) stop → ⊥) → None ≡ ended_by stop (leading_answer w)
unfolding leading_answer
none_ends w stop never =
    let n = digit_count w in
    on (ltb n (length w)) (λ t. rw t (go (ltb-true n (length w) t) (number 7 (take n w)) refl)) (λ t. rw t)
  where
    go : digit_count w < length w → (r : Option ℕ) → number 7 (take (digit_count w) w) ≡ r
        → None ≡ ended_by stop (counted r (digit_count w) (get_or w (digit_count w) 0))
    go l None q = refl
    go l (Some v) q =
        let b = get_or w (digit_count w) 0 in
        on (eqb b stop) (λ t. absurd (never (ends w (digit_count w) v stop l q (eqb-true b stop t)))) (λ t. rw t)

-- the same in a number that is 48 less in each byte: n digits' values, and then the byte e

abbrev Cut : ℕ → ℕ → ℕ → Type 0
Cut zero e d = d % 256 ≡ e
Cut (suc n) e d = (d % 256 ≤ 9) × Cut n e (d / 256)

cut : (n : ℕ) (w : List ℕ) (d c stop : ℕ) → ((i : ℕ) → get_or w i 0 < 256) → stop < 48 → n < length w → all_digits (take n w) ≡ true → get_or w n 0 ≡ stop
    → d + zeros (length w) ≡ word_of w + c * 256 ^ length w → Cut n (stop + 208) d
unfolding digit
cut n [] d c stop bytes low l h s t = absurd (not-suc-le-zero l)
cut zero (b ∷ w) d c stop bytes low l h s t = omega (arith, ap (λ (x : ℕ). c * x) (pow-succ' 256 (length w)))
cut (suc n) (b ∷ w) d c stop bytes low l h s t =
    let g = and_left (digit b) _ h in
    let from = leb-true 48 b (and_left (leb 48 b) (leb b 57) g) in
    let to = leb-true b 57 (and_right (leb 48 b) (leb b 57) g) in
    let k : d + (48 + 256 * zeros (length w)) ≡ b + 256 * word_of w + 256 * (c * 256 ^ length w) =
    omega (arith, ap (λ (x : ℕ). c * x) (pow-succ' 256 (length w))) in
    (omega arith, cut n w (d / 256) c stop (λ j. bytes (suc j)) low (le_of_suc-le-suc l) (and_right (digit b) _ h) s (omega arith))

-- its length is what is guessed

-- the zeros below a number that is moved up
zeros_more : (j k x : ℕ) → count_trailing_zeros (j + k) (x * 2 ^ j) ≡ j + count_trailing_zeros k x
unfolding count_trailing_zeros
zeros_more zero k x = simp (zero-add, mul-one)
zeros_more (suc j) k x =
    rw (suc-add j k, suc-add j (count_trailing_zeros k x))
    (ap₂ under (shifted_even x j) (ap (count_trailing_zeros (j + k)) (shifted_half x j)) ∙ ap suc (zeros_more j k x))

-- a lowest byte that has a bit
zeros_few : (k x : ℕ) → (x % 256 ≡ 0 → ⊥) → count_trailing_zeros (8 + k) x < 8
zeros_few k x bit =
    let t = count_trailing_zeros (8 + k) x in
    let m = trailing_divides (8 + k) x in
    on (ltb t 8) (ltb-true t 8)
    (λ q.
    let l = ltb-false t 8 q in
    let e : t ≡ 8 + (t - 8) = omega arith in
    let p : 2 ^ t ≡ 256 * 2 ^ (t - 8) = ap (λ (j : ℕ). 2 ^ j) e ∙ pow-add 2 8 (t - 8) in
    absurd (bit (omega (arith, m.is, ap (λ (z : ℕ). m.times * z) p))))

-- the high bit of the lowest byte, judged
bit_clear : (k x : ℕ) → x % 256 < 128 → bit_and x (judged (suc k)) % 256 ≡ 0
bit_clear k x l =
    let m : judged (suc k) % 256 ≡ 128 = omega arith in
    and_mod x (judged (suc k)) 8 ∙ ap (bit_and (x % 256)) m ∙ and_comm (x % 256) 128 ∙ and_shifted 1 7 (x % 256) l

bit_set : (k x : ℕ) → 128 ≤ x % 256 → bit_and x (judged k) % 256 ≡ 0 → ⊥
bit_set zero x l e = omega (arith, and_mask x 8)
bit_set (suc k) x l e = omega (arith, judged_low k x e)

-- the lowest of the bits that are judged is in the byte after the digits' values
first_high : (n k e d : ℕ) → n ≤ k → 128 ≤ e → Cut n e d → count_trailing_zeros (8 + 8 * k) (bit_and d (judged k)) / 8 ≡ n
first_high zero k e d l h c = omega (arith, zeros_few (8 * k) (bit_and d (judged k)) (bit_set k d (omega arith)))
first_high (suc n) zero e d l h c = absurd (omega arith)
first_high (suc n) (suc k) e d l h c =
    let x = bit_and d (judged (suc k)) in
    let rest = bit_and (d / 256) (judged k) in
    let clear = bit_clear k d (omega (arith, c.0)) in
    let up : x ≡ rest * 2 ^ 8 = omega (arith, judged_rest k d) in
    let long : 8 + 8 * suc k ≡ 8 + (8 + 8 * k) = omega arith in
    let t = ap₂ count_trailing_zeros long up ∙ zeros_more 8 (8 + 8 * k) rest in
    omega (arith, t, first_high n k e (d / 256) (le_of_suc-le-suc l) h c.1)

-- its bytes pass

-- the digits' values by themselves, the byte e and what is above it
record Split (n e d : ℕ) : Type 0 where
  low : ℕ
  high : ℕ
  sum : d ≡ low + (e + 256 * high) * 256 ^ n
  small : DigitBytes n low

split : (n e d : ℕ) → Cut n e d → Split n e d
split zero e d c = record { low = 0; high = d / 256; sum = omega arith; small = refl }
split (suc n) e d c =
    let r = split n e (d / 256) c.1 in
    let z = e + 256 * r.high in
    let back : (d % 256 + 256 * r.low) / 256 ≡ r.low = omega arith in
    record {
      low = d % 256 + 256 * r.low;
      high = r.high;
      sum = omega (arith, r.sum, ap (λ (x : ℕ). z * x) (pow-succ' 256 n));
      small = (omega (arith, c.0), rw back r.small);
    }

-- digits' values moved up by m bytes
moved_digits : (m n u : ℕ) → DigitBytes n u → DigitBytes (n + m) (u * 256 ^ m)
moved_digits zero n u h = let e : u * 1 ≡ u = omega arith in rw (add-zero n, e) h
moved_digits (suc m) n u h =
    let e : u * 256 ^ suc m ≡ 256 * (u * 256 ^ m) = omega (arith, ap (λ (x : ℕ). u * x) (pow-succ' 256 m)) in
    let back : u * 256 ^ suc m / 256 ≡ u * 256 ^ m = omega arith in
    rw (add-suc n m) (omega arith, rw back (moved_digits m n u h))

-- digits' values with 118 added have no high bit
passes : (k y : ℕ) → DigitBytes k y → bit_and (y + added k) (judged k) ≡ 0
passes zero y h = rw h
passes (suc k) y h =
    let x = y + added (suc k) in
    let next : x / 256 ≡ y / 256 + added k = omega (arith, h.0) in
    let rest = ap (λ (z : ℕ). bit_and z (judged k)) next ∙ passes k (y / 256) h.1 in
    omega (arith, rest, judged_rest k x, bit_clear k x (omega (arith, h.0)))

-- d moved up until the byte `end` is the highest, without that byte
aligned_passes : (d n end x y : ℕ) → n ≤ 7 → Cut n end d → end < 256 → y < 2 ^ 64 → (y + end * 72057594037927936) % 2 ^ 64 ≡ (d * 2 ^ (56 - 8 * n)) % 2 ^ 64
    → x ≡ (y + 33344298417550966) % 2 ^ 64 → bit_and x 18410856566090662016 ≡ 0
aligned_passes d n end x y few c byte l q is =
    let s = split n end d c in
    let u = s.low in
    let e = end + 256 * s.high in
    let m = 7 - n in
    let seven : n + m ≡ 7 = omega arith in
    let z = u * 256 ^ m in
    let digits : DigitBytes 7 z = rw seven at (moved_digits m n u s.small) in
    let small : z < 72057594037927936 = omega (arith, digits.1.1.1.1.1.1.1) in
    let k : 56 - 8 * n ≡ 8 * m = omega arith in
    let shift : 2 ^ (56 - 8 * n) ≡ 256 ^ m = ap (λ (j : ℕ). 2 ^ j) k ∙ pow_bytes m in
    let whole : 256 ^ n * 256 ^ m ≡ 72057594037927936 = sym (pow-add 256 n m) ∙ ap (λ (j : ℕ). 256 ^ j) seven in
    let moved : d * 2 ^ (56 - 8 * n) ≡ z + e * 72057594037927936 =
    ap₂ (λ (a b : ℕ). a * b) s.sum shift ∙ omega (arith, ap (λ (a : ℕ). e * a) whole) in
    let same : y ≡ z = omega arith in
    let sum : x ≡ z + added 7 = omega arith in
    ap (λ (a : ℕ). bit_and a 18410856566090662016) sum ∙ passes 7 z digits

-- it has no leading zero
zero_leads : (n e d : ℕ) → 1 ≤ n → 128 ≤ e → Cut n e d → (1 < n → d % 256 ≡ 0 → ⊥) → d % 256 + bit_and d 18410856566090662016 % 65536 ≡ 0 → ⊥
zero_leads zero e d more h c z q = absurd (omega arith)
zero_leads (suc zero) e d more h c z q =
    let x = bit_and d 18410856566090662016 in
    omega (arith, (low_bytes 2 7 d (x / 65536) (omega arith) (omega arith)).1.0, c.1)
zero_leads (suc (suc n)) e d more h c z q = z (omega arith) (omega arith)

-- each way to give up, where there is no such number
module _ {w : List ℕ} {d stop : ℕ} (word : Word w d stop) where
  in_word : (n : ℕ) → Ends w n stop → Cut n (stop + 208) d
  in_word n e =
      let c = (d + 3472328296227680304) / 2 ^ 64 in
      let sum : d + zeros (length w) ≡ word_of w + c * 256 ^ length w = rw word.long (omega (arith, word.is)) in
      cut n w d c stop word.bytes word.low e.within e.digits e.stopped sum

  count_is : (n : ℕ) → Ends w n stop → count_trailing_zeros 64 (bit_and d 18410856566090662016) / 8 ≡ n
  count_is n e = first_high n 7 (stop + 208) d e.few (omega arith) (in_word n e)

  pub other_without_bits : bit_and d 18410856566090662016 ≡ 0 → None ≡ ended_by stop (leading_answer w)
  other_without_bits z =
      none_ends w stop
      (λ e.
      let n = digit_count w in
      let t : count_trailing_zeros 64 (bit_and d 18410856566090662016) ≡ 64 = ap (count_trailing_zeros 64) z ∙ trailing_of_zero 64 in
      omega (arith, count_is n e, e.few))

  pub other_by_count : count_trailing_zeros 64 (bit_and d 18410856566090662016) / 8 ≡ 0 → None ≡ ended_by stop (leading_answer w)
  other_by_count z = none_ends w stop (λ e. omega (arith, count_is (digit_count w) e, e.starts))

  pub other_by_zero : d % 256 + bit_and d 18410856566090662016 % 65536 ≡ 0 → None ≡ ended_by stop (leading_answer w)
  other_by_zero q =
      none_ends w stop
      (λ e.
      let n = digit_count w in
      let b = word_next w 0 (omega (arith, word.long)) in
      let byte = word.bytes 0 in
      zero_leads n (stop + 208) d e.starts (omega arith) (in_word n e) (λ m z. e.leads m (omega arith)) q)

  pub other_by_bytes : (end x y : ℕ) → (end + 48) % 256 ≡ stop → end < 256 → y < 2 ^ 64
      → (y + end * 72057594037927936) % 2 ^ 64 ≡ (d * 2 ^ (56 - 8 * (count_trailing_zeros 64 (bit_and d 18410856566090662016) / 8))) % 2 ^ 64
      → x ≡ (y + 33344298417550966) % 2 ^ 64 → (bit_and x 18410856566090662016 ≡ 0 → ⊥) → None ≡ ended_by stop (leading_answer w)
  other_by_bytes end x y is byte l q sum f =
      none_ends w stop
      (λ e.
      let n = digit_count w in
      let up : end ≡ stop + 208 = omega arith in
      f (aligned_passes d n end x y e.few (rw up (in_word n e)) byte l (rw (count_is n e) at q) sum))
