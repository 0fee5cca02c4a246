-- Laws of bytes packed into one number: the bytes that it was made of, the digits in it, and the number that they denote. Assumes nothing.
use Rattle.std.proofs.Common.{◌≡◌, ℕ, zero, suc, ◌+◌, ◌*◌, ◌/◌, ◌%◌, ◌^◌, ◌<◌, ◌≤◌, List, length, get_or, drop, sym, refl, ap, ◌∙◌, ap₂, add-zero}
use Rattle.std.proofs.Common.{add-suc, mul_assoc, add-one, arith, drop-cons, pow-add}
use native.Mathlib.Nat.{pow-succ'}
use lib.Bits.{bit_and, and_block, and_mask, and_mod, and_shr}
use lib.Count.{count_trailing_zeros, under}
use Rattle.std.proofs.lemmas.Nat.Bits.{bit_at-trailing_zeros}
use Rattle.std.specs.Int.{w64}
use Rattle.numerals.specs.Packed.{DigitBytes, decimal_of, word_of}

-- the bytes of a list, one after the other

pub word_next : (w : List ℕ) (i : ℕ) → i < length w → word_of (drop i w) ≡ get_or w i 0 + 256 * word_of (drop (i + 1) w)
word_next w i l = rw (drop-cons w i 0 l, add-one)

-- every second byte

even_bytes : (a b r m : ℕ) → a < 256 → b < 256 → bit_and (a + 256 * b + 65536 * r) (255 + 65536 * m) ≡ a + 65536 * bit_and r m
even_bytes a b r m la lb =
    let x : a + 256 * b + 65536 * r ≡ r * 2 ^ 16 + (a + 256 * b) = omega arith in
    let y : 255 + 65536 * m ≡ m * 2 ^ 16 + 255 = omega arith in
    let s = and_block 16 r m (a + 256 * b) 255 (omega arith) (omega arith) in
    let e : (a + 256 * b) % 2 ^ 8 ≡ a = omega arith in
    ap₂ bit_and x y ∙ s ∙ omega (arith, and_mask (a + 256 * b) 8)

-- four pairs of digits, each with the one after it
four_pairs : (p a b c d : ℕ) → p ≡ a + 65536 * (b + 65536 * (c + 65536 * d)) → a ≤ 99 → b ≤ 99 → c ≤ 99 → d ≤ 99
    → p * 100 + p / 65536 ≡ 100 * a + b + 65536 * (100 * b + c) + 4294967296 * (100 * c + d + 65536 * (100 * d))
four_pairs p a b c d is la lb lc ld =
    let q : p / 65536 ≡ b + 65536 * (c + 65536 * d) = omega arith in
    omega arith

upper : (x l h : ℕ) → x ≡ l + 4294967296 * h → l < 4294967296 → x / 4294967296 ≡ h
upper x l h is ll = omega arith

lowest : (x l h : ℕ) → x ≡ l + 65536 * h → l < 65536 → x % 65536 ≡ l
lowest x l h is ll = omega arith

two_fours : (x a b c d : ℕ) → x ≡ a + 65536 * b + 4294967296 * (c + 65536 * d) → a ≤ 9999 → b ≤ 9999 → c ≤ 9999 → d ≤ 9999
    → (x < 2 ^ 64) × (x % 65536 * 10000 + x / 4294967296 % 65536 ≡ a * 10000 + c)
two_fours x a b c d is la lb lc ld =
    let low = lowest x a (b + 65536 * (c + 65536 * d)) (omega arith) (omega arith) in
    let high = upper x (a + 65536 * b) (c + 65536 * d) is (omega arith) in
    let third = lowest (x / 4294967296) c d high (omega arith) in
    (omega arith, omega (arith, low, third))

-- seven digits, in pairs, each with the one before it by one multiplication, and then in fours

abbrev pairs : ℕ → ℕ
pairs y = bit_and (y * 2561) 71777214294589695

abbrev fours : ℕ → ℕ
fours y = pairs y * 100 + pairs y / 65536

module _ (y a b c d e f g : ℕ) (is : y ≡ a + 256 * (b + 256 * (c + 256 * (d + 256 * (e + 256 * (f + 256 * g))))))
    (la : a ≤ 9) (lb : b ≤ 9) (lc : c ≤ 9) (ld : d ≤ 9) (le : e ≤ 9) (lf : f ≤ 9) (lg : g ≤ 9) where
  -- the pairs that are kept, the lowest last, and what is kept of all of them
  abbrev pair_4 : ℕ
  pair_4 = 10 * f + g + 256 * (10 * g) + 65536 * 0

  abbrev pair_3 : ℕ
  pair_3 = 10 * d + e + 256 * (10 * e + f) + 65536 * pair_4

  abbrev pair_2 : ℕ
  pair_2 = 10 * b + c + 256 * (10 * c + d) + 65536 * pair_3

  paired : pairs y ≡ a + 65536 * ((10 * b + c) + 65536 * ((10 * d + e) + 65536 * (10 * f + g)))
  paired =
      let p4 = even_bytes (10 * f + g) (10 * g) 0 0 (omega arith) (omega arith) in
      let p3 = even_bytes (10 * d + e) (10 * e + f) pair_4 255 (omega arith) (omega arith) in
      let p2 = even_bytes (10 * b + c) (10 * c + d) pair_3 16711935 (omega arith) (omega arith) in
      let p1 = even_bytes a (10 * a + b) pair_2 1095233372415 (omega arith) (omega arith) in
      let s : y * 2561 ≡ a + 256 * (10 * a + b) + 65536 * pair_2 = omega arith in
      ap (λ (x : ℕ). bit_and x 71777214294589695) s ∙ omega (arith, p1, p2, p3, p4)

  joined : (pairs y * 100 < 2 ^ 64) × (fours y < 2 ^ 64)
      × (fours y % 65536 * 10000 + fours y / 4294967296 % 65536 ≡ 10 * (10 * (10 * (10 * (10 * (10 * (10 * 0 + a) + b) + c) + d) + e) + f) + g)
  joined =
      let q = four_pairs (pairs y) a (10 * b + c) (10 * d + e) (10 * f + g) paired (omega arith) (omega arith) (omega arith) (omega arith) in
      let t = two_fours (fours y) _ _ _ _ q (omega arith) (omega arith) (omega arith) (omega arith) in
      (omega (arith, paired), t.0, t.1 ∙ omega arith)

-- none of the sums on the way reaches 64 bits
pub decimal_joined : (y : ℕ) → DigitBytes 7 y
    → (pairs y * 100 < 2 ^ 64) × (fours y < 2 ^ 64) × (fours y % 65536 * 10000 + fours y / 4294967296 % 65536 ≡ decimal_of 7 0 y)
decimal_joined y h =
    let t = h.1.1 in
    let u = t.1.1 in
    joined y (y % 256) _ _ _ _ _ _ (omega arith) h.0 h.1.0 t.0 t.1.0 u.0 u.1.0 u.1.1.0

-- bytes without their high bit, and those that are digits' values

-- the k lowest bytes of a number are below 128
abbrev pub LowBytes : ℕ → ℕ → Type 0
LowBytes zero y = Unit {0}
LowBytes (suc k) y = (y % 256 < 128) × LowBytes k (y / 256)

-- 118 in each of k bytes, and the high bit of each under a whole byte
abbrev pub added : ℕ → ℕ
added zero = 0
added (suc k) = 118 + 256 * added k

abbrev pub judged : ℕ → ℕ
judged zero = 255
judged (suc k) = 128 + 256 * judged k

-- what a number has in those bits, byte by byte
module _ (k x : ℕ) where
  pub judged_low : bit_and x (judged (suc k)) % 256 ≡ 0 → x % 256 < 128
  judged_low e =
      let m : judged (suc k) % 256 ≡ 128 = omega arith in
      let b = x % 256 in
      let s : bit_and b 128 ≡ 0 = ap (bit_and b) (sym m) ∙ sym (and_mod x (judged (suc k)) 8) ∙ e in
      let t : bit_and (b / 128) 1 ≡ 0 = sym (and_shr b 128 7) ∙ ap (λ (z : ℕ). z / 128) s in
      omega (arith, and_mask (b / 128) 1, t)

  pub judged_rest : bit_and (x / 256) (judged k) ≡ bit_and x (judged (suc k)) / 256
  judged_rest =
      let d : judged (suc k) / 256 ≡ judged k = omega arith in
      ap (bit_and (x / 256)) (sym d) ∙ sym (and_shr x (judged (suc k)) 8)

pub low_bytes : (n k x q : ℕ) → n ≤ k → bit_and x (judged k) ≡ q * 256 ^ n → LowBytes n x
low_bytes zero k x q l e = tt
low_bytes (suc n) zero x q l e = absurd (omega arith)
low_bytes (suc n) (suc k) x q l e =
    let p : bit_and x (judged (suc k)) ≡ 256 * (q * 256 ^ n) = e ∙ omega (arith, ap (λ (z : ℕ). q * z) (pow-succ' 256 n)) in
    (judged_low k x (omega (arith, p)), low_bytes n k (x / 256) q (omega arith) (judged_rest k x ∙ omega (arith, p)))

-- x is y with 118 added to k bytes, where the sum may wrap
pub digits_found : (k x y c : ℕ) → y < 256 ^ suc k → x + c * 256 ^ suc k ≡ y + added k → LowBytes k y → bit_and x (judged k) ≡ 0 → DigitBytes k y
digits_found zero x y c l is h e = omega (arith, e, and_mask x 8)
digits_found (suc k) x y c l is h e =
    let p = 256 ^ suc k in
    let q : 256 ^ suc (suc k) ≡ 256 * p = pow-succ' 256 (suc k) in
    let w : x + 256 * (c * p) ≡ y + (118 + 256 * added k) = omega (arith, ap (λ (z : ℕ). c * z) q) in
    let b = judged_low k x (omega (arith, e)) in
    (omega (arith, h.0), digits_found k (x / 256) (y / 256) c (omega arith) (omega (arith, h.0)) h.1 (judged_rest k x ∙ omega (arith, e)))

-- bytes moved up by m bytes
aligned_low : (n d y a b : ℕ) → d + a * 256 ^ n ≡ y + b * 256 ^ n → LowBytes n d → LowBytes n y
aligned_low zero d y a b q h = tt
aligned_low (suc n) d y a b q h =
    let p = pow-succ' 256 n in
    let w : d + 256 * (a * 256 ^ n) ≡ y + 256 * (b * 256 ^ n) = omega (arith, ap (λ (z : ℕ). a * z) p, ap (λ (z : ℕ). b * z) p) in
    (omega (arith, h.0), aligned_low n (d / 256) (y / 256) a b (omega arith) h.1)

pub moved_low : (m n d y a b : ℕ) → d * 256 ^ m + a * 256 ^ (n + m) ≡ y + b * 256 ^ (n + m) → LowBytes n d → LowBytes (n + m) y
moved_low zero n d y a b = rw (add-zero n) (λ q h. aligned_low n d y a b (omega arith) h)
moved_low (suc m) n d y a b =
    rw (add-suc n m)
    (λ q h.
    let p = pow-succ' 256 m in
    let r = pow-succ' 256 (n + m) in
    let w : 256 * (d * 256 ^ m) + 256 * (a * 256 ^ (n + m)) ≡ y + 256 * (b * 256 ^ (n + m)) =
    omega (arith, ap (λ (z : ℕ). d * z) p, ap (λ (z : ℕ). a * z) r, ap (λ (z : ℕ). b * z) r) in
    (omega arith, moved_low m n d (y / 256) a b (omega arith) h))

-- the zeros at the low end of a number

pub record Multiple (x p : ℕ) : Type 0 where
  pub times : ℕ
  pub is : x ≡ times * p

under_divides : (b x t : ℕ) → x % 2 ≡ b → Multiple (x / 2) (2 ^ t) → Multiple x (2 ^ under b t)
under_divides zero x t e m = record { times = m.times; is = omega (arith, m.is, ap (λ (z : ℕ). m.times * z) (pow-succ' 2 t)) }
under_divides (suc b) x t e m = record { times = x; is = omega arith }

pub trailing_divides : (k x : ℕ) → Multiple x (2 ^ count_trailing_zeros k x)
unfolding count_trailing_zeros
trailing_divides zero x = record { times = x; is = omega arith }
trailing_divides (suc k) x = under_divides (x % 2) x (count_trailing_zeros k (x / 2)) refl (trailing_divides k (x / 2))

pub pow_bytes : (m : ℕ) → 2 ^ (8 * m) ≡ 256 ^ m
pow_bytes zero = refl
pow_bytes (suc m) =
    let k : 8 * suc m ≡ 8 + 8 * m = omega arith in
    ap (λ (x : ℕ). 2 ^ x) k ∙ pow-add 2 8 (8 * m) ∙ ap (λ (x : ℕ). 256 * x) (pow_bytes m) ∙ sym (pow-succ' 256 m)

-- whole bytes of them
pub trailing_bytes : (x : ℕ) → Multiple x (256 ^ (count_trailing_zeros 64 x / 8))
trailing_bytes x =
    let t = count_trailing_zeros 64 x in
    let m = trailing_divides 64 x in
    let e : t ≡ t % 8 + 8 * (t / 8) = omega arith in
    let p : 2 ^ t ≡ 2 ^ (t % 8) * 256 ^ (t / 8) =
    ap (λ (k : ℕ). 2 ^ k) e ∙ pow-add 2 (t % 8) (8 * (t / 8)) ∙ ap (λ (z : ℕ). 2 ^ (t % 8) * z) (pow_bytes (t / 8)) in
    record { times = m.times * 2 ^ (t % 8); is = m.is ∙ ap (λ (z : ℕ). m.times * z) p ∙ sym (mul_assoc m.times (2 ^ (t % 8)) (256 ^ (t / 8))) }

-- fewer than eight below a bit
pub few_bytes : (x : ℕ) → (x ≡ 0 → ⊥) → x < 2 ^ 64 → count_trailing_zeros 64 x / 8 ≤ 7
few_bytes x bit l = omega (arith, (bit_at-trailing_zeros w64 x (omega arith) l).0)

-- digits in the highest of n + m bytes, of which the others are 0

pub record Digits (n d e v : ℕ) : Type 0 where
  pub digits : ℕ
  pub sum : d ≡ digits + e * 256 ^ n
  pub small : DigitBytes n digits
  pub value_is : decimal_of n 0 digits ≡ v

pub unaligned : (m n d y e : ℕ) → d * 256 ^ m ≡ y + e * 256 ^ (n + m) → DigitBytes (n + m) y → Digits n d e (decimal_of (n + m) 0 y)
unaligned zero n d y e = rw (add-zero n) (λ q h. record { digits = y; sum = omega arith; small = h; value_is = refl })
unaligned (suc m) n d y e =
    rw (add-suc n m)
    (λ q h.
    let p = pow-succ' 256 m in
    let r = pow-succ' 256 (n + m) in
    let t : 256 * (d * 256 ^ m) ≡ y + 256 * (e * 256 ^ (n + m)) = omega (arith, ap (λ (x : ℕ). d * x) p, ap (λ (x : ℕ). e * x) r) in
    let z : 0 ≡ 10 * 0 + y % 256 = omega arith in
    let rest = unaligned m n d (y / 256) e (omega arith) h.1 in
    record {
      digits = rest.digits;
      sum = rest.sum;
      small = rest.small;
      value_is = ◌∙◌ {a = decimal_of n 0 rest.digits} rest.value_is (ap (λ (v : ℕ). decimal_of (n + m) v (y / 256)) z);
    })
