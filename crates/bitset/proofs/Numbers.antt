-- The numbers that words have: of words that are all 0, after a write to the word of one number, and the lowest one. Assumes nothing.
use Rattle.std.proofs.Common.{◌≡◌, ◌≢◌, ℕ, zero, suc, ◌+◌, ◌*◌, ◌/◌, ◌%◌, ◌^◌, ◌<◌, ◌≤◌, Bool, true, false, not, ◌&&◌, ◌||◌, cond, if◌then◌else◌, eqb, ltb}
use Rattle.std.proofs.Common.{bit_and, bit_or, w64, List, length, get_or, set, replicate, refl, sym, ap, ◌∙◌, inl, inr, arith}
use Rattle.std.proofs.Common.{get_or-set_same, get_or-set_other, eq-eqb, ne_eqb}
use Rattle.std.specs.Cmp.{nat_cmp_total, unsigned_tied}
use Rattle.std.specs.FinSet as finite
use Rattle.std.specs.FinSet.{contains-empty, contains-insert, contains-remove, same_set, nat_cmp-IsAntisymmetric}
use Rattle.std.specs.Int.{bit_at, bit_not, from_bool, trailing_zeros}
use Rattle.std.specs.Int.Bits.{or_zero_r}
use Rattle.std.specs.Ordering.{nat_cmp}
use Rattle.std.proofs.lemmas.Bool.{cases_eq, cases_lt}
use Rattle.std.proofs.lemmas.Bool.Decides.{nat_tests}
use Rattle.std.proofs.lemmas.List.{get_or_past, set-get_or}
use Rattle.std.proofs.lemmas.Nat.Bits.{bit_at-zero, bit_at_set_same, bit_at_set_other, bit_at_clear_same, bit_at_clear_other, bit_at-trailing_zeros}
use Rattle.std.proofs.lemmas.Nat.Bits.{shr_and_one}
use Rattle.bitset.specs.Bits.{has, passing, numbers}
use Rattle.bitset.specs.Lowest.{IsLowest}

-- what is in a set after a number joins or leaves it, by a test of numbers

pub contains_inserted : (s : finite.FinSet nat_cmp) (k q : ℕ) → finite.contains (finite.insert s k) q ≡ (eqb q k || finite.contains s q)
contains_inserted s k q = contains-insert nat_cmp_total s k q ∙ ap (λ (b : Bool). b || finite.contains s q) (unsigned_tied q k)

pub contains_removed : (s : finite.FinSet nat_cmp) (k q : ℕ) → finite.contains (finite.remove s k) q ≡ (not (eqb q k) && finite.contains s q)
contains_removed s k q = contains-remove nat_cmp_total s k q ∙ ap (λ (b : Bool). not b && finite.contains s q) (unsigned_tied q k)

-- one more number, which passes or doesn't

passing_more : (q n : ℕ) (p c : Bool) → (q ≡ n → p ≡ true) → c ≡ (ltb q n && p) → (eqb q n || c) ≡ (ltb q (suc n) && p)
passing_more q n p c here below = grind (arith, nat_tests)

passing_same : (q n : ℕ) (p c : Bool) → (q ≡ n → p ≡ false) → c ≡ (ltb q n && p) → c ≡ (ltb q (suc n) && p)
passing_same q n p c here below = grind (arith, nat_tests)

ltb_zero : (q : ℕ) (p : Bool) → false ≡ (ltb q 0 && p)
ltb_zero q p = grind (arith, nat_tests)

contains-passing : (p : ℕ → Bool) (n q : ℕ) → finite.contains (passing p n) q ≡ (ltb q n && p q)
unfolding passing
contains-passing p zero q = contains-empty nat_cmp q ∙ ltb_zero q (p q)
contains-passing p (suc n) q =
    let below = contains-passing p n q in
    elim (p n) as (λ b. p n ≡ b → finite.contains (if b then finite.insert (passing p n) n else passing p n) q ≡ (ltb q (suc n) && p q)) [
      | true ↦ λ t. contains_inserted (passing p n) n q ∙ passing_more q n (p q) _ (λ e. rw e t) below
      | false ↦ λ f. passing_same q n (p q) _ (λ e. rw e f) below
    ] refl

-- the words have no number past their end
has_past : (words : List ℕ) (j : ℕ) → 64 * length words ≤ j → has words j ≡ false
unfolding has
has_past words j past =
    let outside : length words ≤ j / 64 = omega arith in
    rw (get_or_past words (j / 64) 0 outside, bit_at-zero (j % 64))

contains-numbers : (words : List ℕ) (q : ℕ) → finite.contains (numbers words) q ≡ has words q
unfolding numbers
contains-numbers words q = contains-passing (has words) (64 * length words) q ∙ within (has words q) (λ past. has_past words q past)
  where
    within : (h : Bool) → (64 * length words ≤ q → h ≡ false) → (ltb q (64 * length words) && h) ≡ h
    within h past = grind (arith, nat_tests)

-- words of the same numbers as a set
numbers_are : (words : List ℕ) (s : finite.FinSet nat_cmp) → ((q : ℕ) → has words q ≡ finite.contains s q) → numbers words ≡ s
numbers_are words s same = same_set nat_cmp_total nat_cmp-IsAntisymmetric (numbers words) s (λ q. contains-numbers words q ∙ same q)

-- words that are all 0

pub zero_entries : (n i : ℕ) → get_or {A = ℕ} (replicate n 0) i 0 ≡ 0
zero_entries zero i = refl
zero_entries (suc n) zero = refl
zero_entries (suc n) (suc i) = zero_entries n i

has_zeros : (n j : ℕ) → has (replicate n 0) j ≡ false
unfolding has
has_zeros n j = rw (zero_entries n (j / 64), bit_at-zero (j % 64))

pub numbers_zeros : (n : ℕ) → numbers (replicate n 0) ≡ finite.empty
numbers_zeros n = numbers_are _ _ (λ q. has_zeros n q ∙ sym (contains-empty nat_cmp q))

-- the bit of a number
pub contained : (words : List ℕ) (x : ℕ) → finite.contains (numbers words) x ≡ eqb (bit_and (get_or words (x / 64) 0 / 2 ^ (x % 64)) 1) 1
unfolding has
contained words x = contains-numbers words x ∙ rw (shr_and_one (get_or words (x / 64) 0) (x % 64))

-- a write to the word of a number, which leaves the word's other bits

module _ (words : List ℕ) (x v : ℕ) (b : Bool) (within : x < 64 * length words) where
  set_written : eqb (bit_at v (x % 64)) 1 ≡ b → ((k : ℕ) → k < 64 → k ≢ x % 64 → bit_at v k ≡ bit_at (get_or words (x / 64) 0) k)
      → (j : ℕ) → has (set words (x / 64) v) j ≡ cond (eqb j x) b (has words j)
  unfolding has
  set_written here others j =
      let inside : x / 64 < length words = omega arith in
      let here_only : j / 64 ≡ x / 64 → j % 64 ≡ x % 64 → j ≡ x = λ p q. omega arith in
      elim (cases_eq (j / 64) (x / 64)) [
        | inl same ↦ rw (same, get_or-set_same words (x / 64) v 0 inside) (elim (cases_eq (j % 64) (x % 64)) [
          | inl e ↦ rw (e, eq-eqb j x (here_only same e)) here
          | inr d ↦ rw (others (j % 64) (omega arith) d, ne_eqb j x (λ p. d (ap (λ (n : ℕ). n % 64) p)))
        ])
        | inr d ↦ rw (get_or-set_other words (x / 64) (j / 64) v 0 d, ne_eqb j x (λ p. d (ap (λ (n : ℕ). n / 64) p)))
      ]

-- the number's bit is set, or cleared, or none is

cond_true : (b c : Bool) → cond b true c ≡ (b || c)
cond_true true c = refl
cond_true false c = refl

cond_false : (b c : Bool) → cond b false c ≡ (not b && c)
cond_false true c = refl
cond_false false c = refl

module _ (words : List ℕ) (x : ℕ) (within : x < 64 * length words) where
  pub numbers_with : numbers (set words (x / 64) (bit_or (get_or words (x / 64) 0) (1 * 2 ^ (x % 64) % 2 ^ 64))) ≡ finite.insert (numbers words) x
  numbers_with =
      let w = get_or words (x / 64) 0 in
      let small : x % 64 < 64 = omega arith in
      numbers_are _ _ (λ q.
      set_written words x _ true within (rw (bit_at_set_same w64 w (x % 64) small)) (λ k _ d. bit_at_set_other w64 w (x % 64) small k d) q
      ∙ cond_true (eqb q x) (has words q) ∙ sym (contains_inserted (numbers words) x q ∙ ap (λ (b : Bool). eqb q x || b) (contains-numbers words q)))

  pub numbers_without : numbers (set words (x / 64) (bit_and (get_or words (x / 64) 0) (bit_not w64 (1 * 2 ^ (x % 64) % 2 ^ 64))))
      ≡ finite.remove (numbers words) x
  numbers_without =
      let w = get_or words (x / 64) 0 in
      let small : x % 64 < 64 = omega arith in
      numbers_are _ _ (λ q.
      set_written words x _ false within (rw (bit_at_clear_same w64 w (x % 64) small)) (λ k l d. bit_at_clear_other w64 w (x % 64) small k l d) q
      ∙ cond_false (eqb q x) (has words q) ∙ sym (contains_removed (numbers words) x q ∙ ap (λ (b : Bool). not (eqb q x) && b) (contains-numbers words q)))

  words_kept : set words (x / 64) (bit_or (get_or words (x / 64) 0) (0 * 2 ^ (x % 64) % 2 ^ 64)) ≡ words
  words_kept =
      let none : 0 * 2 ^ (x % 64) % 2 ^ 64 ≡ 0 = omega arith in
      rw (none, or_zero_r (get_or words (x / 64) 0), set-get_or words (x / 64) 0)

  pub numbers_joined : (b : Bool) → numbers (set words (x / 64) (bit_or (get_or words (x / 64) 0) (from_bool b * 2 ^ (x % 64) % 2 ^ 64)))
      ≡ (if b then finite.insert (numbers words) x else numbers words)
  numbers_joined true = numbers_with
  numbers_joined false = ap numbers words_kept

-- a search from word to word: a word that is 0 has no number, in another the lowest is at its lowest 1

module _ (words : List ℕ) (s : finite.FinSet nat_cmp) (view : numbers words ≡ s) (w : ℕ)
    (before : (j : ℕ) → j < 64 * w → finite.contains s j ≡ false) where
  in_words : (j : ℕ) → finite.contains s j ≡ has words j
  in_words j = rw (← view) (contains-numbers words j)

  pub none_more : get_or words w 0 ≡ 0 → (j : ℕ) → j < 64 * (w + 1) → finite.contains s j ≡ false
  unfolding has
  none_more z j l = elim (cases_lt j (64 * w)) [ inl b ↦ before j b | inr n ↦ in_words j ∙ in_word j (omega arith) ]
    where
      in_word : (j : ℕ) → j / 64 ≡ w → has words j ≡ false
      in_word j e = rw (e, z, bit_at-zero (j % 64))

  pub none_at_all : length words ≤ w → s ≡ finite.empty
  none_at_all all =
      same_set nat_cmp_total nat_cmp-IsAntisymmetric s finite.empty
      (λ j. elim (cases_lt j (64 * w)) [ inl b ↦ before j b | inr n ↦ in_words j ∙ has_past words j (omega arith) ] ∙ sym (contains-empty nat_cmp j))

  pub lowest_in_word : (get_or words w 0 ≡ 0 → ⊥) → get_or words w 0 < 2 ^ 64 → IsLowest s (64 * w + trailing_zeros w64 (get_or words w 0))
  unfolding has
  lowest_in_word some fits =
      let f = bit_at-trailing_zeros w64 (get_or words w 0) (omega arith) fits in
      record {
        contained = in_words _ ∙ here _ f.0 f.1;
        none_below = λ j l. elim (cases_lt j (64 * w)) [ inl b ↦ before j b | inr n ↦ in_words j ∙ zero_at j _ f.0 f.2 l n ];
      }
    where
      here : (t : ℕ) → t < 64 → bit_at (get_or words w 0) t ≡ 1 → has words (64 * w + t) ≡ true
      here t b one =
          let q : (64 * w + t) / 64 ≡ w = omega arith in
          let r : (64 * w + t) % 64 ≡ t = omega arith in
          rw (q, r, one)

      zero_at : (j t : ℕ) → t < 64 → ((i : ℕ) → i < t → bit_at (get_or words w 0) i ≡ 0) → j < 64 * w + t → 64 * w ≤ j → has words j ≡ false
      zero_at j t b zeros l n =
          let q : j / 64 ≡ w = omega arith in
          rw (q, zeros (j % 64) (omega arith))
