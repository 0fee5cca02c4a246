-- A number found in one pass is the one that its field holds. Assumes nothing.
use Prim.Native.Nat.{ℕ, zero, suc, ◌+◌, ◌-◌, ◌≤◌, ◌<◌}
use mathlib.Core.Path.{◌≡◌, refl, sym, ap, ◌∙◌}
use mathlib.Core.Bool.{true, false}
use mathlib.Core.List.{List, [], ◌∷◌, ◌++◌}
use Rattle.std.specs.Prelude.{Option, None, Some, slice_range, ◌==◌}
use Rattle.std.specs.Array.{IsFirstChunk}
use Rattle.std.proofs.lemmas.Slice.{between_to_end}
use native.Mathlib.Nat.{not-suc-le-zero, le_of_suc-le-suc}
use native.Mathlib.Omega.{arith}
use borrow.Author.Tests.{ltb-true, lt-ltb, leb-true, eqb-true, eq-eqb, ne_eqb}
use lib.Dec.{leb, ltb}
use lib.ListN.{length, get_or, take, drop, set, length-drop}
use lib.Seq.{length-take-le, take-take, get_or-take, get_or-drop, drop-drop}
use Rattle.model.specs.Lines.{digit, number}
use Rattle.model.proofs.Bounded.{on, by_test, and_left, None≢Some, some_inj}
use Rattle.numerals.specs.Numbers.{digit_count, counted, leading_answer}
use Rattle.numerals.specs.declared.digits.LeadingNumber.{LeadingNumber}
use Rattle.numerals.specs.Words.{ended_by}
use Rattle.fields.specs.Fields.{stops, field_length, field_step}
use Rattle.lines.specs.Numbers.{number_step, NumbersTo}
use Rattle.lines.proofs.FieldNumbers.{numbered_to, Reading, reading_more, reading_done}

-- a number that was found
abbrev pub leads : ℕ → ℕ → ℕ → Option LeadingNumber
leads v next after = Some (record { value = v; next = next; after = after })

-- what a number found says

other≢leading : {x y z : ℕ} → None ≡ leads x y z → ⊥
other≢leading e = None≢Some e

pub record Found (w : List ℕ) (v next after : ℕ) : Type 0 where
  pub place : digit_count w + 1 ≡ next
  pub within : digit_count w < length w
  pub byte : get_or w (digit_count w) 0 ≡ after
  pub denotes : number 7 (take (digit_count w) w) ≡ Some v

pub found : (w : List ℕ) (v next after : ℕ) → leading_answer w ≡ leads v next after → Found w v next after
unfolding leading_answer
found w v next after =
    let n = digit_count w in
    by_test (λ (r : Option LeadingNumber). r ≡ leads v next after → Found w v next after) (ltb n (length w))
    (λ t e. go (number 7 (take n w)) refl (ltb-true n (length w) t) e)
    (λ t e. absurd (other≢leading e))
  where
    go : (r : Option ℕ) → number 7 (take (digit_count w) w) ≡ r → digit_count w < length w
        → counted r (digit_count w) (get_or w (digit_count w) 0) ≡ leads v next after → Found w v next after
    go None q l e = absurd (other≢leading e)
    go (Some x) q l e =
        let is = some_inj e in
        let val : x ≡ v = ap (λ (r : LeadingNumber). r.value) is in
        record { place = ap (λ (r : LeadingNumber). r.next) is; within = l; byte = ap (λ (r : LeadingNumber). r.after) is; denotes = rw (← val) q }

-- digits end no field
digit_goes : (b : ℕ) → digit b ≡ true → stops b ≡ false
unfolding digit
digit_goes b d =
    let l = leb-true 48 b (and_left (leb 48 b) (leb b 57) d) in
    rw (ne_eqb b 44 (λ e. omega arith), ne_eqb b 10 (λ e. omega arith))

-- so the field is as long as the digits, if the byte after them ends it
digits_are_field : (k : ℕ) (u : List ℕ) → digit_count (take k u) < length (take k u) → stops (get_or (take k u) (digit_count (take k u)) 0) ≡ true
    → field_length u ≡ digit_count (take k u)
digits_are_field zero u = λ l s. absurd (not-suc-le-zero l)
digits_are_field (suc k) [] = λ l s. absurd (not-suc-le-zero l)
digits_are_field (suc k) (b ∷ u) =
    on (digit b)
    (λ d. rw (d, digit_goes b d) (λ l s. ap suc (digits_are_field k u (le_of_suc-le-suc l) s)))
    (λ d. rw d (λ l s. rw s))

-- eight bytes from a place on
pub window_length : (s : List ℕ) (p : ℕ) → p + 8 ≤ length s → length (take 8 (drop p s)) ≡ 8
window_length s p l = length-take-le 8 (drop p s) (omega (arith, length-drop p s))

-- they begin with a number: it is its field's, if the byte after it ends one
pub record Front (s : List ℕ) (at v next after : ℕ) : Type 0 where
  pub near : next ≤ 8
  pub number : (stop : ℕ) → after ≡ stop → stops stop ≡ true → number_step 7 s at stop ≡ numbered_to v (at + next)

in_window : (s : List ℕ) (at v next after : ℕ) → at + 8 ≤ length s → leading_answer (take 8 (drop at s)) ≡ leads v next after → Front s at v next after
unfolding number_step field_step
in_window s at v next after l e =
    let u = drop at s in
    let w = take 8 u in
    let n = digit_count w in
    let f = found w v next after e in
    let few : n < 8 = omega (arith, f.within, window_length s at l) in
    let back : at + n - at ≡ n = omega arith in
    let part : take n u ≡ take n w = sym (take-take n 8 u (omega arith)) in
    let on : at + n + 1 ≡ at + next = omega (arith, f.place) in
    record {
      near = omega (arith, f.place);
      number = λ stop is t.
          let stopped : get_or w n 0 ≡ stop = f.byte ∙ is in
          let as_long : field_length u ≡ n = digits_are_field 8 u f.within (rw stopped t) in
          let byte : get_or s (at + n) 0 ≡ stop = sym (get_or-drop at s n 0) ∙ sym (get_or-take 8 u n 0 few) ∙ stopped in
          rw (as_long, lt-ltb (at + n) (length s) (omega arith), eq-eqb (get_or s (at + n) 0) stop byte, back, part, f.denotes, on);
    }

-- the same with the byte that has to end it

found_before : (r : Option LeadingNumber) (f : LeadingNumber) (stop : ℕ) → ended_by stop r ≡ Some f → (r ≡ Some f) × (f.after ≡ stop)
found_before None f stop = λ e. absurd (None≢Some e)
found_before (Some l) f stop =
    by_test (λ (a : Option LeadingNumber). a ≡ Some f → (Some l ≡ Some f) × (f.after ≡ stop)) (l.after == stop)
    (λ t e. (e, sym (ap (λ (r : LeadingNumber). r.after) (some_inj e)) ∙ eqb-true l.after stop t))
    (λ t e. absurd (None≢Some e))

-- the pass: j numbers are read, and the rest is left from a place on
pub record Pass (s : List ℕ) (at count : ℕ) (front rest : List ℕ) (j : ℕ) : Type 0 where
  pub place : ℕ
  pub within : place ≤ length s
  pub left : rest ≡ drop place s
  pub reading : Reading 7 s at count front place j

module _ {s front rest w : List ℕ} {at count j : ℕ} (p : Pass s at count front rest j) (c : IsFirstChunk rest w 8) where
  left_length : length rest ≡ length s - p.place
  left_length = ap length p.left ∙ length-drop p.place s

  -- up to a place after the next number
  onward : (next : ℕ) → p.place + next ≡ length s - length rest + next
  onward next = omega (arith, left_length, p.within)

  module _ (stop : ℕ) {f : LeadingNumber} (e : ended_by stop (leading_answer w) ≡ Some f) where
    found_front : Front s p.place f.value f.next f.after
    found_front =
        let b = found_before (leading_answer w) f stop e in
        in_window s p.place f.value f.next f.after (omega (arith, c.enough, left_length, p.within)) (rw (c.same, p.left) at b.0)

    step : stops stop ≡ true → number_step 7 s p.place stop ≡ numbered_to f.value (p.place + f.next)
    step = found_front.number stop (found_before (leading_answer w) f stop e).1

    pub pass_within : f.next ≤ length rest
    pass_within = omega (arith, found_front.near, c.enough)

  pub pass_more : {f : LeadingNumber} → ended_by 44 (leading_answer w) ≡ Some f → j < length front
      → Pass s at count (set front j f.value) (slice_range rest f.next (length rest)) (j + 1)
  pass_more {f} e h =
      record {
        place = p.place + f.next;
        within = omega (arith, pass_within 44 e, left_length, p.within);
        left = between_to_end rest f.next (length rest) (omega arith) ∙ ap (drop f.next) p.left ∙ drop-drop f.next p.place s;
        reading = reading_more p.reading _ (step 44 e refl) h;
      }

  pub pass_done : {f : LeadingNumber} → ended_by 10 (leading_answer w) ≡ Some f → length front ≤ j
      → NumbersTo 7 s at count (front ++ (f.value ∷ [])) (length s - length rest + f.next)
  pass_done {f} e h = rw (onward f.next) at (reading_done p.reading _ (step 10 e refl) h)
