-- Laws of the numbers of at most w digits that are left of a line, as a loop over its fields uses them. Assumes nothing.
use Prim.Native.Nat.{ℕ, suc, ◌+◌, ◌-◌, ◌^◌, ◌≤◌, ◌<◌}
use mathlib.Core.Path.{◌≡◌, refl, sym, ap, ◌∙◌, subst}
use mathlib.Core.Bool.{Bool, true, false, ◌&&◌, ◌||◌}
use mathlib.Core.List.{List, [], ◌∷◌, ◌++◌, append_assoc}
use Rattle.std.specs.Prelude.{Option, None, Some}
use native.Mathlib.Nat.{not-suc-le-zero, le_of_suc-le-suc, pow-le-pow_right}
use native.Mathlib.Omega.{arith}
use borrow.Author.Tests.{eqb-true, eqb-false, ne_eqb, ltb-true, ltb-false}
use lib.Dec.{ltb, eqb}
use native.Mathlib.Numerals.{add-one}
use lib.ListN.{length, get_or, take, drop, set, length-append, length-drop, length-set}
use lib.Seq.{length-take-le, take_all, take-suc-set, split_at, get_or-drop, drop-drop}
use Rattle.std.proofs.lemmas.List.{length-map}
use Rattle.model.specs.Bounded.{elem}
use Rattle.model.specs.Lines.{number, split, join, all_numbers}
use Rattle.model.proofs.Bounded.{on, by_test, never, and_left, None≢Some, some_inj}
use Rattle.model.proofs.Distinct.{elem_here, elem_there, not_elem}
use Rattle.model.proofs.Lines.{split_next, split_all}
use Rattle.numerals.proofs.Numbers.{number_below}
use Rattle.fields.specs.Fields.{stops, field_length, field_step}
use Rattle.fields.specs.declared.FieldEnds.{FieldEnds}
use Rattle.lines.specs.Numbers.{number_of, number_step, after_line, left_numbers, of_count, NumbersTo}
use Rattle.lines.specs.declared.numbers.Number.{Number}

-- a number that was found
abbrev pub numbered_to : ℕ → ℕ → Option Number
numbered_to v next = Some (record { value = v; next = next })

-- elements of a list

elem_append : (c : ℕ) (a b : List ℕ) → elem c a ≡ false → elem c (a ++ b) ≡ elem c b
elem_append c [] b h = refl
elem_append c (x ∷ a) b h = go (eqb c x) (elem c a) h (elem_append c a b)
  where
    go : (t e : Bool) → (t || e) ≡ false → (e ≡ false → elem c (a ++ b) ≡ elem c b) → (t || elem c (a ++ b)) ≡ elem c b
    go true e q f = absurd (never refl q)
    go false e q f = f q

-- the bytes before the first byte c, of a list that begins without it
split_head : (c : ℕ) (a b : List ℕ) → elem c a ≡ false → (split c (a ++ b)).head ≡ a ++ (split c b).head
split_head c [] b h = refl
split_head c (x ∷ a) b h =
    rw (ne_eqb x c (λ e. never (elem_here c a (sym e)) h))
    (ap {B = List ℕ} (λ (l : List ℕ). x ∷ l) (split_head c a b (not_elem c a (λ m. never (elem_there c x a m) h))))

-- no comma and no byte 10 in a field
field_plain : (c : ℕ) → stops c ≡ true → (u : List ℕ) → elem c (take (field_length u) u) ≡ false
field_plain c s [] = refl
field_plain c s (b ∷ u) =
    by_test (λ (n : ℕ). elem c (take n (b ∷ u)) ≡ false) (stops b) (λ t. refl)
    (λ t. rw (ne_eqb c b (λ e. never (subst (λ (x : ℕ). stops x ≡ true) e s) t)) (field_plain c s u))

-- the byte after it ends it
pub field_stopped : (u : List ℕ) → field_length u < length u → stops (get_or u (field_length u) 0) ≡ true
field_stopped [] = λ l. absurd (not-suc-le-zero l)
field_stopped (b ∷ u) =
    by_test (λ (n : ℕ). n < suc (length u) → stops (get_or (b ∷ u) n 0) ≡ true) (stops b) (λ t l. t) (λ t l. field_stopped u (le_of_suc-le-suc l))

-- what comes after the line

after_append : (a b : List ℕ) → elem 10 a ≡ false → after_line (a ++ b) ≡ after_line b
after_append [] b h = refl
after_append (x ∷ a) b h =
    rw (ne_eqb x 10 (λ e. never (elem_here 10 a (sym e)) h)) (after_append a b (not_elem 10 a (λ m. never (elem_there 10 x a m) h)))

-- a text that begins with a field and the byte that ends it
module _ (u : List ℕ) where
  abbrev field : List ℕ
  field = take (field_length u) u

  abbrev behind : List ℕ
  behind = drop (suc (field_length u)) u

  whole : (b : ℕ) → field_length u < length u → get_or u (field_length u) 0 ≡ b → u ≡ field ++ (b ∷ behind)
  whole b l e = split_at u (field_length u) 0 l ∙ ap (λ (x : ℕ). field ++ (x ∷ behind)) e

  after_field : (b : ℕ) → field_length u < length u → get_or u (field_length u) 0 ≡ b → after_line u ≡ after_line (b ∷ behind)
  after_field b l e = ap after_line (whole b l e) ∙ after_append field (b ∷ behind) (field_plain 10 refl u)

-- a number, and the numbers left at a place

join_none : (x : Option ℕ) → join x None ≡ None
join_none None = refl
join_none (Some v) = refl

refused≢number : {v next : ℕ} → None ≡ numbered_to v next → ⊥
refused≢number e = None≢Some e

-- a byte that ends a field is a comma or byte 10

stops_newline : (b : ℕ) → stops b ≡ true → (b ≡ 44 → ⊥) → b ≡ 10
stops_newline b t n = eqb-true b 10 (rw (ne_eqb b 44 n) at t)

stops_comma : (b : ℕ) → stops b ≡ true → (b ≡ 10 → ⊥) → b ≡ 44
stops_comma b t n = on (eqb b 44) (λ q. eqb-true b 44 q) (λ q. absurd (n (stops_newline b t (eqb-false b 44 q))))

-- a field lies within the text
pub field_within : (s : List ℕ) (at stop : ℕ) (f : FieldEnds) → field_step s at stop ≡ Some f → (f.from ≤ f.to) × (f.to ≤ length s)
unfolding field_step
field_within s at stop f =
    let end = at + field_length (drop at s) in
    by_test (λ (r : Option FieldEnds). r ≡ Some f → (f.from ≤ f.to) × (f.to ≤ length s)) (ltb end (length s) && eqb (get_or s end 0) stop)
    (λ t q.
    let from : at ≡ f.from = ap (λ (r : FieldEnds). r.from) (some_inj q) in
    let to : end ≡ f.to = ap (λ (r : FieldEnds). r.to) (some_inj q) in
    let l = ltb-true end (length s) (and_left (ltb end (length s)) (eqb (get_or s end 0) stop) t) in
    (omega arith, omega arith))
    (λ t q. absurd (None≢Some q))

-- numbers of at most w digits

module _ (w : ℕ) where
  -- a line has a number at least
  pub left_some : (u ns : List ℕ) → left_numbers w u ≡ Some ns → 1 ≤ length ns
  unfolding left_numbers
  left_some u ns =
      by_test (λ (r : Option (List ℕ)). r ≡ Some ns → 1 ≤ length ns) (elem 10 u)
      (λ t e. first (number w (split 44 (split 10 u).head).head) (all_numbers w (split 44 (split 10 u).head).parts) e) (λ t e. absurd (None≢Some e))
    where
      first : (x : Option ℕ) (r : Option (List ℕ)) → join x r ≡ Some ns → 1 ≤ length ns
      first None r e = absurd (None≢Some e)
      first (Some v) None e = absurd (None≢Some e)
      first (Some v) (Some ms) e = subst (λ (l : List ℕ). 1 ≤ length l) (some_inj e) (omega arith)

  -- the numbers that are left, by the byte that ends the first of them
  module _ (u : List ℕ) where
    pub left_comma : field_length u < length u → get_or u (field_length u) 0 ≡ 44 → left_numbers w u ≡ join (number w (field u)) (left_numbers w (behind u))
    unfolding left_numbers
    left_comma l e =
        let v = behind u in
        let is = whole u 44 l e in
        let ten : elem 10 u ≡ elem 10 v = ap (elem 10) is ∙ elem_append 10 (field u) (44 ∷ v) (field_plain 10 refl u) in
        let head : (split 10 u).head ≡ field u ++ (44 ∷ (split 10 v).head) =
        ap (λ (x : List ℕ). (split 10 x).head) is ∙ split_head 10 (field u) (44 ∷ v) (field_plain 10 refl u) in
        let parts = split_next 44 (field u) (split 10 v).head (field_plain 44 refl u) in
        on (elem 10 v) (λ t. rw (ten, t, head, parts)) (λ t. rw (ten, t, join_none (number w (field u))))

    pub left_newline : field_length u < length u → get_or u (field_length u) 0 ≡ 10 → left_numbers w u ≡ join (number w (field u)) (Some [])
    unfolding left_numbers
    left_newline l e =
        let v = behind u in
        let is = whole u 10 l e in
        let ten : elem 10 u ≡ true = ap (elem 10) is ∙ elem_append 10 (field u) (10 ∷ v) (field_plain 10 refl u) in
        let next = split_next 10 (field u) v (field_plain 10 refl u) in
        let head : (split 10 u).head ≡ field u =
        ap (λ (x : List ℕ). (split 10 x).head) is ∙ ap (λ (r : record { head : List ℕ; parts : List (List ℕ) }). r.head) next in
        rw (ten, head, split_all 44 (field u) (field_plain 44 refl u))

    pub left_end : length u ≤ field_length u → left_numbers w u ≡ None
    unfolding left_numbers
    left_end l = let no_ten : elem 10 u ≡ false = sym (ap (elem 10) (take_all (field_length u) u l)) ∙ field_plain 10 refl u in rw no_ten

-- what is left at a place of a text, by whether the field there ends in time
module _ (w : ℕ) (s : List ℕ) (p : ℕ) where
  abbrev u : List ℕ
  u = drop p s

  abbrev to : ℕ
  to = p + field_length u

  in_time : to < length s → field_length u < length u
  in_time l = rw length-drop (omega arith)

  too_late : length s ≤ to → length u ≤ field_length u
  too_late l = rw length-drop (omega arith)

  -- the field's bytes, the byte that ends it, and the bytes after that
  field_bytes : take (to - p) (drop p s) ≡ field u
  field_bytes = let e : to - p ≡ field_length u = omega arith in ap (λ (k : ℕ). take k u) e

  end_byte : get_or u (field_length u) 0 ≡ get_or s to 0
  end_byte = get_or-drop p s (field_length u) 0

  rest : behind u ≡ drop (to + 1) s
  rest = let e : p + suc (field_length u) ≡ to + 1 = omega arith in drop-drop (suc (field_length u)) p s ∙ ap (λ (k : ℕ). drop k s) e

  -- what `number_step` can be
  step_cases : (stop : ℕ) (C : Option Number → Type 0) → (length s ≤ to → C None) → (to < length s → (get_or s to 0 ≡ stop → ⊥) → C None)
      → (to < length s → get_or s to 0 ≡ stop → number w (field u) ≡ None → C None)
      → (to < length s → get_or s to 0 ≡ stop → (v : ℕ) → number w (field u) ≡ Some v → C (numbered_to v (to + 1)))
      → C (number_step w s p stop)
  unfolding number_step field_step
  step_cases stop C late other bad good =
      on (ltb to (length s))
      (λ t.
      let l = ltb-true to (length s) t in
      on (eqb (get_or s to 0) stop)
      (λ q.
      let b = eqb-true (get_or s to 0) stop q in
      rw (t, q, field_bytes) (go l b (number w (field u)) refl))
      (λ q. rw (t, q) (other l (eqb-false (get_or s to 0) stop q))))
      (λ t. rw t (late (ltb-false to (length s) t)))
    where
      go : to < length s → get_or s to 0 ≡ stop → (r : Option ℕ) → number w (field u) ≡ r → C (number_of r (to + 1))
      go l b None e = bad l b e
      go l b (Some v) e = good l b v e

  -- a number that was found: the byte `stop` ends its field
  record Numbered (stop v next : ℕ) : Type 0 where
    in_text : field_length u < length u
    byte : get_or u (field_length u) 0 ≡ stop
    denotes : number w (field u) ≡ Some v
    onward : behind u ≡ drop next s
    within : next ≤ length s

  numbered : (stop v next : ℕ) → number_step w s p stop ≡ numbered_to v next → Numbered stop v next
  numbered stop v next =
      step_cases stop (λ r. r ≡ numbered_to v next → Numbered stop v next) (λ l e. absurd (refused≢number e)) (λ l b e. absurd (refused≢number e))
      (λ l b q e. absurd (refused≢number e))
      (λ l b x q e.
      let n : to + 1 ≡ next = ap (λ (r : Number). r.next) (some_inj e) in
      let i : x ≡ v = ap (λ (r : Number). r.value) (some_inj e) in
      record { in_text = in_time l; byte = end_byte ∙ b; denotes = rw (← i) q; onward = rw (← n) rest; within = omega arith })

  -- it has at most w digits, so it is one of at most d, for d that are no fewer
  pub step_fits : (stop d : ℕ) (n : Number) → number_step w s p stop ≡ Some n → w ≤ d → n.value < 10 ^ d
  step_fits stop d n e l =
      omega (arith, number_below w (field u) n.value (numbered stop n.value n.next e).denotes, pow-le-pow_right {n = 10} (omega arith) {i = w} {j = d} l)

  -- a number that a comma ends: one more of the line
  pub record More (v next : ℕ) : Type 0 where
    pub left : left_numbers w u ≡ join (Some v) (left_numbers w (drop next s))
    pub after : after_line u ≡ after_line (drop next s)

  pub comma_number : (v next : ℕ) → number_step w s p 44 ≡ numbered_to v next → More v next
  comma_number v next e =
      let n = numbered 44 v next e in
      record {
        left = left_comma w u n.in_text n.byte ∙ rw (n.denotes, n.onward);
        after = after_field u 44 n.in_text n.byte ∙ rw n.onward;
      }

  -- the last number of the line
  pub record Last (v next : ℕ) : Type 0 where
    pub left : left_numbers w u ≡ Some (v ∷ [])
    pub after : after_line u ≡ drop next s
    pub within : next ≤ length s

  pub newline_number : (v next : ℕ) → number_step w s p 10 ≡ numbered_to v next → Last v next
  newline_number v next e =
      let n = numbered 10 v next e in
      record {
        left = left_newline w u n.in_text n.byte ∙ rw n.denotes;
        after = after_field u 10 n.in_text n.byte ∙ n.onward;
        within = n.within;
      }

  -- where no comma ends a number, at most one is left
  pub comma_refused : number_step w s p 44 ≡ None → (ns : List ℕ) → left_numbers w u ≡ Some ns → length ns ≡ 1
  comma_refused =
      step_cases 44 (λ r. r ≡ None → (ns : List ℕ) → left_numbers w u ≡ Some ns → length ns ≡ 1)
      (λ l e ns q. absurd (None≢Some (sym (left_end w u (too_late l)) ∙ q)))
      (λ l b e ns q.
      let f = in_time l in
      let ten = stops_newline (get_or u (field_length u) 0) (field_stopped u f) (λ x. b (sym end_byte ∙ x)) in
      one (number w (field u)) ns (sym (left_newline w u f ten) ∙ q))
      (λ l b q e ns r. absurd (None≢Some (sym (left_comma w u (in_time l) (end_byte ∙ b) ∙ rw q) ∙ r)))
      (λ l b v q e. absurd (refused≢number (sym e)))
    where
      one : (x : Option ℕ) (ns : List ℕ) → join x (Some []) ≡ Some ns → length ns ≡ 1
      one None ns e = absurd (None≢Some e)
      one (Some v) ns e = sym (ap length (some_inj e))

  -- where no byte 10 ends a number, at least two are left
  pub newline_refused : number_step w s p 10 ≡ None → (ns : List ℕ) → left_numbers w u ≡ Some ns → 2 ≤ length ns
  newline_refused =
      step_cases 10 (λ r. r ≡ None → (ns : List ℕ) → left_numbers w u ≡ Some ns → 2 ≤ length ns)
      (λ l e ns q. absurd (None≢Some (sym (left_end w u (too_late l)) ∙ q)))
      (λ l b e ns q.
      let f = in_time l in
      let comma = stops_comma (get_or u (field_length u) 0) (field_stopped u f) (λ x. b (sym end_byte ∙ x)) in
      two (number w (field u)) (left_numbers w (behind u)) refl ns (sym (left_comma w u f comma) ∙ q))
      (λ l b q e ns r. absurd (None≢Some (sym (left_newline w u (in_time l) (end_byte ∙ b) ∙ rw q) ∙ r)))
      (λ l b v q e. absurd (refused≢number (sym e)))
    where
      two : (x : Option ℕ) (r : Option (List ℕ)) → left_numbers w (behind u) ≡ r → (ns : List ℕ) → join x r ≡ Some ns → 2 ≤ length ns
      two None r m ns e = absurd (None≢Some e)
      two (Some v) None m ns e = absurd (None≢Some e)
      two (Some v) (Some ms) m ns e =
          let k = left_some w (behind u) ms m in
          subst (λ (l : List ℕ). 2 ≤ length l) (some_inj e) (omega arith)

-- the loop: j numbers are read, and the line is read up to a place

abbrev pub prepend : List ℕ → Option (List ℕ) → Option (List ℕ)
prepend ns None = None
prepend ns (Some ms) = Some (ns ++ ms)

prepend_none : (r : Option (List ℕ)) → r ≡ prepend [] r
prepend_none None = refl
prepend_none (Some ms) = refl

prepend_join : (ns : List ℕ) (v : ℕ) (r : Option (List ℕ)) → prepend ns (join (Some v) r) ≡ prepend (ns ++ (v ∷ [])) r
prepend_join ns v None = refl
prepend_join ns v (Some ms) = ap {B = Option (List ℕ)} Some (sym (append_assoc ns (v ∷ []) ms))

-- a count that never fits
not_of_count : (count : ℕ) (r : Option (List ℕ)) → ((ns : List ℕ) → r ≡ Some ns → length ns ≡ count → ⊥) → of_count count r ≡ None
not_of_count count None f = refl
not_of_count count (Some ns) f = rw (ne_eqb (length ns) count (f ns refl))

prepend_length : (l : List ℕ) (r : Option (List ℕ)) (ns : List ℕ) → prepend l r ≡ Some ns
    → (ms : List ℕ) × (r ≡ Some ms) × (length ns ≡ length l + length ms)
prepend_length l None ns e = absurd (None≢Some e)
prepend_length l (Some ms) ns e = (ms, refl, sym (ap length (some_inj e)) ∙ length-append l ms)

-- j numbers are stored in front of the last one's place, and the rest is left from a place on
pub record Reading (w : ℕ) (s : List ℕ) (at count : ℕ) (front : List ℕ) (place j : ℕ) : Type 0 where
  pub room : length front + 1 ≡ count
  pub few : j < count
  pub left : left_numbers w (drop at s) ≡ prepend (take j front) (left_numbers w (drop place s))
  pub after : after_line (drop at s) ≡ after_line (drop place s)

pub reading_start : (w : ℕ) (s : List ℕ) (at count : ℕ) (front : List ℕ) → length front + 1 ≡ count → Reading w s at count front at 0
reading_start w s at count front e = record { room = e; few = omega (arith, e); left = prepend_none (left_numbers w (drop at s)); after = refl }

module _ {w : ℕ} {s : List ℕ} {at count : ℕ} {front : List ℕ} {place j : ℕ} (r : Reading w s at count front place j) where
  stored : (v : ℕ) → j < length front → take (j + 1) (set front j v) ≡ take j front ++ (v ∷ [])
  stored v l = rw add-one (take-suc-set front j v l)

  -- all of the front is stored, and the last one completes the line
  completed : (v : ℕ) → length front ≤ j → take j front ++ (v ∷ []) ≡ take count (front ++ (v ∷ []))
  completed v l =
      rw (take_all j front l, take_all count (front ++ (v ∷ [])) (omega (arith, r.room, length-append front (v ∷ [])))) refl

  pub reading_more : (n : Number) → number_step w s place 44 ≡ Some n → j < length front → Reading w s at count (set front j n.value) n.next (j + 1)
  reading_more n e h =
      let m = comma_number w s place n.value n.next e in
      record {
        room = rw length-set r.room;
        few = omega (arith, r.room);
        left = r.left ∙ ap (prepend (take j front)) m.left ∙ prepend_join (take j front) n.value (left_numbers w (drop n.next s))
            ∙ ap (λ (ns : List ℕ). prepend ns (left_numbers w (drop n.next s))) (sym (stored n.value h));
        after = r.after ∙ m.after;
      }

  pub reading_done : (n : Number) → number_step w s place 10 ≡ Some n → length front ≤ j → NumbersTo w s at count (front ++ (n.value ∷ [])) n.next
  reading_done n e h =
      let m = newline_number w s place n.value n.next e in
      record {
        numbers = r.left ∙ ap (prepend (take j front)) m.left ∙ ap {B = Option (List ℕ)} Some (completed n.value h);
        after = sym (r.after ∙ m.after);
        within = m.within;
      }

  -- a refusal before the last number, and at it
  not_left : ((ms : List ℕ) → left_numbers w (drop place s) ≡ Some ms → j + length ms ≡ count → ⊥) → of_count count (left_numbers w (drop at s)) ≡ None
  not_left f =
      not_of_count count (left_numbers w (drop at s))
      (λ ns e q.
      let p = prepend_length (take j front) (left_numbers w (drop place s)) ns (sym r.left ∙ e) in
      f p.0 p.1 (omega (arith, p.2, length-take-le j front (omega (arith, r.few, r.room)))))

  pub reading_short : number_step w s place 44 ≡ None → j < length front → of_count count (left_numbers w (drop at s)) ≡ None
  reading_short e h = not_left (λ ms q c. omega (arith, comma_refused w s place e ms q, r.room))

  pub reading_long : number_step w s place 10 ≡ None → length front ≤ j → of_count count (left_numbers w (drop at s)) ≡ None
  reading_long e h = not_left (λ ms q c. omega (arith, newline_refused w s place e ms q, r.few, r.room))

-- what the loop over the fields needs besides
pub ruleset readings = (reading_start, reading_short, reading_long, step_fits, length-map)
