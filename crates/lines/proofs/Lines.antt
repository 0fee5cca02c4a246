-- Laws of a whole line of numbers of at most w digits: with its tag it has the numbers that are left after the tag, and without it none. Assumes nothing.
use Prim.Native.Nat.{ℕ, suc, ◌+◌, ◌≤◌, ◌<◌}
use mathlib.Core.Path.{◌≡◌, refl, sym, ap, ◌∙◌, subst}
use mathlib.Core.Bool.{true, false, ◌&&◌, and-false}
use mathlib.Core.List.{List, [], ◌∷◌, ◌++◌, head-eq_of_cons-eq, tail-eq_of_cons-eq}
use Rattle.std.specs.Prelude.{Option, None, Some, slice_range}
use Rattle.std.specs.List.{starts_with}
use Rattle.std.proofs.lemmas.Bool.Decides.{nat_tests}
use Rattle.std.proofs.lemmas.Slice.{between_to_end}
use Rattle.std.proofs.lemmas.Slice.Eq.{text_from_reads}
use native.Mathlib.Nat.{add-zero}
use native.Mathlib.Omega.{arith}
use borrow.Author.Tests.{eqb-true, eqb-false, eq-eqb, ne_eqb, leb-true, lt-leb, le-leb}
use lib.Dec.{eqb, leb}
use lib.ListN.{length, get_or, take, drop, length-drop}
use lib.Seq.{length-take-le, drop-cons, drop-drop, get_or-drop}
use Rattle.model.specs.Bounded.{elem}
use Rattle.model.specs.Lines.{Line, split, all_numbers, tagged, line_of, lines_from, lines}
use Rattle.model.proofs.Bounded.{on, never, and_left, and_right, None≢Some}
use Rattle.model.proofs.Lines.{split_all, lines_next}
use Rattle.fields.specs.Fields.{stops}
use Rattle.lines.specs.Numbers.{after_line, left_numbers, of_count, NumbersTo, numbers_read}
use Rattle.lines.specs.Lines.{Tag, has_tag, of_form, line_numbers, LineRead, line_read}

-- the tag

-- a list begins with a tag if its first two bytes are the tag's
begins_with : (u tag : List ℕ) → length tag ≡ 2
    → starts_with eqb u tag ≡ (leb 2 (length u) && (eqb (get_or u 0 0) (get_or tag 0 0) && eqb (get_or u 1 0) (get_or tag 1 0)))
begins_with u [] e = absurd (omega arith)
begins_with u (a ∷ []) e = absurd (omega arith)
begins_with [] (a ∷ b ∷ []) e = refl
begins_with (x ∷ []) (a ∷ b ∷ []) e = and-false (eqb a x)
begins_with (x ∷ y ∷ u) (a ∷ b ∷ []) e = grind (arith, nat_tests)
begins_with u (a ∷ b ∷ c ∷ t) e = absurd (omega arith)

-- a tag is its two bytes
pub tag_bytes : (tag : List ℕ) → length tag ≡ 2 → get_or tag 0 0 ∷ get_or tag 1 0 ∷ [] ≡ tag
tag_bytes tag e = sym (text_from_reads tag _ e (refl, (refl, tt)))

module _ (s tag : List ℕ) (at : ℕ) where
  pub tag_past : length s < at + 2 → has_tag s at tag ≡ false
  unfolding has_tag
  tag_past l = rw (lt-leb (at + 2) (length s) l)

  pub tag_begins : length tag ≡ 2 → at ≤ length s → has_tag s at tag ≡ starts_with eqb (slice_range s at (length s)) tag
  unfolding has_tag
  tag_begins t l =
      let long : leb 2 (length (drop at s)) ≡ leb (at + 2) (length s) = grind (arith, nat_tests, length-drop) in
      rw (between_to_end s at (length s) (omega arith), begins_with (drop at s) tag t, long) (simp (get_or-drop, add-zero))

-- a text with a byte 10 is its first line, the byte and the rest
line_splits : (v : List ℕ) → elem 10 v ≡ true → (v ≡ (split 10 v).head ++ (10 ∷ after_line v)) × (elem 10 (split 10 v).head ≡ false)
line_splits [] h = absurd (never h refl)
line_splits (b ∷ v) h =
    on (eqb b 10)
    (λ t. rw t (ap {B = List ℕ} (λ (x : ℕ). x ∷ v) (eqb-true b 10 t), refl))
    (λ t.
    let n = eqb-false b 10 t in
    let r = line_splits v (rw (ne_eqb 10 b (λ e. n (sym e))) at h) in
    rw (t, ne_eqb 10 b (λ e. n (sym e))) (ap {B = List ℕ} (λ (l : List ℕ). b ∷ l) r.0, r.1))

-- with a tag t and a comma

form_of_numbers : (t count : ℕ) (r : Option (List ℕ)) → of_form t count (tagged (t ∷ []) r) ≡ of_count count r
form_of_numbers t count None = refl
form_of_numbers t count (Some ns) = rw (eq-eqb t t refl)

module _ (w t : ℕ) (letter : stops t ≡ false) where
  not_comma : eqb t 44 ≡ false
  not_comma = on (eqb t 44) (λ q. absurd (never (rw q) letter)) (λ q. q)

  not_newline : eqb t 10 ≡ false
  not_newline = rw not_comma at letter

  line_after_tag : (a : List ℕ) → line_of w (t ∷ 44 ∷ a) ≡ tagged (t ∷ []) (all_numbers w ((split 44 a).head ∷ (split 44 a).parts))
  unfolding line_of
  line_after_tag a = rw not_comma

  -- where a byte 10 ends the line
  whole_line : (v : List ℕ) → elem 10 v ≡ true → lines w (t ∷ 44 ∷ v) ≡ line_of w (t ∷ 44 ∷ (split 10 v).head) ∷ lines w (after_line v)
  whole_line v h =
      let r = line_splits v h in
      let no : elem 10 (t ∷ 44 ∷ (split 10 v).head) ≡ false = rw (ne_eqb 10 t (λ e. eqb-false t 10 not_newline (sym e))) r.1 in
      ap (λ (x : List ℕ). lines w (t ∷ 44 ∷ x)) r.0 ∙ lines_next w (t ∷ 44 ∷ (split 10 v).head) (after_line v) no

  pub line_tagged : (count : ℕ) (v : List ℕ) → line_numbers w t count (t ∷ 44 ∷ v) ≡ of_count count (left_numbers w v)
  unfolding line_numbers left_numbers lines
  line_tagged count v =
      let first = (split 10 v).head in
      on (elem 10 v)
      (λ h.
      ap (λ (ls : List (Option Line)). of_form t count (get_or ls 0 None)) (whole_line v h) ∙ ap (of_form t count) (line_after_tag first)
      ∙ form_of_numbers t count (all_numbers w ((split 44 first).head ∷ (split 44 first).parts)) ∙ sym (rw h))
      (λ h. rw (not_newline, split_all 10 v h, h))

-- without them

module _ (w : ℕ) where
  -- numbers are left only where a byte 10 comes
  left_whole : (v : List ℕ) {ns : List ℕ} → left_numbers w v ≡ Some ns → elem 10 v ≡ true
  unfolding left_numbers
  left_whole v e = on (elem 10 v) (λ t. t) (λ t. absurd (None≢Some (rw t at e)))

  -- a line whose first two bytes are no tag with a comma
  no_line : (b c : ℕ) (a : List ℕ) → (c ≡ 44 → ⊥) → line_of w (b ∷ c ∷ a) ≡ None
  unfolding line_of
  no_line b c a n = on (eqb b 44) (λ t. rw t) (λ t. rw (t, ne_eqb c 44 n))

  module _ (t count : ℕ) where
    -- a line of one byte has no numbers
    one_byte : (b : ℕ) → 1 ≤ count → of_form t count (line_of w (b ∷ [])) ≡ None
    unfolding line_of
    one_byte b l = on (eqb b 44) (λ q. rw q) (λ q. rw (q, ne_eqb 0 count (λ e. omega arith), and-false (eqb b t)))

    -- a line of another tag
    other_tag : (b : ℕ) (a : List ℕ) → (b ≡ t → ⊥) → of_form t count (line_of w (b ∷ 44 ∷ a)) ≡ None
    unfolding line_of
    other_tag b a n = on (eqb b 44) (λ q. rw q) (λ q. rw q (go (all_numbers w ((split 44 a).head ∷ (split 44 a).parts))))
      where
        go : (r : Option (List ℕ)) → of_form t count (tagged (b ∷ []) r) ≡ None
        go None = refl
        go (Some ns) = rw (ne_eqb b t n)

    first_other : (b : ℕ) (a : List ℕ) (ps : List (List ℕ)) → of_form t count (line_of w (b ∷ a)) ≡ None
        → of_form t count (get_or (lines_from w (b ∷ a) ps) 0 None) ≡ None
    first_other b a [] e = refl
    first_other b a (p ∷ ps) e = e

    -- after a first byte that is no byte 10
    second_byte : (b : ℕ) (u : List ℕ) → 1 ≤ count → ((v : List ℕ) → b ∷ u ≡ t ∷ 44 ∷ v → ⊥)
        → of_form t count (get_or (lines_from w (b ∷ (split 10 u).head) (split 10 u).parts) 0 None) ≡ None
    second_byte b [] l f = refl
    second_byte b (c ∷ v) l f =
        let first = (split 10 v).head in
        let more = (split 10 v).parts in
        on (eqb c 10) (λ q. rw q (one_byte b l))
        (λ q.
        on (eqb c 44)
        (λ k.
        let e = eqb-true c 44 k in
        let other = other_tag b first (λ i. f v (rw (i, e))) in
        rw q (first_other b (c ∷ first) more (subst (λ (x : ℕ). of_form t count (line_of w (b ∷ x ∷ first)) ≡ None) (sym e) other)))
        (λ k. rw q (first_other b (c ∷ first) more (ap (of_form t count) (no_line b c first (eqb-false c 44 k))))))

    pub line_untagged : (u : List ℕ) → 1 ≤ count → ((v : List ℕ) → u ≡ t ∷ 44 ∷ v → ⊥) → line_numbers w t count u ≡ None
    unfolding line_numbers lines line_of
    line_untagged [] l f = refl
    line_untagged (b ∷ u) l f = on (eqb b 10) (λ q. rw q) (λ q. rw q (second_byte b u l f))

-- at a place of a text

module _ (s tag : List ℕ) (at : ℕ) (g : Tag tag) where
  abbrev t : ℕ
  t = get_or tag 0 0

  -- the bytes from a place on that two bytes follow
  two_bytes : at + 2 ≤ length s → drop at s ≡ get_or s at 0 ∷ get_or s (at + 1) 0 ∷ drop (at + 2) s
  two_bytes l =
      let one : suc at ≡ at + 1 = omega arith in
      let two : suc (at + 1) ≡ at + 2 = omega arith in
      drop-cons s at 0 (omega arith)
      ∙ ap {B = List ℕ} (λ (r : List ℕ). get_or s at 0 ∷ r)
      (ap (λ (k : ℕ). drop k s) one ∙ drop-cons s (at + 1) 0 (omega arith) ∙ ap {B = List ℕ} (λ (k : ℕ). get_or s (at + 1) 0 ∷ drop k s) two)

  pub tagged_within : has_tag s at tag ≡ true → at + 2 ≤ length s
  unfolding has_tag
  tagged_within h = leb-true (at + 2) (length s) (and_left (leb (at + 2) (length s)) _ h)

  tagged_at : has_tag s at tag ≡ true → drop at s ≡ t ∷ 44 ∷ drop (at + 2) s
  unfolding has_tag
  tagged_at h =
      let first = eqb (get_or s at 0) t in
      let second = eqb (get_or s (at + 1) 0) (get_or tag 1 0) in
      let q = and_right (leb (at + 2) (length s)) _ h in
      let a = eqb-true (get_or s at 0) t (and_left first second q) in
      let b = eqb-true (get_or s (at + 1) 0) (get_or tag 1 0) (and_right first second q) in
      two_bytes (tagged_within h) ∙ rw (a, b, g.comma)

  untagged_at : has_tag s at tag ≡ false → (v : List ℕ) → drop at s ≡ t ∷ 44 ∷ v → ⊥
  unfolding has_tag
  untagged_at h v e =
      let long : at + 2 ≤ length s = omega (arith, length-drop at s, ap length e) in
      let q = sym (two_bytes long) ∙ e in
      let a : get_or s at 0 ≡ t = head-eq_of_cons-eq q in
      let b : get_or s (at + 1) 0 ≡ 44 = head-eq_of_cons-eq (tail-eq_of_cons-eq q) in
      never (rw (le-leb (at + 2) (length s) long, eq-eqb (get_or s at 0) t a, b, g.comma) (eq-eqb 44 44 refl)) h

  -- a line that was read
  line_done : (w count : ℕ) (values : List ℕ) (next : ℕ) → has_tag s at tag ≡ true → NumbersTo w s (at + 2) count values next → count ≤ length values
      → LineRead w s at t count values next
  line_done w count values next h r l =
      let u = tagged_at h in
      let v = drop (at + 2) s in
      let first = whole_line w t g.letter v (left_whole w v r.numbers) in
      let all : of_count count (Some (take count values)) ≡ Some (take count values) = rw (length-take-le count values l, eq-eqb count count refl) in
      record {
        numbers = ap (line_numbers w t count) u ∙ line_tagged w t g.letter count v ∙ ap (of_count count) r.numbers ∙ all;
        onward = λ n p.
            record {
              left = sym (drop-drop 1 n (lines w s)) ∙ ap (drop 1) (p.left ∙ ap (lines w) u ∙ first) ∙ ap (lines w) (sym r.after);
              within = r.within;
            };
      }

  line_bad : (w count : ℕ) → has_tag s at tag ≡ true → of_count count (left_numbers w (drop (at + 2) s)) ≡ None → line_numbers w t count (drop at s) ≡ None
  line_bad w count h e = ap (line_numbers w t count) (tagged_at h) ∙ line_tagged w t g.letter count (drop (at + 2) s) ∙ e

  pub line_other : (w count : ℕ) → 1 ≤ count → has_tag s at tag ≡ false → line_numbers w t count (drop at s) ≡ None
  line_other w count l h = line_untagged w t count (drop at s) l (untagged_at h)

  pub line_from : (w count : ℕ) (values : List ℕ) (r : Option ℕ) → has_tag s at tag ≡ true → count ≤ length values → numbers_read w s (at + 2) count values r
      → line_read w s at t count values r
  line_from w count values None h l q = line_bad w count h q
  line_from w count values (Some next) h l q = line_done w count values next h q l
