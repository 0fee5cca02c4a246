-- Laws of the model's `header`, `clearing_line`, `stage_line` and `edge_line`, by what was found at a place of the sheet. Assumes nothing.
use Prim.Native.Nat.{ℕ, zero, suc, ◌+◌, ◌-◌, ◌*◌, ◌≤◌, ◌<◌}
use mathlib.Core.Path.{◌≡◌, refl, sym, ap, ◌∙◌, subst}
use mathlib.Core.Bool.{Bool, true, false, cond, ◌&&◌}
use mathlib.Core.List.{List, ◌++◌}
use Rattle.std.specs.Prelude.{Option, None, Some, Result, Ok, Err}
use native.Mathlib.Omega.{arith}
use native.Mathlib.Nat.{mul-suc, mul-le-mul_left, not-suc-le-zero}
use lib.Dec.{leb, eqb}
use lib.ListN.{length, get_or, take, drop}
use lib.Seq.{get_or-take, get_or-drop}
use Rattle.std.proofs.lemmas.List.{take-append-le}
use Rattle.model.specs.Lines.{Line, lines}
use Rattle.model.specs.SheetText.{Judged, refused, judged, ◌>>=◌, ◌>>◌, check, form_of, form, between, header_check, header}
use Rattle.model.specs.SheetText.{clearing_line_at, clearing_check, clearing_line, stage_line_at, edge_line_at, stage_check, stage_line, edge_check, edge_line}
use Rattle.model.specs.Faults.{answered}
use Rattle.model.specs.declared.Fault.{Fault}
use Rattle.model.specs.declared.Fault.TheVariants.{BadForm}
use Rattle.model.proofs.Bounded.{every_cong, table_cong}
use Rattle.model.proofs.SheetText.{first_judged, judged_inj, after_clearing, stage_after, edge_after, clearing_from_1, stage_from_1, edge_from_1}
use Rattle.lines.specs.Lines.{of_form, line_numbers, Place, LineRead}
use Rattle.judge.specs.declared.HeaderValues.{HeaderValues}
use Rattle.judge.specs.declared.ClearingValues.{ClearingValues}
use Rattle.judge.specs.Judging.{SizesAt, header_answer, TimesAt, clearing_answer, if_passed, AtLine, sizes_at, times_at, times_row, durations_of, edge_of}
use Rattle.judge.specs.Judging.{HeaderRead, FirstLine, ClearingRead, FirstLines, StageRead, EdgeRead}

-- the line at a place

abbrev judge_numbers : ℕ → Option (List ℕ) → Judged (List ℕ)
judge_numbers line None = refused 3 line
judge_numbers line (Some ns) = judged ns

form_is : (line tag count : ℕ) (l : Option Line) → form_of line tag count l ≡ judge_numbers line (of_form tag count l)
form_is line tag count None = refl
form_is line tag count (Some l) = go (eqb l.tag tag && eqb (length l.numbers) count)
  where
    go : (b : Bool) → (check b 3 line >>= (λ x. judged l.numbers)) ≡ judge_numbers line (cond b (Some l.numbers) None)
    go true = refl
    go false = refl

form_at : (s : List ℕ) (line p tag count : ℕ) → 1 ≤ line → AtLine s line p
    → form (lines 7 s) line tag count ≡ judge_numbers line (line_numbers 7 tag count (drop p s))
unfolding form line_numbers
form_at s zero p tag count l q = absurd (not-suc-le-zero l)
form_at s (suc n) p tag count l q =
    let here : suc n - 1 + 0 ≡ n = omega arith in
    let first : get_or (drop (suc n - 1) (lines 7 s)) 0 None ≡ get_or (lines 7 s) n None =
    get_or-drop (suc n - 1) (lines 7 s) 0 None ∙ ap (λ (k : ℕ). get_or (lines 7 s) k None) here in
    let same : get_or (lines 7 s) n None ≡ get_or (lines 7 (drop p s)) 0 None = sym first ∙ ap (λ (ls : List (Option Line)). get_or ls 0 None) q.left in
    ap (form_of (suc n) tag count) same ∙ form_is (suc n) tag count (get_or (lines 7 (drop p s)) 0 None)

-- a line read into the front of some values
pub read_front : {s : List ℕ} {p tag count next : ℕ} {front : List ℕ} (rest : List ℕ)
    → length front ≡ count → LineRead 7 s p tag count front next → LineRead 7 s p tag count (front ++ rest) next
read_front {count = count} {front = front} rest e f =
    let here : count ≤ length front = omega arith in record { numbers = rw take-append-le f.numbers; onward = f.onward }

-- a refusal is no place
pub not_next : {A T : Type 0} {f : Fault} {x : T} → Err f ≡ Ok x → A
not_next e = absurd (cc)

-- a line that has its form, by what judging its numbers answers

module _ {A X : Type 0} (checked : Judged (Unit {0})) (a : A) (f : A → X) {answer : Judged A} (e : answer ≡ if_passed checked a) where
  values_after : (checked >> judged (f a)) ≡ (answer >>= (λ b. judged (f b)))
  values_after = rw e (go checked)
    where
      go : (c : Judged (Unit {0})) → (c >> judged (f a)) ≡ (if_passed c a >>= (λ b. judged (f b)))
      go (refused n l) = refl
      go (judged u) = refl

  value_is : {b : A} → answer ≡ judged b → a ≡ b
  value_is q = judged_inj (first_judged checked _ (sym e ∙ q)).2

module _ (s : List ℕ) (line p tag count : ℕ) (first : 1 ≤ line) (q : AtLine s line p) where
  other_form : line_numbers 7 tag count (drop p s) ≡ None → form (lines 7 s) line tag count ≡ refused 3 line
  other_form e = form_at s line p tag count first q ∙ ap (judge_numbers line) e

  module _ {values : List ℕ} {next : ℕ} (f : LineRead 7 s p tag count values next) where
    numbers_are : form (lines 7 s) line tag count ≡ judged (take count values)
    numbers_are = form_at s line p tag count first q ∙ ap (judge_numbers line) f.numbers

    line_after : AtLine s (line + 1) next
    line_after = subst (λ (n : ℕ). Place 7 s n next) (omega arith) (f.onward (line - 1) q)

-- a T line

-- what is judged of the front of the values is judged of them all
durations_front : (k i at : ℕ) (values : List ℕ)
    → (stage_check k i at (take (1 + k) values) >> judged (durations_of k (take (1 + k) values)))
    ≡ (stage_check k i at values >> judged (durations_of k values))
unfolding stage_check
durations_front k i at values =
    let value : (h : ℕ) → h < 1 + k → get_or (take (1 + k) values) h 0 ≡ get_or values h 0 = λ h l. get_or-take (1 + k) values h 0 l in
    rw (
      every_cong k _ _ (λ h l. ap (between 1 1000000) (value (1 + h) (omega arith))),
      value 0 (omega arith),
      table_cong k _ _ (λ h l. value (1 + h) (omega arith)),
    )

module _ (s : List ℕ) (k i p : ℕ) {line : ℕ} (at : line ≡ stage_line_at i) (q : AtLine s (stage_line_at i) p) where
  pub stage_refused : {values : List ℕ} {r : Result ℕ Fault}
      → line_numbers 7 84 (1 + k) (drop p s) ≡ None → r ≡ Err (BadForm line) → StageRead s k i values r
  unfolding stage_line
  stage_refused e t =
      record { answer = rw (other_form s (stage_line_at i) p 84 (1 + k) (stage_from_1 i) q e, t, at); place = λ next u. not_next (sym t ∙ u) }

  pub stage_answered : {values : List ℕ} {next : ℕ} {r : Result ℕ Fault} → LineRead 7 s p 84 (1 + k) values next
      → answered r ≡ if_passed (stage_check k i line values) next → StageRead s k i values r
  unfolding stage_line
  stage_answered {values} {next} f e =
      record {
        answer = rw (numbers_are s (stage_line_at i) p 84 (1 + k) (stage_from_1 i) q f, ← at)
            (durations_front k i line values ∙ values_after (stage_check k i line values) next (λ _. durations_of k values) e);
        place = λ to t. subst (AtLine s (stage_line_at (i + 1))) (value_is (stage_check k i line values) next (λ x. x) e (ap answered t))
            (rw (stage_after i) (line_after s (stage_line_at i) p 84 (1 + k) (stage_from_1 i) q f));
      }

-- an E line

grid_below : (k h j : ℕ) → h < k → j < k → k * h + j < k * k
grid_below k h j lh lj = omega (arith, mul-suc k h, mul-le-mul_left k lh)

waits_front : (k n at : ℕ) (values : List ℕ)
    → (edge_check k n at (take (2 + k * k) values) >> judged (edge_of k (take (2 + k * k) values)))
    ≡ (edge_check k n at values >> judged (edge_of k values))
unfolding edge_check
waits_front k n at values =
    let value : (x : ℕ) → x < 2 + k * k → get_or (take (2 + k * k) values) x 0 ≡ get_or values x 0 = λ x l. get_or-take (2 + k * k) values x 0 l in
    let wait : (h j : ℕ) → h < k → j < k → get_or (take (2 + k * k) values) (2 + (k * h + j)) 0 ≡ get_or values (2 + (k * h + j)) 0 =
    λ h j lh lj. value (2 + (k * h + j)) (omega (arith, grid_below k h j lh lj)) in
    rw (
      every_cong k _ _ (λ h lh. every_cong k _ _ (λ j lj. ap (λ (v : ℕ). leb v 1000000) (wait h j lh lj))),
      value 0 (omega arith),
      value 1 (omega arith),
      table_cong k _ _ (λ h lh. table_cong k _ _ (λ j lj. wait h j lh lj)),
    )

module _ (s : List ℕ) (k n e p : ℕ) {line : ℕ} (at : line ≡ edge_line_at n e) (q : AtLine s (edge_line_at n e) p) where
  pub edge_refused : {values : List ℕ} {r : Result ℕ Fault}
      → line_numbers 7 69 (2 + k * k) (drop p s) ≡ None → r ≡ Err (BadForm line) → EdgeRead s k n e values r
  unfolding edge_line
  edge_refused f t =
      record { answer = rw (other_form s (edge_line_at n e) p 69 (2 + k * k) (edge_from_1 n e) q f, t, at); place = λ next u. not_next (sym t ∙ u) }

  pub edge_answered : {values : List ℕ} {next : ℕ} {r : Result ℕ Fault} → LineRead 7 s p 69 (2 + k * k) values next
      → answered r ≡ if_passed (edge_check k n line values) next → EdgeRead s k n e values r
  unfolding edge_line
  edge_answered {values} {next} f c =
      record {
        answer = rw (numbers_are s (edge_line_at n e) p 69 (2 + k * k) (edge_from_1 n e) q f, ← at)
            (waits_front k n line values ∙ values_after (edge_check k n line values) next (λ _. edge_of k values) c);
        place = λ to t. subst (AtLine s (edge_line_at n (e + 1))) (value_is (edge_check k n line values) next (λ x. x) c (ap answered t))
            (rw (edge_after n e) (line_after s (edge_line_at n e) p 69 (2 + k * k) (edge_from_1 n e) q f));
      }

-- the first line

module _ (s : List ℕ) where
  at_start : AtLine s 1 0
  at_start = record { left = refl; within = omega arith }

  pub header_refused : {r : Result HeaderValues Fault} → line_numbers 7 74 3 (drop 0 s) ≡ None → r ≡ Err (BadForm 1) → HeaderRead s r
  unfolding header
  header_refused e t = record { answer = rw (other_form s 1 0 74 3 (omega arith) at_start e, t); place = λ h u. not_next (sym t ∙ u) }

  pub header_answered : {values : List ℕ} {next : ℕ} {r : Result HeaderValues Fault} → LineRead 7 s 0 74 3 values next
      → header_answer r ≡ if_passed (header_check values) (sizes_at values next) → HeaderRead s r
  unfolding header header_check clearing_line_at
  header_answered {values} {next} f e =
      let value : (h : ℕ) → h < 3 → get_or (take 3 values) h 0 ≡ get_or values h 0 = λ h l. get_or-take 3 values h 0 l in
      record {
        answer = rw (numbers_are s 1 0 74 3 (omega arith) at_start f, value 0 (omega arith), value 1 (omega arith), value 2 (omega arith))
            (values_after (header_check values) (sizes_at values next) (λ a. a.sizes) e);
        place = λ h t. subst (AtLine s 2) (ap (λ (a : SizesAt). a.next) (value_is (header_check values) (sizes_at values next) (λ a. a) e (ap header_answer t)))
            (line_after s 1 0 74 3 (omega arith) at_start f);
      }

pub first_line : (s : List ℕ) {r : Result HeaderValues Fault} {h : HeaderValues} → HeaderRead s r → r ≡ Ok h
    → FirstLine s h.sizes.kinds h.sizes.stages h.sizes.edges h.next
first_line s {h = h} q e = record { sizes = q.answer ∙ rw e; place = q.place h e }

-- the clearing times

-- the first four values, as a table of them
four_values : (values : List ℕ) (next h : ℕ) → h < 4 → get_or (times_at values next).times h 0 ≡ get_or values h 0
four_values values next zero l = refl
four_values values next (suc zero) l = refl
four_values values next (suc (suc zero)) l = refl
four_values values next (suc (suc (suc zero))) l = refl
four_values values next (suc (suc (suc (suc h)))) l = absurd (omega arith)

times_front : (k : ℕ) (values : List ℕ) (next : ℕ) → k ≤ 4
    → (clearing_check k (take k values) >> judged (times_row k (take k values)))
    ≡ (clearing_check k values >> judged (times_row k (times_at values next).times))
unfolding clearing_check
times_front k values next few =
    let value : (h : ℕ) → h < k → get_or (take k values) h 0 ≡ get_or values h 0 = λ h l. get_or-take k values h 0 l in
    rw (
      every_cong k _ _ (λ h l. ap (λ (v : ℕ). leb v 1000000) (value h l)),
      table_cong k _ _ (λ h l. value h l ∙ sym (four_values values next h (omega arith))),
    )

module _ (s : List ℕ) (k p : ℕ) (q : AtLine s clearing_line_at p) where
  -- a line of another form
  pub clearing_form : line_numbers 7 71 k (drop p s) ≡ None → ClearingRead s k (Err (BadForm 2))
  unfolding clearing_line clearing_line_at
  clearing_form e = record { answer = rw (other_form s 2 p 71 k (omega arith) q e); place = λ g u. not_next u }

  pub clearing_refused : {r : Result ClearingValues Fault} → line_numbers 7 71 k (drop p s) ≡ None → r ≡ Err (BadForm 2) → ClearingRead s k r
  clearing_refused e t = rw t (clearing_form e)

  pub clearing_answered : k ≤ 4 → {values : List ℕ} {next : ℕ} {r : Result ClearingValues Fault} → LineRead 7 s p 71 k values next
      → clearing_answer r ≡ if_passed (clearing_check k values) (times_at values next) → ClearingRead s k r
  unfolding clearing_line
  clearing_answered few {values} {next} f e =
      record {
        answer = rw (numbers_are s clearing_line_at p 71 k clearing_from_1 q f)
            (times_front k values next few ∙ values_after (clearing_check k values) (times_at values next) (λ a. times_row k a.times) e);
        place = λ g t.
            let same = value_is (clearing_check k values) (times_at values next) (λ a. a) e (ap clearing_answer t) in
            subst (AtLine s (stage_line_at 0)) (ap (λ (a : TimesAt). a.next) same)
            (rw after_clearing (line_after s clearing_line_at p 71 k clearing_from_1 q f));
      }

pub first_lines : (s : List ℕ) {r : Result ClearingValues Fault} {k n m at : ℕ} {g : ClearingValues}
    → FirstLine s k n m at → ClearingRead s k r → r ≡ Ok g → FirstLines s k n m g.next
first_lines s {k = k} {g = g} first q e = record { sizes = first.sizes; clearing = (times_row k g.times, q.answer ∙ rw e); place = q.place g e }
