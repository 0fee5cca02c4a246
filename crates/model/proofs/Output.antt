-- What the program prints is what the call `plan` shows, where tables, list and output are long enough; so it prints no refusal 1 or 8 (SPEC 9.1).
-- Assumes nothing.
use Prim.Native.Nat.{ℕ, zero, suc, ◌+◌, ◌*◌, ◌≤◌}
use mathlib.Core.Path.{◌≡◌, refl, sym, ◌∙◌, subst}
use mathlib.Core.Bool.{Bool, true, false, not, ◌&&◌}
use mathlib.Core.List.{List, ◌∷◌}
use Rattle.std.specs.Prelude.{Option, None, Some}
use native.Mathlib.Omega.{arith}
use borrow.Author.Tests.{leb-true, le-leb}
use lib.Dec.{leb, ltb, eqb}
use lib.ListN.{length, get_or, drop}
use lib.Seq.{take-append_seam}
use Rattle.model.specs.Bounded.{every}
use Rattle.model.specs.Lines.{Line, lines}
use Rattle.model.specs.Sheet.{Sheet, stages, edges}
use Rattle.model.specs.SheetText.{Judged, refused, judged, ◌>>=◌, ◌>>◌, check, each, form_of, form, between, header_check, header, sheet_of, read_sheet}
use Rattle.model.specs.SheetText.{clearing_line_at, clearing_check, clearing_line, stage_line_at, edge_line_at, stage_check, stage_line}
use Rattle.model.specs.SheetText.{edge_check, edge_line, end_check}
use Rattle.model.specs.Paths.{circular}
use Rattle.model.specs.Judge.{first_repeat, no_repeat, not_circular, judge}
use Rattle.model.specs.PlanText.{printed_plan, plan_text, refusal_text, text_of, output}
use Rattle.model.specs.Calls.{Buffers, totals, Planned, buffers_long_enough, with_plan, write_plan, plan_after, plan_from, plan_call, shown}
use Rattle.model.proofs.Bounded.{and_left, and_right}
use Rattle.model.proofs.PlanText.{refusals_print_alike, refusal_is_no_plan}
use Rattle.model.proofs.Limits.{accepted_length}

-- a sheet's faults are 2 to 7

abbrev of_sheet : ℕ → Bool
of_sheet n = leb 2 n && leb n 7

-- where it is refused, its number is one of them
abbrev Faulty : {A : Type 0} → Judged A → Type 0
Faulty (refused n l) = of_sheet n ≡ true
Faulty (judged a) = Unit {0}

bind_faulty : {A B : Type 0} (m : Judged A) (f : A → Judged B) → Faulty m → ((a : A) → Faulty (f a)) → Faulty (m >>= f)
bind_faulty (refused n l) f p q = p
bind_faulty (judged a) f p q = q a

check_faulty : {B : Type 0} (t : Bool) (n l : ℕ) (m : Judged B) → of_sheet n ≡ true → Faulty m → Faulty (check t n l >> m)
check_faulty true n l m p q = q
check_faulty false n l m p q = p

last_faulty : (t : Bool) (n l : ℕ) → of_sheet n ≡ true → Faulty (check t n l)
last_faulty true n l p = tt
last_faulty false n l p = p

each_faulty : {A : Type 0} (n : ℕ) (f : ℕ → Judged A) → ((i : ℕ) → Faulty (f i)) → Faulty (each n f)
each_faulty zero f p = tt
each_faulty (suc n) f p = bind_faulty (each n f) _ (each_faulty n f p) (λ xs. bind_faulty (f n) _ (p n) (λ x. tt))

module _ (ls : List (Option Line)) where
  form_faulty : (at tag count : ℕ) → Faulty (form ls at tag count)
  unfolding form
  form_faulty at tag count = go (get_or (None ∷ ls) at None)
    where
      go : (o : Option Line) → Faulty (form_of at tag count o)
      go None = refl
      go (Some l) = check_faulty (eqb l.tag tag && eqb (length l.numbers) count) 3 at _ refl tt

  header_faulty : Faulty (header ls)
  unfolding header header_check
  header_faulty =
      bind_faulty (form ls 1 74 3) _ (form_faulty 1 74 3)
      (λ ns. check_faulty (between 1 4 (get_or ns 0 0) && between 1 256 (get_or ns 1 0) && leb (get_or ns 2 0) 1024) 4 1 _ refl tt)

  clearing_faulty : (k : ℕ) → Faulty (clearing_line ls k)
  unfolding clearing_line clearing_check
  clearing_faulty k =
      bind_faulty (form ls clearing_line_at 71 k) _ (form_faulty clearing_line_at 71 k)
      (λ ns. check_faulty (every k (λ h. leb (get_or ns h 0) 1000000)) 4 clearing_line_at _ refl tt)

  stage_faulty : (k i : ℕ) → Faulty (stage_line ls k i)
  unfolding stage_line stage_check
  stage_faulty k i =
      bind_faulty (form ls (stage_line_at i) 84 (1 + k)) _ (form_faulty (stage_line_at i) 84 (1 + k))
      (λ ns.
      bind_faulty (stage_check k i (stage_line_at i) ns) _
      (check_faulty (every k (λ h. between 1 1000000 (get_or ns (1 + h) 0))) 4 (stage_line_at i) _ refl
      (last_faulty (eqb (get_or ns 0 0) i) 5 (stage_line_at i) refl)) (λ u. tt))

  edge_faulty : (k n e : ℕ) → Faulty (edge_line ls k n e)
  unfolding edge_line edge_check
  edge_faulty k n e =
      bind_faulty (form ls (edge_line_at n e) 69 (2 + k * k)) _ (form_faulty (edge_line_at n e) 69 (2 + k * k))
      (λ ns.
      bind_faulty (edge_check k n (edge_line_at n e) ns) _
      (check_faulty (every k (λ h. every k (λ j. leb (get_or ns (2 + (k * h + j)) 0) 1000000))) 4 (edge_line_at n e) _ refl
      (last_faulty (ltb (get_or ns 0 0) n && ltb (get_or ns 1 0) n) 5 (edge_line_at n e) refl)) (λ u. tt))

  sheet_faulty : Faulty (sheet_of ls)
  unfolding sheet_of end_check
  sheet_faulty =
      bind_faulty (header ls) _ header_faulty
      (λ h.
      bind_faulty (clearing_line ls h.kinds) _ (clearing_faulty h.kinds)
      (λ gs.
      bind_faulty (each h.stages (λ i. stage_line ls h.kinds i)) _ (each_faulty h.stages _ (stage_faulty h.kinds))
      (λ ds.
      bind_faulty (each h.edges (λ e. edge_line ls h.kinds h.stages e)) _ (each_faulty h.edges _ (edge_faulty h.kinds h.stages))
      (λ es. check_faulty (ltb (length ls) (edge_line_at h.stages h.edges)) 3 (edge_line_at h.stages h.edges) _ refl tt))))

judge_faulty : (text : List ℕ) → Faulty (judge text)
unfolding judge read_sheet no_repeat not_circular
judge_faulty text =
    bind_faulty (read_sheet text) _ (check_faulty (leb (length text) 65000) 2 0 _ refl (sheet_faulty (lines 7 text)))
    (λ s.
    bind_faulty (no_repeat s) _ (check_faulty (leb (edges s) (first_repeat s)) 6 (edge_line_at (stages s) (first_repeat s)) _ refl tt)
    (λ u. check_faulty (not (circular s)) 7 0 _ refl tt))

faulty_number : (n : ℕ) → of_sheet n ≡ true → (2 ≤ n) × (n ≤ 7)
faulty_number n e = (leb-true 2 n (and_left (leb 2 n) (leb n 7) e), leb-true n 7 (and_right (leb 2 n) (leb n 7) e))

-- SPEC 8.6: 1 and 8 are no faults of a sheet, so they don't decide whether it is accepted
pub judge_faults : (text : List ℕ) (n l : ℕ) → judge text ≡ refused n l → (2 ≤ n) × (n ≤ 7)
judge_faults text n l e = faulty_number n (subst Faulty e (judge_faulty text))

-- so the program prints no others
pub output_faults : (text : List ℕ) (n l : ℕ) → output text ≡ refusal_text n l → (2 ≤ n) × (n ≤ 7)
unfolding output plan_text
output_faults text n l e = go (judge text) (judge_faulty text) e
  where
    go : (j : Judged Sheet) → Faulty j → text_of j ≡ refusal_text n l → (2 ≤ n) × (n ≤ 7)
    go (refused m k) f q = faulty_number n (subst (λ (x : ℕ). of_sheet x ≡ true) (refusals_print_alike m k n l q).0 f)
    go (judged s) f q = absurd (refusal_is_no_plan n l (printed_plan s) (sym q))

-- the call with an output that is long enough

-- the answer is the totals or the fault of the judged sheet, and its text is shown
Agrees : Judged Sheet → Planned → Type 0
Agrees j o = (o.answer ≡ (j >>= (λ s. judged (totals s)))) × (text_of j ≡ shown o)

module _ (b : Buffers) where
  write_agrees : (s : Sheet) → length (plan_text s) ≤ length b.output → Agrees (judged s) (write_plan s b)
  unfolding Agrees write_plan shown totals with_plan
  write_agrees s l = rw (le-leb (length (plan_text s)) (length b.output) l)
      (refl, sym (take-append_seam (plan_text s) (drop (length (plan_text s)) b.output)))

  after_agrees : (s : Sheet) (j : Judged Sheet) → ((u : Sheet) → j ≡ judged u → length (plan_text u) ≤ length b.output) → Agrees j (plan_after b s j)
  unfolding Agrees shown
  after_agrees s (refused n l) f = (refl, refl)
  after_agrees s (judged u) f = write_agrees u (f u refl)

  from_agrees : (j : Judged Sheet) → ((u : Sheet) → (j >>= (λ s. no_repeat s >> not_circular s)) ≡ judged u → length (plan_text u) ≤ length b.output)
      → Agrees (j >>= (λ s. no_repeat s >> not_circular s)) (plan_from b j)
  unfolding Agrees shown
  from_agrees (refused n l) f = (refl, refl)
  from_agrees (judged s) f = after_agrees s (no_repeat s >> not_circular s) f

module _ (text : List ℕ) (b : Buffers) (tables : buffers_long_enough b ≡ true) (long : 32796 ≤ length b.output) where
  call_agrees : Agrees (judge text) (plan_call text b)
  unfolding plan_call judge
  call_agrees = rw tables (from_agrees b (read_sheet text) (λ u e. omega (arith, accepted_length text u e)))

  -- SPEC 9.1: the program prints the text that the call leaves in the output, or the line of its fault
  pub output_agrees : output text ≡ shown (plan_call text b)
  unfolding output Agrees
  output_agrees = call_agrees.1

  pub answer_agrees : (plan_call text b).answer ≡ (judge text >>= (λ s. judged (totals s)))
  unfolding Agrees
  answer_agrees = call_agrees.0

  pub answer_faults : (n l : ℕ) → (plan_call text b).answer ≡ refused n l → (2 ≤ n) × (n ≤ 7)
  answer_faults n l e = faulty_number n (subst Faulty (sym answer_agrees ∙ e) (bind_faulty (judge text) (λ s. judged (totals s)) (judge_faulty text) (λ s. tt)))

  -- SPEC 9.1: never 1 or 8
  pub no_short_answer : ((plan_call text b).answer ≡ refused 1 0 → ⊥) × ((plan_call text b).answer ≡ refused 8 0 → ⊥)
  no_short_answer = (λ e. omega (arith, answer_faults 1 0 e), λ e. omega (arith, answer_faults 8 0 e))
