-- What the call `plan` leaves is what the program prints. Assumes nothing.
use Prim.Native.Nat.{ℕ, ◌^◌, ◌≤◌, ◌<◌}
use mathlib.Core.Path.{◌≡◌, sym, ap, ap₂, ◌∙◌}
use mathlib.Core.Bool.{true}
use mathlib.Core.List.{List, [], ◌∷◌, append-nil}
use native.Mathlib.Omega.{arith}
use lib.ListN.{length, take, drop, replicate, length-replicate}
use lib.Seq.{take-append_seam}
use Rattle.std.specs.Prelude.{Result, Ok, Err}
use Rattle.std.proofs.lemmas.Bool.Decides.{nat_tests}
use Rattle.model.specs.SheetText.{judged}
use Rattle.model.specs.Lines.{Line, print_line}
use Rattle.model.specs.Judge.{judge}
use Rattle.model.specs.PlanText.{refusal_text, output}
use Rattle.model.specs.Tables.{over}
use Rattle.model.specs.Calls.{SheetTables, long_enough, buffers_long_enough, Buffers, Totals, totals, Planned, plan_call, shown}
use Rattle.model.specs.Faults.{fault_number, fault_line}
use Rattle.model.specs.declared.Copy.{Copy}
use Rattle.model.specs.declared.Fault.{Fault}
use Rattle.model.proofs.SheetText.{first_judged, judged_inj}
use Rattle.model.proofs.Lengths.{field_length, line_length}
use Rattle.model.proofs.Limits.{accepted_length}
use Rattle.model.proofs.Output.{output_agrees, answer_agrees}
use Rattle.abi.specs.declared.faults.FaultNumbers.{FaultNumbers}
use Rattle.text.specs.Writing.{Written}
use Rattle.plan_call.specs.declared.Totals as Code
use Rattle.plan_call.specs.Answers.{plan_answer, copies_of, buffers_of}
use Rattle.model.specs.Calls.{tables_of}
use Rattle.plan_call.specs.declared.Outcome.{Outcome}
use Rattle.plan_call.specs.Says.{TablesSays}

-- two numbers of 32 bits take at most ten digits each
pub refusal_short : (number line : ℕ) → number < 2 ^ 32 → line < 2 ^ 32 → length (refusal_text number line) ≤ 24
unfolding refusal_text
refusal_short number line a b =
    let r : Line = record { tag = 82; numbers = number ∷ line ∷ [] } in
    rw (append-nil (print_line r), line_length r) (omega (arith, field_length 9 number (line ∷ []) (omega arith), field_length 9 line [] (omega arith)))

-- the line of a fault at the front of the output
pub refusal_taken : (number line count n l : ℕ) (old new : List ℕ) → number ≡ n → line ≡ l
    → count ≡ length (refusal_text number line) → new ≡ over (refusal_text number line) old → take count new ≡ refusal_text n l
refusal_taken number line count n l old new a b c d =
    rw (c, d) (take-append_seam (refusal_text number line) (drop (length (refusal_text number line)) old) ∙ ap₂ refusal_text a b)

-- the program keeps no list of copies: the rows may go to any, as to this one
abbrev no_copy : Copy
no_copy = record { stage = 0; kind = 0; board = 0; start = 0 }

abbrev no_copies : List Copy
no_copies = replicate 1024 no_copy

module _ {text d e w s out : List ℕ} {t' : SheetTables} {s' rows out' : List ℕ} {r : Outcome}
    (done : TablesSays text (tables_of d e w) s 1024 out t' s' rows out' r)
    (long : (1024 ≤ length d) × (2048 ≤ length e) × (16384 ≤ length w) × (1024 ≤ length s)) (room : 32796 ≤ length out) where
  abbrev lent : Buffers
  lent = buffers_of (tables_of d e w) s no_copies out

  abbrev after : Buffers
  after = buffers_of t' s' (over (copies_of rows r.count) no_copies) out'

  all_records : length no_copies ≡ 1024
  all_records = length-replicate {A = Copy} 1024 no_copy

  long_lent : buffers_long_enough lent ≡ true
  unfolding buffers_long_enough long_enough
  long_lent = grind (arith, nat_tests, all_records)

  called : record { answer = plan_answer r.answer; buffers = after } ≡ plan_call text lent
  called = done.called no_copies all_records

  shown_is : output text ≡ shown (record { answer = plan_answer r.answer; buffers = after })
  shown_is = output_agrees text lent long_lent room ∙ ap shown (sym called)

  pub refusal_shown : {f : Fault} {n : FaultNumbers} {count : ℕ} {old new : List ℕ} → r.answer ≡ Err f
      → n ≡ record { number = fault_number f; line = fault_line f } → Written (refusal_text n.number n.line) old new count → take count new ≡ output text
  unfolding shown
  refusal_shown {f} {n} {count} {old} {new} x e w =
      refusal_taken n.number n.line count (fault_number f) (fault_line f) old new (ap (λ (m : FaultNumbers). m.number) e) (ap (λ (m : FaultNumbers). m.line) e)
      w.counted w.bytes
      ∙ sym (shown_is ∙ ap (λ (a : Result Code.Totals Fault). shown (record { answer = plan_answer a; buffers = after })) x)

  pub plan_shown : {z : Code.Totals} → r.answer ≡ Ok z → take z.printed out' ≡ output text
  unfolding shown
  plan_shown x = sym (shown_is ∙ ap (λ (a : Result Code.Totals Fault). shown (record { answer = plan_answer a; buffers = after })) x)

  pub plan_short : {z : Code.Totals} → r.answer ≡ Ok z → z.printed ≤ 32796
  unfolding totals
  plan_short x =
      let y = sym (answer_agrees text lent long_lent room) ∙ ap (λ (p : Planned). p.answer) (sym called) ∙ ap plan_answer x in
      let f = first_judged (judge text) (λ s. judged (totals s)) y in
      let p = ap (λ (t : Totals). t.printed) (judged_inj f.2) in
      omega (arith, p, accepted_length text f.0 f.1)
