-- What the program did, by what its calls answered. Assumes nothing.
use Rattle.std.proofs.Common.{ℕ, ◌≤◌, ◌≡◌, List, Ok, Err, subst}
use Rattle.std.specs.Borrow.{Bor}
use Rattle.std.specs.Prelude.{Result, MatchResult, IsErrAnd}
use Rattle.model.specs.PlanText.{output}
use Rattle.stdio.specs.declared.system.Errno.{Errno}
use Rattle.stdio.specs.Input.{AllRead, HasInput}
use Rattle.stdio.specs.Output.{Written, WriteFailed, HasWritten}
use Rattle.plan.specs.declared.RunError.{RunError}
use Rattle.plan.specs.declared.RunError.TheVariants as E
use Rattle.plan.specs.Program.{Printed, Ran}
use Rattle.plan.proofs.LongInput.{what_follows}

-- what reading gave is all of standard input, also where its error was changed
pub was_read : (answer : Result (Bor (List ℕ)) Errno) (mapped : Result (Bor (List ℕ)) RunError) (part : Bor (List ℕ)) → HasInput answer
    → MatchResult answer (λ x. mapped ≡ Ok x) (λ e. IsErrAnd mapped (λ y. y ≡ E.ReadFailed e)) → mapped ≡ Ok part → AllRead part.now
was_read (Ok x) mapped part h m is = let same : x ≡ part = cc in subst (λ (p : Bor (List ℕ)). AllRead p.now) same h.1
was_read (Err e) mapped part h m is = absurd (rw is at m)

-- the answer of writing says what the program did, where that of an input was written
module _ (words : ℕ) (few : words ≤ 1) (input text : List ℕ) (read : AllRead input) (is_output : text ≡ output input) where
  pub printed : (wrote : Result Unit Errno) (mapped : Result Unit RunError) → HasWritten text wrote
      → MatchResult wrote (λ x. mapped ≡ Ok x) (λ e. IsErrAnd mapped (λ y. y ≡ E.WriteFailed e)) → Ran words mapped
  printed (Ok x) mapped w m =
      let all : Printed = record { input = input; read = read; written = subst Written is_output w; whole = λ rest full. what_follows input rest full } in
      rw m (few, all)
  printed (Err e) (Ok x) w m = absurd m
  printed (Err e) (Err y) w m = rw m (few, record { input = input; read = read; failed = subst WriteFailed is_output w })
