-- What a call on a stream answers, by its mark, whichever the stream's number is. Assumes nothing.
use Rattle.std.proofs.Common.{ℕ, ◌≤◌, ℤ, pos, negsuc, refl, Some, None, Ok, Err}
use Rattle.std.specs.Prelude.{Option, Result, IfSome, IsErrAnd}
use Rattle.stdio.specs.System.{Moved, ErrnoWas}
use Rattle.stdio.specs.Answers.{Answered}
use Rattle.stdio.specs.declared.system.Errno.{Errno}

pub of_each : (number : Option ℤ) (P : ℤ → Type 0) → ((fd : ℤ) → P fd) → IfSome number P
of_each None P p = tt
of_each (Some fd) P p = p fd

-- a call that is lent n bytes, by the law that makes its mark
module _ (number : Option ℤ) {n : ℕ} {mark : ℤ → ℤ → Type 0} (made : (fd answer : ℤ) → Moved n answer → mark fd answer) where
  -- it moved k bytes
  pub moved : (k : ℕ) → k ≤ n → IfSome number (λ fd. Answered (mark fd) (Ok k))
  moved k l = of_each number (λ fd. Answered (mark fd) (Ok k)) (λ fd. made fd (pos k) l)

  -- it answered -1, with errno
  pub failed : (answer : Result ℕ Errno) → IsErrAnd answer (λ e. ErrnoWas (pos e.0)) → IfSome number (λ fd. Answered (mark fd) answer)
  failed (Ok k) e = absurd e
  failed (Err error) e = of_each number (λ fd. Answered (mark fd) (Err error)) (λ fd. (made fd (negsuc 0) refl, e))
