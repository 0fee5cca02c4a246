-- What the calls answer, by their marks. Assumes nothing.
use Rattle.std.specs.Prelude.{List, ℕ, ℤ, pos, negsuc, Result, Ok, Err}
use Rattle.stdio.specs.System.{Read, Wrote, ErrnoWas}
use Rattle.stdio.specs.declared.system.Errno.{Errno}

-- a call's answer, by its mark: how many bytes it moved, or -1 and errno
abbrev pub Answered : (ℤ → Type 0) → Result ℕ Errno → Type 0
Answered mark (Ok k) = mark (pos k)
Answered mark (Err e) = mark (negsuc 0) × ErrnoWas (pos e.0)

-- a read of this descriptor, by what it left in the part that it was lent
abbrev pub ReadAnswered : ℤ → List ℕ → Result ℕ Errno → Type 0
ReadAnswered fd left answer = Answered (Read fd left) answer

-- a write to this descriptor, by what it was given
abbrev pub WriteAnswered : ℤ → List ℕ → Result ℕ Errno → Type 0
WriteAnswered fd given answer = Answered (Wrote fd given) answer
