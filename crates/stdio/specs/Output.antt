-- Standard output, write by write. Assumes nothing.
use Rattle.std.specs.Prelude.{ℕ, List, [], ◌++◌, ◌⊎◌, take, drop, pos, negsuc, Result, Ok, Err}
use Rattle.stdio.specs.System.{Wrote}
use Rattle.stdio.specs.declared.system.Errno.{Errno}

-- the bytes that the writes took: each takes the front of what it is given
pub data Written : List ℕ → Type 0 where
  nothing_written : Written []
  bytes_written : (bytes given : List ℕ) (k : ℕ) → Written bytes → Wrote (pos 1) given (pos k) → Written (bytes ++ take k given)

-- the front of a text was written, and then a write failed or took nothing
pub record WriteFailed (text : List ℕ) : Type 0 where
  pub at : ℕ
  pub front : Written (take at text)
  pub failed : Wrote (pos 1) (drop at text) (negsuc 0) ⊎ Wrote (pos 1) (drop at text) (pos 0)

-- all of a text was written, or writing failed
abbrev pub HasWritten : List ℕ → Result Unit Errno → Type 0
HasWritten text (Ok _) = Written text
HasWritten text (Err error) = WriteFailed text
