-- Standard input, read by read. Assumes nothing.
use Rattle.std.specs.Prelude.{ℕ, ◌+◌, ◌<◌, ◌≤◌, ◌≡◌, List, [], ◌++◌, ◌⊎◌, length, take, drop, pos, negsuc, Result, Ok, Err}
use Rattle.std.specs.Borrow.{Bor}
use Rattle.stdio.specs.System.{Read, ErrnoWas}
use Rattle.stdio.specs.Answers.{ReadAnswered}
use Rattle.stdio.specs.declared.system.Errno.{Errno}

-- how many reads there were, and the bytes that they brought: each appends what it answers, and one that a signal interrupted (EINTR, 4) brings nothing
pub data SoFar : ℕ → List ℕ → Type 0 where
  nothing_read : SoFar 0 []
  bytes_read : (reads : ℕ) (bytes left : List ℕ) (k : ℕ) → SoFar reads bytes → 0 < k → Read (pos 0) left (pos k) → SoFar (reads + 1) (bytes ++ take k left)
  interrupted : (reads : ℕ) (bytes left : List ℕ) → SoFar reads bytes → Read (pos 0) left (negsuc 0) → ErrnoWas (pos 4) → SoFar (reads + 1) bytes

-- one read to a buffer from `at` on: what is before stays
pub record Extends (at : ℕ) (old new : List ℕ) (answer : Result ℕ Errno) : Type 0 where
  pub kept : take at new ≡ take at old
  pub answered : ReadAnswered (pos 0) (drop at new) answer

-- the last read found the end, or there are 65001 bytes, the most that are read
abbrev pub Stopped : List ℕ → Type 0
Stopped bytes = ((left : List ℕ) × (0 < length left) × Read (pos 0) left (pos 0)) ⊎ (length bytes ≡ 65001)

-- these bytes are all of standard input, or its first 65001
pub record AllRead (bytes : List ℕ) : Type 0 where
  pub reads : ℕ
  pub so_far : SoFar reads bytes
  pub stopped : Stopped bytes

-- a read failed, or there were more reads than any run makes
pub record ReadFailed : Type 0 where
  pub reads : ℕ
  pub bytes : List ℕ
  pub so_far : SoFar reads bytes
  pub failed : ((left : List ℕ) × (error : Errno) × ReadAnswered (pos 0) left (Err error) × (error.0 ≡ 4 → ⊥)) ⊎ (reads ≡ 18446744073709551615)

-- all that was read is at the front of the buffer, or reading failed
abbrev pub InFront : List ℕ → Result ℕ Errno → Type 0
InFront buffer (Ok n) = (n ≤ 65001) × AllRead (take n buffer)
InFront buffer (Err error) = ReadFailed

-- the same of the part that is handed out
abbrev pub HasInput : Result (Bor (List ℕ)) Errno → Type 0
HasInput (Ok part) = (length part.now ≤ 65001) × AllRead part.now
HasInput (Err error) = ReadFailed
