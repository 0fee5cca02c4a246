-- Marks of the calls that were made.
-- Which bytes a system hands in or takes, no contract can say: of `read` and `write` it is assumed that they answer -1, or how many bytes they moved, at most
-- as many as they were lent (`Moved`). That is all that a mark of theirs says, and one of errno says that it has 32 bits. But marks are shut: only the laws
-- below make one, and only the functions of src/system.rt cite them, where they make the calls. So whoever owes a mark has it from a call. A mark is a fact:
-- it can be used twice, and says nothing of other calls; each call is made at one place, which rust/checks looks at. Assumes nothing.
use Rattle.std.specs.Prelude.{ℕ, ◌^◌, ◌<◌, ◌≤◌, ◌≡◌, List, length, ℤ, pos, negsuc}
use Rattle.std.specs.Int.Signed.{mag}

-- what a call that is lent n bytes may answer: -1, or how many bytes it moved, at most n
abbrev pub Moved : ℕ → ℤ → Type 0
Moved n (pos k) = k ≤ n
Moved n (negsuc k) = k ≡ 0

-- a `read` of this descriptor left these bytes in the part of a buffer that it was lent, and answered this number
pub Read : ℤ → List ℕ → ℤ → Type 0
Read fd left answer = Moved (length left) answer

-- a `write` to this descriptor was given these bytes, and answered this number
pub Wrote : ℤ → List ℕ → ℤ → Type 0
Wrote fd given answer = Moved (length given) answer

-- errno was this, a number of 32 bits
pub ErrnoWas : ℤ → Type 0
ErrnoWas error = mag error < 2 ^ 31

-- made at the call, and nowhere else
pub has_read : (fd : ℤ) (left : List ℕ) (answer : ℤ) → Moved (length left) answer → Read fd left answer
unfolding Read
has_read fd left answer m = m

pub has_written : (fd : ℤ) (given : List ℕ) (answer : ℤ) → Moved (length given) answer → Wrote fd given answer
unfolding Wrote
has_written fd given answer m = m

pub errno_was : (error : ℤ) → mag error < 2 ^ 31 → ErrnoWas error
unfolding ErrnoWas
errno_was error f = f

-- what is known of the call
pub read_moved : (fd : ℤ) (left : List ℕ) (answer : ℤ) → Read fd left answer → Moved (length left) answer
unfolding Read
read_moved fd left answer r = r

pub write_moved : (fd : ℤ) (given : List ℕ) (answer : ℤ) → Wrote fd given answer → Moved (length given) answer
unfolding Wrote
write_moved fd given answer w = w
