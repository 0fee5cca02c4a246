-- Text at the front of a buffer. Assumes nothing.
use Rattle.std.specs.Prelude.{ℕ, ◌≡◌, List, length}
use Rattle.model.specs.Tables.{over}

-- so many bytes were written to the front of a buffer: a text. SPEC 6.2: the bytes after it keep what they held
pub record Written (text old new : List ℕ) (count : ℕ) : Type 0 where
  pub counted : count ≡ length text
  pub bytes : new ≡ over text old
