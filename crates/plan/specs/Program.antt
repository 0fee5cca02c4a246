-- What the program does, from standard input to standard output (SPEC 9). Assumes nothing.
use Rattle.std.specs.Prelude.{ℕ, ◌<◌, ◌≤◌, ◌≡◌, List, ◌++◌, length, Result, Ok, Err}
use Rattle.model.specs.PlanText.{output}
use Rattle.stdio.specs.Input.{AllRead, ReadFailed}
use Rattle.stdio.specs.Output.{Written, WriteFailed}
use Rattle.plan.specs.declared.RunError.{RunError}
use Rattle.plan.specs.declared.RunError.TheVariants as E

-- all of standard input was read, and what belongs to it was written. Of more than 65001 bytes the first 65001 were read: whatever follows, the same
-- belongs to them
pub record Printed : Type 0 where
  pub input : List ℕ
  pub read : AllRead input
  pub written : Written (output input)
  pub whole : (rest : List ℕ) → length input ≡ 65001 → output (input ++ rest) ≡ output input

pub record NotPrinted : Type 0 where
  pub input : List ℕ
  pub read : AllRead input
  pub failed : WriteFailed (output input)

-- by the number of words that the program was started with: more than one, its own name, is an argument
abbrev pub Ran : ℕ → Result Unit RunError → Type 0
Ran words (Ok _) = (words ≤ 1) × Printed
Ran words (Err E.Arguments) = 1 < words
Ran words (Err (E.ReadFailed error)) = (words ≤ 1) × ReadFailed
Ran words (Err (E.WriteFailed error)) = (words ≤ 1) × NotPrinted
