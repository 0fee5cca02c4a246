-- What was read or written so far is at the front of a buffer or a text. Assumes nothing.
use Prim.Native.Nat.{ℕ, ◌+◌, ◌-◌, ◌≤◌, ◌<◌}
use mathlib.Core.Path.{◌≡◌, ap, ◌∙◌, subst, subst⁻¹}
use mathlib.Core.List.{List}
use mathlib.Core.Logic.{inr}
use native.Mathlib.Omega.{arith}
use lib.ListN.{length, take, drop, length-drop}
use lib.Seq.{length-take-le, take_all, drop-drop, take-add}
use lib.IntN.{ℤ, pos}
use Rattle.std.specs.Prelude.{Result, Ok, Err}
use Rattle.stdio.specs.System.{Wrote, ErrnoWas, read_moved}
use Rattle.stdio.specs.Input.{SoFar, bytes_read, interrupted, Extends, AllRead}
use Rattle.stdio.specs.Output.{Written, bytes_written}
use Rattle.stdio.specs.declared.system.Errno.{Errno}

-- standard input after one read more
module _ (reads at : ℕ) (old new : List ℕ) (so_far : SoFar reads (take at old)) where
  before_it : (answer : Result ℕ Errno) → Extends at old new answer → SoFar reads (take at new)
  before_it answer x = subst⁻¹ (SoFar reads) x.kept so_far

  pub within : (k : ℕ) → at ≤ length new → Extends at old new (Ok k) → at + k ≤ length new
  within k room x = omega (arith, read_moved (pos 0) (drop at new) (pos k) x.answered, length-drop at new)

  pub longer : (k : ℕ) → 0 < k → Extends at old new (Ok k) → SoFar (reads + 1) (take (at + k) new)
  longer k some x =
      subst⁻¹ (SoFar (reads + 1)) (take-add at k new) (bytes_read reads (take at new) (drop at new) k (before_it (Ok k) x) some x.answered)

  pub as_long : (error : Errno) → error.0 ≡ 4 → Extends at old new (Err error) → SoFar (reads + 1) (take at new)
  as_long error e x =
      interrupted reads (take at new) (drop at new) (before_it (Err error) x) x.answered.0 (subst (λ (n : ℕ). ErrnoWas (pos n)) e x.answered.1)

pub full : (reads n : ℕ) (buffer : List ℕ) → SoFar reads (take n buffer) → n ≡ 65001 → length buffer ≡ 65001 → AllRead (take n buffer)
full reads n buffer so_far e l = record { reads = reads; so_far = so_far; stopped = inr (length-take-le n buffer (omega arith) ∙ e) }

-- a text whose front was written, and what is left of it
pub record Left (text rest : List ℕ) : Type 0 where
  pub at : ℕ
  pub front : Written (take at text)
  pub is_rest : rest ≡ drop at text

module _ (text rest : List ℕ) (l : Left text rest) where
  wrote : (z : ℤ) → Wrote (pos 1) rest z → Wrote (pos 1) (drop l.at text) z
  wrote z = subst (λ (given : List ℕ). Wrote (pos 1) given z) l.is_rest

  pub taken : (k : ℕ) → Wrote (pos 1) rest (pos k) → Left text (take (length rest - k) (drop k rest))
  taken k w = record {
    at = l.at + k;
    front = subst⁻¹ Written (take-add l.at k text) (bytes_written (take l.at text) (drop l.at text) k l.front (wrote (pos k) w));
    is_rest = take_all (length rest - k) (drop k rest) (omega (arith, length-drop k rest)) ∙ ap (drop k) l.is_rest ∙ drop-drop k l.at text;
  }
