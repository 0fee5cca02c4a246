-- Where more bytes came than a sheet may have, those that follow change nothing: it is refusal 2. Assumes nothing.
use Prim.Native.Nat.{ℕ, ◌<◌}
use mathlib.Core.Path.{◌≡◌, refl, sym, ◌∙◌}
use mathlib.Core.List.{List, ◌++◌}
use native.Mathlib.Omega.{arith}
use borrow.Author.Tests.{lt-leb}
use lib.ListN.{length, length-append}
use Rattle.model.specs.SheetText.{read_sheet}
use Rattle.model.specs.Judge.{judge}
use Rattle.model.specs.PlanText.{refusal_text, output}

too_long : (text : List ℕ) → 65000 < length text → output text ≡ refusal_text 2 0
unfolding output judge read_sheet
too_long text long = rw (lt-leb (length text) 65000 long) refl

pub what_follows : (input rest : List ℕ) → length input ≡ 65001 → output (input ++ rest) ≡ output input
what_follows input rest full = too_long (input ++ rest) (omega (arith, length-append input rest)) ∙ sym (too_long input (omega arith))
