-- `lines::fast::front_by` meets its contract: each number in front is its field's, so the numbers read and those that are left are the line's
-- (`Pass`). Assumes nothing.
use Rattle.std.proofs.Common.{◌≡◌, sym, arith}
use Rattle.numerals.specs.Numbers.{leading_answer}
use Rattle.numerals.specs.Words.{ended_by}
use Rattle.std.specs.Prelude.{Some}
use Rattle.lines.proofs.FastNumbers.{pass_within, pass_more, pass_done}
use Rattle.lines.proofs.fast.front_by.Goals.{In_ok-value, In_ok-value-2}
use Rattle.lines.proofs.fast.front_by.Given.{Over}
use Rattle.lines.proofs.fast.front_by.Goals as goal

-- the number that was found, and the last one
number : (g : Over) (k : In_ok-value g) → ended_by 44 (leading_answer k.in_ok-first_chunk.field-0.now) ≡ Some k.in_ok-value.field-0
number g k = sym (k.requires.reads _ _ _ (omega arith) k.in_ok-value.ensures)

last : (g : Over) (k : In_ok-value-2 g) → ended_by 10 (leading_answer k.in_ok-first_chunk-2.field-0.now) ≡ Some k.in_ok-value-2.field-0
last g k = sym (k.requires.reads _ _ _ (omega arith) k.in_ok-value-2.ensures)

pub slice_bounds-rest-count : goal.slice_bounds-rest-count
slice_bounds-rest-count g c = pass_within c.loop-slot.invariant c.in_ok-first_chunk.ensures.cases 44 (number g c)

pub slice_bounds-rest-start : goal.slice_bounds-rest-start
slice_bounds-rest-start g c = omega (arith, pass_within c.loop-slot.invariant c.in_ok-first_chunk.ensures.cases 44 (number g c))

pub loop-slot-preserved : goal.loop-slot-preserved
loop-slot-preserved g c =
    pass_more c.loop-slot.invariant c.in_ok-first_chunk.ensures.cases (number g (goal.at.loop-slot-preserved g c).In_ok-value) (omega arith)

pub overflow_add-result : goal.overflow_add-result
overflow_add-result g c =
    omega (arith, pass_within c.loop-slot.invariant c.in_ok-first_chunk-2.ensures.cases 10 (last g (goal.at.overflow_add-result g c).In_ok-value-2))

pub returns : goal.returns
returns g c =
    pass_done c.loop-slot.invariant c.in_ok-first_chunk-2.ensures.cases (last g (goal.at.returns g c).In_ok-value-2) (omega arith)
