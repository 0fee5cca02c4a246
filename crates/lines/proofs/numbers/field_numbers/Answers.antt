-- `lines::numbers::field_numbers` meets its contract: the numbers read and those that are left are the line's (`Reading`). Assumes nothing.
use Rattle.std.proofs.Common.{◌∙◌, sym, arith}
use Rattle.std.proofs.lemmas.List.{map-set, map_push, length-map}
use Rattle.lines.proofs.FieldNumbers.{reading_more, reading_done}
use Rattle.lines.proofs.numbers.field_numbers.Goals as goal

pub loop-slot-preserved : goal.loop-slot-preserved
loop-slot-preserved g c =
    rw (map-set, c.of.ensures)
    (reading_more c.loop-slot.invariant _ (sym c.field_number.ensures ∙ c.in_ok-value.was)
    (omega (arith, length-map c.loop-slot.slot-items g.T.Entry.number)))

pub returns : goal.returns
returns g c =
    rw (map_push, c.of-2.ensures)
    (reading_done c.loop-slot.invariant _ (sym c.field_number-2.ensures ∙ c.in_ok-value-2.was)
    (omega (arith, length-map c.loop-slot.slot-items g.T.Entry.number)))
