-- `text::line::write_line` meets its contract: its pieces, one after the other. Assumes nothing.
use native.Mathlib.Omega.{arith}
use Rattle.text.proofs.Writing.{byte, onward}
use Rattle.text.proofs.Lines.{line_pieces, pieces_length}
use Rattle.text.proofs.line.write_line.Goals as goal

pub returns : goal.returns
returns c =
    let f = c.write_first-first in
    let tag = c.args.tag.now in
    let ns = c.args.numbers.now in
    rw (line_pieces tag ns c.requires.tag_value c.requires.some_number)
    (byte _ _ _ _ (onward _ _ _ f.result f.ensures _ _ _ c.write_fields.ensures) 10 (grind (arith, pieces_length)))
