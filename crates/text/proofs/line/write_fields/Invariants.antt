use lib.ListN.{take}
use Rattle.model.specs.Lines.{fields}
use Rattle.text.specs.Writing.{Written}
use Rattle.text.proofs.line.write_fields.Given as goal

abbrev pub invariant-loop-n : goal.invariant-loop-n
invariant-loop-n l = Written (fields (take l.n-index l.numbers)) l.initial.out l.out l.at
