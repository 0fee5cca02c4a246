-- `layer_exports::plan_in_use` meets its contract: the rows in use are printed. Assumes nothing.
use Rattle.plan_text.proofs.TableRows.{in_use_printable, in_use_text, counts_read}
use Rattle.layer_exports.proofs.plan_in_use.Goals as goal

pub returns-clause-printable : goal.returns-clause-printable
returns-clause-printable c = rw (counts_read c.args.counts.now c.requires.counts_4) (in_use_printable c.requires)

pub returns-clause-text : goal.returns-clause-text
returns-clause-text c = rw (counts_read c.args.counts.now c.requires.counts_4, in_use_text c.requires)
