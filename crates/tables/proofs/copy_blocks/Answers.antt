-- `tables::copy_blocks` meets its contract: with four kinds the blocks copied at once leave no entry out. Assumes nothing.
use Prim.Native.Nat.{◌*◌}
use Rattle.tables.proofs.Entries.{front_part, blocks_whole}
use Rattle.tables.proofs.copy_blocks.Goals as goal

pub returns-then-kinds-eq4 : goal.returns-then-kinds-eq4
returns-then-kinds-eq4 c =
    let a = c.args in
    rw (c.copy_front.ensures, front_part a.source.now a.table.now (16 * a.blocks) c.requires.1, c.if-kinds-eq4.true) (blocks_whole _ _ _)
