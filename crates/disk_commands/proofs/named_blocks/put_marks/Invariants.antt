use Rattle.std.proofs.Common.{◌≡◌, [], take, true}
use Rattle.disk_commands.specs.BadBlocks.{HasMarks}
use Rattle.disk_commands.proofs.named_blocks.put_marks.Given as goal

abbrev pub invariant-loop-block : goal.invariant-loop-block
invariant-loop-block g l =
    ((g.S.Store.held l.store).geometry ≡ l.geometry)
    × (g.S.Store.honest l.store ≡ g.S.Store.honest l.fn.store)
    × (g.S.Store.failed l.store ≡ g.S.Store.failed l.fn.store)
    × (g.S.Store.honest l.fn.store ≡ true → HasMarks l.geometry [] (g.S.Store.held l.fn.store) → HasMarks l.geometry (take l.block-index l.blocks) (g.S.Store.held l.store))
