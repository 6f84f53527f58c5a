use Rattle.std.proofs.Common.{◌≡◌, length}
use Rattle.page_layout.specs.Geometry.{row_count}
use Rattle.page_layout.specs.Page.{Image}
use Rattle.lab_dump.specs.Concluding.{IsSeen}
use Rattle.lab_dump.proofs.ConcludeLemmas.{AreSummed}
use Rattle.lab_dump.proofs.concluding.sum_blocks.Given as goal

abbrev pub invariant-loop-block : goal.invariant-loop-block
invariant-loop-block l = (image : Image) → length image ≡ row_count l.geometry → IsSeen l.geometry image l.doubting l.plain → AreSummed l.geometry image l.block l.doubts
