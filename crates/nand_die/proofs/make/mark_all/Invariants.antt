use Rattle.std.proofs.Common.{◌≡◌, map, take}
use Rattle.page_layout.specs.Raw.{raw_image}
use Rattle.nand_die.specs.NextPages.{next_page_of}
use Rattle.nand_die.specs.Made.{marked_blocks, new_image}
use Rattle.nand_die.proofs.MakeLemmas.{Named}
use Rattle.nand_die.proofs.make.mark_all.Given as goal

abbrev pub invariant-loop-mark : goal.invariant-loop-mark
invariant-loop-mark l = record {
  named : Named l.geometry (λ block. 0) (marked_blocks l.marks) l.mark-index (map next_page_of l.next_pages);
  image : raw_image l.geometry l.bytes ≡ new_image l.geometry (take l.mark-index l.marks);
}
