use Rattle.std.proofs.Common.{◌≡◌, map, take, false}
use Rattle.std.specs.List.{range_with_len}
use Rattle.page_layout.specs.Raw.{raw_image}
use Rattle.nand_die.specs.NextPages.{next_page_of}
use Rattle.nand_die.specs.Made.{first_next_page, next_in}
use Rattle.nand_die.proofs.make.find_next_pages.Given as goal

abbrev pub invariant-loop-block : goal.invariant-loop-block
invariant-loop-block l = map next_page_of (take l.block l.next_pages) ≡ map (λ block. first_next_page (next_in l.geometry (raw_image l.geometry l.bytes) block) false) (range_with_len 0 l.block)
