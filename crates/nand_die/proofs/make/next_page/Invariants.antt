use Rattle.std.proofs.Common.{◌≡◌, ℕ, ◌≤◌, ◌<◌, get_or, true}
use Rattle.page_layout.specs.Raw.{raw_image}
use Rattle.page_layout.specs.Block.{block_pages}
use Rattle.page_layout.specs.Sound.{is_erased_page}
use Rattle.page_layout.specs.Flash.{no_page}
use Rattle.nand_die.proofs.make.next_page.Given as goal

abbrev pub invariant-loop-next : goal.invariant-loop-next
invariant-loop-next l = record {
  most : l.next ≤ l.geometry.pages;
  erased : (k : ℕ) → l.next ≤ k → k < l.geometry.pages → is_erased_page (get_or (block_pages l.geometry (raw_image l.geometry l.bytes) l.block) k no_page) ≡ true;
}

abbrev pub decreases-loop-next : goal.decreases-loop-next
decreases-loop-next l = l.next
