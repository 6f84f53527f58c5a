use Rattle.std.proofs.Common.{◌≡◌, ℕ, ◌≤◌, ◌<◌, get_or, true}
use Rattle.page_layout.specs.Block.{block_pages}
use Rattle.page_layout.specs.Sound.{is_erased_page}
use Rattle.page_layout.specs.Flash.{no_page}
use Rattle.file_die.specs.Open.{OnlyLooks}
use Rattle.file_die.proofs.open.next_page.Given as goal

abbrev pub invariant-loop-next : goal.invariant-loop-next
invariant-loop-next g l = record {
  looks : OnlyLooks g.S.Store.held g.S.Store.honest l.fn.store l.store;
  settled : g.S.Store.failed l.store ≡ g.S.Store.failed l.fn.store;
  most : l.next ≤ l.geometry.pages;
  erased : g.S.Store.honest l.fn.store ≡ true → (k : ℕ) → l.next ≤ k → k < l.geometry.pages → is_erased_page (get_or (block_pages l.geometry (g.S.Store.held l.fn.store).pages l.block) k no_page) ≡ true;
}

abbrev pub decreases-loop-next : goal.decreases-loop-next
decreases-loop-next g l = l.next
