use Rattle.std.proofs.Common.{◌≡◌, List, ℕ, map, true}
use Rattle.nand_die.specs.NextPages.{next_page_of}
use Rattle.nand_die.specs.Made.{first_next_pages, next_in}
use Rattle.file_die.specs.Open.{OnlyLooks}
use Rattle.file_die.proofs.OpenLemmas.{HaveNext}
use Rattle.file_die.proofs.open.find_next_pages.Given as goal

abbrev pub invariant-loop-block : goal.invariant-loop-block
invariant-loop-block g l = record {
  looks : OnlyLooks g.S.Store.held g.S.Store.honest l.fn.store l.store;
  settled : g.S.Store.failed l.store ≡ g.S.Store.failed l.fn.store;
  next_pages : g.S.Store.honest l.fn.store ≡ true → (bad : List ℕ) → map next_page_of l.fn.next_pages ≡ first_next_pages l.geometry (λ block. 0) bad
      → HaveNext l.geometry (next_in l.geometry (g.S.Store.held l.fn.store).pages) bad l.block (map next_page_of l.next_pages);
}
