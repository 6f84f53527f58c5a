use Rattle.std.proofs.Common.{◌≡◌, ℕ, [], map}
use Rattle.nand_die.specs.NextPages.{next_page_of}
use Rattle.nand_die.specs.Made.{first_next_pages}
use Rattle.nand_die.proofs.MakeLemmas.{Named, Barred}
use Rattle.nand_die.proofs.make.bar_all.Given as goal

abbrev pub invariant-loop-block : goal.invariant-loop-block
invariant-loop-block l = record {
  any : Barred (map next_page_of l.fn.next_pages) l.bad l.block-index (map next_page_of l.next_pages);
  fresh : (next : ℕ → ℕ) → map next_page_of l.fn.next_pages ≡ first_next_pages l.geometry next [] → Named l.geometry next l.bad l.block-index (map next_page_of l.next_pages);
}
