-- The flash that a die's fields hold, and what a program or an erase leaves in it.
use Rattle.std.specs.Prelude.{ℕ, Bool, List, ◌∷◌, map, nat_lt, length, drop, replicate, if◌then◌else◌}
use Rattle.page_layout.specs.declared.geometry.Geometry.{Geometry}
use Rattle.page_layout.specs.Page.{Page}
use Rattle.page_layout.specs.Raw.{raw_image}
use Rattle.page_layout.specs.Change.{erased_page}
use Rattle.page_layout.specs.Flash.{Flash, NextState}
use Rattle.onfi_cycles.specs.Cycles.{page_of}
use Rattle.nand_die.specs.declared.change.NextPage.{NextPage}

-- the next page that a block's fields say
abbrev pub next_page_of : NextPage → NextState
next_page_of t = record { next = t.next; barred = t.barred; programs = t.programs; erases = t.erases }

-- the flash that a die's fields say
abbrev pub flash_of : Geometry → List ℕ → List NextPage → ℕ → Flash
flash_of g bytes next_pages abuse = record { geometry = g; image = raw_image g bytes; next_pages = map next_page_of next_pages; abuse = abuse }

-- What a program leaves in its page: the page handed in where it passed. Where it was legal and failed, the bytes of the fault that
-- struck it, or what was there where the fault has none. Where it was illegal, what was there.
abbrev pub left_page : Geometry → Page → Bool → Bool → Page → List ℕ → Page
left_page g old legal passed page left = if passed then page else if legal then (if nat_lt 0 (length left) then page_of g left else old) else old

-- What an erase leaves in its block: erased pages where it passed. Where it was legal and failed, the bytes of the fault that struck
-- it in page 0, or what was there where the fault has none. Where it was illegal, what was there.
abbrev pub left_block : Geometry → List Page → Bool → Bool → List ℕ → List Page
left_block g old legal passed left =
    if passed then replicate g.pages (erased_page g) else if legal then (if nat_lt 0 (length left) then page_of g left ∷ drop 1 old else old) else old
