-- A die in memory of which nothing fails.
use Rattle.std.specs.Prelude.{Bool, not, ◌&&◌, ◌||◌, ◌==◌, length}
use Rattle.std.specs.List.{list_all, list_any}
use Rattle.page_layout.specs.Flash.{NextState, Flash}
use Rattle.nand_die.specs.DieValue.{DieValue, is_calm}

-- No fault is set on the die, and no block of it is bad or has failed. No cycle changes whether it is so: an operation that is due passes,
-- and one that is not due bars no block. So a die that is flawless afterwards has failed no operation that was due.
abbrev pub is_flawless : DieValue → Bool
is_flawless d = (length d.faults == 0) && not (list_any (λ t. t.barred) d.state.flash.next_pages)

-- nothing was asked of the block, if it is bad
abbrev pub is_spared : NextState → Bool
is_spared t = not t.barred || ((t.programs == 0) && (t.erases == 0))

-- Something was asked for that was not due, or nothing was asked of any bad block: then none of them has become bad by an operation that failed.
abbrev pub has_spared : Flash → Bool
has_spared s = not (s.abuse == 0) || list_all is_spared s.next_pages

-- No stop and no fault is set on it, and it has failed no operation that was due. It is so of a die that was loaded, whatever blocks are bad, and after
-- each cycle of one of which it was so.
abbrev pub is_steady : DieValue → Bool
is_steady d = is_calm d && ((length d.faults == 0) && has_spared d.state.flash)
