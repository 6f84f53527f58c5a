-- How many sectors of a dump may be older of which no page says something newer, where what its pages say is so.
use Rattle.std.specs.Prelude.{◌≡◌, ℕ, ◌≤◌, ◌&&◌, not, Bool, get_or, slice_get, count_by, Some, None}
use Rattle.std.specs.List.{list_any, range_with_len}
use Rattle.page_layout.specs.declared.geometry.Geometry.{Geometry}
use Rattle.page_layout.specs.declared.record.Record.{Record}
use Rattle.page_layout.specs.declared.record.Key.TheVariants.{Sector}
use Rattle.page_layout.specs.Page.{Page, Image}
use Rattle.page_layout.specs.Key.{key_eq, key_of}
use Rattle.page_layout.specs.Array.{marks}
use Rattle.lab_dump.specs.declared.said.SaidPage.{SaidPage}
use Rattle.lab_dump.specs.Bound.{IsDumpOf, is_gone}
use Rattle.lab_dump.specs.Doubts.{doubts_of, legible_of, most_others}
use Rattle.lab_dump.specs.Said.{said_of, says}

-- whether a page says something newer of sector n than what is shown
abbrev pub names : ℕ → SaidPage → Bool
names n x = x.newer && key_eq (key_of x.says) (Sector n)

unfoldable pub is_named_newer : Geometry → Image → ℕ → Bool
is_named_newer g dump n = list_any (names n) (said_of g dump)

-- what the pages of the dump say is what the die's pages there were
abbrev pub SaysTrue : Geometry → Image → Image → Type 0
SaysTrue g die dump = (row : ℕ) (p : Page) (r : Record) → slice_get dump row ≡ Some p → says g p ≡ Some r → get_or (marks die) row None ≡ Some r

-- ---- law

-- Where what they say is so, at most so many sectors whose newest page is gone are not named.
abbrev pub OthersLaw : Type 0
OthersLaw = (g : Geometry) (die dump : Image) (sectors : ℕ) → IsDumpOf g die dump → SaysTrue g die dump
    → count_by (λ n. is_gone die dump n && not (is_named_newer g dump n)) (range_with_len 0 sectors) ≤ most_others (doubts_of g dump) (legible_of g dump)
