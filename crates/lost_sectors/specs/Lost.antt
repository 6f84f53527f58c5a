-- WHICH SECTORS HAVE LOST A PAGE. The newest translation pages name the row of each sector's newest page: where a sector's newest page stands elsewhere and is
-- older than the translation page, it is not the one that was named.
use Rattle.std.specs.Prelude.{◌≡◌, ◌≢◌, ◌⊎◌, ℕ, ◌/◌, ◌<◌, ◌≤◌, ◌==◌, ◌&&◌, ◌||◌, nat_lt, not, Bool, true, false, List, filter, get_or, length, Option, Some, None}
use Rattle.std.specs.List.{range_with_len}
use Rattle.page_layout.specs.declared.geometry.Geometry.{Geometry}
use Rattle.page_layout.specs.declared.record.Record.{Record}
use Rattle.page_layout.specs.declared.record.Key.{Key}
use Rattle.page_layout.specs.declared.record.Key.TheVariants.{Sector, Translation}
use Rattle.page_layout.specs.Geometry.{entries}
use Rattle.page_layout.specs.Page.{Image}
use Rattle.page_layout.specs.Newest.{newest, sequence_at}
use Rattle.page_layout.specs.Array.{marks}
use Rattle.translation_pages.specs.Entry.{entry_of}

-- the sequence of the page of a row, if there is one
abbrev pub sequence_of_row : List (Option Record) → Key → Option ℕ → Option ℕ
sequence_of_row marks key None = None
sequence_of_row marks key (Some row) = sequence_at marks key row

-- the sequence of a key's newest page, if it has one
unfoldable pub newest_sequence : Image → Key → Option ℕ
newest_sequence image key = sequence_of_row (marks image) key (newest (marks image) key)

-- ---- the criterion

-- SECTOR n HAS LOST A PAGE: its translation page, of a sequence below the mark, names a row in which the sector's newest page does not stand, and that one is older
-- than the translation page; or there is none
pub record IsLost (g : Geometry) (image : Image) (mark n : ℕ) : Type 0 where
  pub row : ℕ
  pub named : entry_of g image n ≡ Some row
  pub away : newest (marks image) (Sector n) ≢ Some row
  pub sequence : ℕ
  pub at : newest_sequence image (Translation (n / entries g)) ≡ Some sequence
  pub marked : sequence < mark
  pub older : (s : ℕ) → newest_sequence image (Sector n) ≡ Some s → s < sequence

-- ---- the same, computed

-- a row is named, and it is not this one
abbrev pub names_other : Option ℕ → Option ℕ → Bool
names_other None place = false
names_other (Some row) None = true
names_other (Some row) (Some place) = not (row == place)

-- the sequence is less, or there is none
abbrev pub is_older : Option ℕ → ℕ → Bool
is_older None sequence = true
is_older (Some s) sequence = nat_lt s sequence

-- by the sequence of the translation page, what it names, and the row and the sequence of the sector's newest page
abbrev pub is_lost_by : (mark : ℕ) → Option ℕ → (named place sequence : Option ℕ) → Bool
is_lost_by mark None named place sequence = false
is_lost_by mark (Some page) named place sequence = nat_lt page mark && (names_other named place && is_older sequence page)

unfoldable pub is_lost : Geometry → Image → (mark n : ℕ) → Bool
is_lost g image mark n =
    is_lost_by mark (newest_sequence image (Translation (n / entries g))) (entry_of g image n) (newest (marks image) (Sector n)) (newest_sequence image (Sector n))

-- the lost sectors, rising
unfoldable pub lost_sectors : Geometry → Image → (mark : ℕ) → List ℕ
lost_sectors g image mark = filter (is_lost g image mark) (range_with_len 0 g.sectors)

-- a sector of a translation page of this sequence, by the row that it names
abbrev pub is_told : Image → (sequence : ℕ) → (named : Option ℕ) → (n : ℕ) → Bool
is_told image sequence named n = names_other named (newest (marks image) (Sector n)) && is_older (newest_sequence image (Sector n)) sequence

-- ---- a list of them

-- whether sector n is listed
abbrev pub is_listed_in : List Bool → (n : ℕ) → Bool
is_listed_in lost n = get_or lost n false

-- THOSE FOR WHICH A TEST PASSES ARE LISTED TOO, from one sector up to another; of all others nothing has changed
pub record Adds (passes : ℕ → Bool) (first end : ℕ) (old new : List Bool) : Type 0 where
  pub size : length new ≡ length old
  pub inside : (n : ℕ) → first ≤ n → n < end → is_listed_in new n ≡ (is_listed_in old n || passes n)
  pub outside : (n : ℕ) → (n < first) ⊎ (end ≤ n) → is_listed_in new n ≡ is_listed_in old n

-- so it is as far as it came, and past that nothing has changed
pub record AddsUpTo (passes : ℕ → Bool) (first end : ℕ) (old new : List Bool) : Type 0 where
  pub reached : ℕ
  pub least : first ≤ reached
  pub most : reached ≤ end
  pub adds : Adds passes first reached old new

-- none is taken off it
pub record DropsNone (old new : List Bool) : Type 0 where
  pub size : length new ≡ length old
  pub kept : (n : ℕ) → is_listed_in old n ≡ true → is_listed_in new n ≡ true
