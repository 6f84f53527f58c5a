-- What the pages are that are looked at.
use Rattle.std.specs.Prelude.{ℕ, ◌+◌, ◌*◌, ◌/◌, ◌%◌, min, max, Bool, true, false, List, count_by}
use Rattle.std.specs.List.{range_with_len}
use Rattle.page_layout.specs.declared.look.PageLook.{PageLook}
use Rattle.page_layout.specs.declared.look.PageLook.TheVariants.{Sound, Erased, Unsound}
use Rattle.page_layout.specs.PageLook.{look_of}
use Rattle.lab_dump.specs.declared.sample.Sample.{Sample}
use Rattle.lab_dump.specs.Pages.{dump_page_at}

-- ---- which rows are looked at

-- at most 4096 of so many rows
abbrev pub looked_count : ℕ → ℕ
looked_count rows = min rows 4096

-- The row in this place, of those that are looked at: the first sixteen of each of 256 equal parts of the rows, or all rows where they are at most
-- 4096.
abbrev pub looked_row : ℕ → ℕ → ℕ
looked_row rows place = place / 16 * max (rows / 256) 16 + place % 16

-- ---- what their pages are

abbrev pub is_sound_look : PageLook → Bool
is_sound_look (Sound r) = true
is_sound_look Erased = false
is_sound_look Unsound = false

-- neither sound nor erased
abbrev pub is_unsound : PageLook → Bool
is_unsound (Sound r) = false
is_unsound Erased = false
is_unsound Unsound = true

-- what the page of a row is
abbrev pub look_at : ℕ → ℕ → List ℕ → ℕ → PageLook
look_at data_bytes spare_bytes all row = look_of (dump_page_at data_bytes spare_bytes all row)

-- how many of the first places have a page of which a test holds
unfoldable pub looked_by : (PageLook → Bool) → ℕ → ℕ → ℕ → List ℕ → ℕ → ℕ
looked_by test data_bytes spare_bytes rows all places = count_by (λ place. test (look_at data_bytes spare_bytes all (looked_row rows place))) (range_with_len 0 places)

-- how many pages are looked at, how many of these are sound, and how many neither sound nor erased
unfoldable pub sample_of : ℕ → ℕ → ℕ → List ℕ → Sample
sample_of data_bytes spare_bytes rows all = record {
  looked = looked_count rows;
  sound = looked_by is_sound_look data_bytes spare_bytes rows all (looked_count rows);
  unsound = looked_by is_unsound data_bytes spare_bytes rows all (looked_count rows);
}

-- the sample before a page is looked at
abbrev pub none_looked : ℕ → Sample
none_looked rows = record { looked = looked_count rows; sound = 0; unsound = 0 }

-- the sample with one page more
abbrev pub sample_with_page : Sample → PageLook → Sample
sample_with_page s (Sound r) = record { looked = s.looked; sound = s.sound + 1; unsound = s.unsound }
sample_with_page s Erased = s
sample_with_page s Unsound = record { looked = s.looked; sound = s.sound; unsound = s.unsound + 1 }
