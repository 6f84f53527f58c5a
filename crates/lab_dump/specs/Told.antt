-- What all pages tell of the blocks and the sectors.
use Rattle.std.specs.Prelude.{ℕ, zero, suc, ◌+◌, ◌*◌, ◌/◌, ◌%◌, ◌==◌, nat_lt, ◌||◌, if◌then◌else◌, max, Bool, List, length, count_by, slice_index, slice_range}
use Rattle.std.specs.List.{range_with_len}
use Rattle.byteorder.specs.Endian.{little_number}
use Rattle.page_layout.specs.declared.record.Kind.{Kind}
use Rattle.page_layout.specs.declared.record.Kind.TheVariants as kind
use Rattle.page_layout.specs.Word.{word_at}
use Rattle.page_layout.specs.declared.look.PageLook.{PageLook}
use Rattle.page_layout.specs.declared.look.PageLook.TheVariants.{Sound, Erased, Unsound}
use Rattle.lab_dump.specs.declared.told.PagesTold.{PagesTold}
use Rattle.lab_dump.specs.Pages.{dump_page_at}
use Rattle.lab_dump.specs.Sample.{look_at}

-- How many words of a data area may be of blocks: their low byte is a class, 0 to 2. Words past the last block are FFFFFFFFh.
-- Law: of a well formed table page these are just the words of its blocks (`TableLaw`).
unfoldable pub words_used : List ℕ → ℕ
words_used body = count_by (λ i. nat_lt (word_at body (4 * i) % 256) 3) (range_with_len 0 (length body / 4))

-- how many blocks a die has at least that has a page of this kind, number and data area: a table page has words of blocks
abbrev pub least_blocks_of : Kind → ℕ → List ℕ → ℕ
least_blocks_of kind.Sector n body = 0
least_blocks_of kind.Trim n body = 0
least_blocks_of kind.Translation n body = 0
least_blocks_of kind.Table n body = n * (length body / 4) + words_used body

-- how many sectors it has at least: that one itself, or one that a translation page has an entry for
abbrev pub least_sectors : Kind → ℕ → ℕ → ℕ
least_sectors kind.Sector n entries = n + 1
least_sectors kind.Trim n entries = n + 1
least_sectors kind.Translation n entries = n * entries + 1
least_sectors kind.Table n entries = 0

-- the same of any page: one that is not sound tells nothing
abbrev pub blocks_by : PageLook → List ℕ → ℕ
blocks_by (Sound r) body = least_blocks_of r.kind r.number body
blocks_by Erased body = 0
blocks_by Unsound body = 0

abbrev pub sectors_by : PageLook → ℕ → ℕ
sectors_by (Sound r) entries = least_sectors r.kind r.number entries
sectors_by Erased entries = 0
sectors_by Unsound entries = 0

-- the same of the page of a row
abbrev pub blocks_at : ℕ → ℕ → List ℕ → ℕ → ℕ
blocks_at data_bytes spare_bytes all row = blocks_by (look_at data_bytes spare_bytes all row) (dump_page_at data_bytes spare_bytes all row).body

abbrev pub sectors_told_at : ℕ → ℕ → List ℕ → ℕ → ℕ
sectors_told_at data_bytes spare_bytes all row = sectors_by (look_at data_bytes spare_bytes all row) (data_bytes / 4)

-- The greatest of a number at each of so many rows, and 0 where there is none.
-- Law: no row has a greater one, and one has it unless it is 0 (`GreatestLaw`).
unfoldable pub greatest_of_rows : (ℕ → ℕ) → ℕ → ℕ
greatest_of_rows f zero = 0
greatest_of_rows f (suc rows) = max (greatest_of_rows f rows) (f rows)

-- what the pages of so many rows tell together
unfoldable pub pages_told_of : ℕ → ℕ → ℕ → List ℕ → PagesTold
pages_told_of data_bytes spare_bytes rows all = record {
  blocks = greatest_of_rows (blocks_at data_bytes spare_bytes all) rows;
  sectors = greatest_of_rows (sectors_told_at data_bytes spare_bytes all) rows;
}

-- what is told, with what one page more tells
abbrev pub told_with_page : PagesTold → PageLook → List ℕ → PagesTold
told_with_page t look body = record {
  blocks = max t.blocks (blocks_by look body);
  sectors = max t.sectors (sectors_by look (length body / 4));
}

-- the most that a page can tell whose spare bytes name a kind by this code, and this number
abbrev pub most_by : ℕ → ℕ → ℕ → PagesTold
most_by code n entries =
    if code == 4 then record { blocks = (n + 1) * entries; sectors = 0 } else (
    if code == 3 then record { blocks = 0; sectors = n * entries + 1 } else (
    if (code == 1) || (code == 2) then record { blocks = 0; sectors = n + 1 } else record { blocks = 0; sectors = 0 }))

-- the same by its spare bytes, where its data area has so many bytes
abbrev pub most_in : ℕ → List ℕ → PagesTold
most_in data_bytes spare = most_by (slice_index spare 3) (little_number 4 (slice_range spare 4 8)) (data_bytes / 4)

-- whether that is more than what is told
-- Law: a page of which it is not tells no more, whatever its data area is (`PagesTold::may_rise`: `same`).
abbrev pub may_raise : PagesTold → PagesTold → Bool
may_raise told most = nat_lt told.blocks most.blocks || nat_lt told.sectors most.sectors
