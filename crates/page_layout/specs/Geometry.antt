-- The numbers that follow from a geometry.
use Rattle.std.specs.Prelude.{ℕ, ◌+◌, ◌-◌, ◌*◌, ◌/◌, ◌≤◌, ◌==◌, max, if◌then◌else◌}
use Rattle.std.specs.Int.{div_ceil}
use Rattle.page_layout.specs.declared.geometry.Geometry.{Geometry}

-- entries of a translation or table page, each four bytes of its data area
abbrev pub entries : Geometry → ℕ
entries g = g.data_bytes / 4

-- translation pages: just enough that each sector has an entry
abbrev pub translation_pages : Geometry → ℕ
translation_pages g = div_ceil g.sectors (entries g)

-- table pages: just enough that each block has an entry
abbrev pub table_pages : Geometry → ℕ
table_pages g = div_ceil g.blocks (entries g)

-- The most live pages that a block may have to be worth collecting: with so many, and no more, the copies of its live pages and as many
-- translation pages as they may dirty are fewer than its pages. A difference below 0 counts as 0.
abbrev pub vmax : Geometry → ℕ
vmax g = max (g.pages - 1 - translation_pages g) ((g.pages - 1) / 2)

-- how many keys there are: of sectors, translation pages and table pages
abbrev pub key_count : Geometry → ℕ
key_count g = g.sectors + (translation_pages g + table_pages g)

-- The good blocks that a die needs to be written to: more than all keys fill with vmax + 1 live pages each, and the ten that may be
-- neither full nor worth collecting, eight free and two open.
abbrev pub need : Geometry → ℕ
need g = key_count g / (vmax g + 1) + 11

-- ---- where moved sectors wait for their translation pages: in the mean up to `share` for each

-- how many wait at most once a collection has ended
abbrev pub waiting_at : Geometry → ℕ → ℕ
waiting_at g share = share * translation_pages g

-- with one more for each page of a block there are fewer of them than a cache may have entries
abbrev pub IsShare : Geometry → ℕ → Type 0
IsShare g share = waiting_at g share + g.pages ≤ 65535

-- As vmax, where a translation page is written back for share + 1 copies: with so many live pages, and no more, their copies and the
-- translation pages that are written back are fewer than a block's pages.
abbrev pub vmax_at : Geometry → ℕ → ℕ
vmax_at g share = max (g.pages - 1 - translation_pages g) ((g.pages - 1) * (share + 1) / (share + 2))

-- The free blocks that a flush wants beside nine where it collects nothing: as many as all translation pages fill, and two that may fail.
-- With share 0 it collects.
abbrev pub flush_blocks_at : Geometry → ℕ → ℕ
flush_blocks_at g share = if share == 0 then 0 else div_ceil (translation_pages g) g.pages + 2

-- As need: more good blocks than all keys fill with vmax_at + 1 live pages each, the ten that may be neither full nor worth collecting,
-- and those of a flush.
abbrev pub need_at : Geometry → ℕ → ℕ
need_at g share = key_count g / (vmax_at g share + 1) + 11 + flush_blocks_at g share

-- ---- rows and bytes

-- how many rows, that is pages, the die has
abbrev pub row_count : Geometry → ℕ
row_count g = g.blocks * g.pages

-- how many bytes a page has, data and spare area
abbrev pub page_bytes : Geometry → ℕ
page_bytes g = g.data_bytes + g.spare_bytes
