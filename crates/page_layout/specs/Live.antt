-- The live pages of a block, which are the newest pages that it holds.
use Rattle.std.specs.Prelude.{ℕ, ◌/◌, ◌<◌, ◌==◌, Bool, false, List, ◌++◌, map, count_by, Option, Some, None}
use Rattle.std.specs.List.{range_with_len}
use Rattle.page_layout.specs.declared.record.Record.{Record}
use Rattle.page_layout.specs.declared.record.Key.{Key}
use Rattle.page_layout.specs.declared.record.Key.TheVariants.{Sector, Translation, Table}
use Rattle.page_layout.specs.declared.geometry.Geometry.{Geometry}
use Rattle.page_layout.specs.Geometry.{translation_pages, table_pages}
use Rattle.page_layout.specs.Newest.{newest}

-- the first n of the sectors, the translation pages, the table pages
abbrev pub first_keys : ℕ → ℕ → ℕ → List Key
first_keys l t u = map Sector (range_with_len 0 l) ++ (map Translation (range_with_len 0 t) ++ map Table (range_with_len 0 u))

-- all keys of a die
unfoldable pub keys : Geometry → List Key
keys g = first_keys g.sectors (translation_pages g) (table_pages g)

-- the key's number is below the number of sectors, of translation pages or of table pages
abbrev pub IsKeyOf : Geometry → Key → Type 0
IsKeyOf g (Sector n) = n < g.sectors
IsKeyOf g (Translation t) = t < translation_pages g
IsKeyOf g (Table u) = u < table_pages g

-- whether a row, if there is one, is of the block
abbrev pub is_in_block : ℕ → ℕ → Option ℕ → Bool
is_in_block pages block None = false
is_in_block pages block (Some row) = row / pages == block

-- how many keys have their newest page in the block
unfoldable pub live : Geometry → List (Option Record) → ℕ → ℕ
live g marks block = count_by (λ key. is_in_block g.pages block (newest marks key)) (keys g)
