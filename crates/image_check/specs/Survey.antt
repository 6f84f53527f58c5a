-- What one pass over the pages notes, and what each part of it is of the pages seen so far.
use Rattle.std.specs.Prelude.{◌≡◌, ℕ, zero, suc, ◌+◌, ◌-◌, ◌*◌, ◌<◌, ◌&&◌, ◌||◌, max, not, Bool, true, false, List, [], ◌∷◌, ◌++◌, length, get_or}
use Rattle.std.specs.Prelude.{take, slice_get, Option, Some, None, is_some, if◌then◌else◌}
use Rattle.std.specs.List.{list_any}
use Rattle.page_layout.specs.declared.geometry.Geometry.{Geometry}
use Rattle.page_layout.specs.declared.record.Record.{Record}
use Rattle.page_layout.specs.declared.record.Key.{Key}
use Rattle.page_layout.specs.declared.record.Key.TheVariants.{Sector, Translation, Table}
use Rattle.page_layout.specs.Greatest.{place_of}
use Rattle.page_layout.specs.Geometry.{translation_pages, table_pages, key_count}
use Rattle.page_layout.specs.Page.{Page, Image, body_at}
use Rattle.page_layout.specs.Sound.{is_erased_page}
use Rattle.page_layout.specs.Key.{key_of}
use Rattle.page_layout.specs.Newest.{latest_below, sequence_at}
use Rattle.page_layout.specs.Live.{IsKeyOf, live}
use Rattle.page_layout.specs.Array.{marks}
use Rattle.page_layout.specs.Block.{block_pages, is_broken, has_gap, written, wear_in, top_wear, has_data_kind, begins_data, sequence_in, last_sequence}
use Rattle.image_check.specs.declared.look.BlockLook.{BlockLook}
use Rattle.image_check.specs.declared.newest.Newest.{Newest}
use Rattle.image_check.specs.Newest.{TellsNewest, no_newest}

-- ---- by key

-- the place of a key: sectors, then translation pages, then table pages
abbrev pub index_of : Geometry → Key → ℕ
index_of g (Sector n) = n
index_of g (Translation t) = g.sectors + t
index_of g (Table u) = g.sectors + (translation_pages g + u)

-- what the first rows say of the newest page of each key
pub record HasNewest (g : Geometry) (marks : List (Option Record)) (rows : ℕ) (items : List Newest) : Type 0 where
  pub size : length items ≡ key_count g
  pub at : (key : Key) → IsKeyOf g key → TellsNewest (get_or items (index_of g key) no_newest) (latest_below marks key rows)

-- ---- numbers

-- a sound page whose number is out of range
pub record IsOutOfRange (g : Geometry) (marks : List (Option Record)) (row : ℕ) : Type 0 where
  pub found : Record
  pub here : get_or marks row None ≡ Some found
  pub outside : ¬ IsKeyOf g (key_of found)

-- the first of them
pub record IsFirstOutside (g : Geometry) (marks : List (Option Record)) (row : ℕ) : Type 0 where
  pub at : IsOutOfRange g marks row
  pub before : (q : ℕ) (r : Record) → q < row → get_or marks q None ≡ Some r → IsKeyOf g (key_of r)

-- whether one of the first rows is out of range, and which
abbrev pub HasOutside : Geometry → List (Option Record) → ℕ → Option ℕ → Type 0
HasOutside g marks rows None = (row : ℕ) (r : Record) → row < rows → get_or marks row None ≡ Some r → IsKeyOf g (key_of r)
HasOutside g marks rows (Some row) = IsFirstOutside g marks row

-- ---- sequences

-- the sequence and the row of a sound page
abbrev pub pair_of : ℕ → Option Record → List (ℕ × ℕ)
pair_of row None = []
pair_of row (Some r) = (r.sequence, row) ∷ []

-- those of the first rows
unfoldable pub pairs_below : List (Option Record) → ℕ → List (ℕ × ℕ)
pairs_below marks zero = []
pairs_below marks (suc row) = pairs_below marks row ++ pair_of row (get_or marks row None)

-- the row holds a sound page of sector n
pub record HoldsSectorPage (marks : List (Option Record)) (n row : ℕ) : Type 0 where
  pub sequence : ℕ
  pub here : sequence_at marks (Sector n) row ≡ Some sequence

-- each row that is claimed for one of the first n sectors holds a sound page of it
pub record AreClaimed (n : ℕ) (marks : List (Option Record)) (claims : List (Option ℕ)) : Type 0 where
  pub page : (m row : ℕ) → m < n → slice_get claims m ≡ Some (Some row) → HoldsSectorPage marks m row

-- ---- by block

-- what the pages of a block show
unfoldable pub block_look_of : List Page → BlockLook
block_look_of ps = record {
  written = written ps;
  erased = list_any is_erased_page ps;
  broken = list_any is_broken ps;
  gap = has_gap ps;
  of_data = begins_data ps;
  last = last_sequence ps;
  wear = top_wear ps;
}

-- what one page more shows. It is the first of its block, or not
unfoldable pub look_step : BlockLook → Bool → Bool → Option Record → BlockLook
look_step look first erased found = record {
  written = look.written + (if erased then 0 else 1);
  erased = look.erased || erased;
  broken = look.broken || (not erased && not (is_some found));
  gap = look.gap || (look.erased && not erased);
  of_data = if first then has_data_kind found else look.of_data;
  last = if erased then look.last else sequence_in found;
  wear = max look.wear (wear_in found);
}

-- of each block's pages, those among the first rows
pub record HasLooks (g : Geometry) (image : Image) (rows : ℕ) (items : List BlockLook) : Type 0 where
  pub size : length items ≡ g.blocks
  pub at : (b : ℕ) → b < g.blocks → slice_get items b ≡ Some (block_look_of (take (rows - b * g.pages) (block_pages g image b)))

-- ---- tables

-- the data areas of the table pages that are the newest so far, one behind the other
pub record HasTableBytes (g : Geometry) (image : Image) (rows : ℕ) (bytes : List ℕ) : Type 0 where
  pub size : length bytes ≡ table_pages g * g.data_bytes
  pub at : (u row i : ℕ) → u < table_pages g → i < g.data_bytes → place_of (latest_below (marks image) (Table u) rows) ≡ Some row
      → get_or bytes (u * g.data_bytes + i) 0 ≡ get_or (body_at image row) i 0

-- ---- claims

-- of each sector whether the row that a certificate claims for it is among the first rows and holds a sound page of it
pub record HasPassed (marks : List (Option Record)) (rows : ℕ) (claims : List (Option ℕ)) (passed : List Bool) : Type 0 where
  pub yes : (n row : ℕ) → slice_get claims n ≡ Some (Some row) → get_or passed n false ≡ true → HoldsSectorPage marks n row
  pub no : (n row : ℕ) → slice_get claims n ≡ Some (Some row) → row < rows → get_or passed n false ≡ false → sequence_at marks (Sector n) row ≡ None

-- how many keys have their newest page in each block
pub record AreLiveCounts (g : Geometry) (image : Image) (counts : List ℕ) : Type 0 where
  pub count : (b : ℕ) → b < g.blocks → get_or counts b 0 ≡ live g (marks image) b
