-- What a pass over the pages notes of what they leave open.
use Rattle.std.specs.Prelude.{◌≡◌, ℕ, zero, suc, ◌+◌, ◌*◌, ◌/◌, ◌%◌, ◌<◌, ◌≤◌, ◌==◌, ◌&&◌, if◌then◌else◌, false, All, List, length, get_or, count_by, take, replicate, Option}
use Rattle.std.specs.List.{range_with_len}
use Rattle.std.specs.Vec.{vec_capacity}
use Rattle.page_layout.specs.declared.geometry.Geometry.{Geometry}
use Rattle.page_layout.specs.declared.record.Record.{Record}
use Rattle.page_layout.specs.declared.record.Key.{Key}
use Rattle.page_layout.specs.Geometry.{key_count, row_count, table_pages}
use Rattle.page_layout.specs.Page.{Image}
use Rattle.page_layout.specs.Sound.{record_of}
use Rattle.page_layout.specs.Newest.{latest_below}
use Rattle.page_layout.specs.Live.{IsKeyOf}
use Rattle.page_layout.specs.Array.{marks}
use Rattle.image_check.specs.Survey.{HasTableBytes, index_of}
use Rattle.lab_dump.specs.declared.trace.Trace.{Trace}
use Rattle.lab_dump.specs.declared.trace.Trace.TheVariants.{Never}
use Rattle.lab_dump.specs.declared.doubting.Doubting.{Doubting}
use Rattle.lab_dump.specs.Trace.{TellsTrace}
use Rattle.lab_dump.specs.Count as count
use Rattle.lab_dump.specs.Count.{HasUnsound}
use Rattle.lab_dump.specs.Said.{said_below}
use Rattle.lab_dump.specs.Doubts.{is_erased_at, is_hole_below, is_record_past}

-- ---- keys

-- what the first rows say of the newest page of each key
pub record HasTraces (g : Geometry) (marks : List (Option Record)) (rows : ℕ) (traces : List Trace) : Type 0 where
  pub size : length traces ≡ key_count g
  pub at : (key : Key) → IsKeyOf g key → TellsTrace (get_or traces (index_of g key) Never) (latest_below marks key rows)

-- ---- holes

-- how many erased pages stand behind the last one that is not, in the block of the last of the first rows
unfoldable pub ending : Geometry → Image → ℕ → ℕ
ending g image zero = 0
ending g image (suc row) = if is_erased_at image row then (if row % g.pages == 0 then 1 else ending g image row + 1) else 0

-- the erased pages that end the rows before this one, if it is of the same block
abbrev pub carried : Geometry → Image → ℕ → ℕ
carried g image row = if row % g.pages == 0 then 0 else ending g image row

-- how many of the first rows are of the block, and holes that these rows show
unfoldable pub holes_below : Geometry → Image → ℕ → ℕ → ℕ
holes_below g image rows block = count_by (λ row. is_hole_below g image rows row && (row / g.pages == block)) (range_with_len 0 rows)

-- of each block how many
pub record HasHoles (g : Geometry) (image : Image) (rows : ℕ) (items : List ℕ) : Type 0 where
  pub size : length items ≡ g.blocks
  pub at : (b : ℕ) → b < g.blocks → get_or items b 0 ≡ holes_below g image rows b

-- ---- together

-- its parts have the sizes of the geometry, and no count is past the rows, whatever the pages were
pub record DoubtingStands (g : Geometry) (rows : ℕ) (d : Doubting) : Type 0 where
  pub traces : length d.traces.items ≡ key_count g
  pub tables : length d.tables.items ≡ table_pages g * g.data_bytes
  pub unsound : length d.unsound.items ≡ g.blocks
  pub few : All (λ n. n ≤ rows) d.unsound.items
  pub holes : length d.holes.items ≡ g.blocks
  pub few_holes : All (λ n. n + d.ending ≤ rows) d.holes.items
  pub ending : d.ending ≤ rows
  pub said : length d.said.items ≤ rows
  pub said_rows : All (λ x. x.row < rows) d.said.items
  pub said_room : row_count g ≤ vec_capacity d.said
  pub outside : d.outside ≤ rows
  pub strange : d.strange ≤ rows
  pub kept : d.kept.items ≡ replicate g.blocks false

-- it has what the first rows of the image show
pub record IsDoubting (g : Geometry) (rows : ℕ) (image : Image) (d : Doubting) : Type 0 where
  pub traces : HasTraces g (marks image) rows d.traces.items
  pub tables : HasTableBytes g image rows d.tables.items
  pub unsound : HasUnsound g image rows d.unsound.items
  pub holes : HasHoles g image rows d.holes.items
  pub ending_is : d.ending ≡ ending g image rows
  pub said_is : d.said.items ≡ said_below g image rows
  pub outside_is : d.outside ≡ count_by (λ p. is_record_past g (record_of p)) (take rows image)
  pub strange_is : d.strange ≡ count_by (λ p. count.is_outside g (record_of p)) (take rows image)
