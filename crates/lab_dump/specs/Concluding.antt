-- What all pages leave open, summed up block by block.
use Rattle.std.specs.Prelude.{◌≡◌, ℕ, ◌+◌, ◌-◌, ◌*◌, ◌^◌, ◌<◌, ◌==◌, ◌&&◌, min, not, if◌then◌else◌, Bool, false, List, length, count_by, get_or}
use Rattle.std.specs.List.{list_any, range_with_len}
use Rattle.page_layout.specs.declared.geometry.Geometry.{Geometry}
use Rattle.page_layout.specs.Geometry.{key_count, row_count, table_pages}
use Rattle.page_layout.specs.Page.{Image}
use Rattle.page_layout.specs.Sound.{record_of}
use Rattle.page_layout.specs.Live.{is_in_block}
use Rattle.page_layout.specs.Array.{marks}
use Rattle.image_check.specs.Blocks.{is_factory}
use Rattle.image_check.specs.Survey.{HasTableBytes}
use Rattle.lab_dump.specs.declared.trace.Trace.{Trace}
use Rattle.lab_dump.specs.declared.trace.Trace.TheVariants.{Never}
use Rattle.lab_dump.specs.declared.doubts.Doubts.{Doubts}
use Rattle.lab_dump.specs.declared.concluding.Excuse.{Excuse}
use Rattle.lab_dump.specs.declared.concluding.Excuse.TheVariants.{Open, Factory, Rewritten}
use Rattle.lab_dump.specs.Trace.{is_tied_in, place_in_trace}
use Rattle.lab_dump.specs.Count.{HasUnsound}
use Rattle.lab_dump.specs.Bad.{is_plain, is_rewritten, keeps_below}
use Rattle.lab_dump.specs.Doubts.{is_record_past}
use Rattle.lab_dump.specs.Doubting.{HasHoles, HasTraces}
use Rattle.lab_dump.specs.declared.doubting.Doubting.{Doubting}

-- by the class in the newest table, whether the image is plain, and whether some key has its newest page there
abbrev pub excuse_by : ℕ → Bool → Bool → Excuse
excuse_by class plain kept = if class == 1 then Factory else (if (class == 2) && (plain && not kept) then Rewritten else Open)

-- why the pages of a block leave nothing open, if they do
abbrev pub excuse_of : Geometry → Image → ℕ → Excuse
excuse_of g image block = if is_factory g image block then Factory else (if is_rewritten g image block then Rewritten else Open)

-- 1 where the pages of a block may leave something open
abbrev pub one_open : Excuse → ℕ
one_open Open = 1
one_open Factory = 0
one_open Rewritten = 0

-- as many as a word has room for
abbrev pub capped : ℕ → ℕ
capped n = min n (2 ^ 32 - 1)

-- with the pages of one block more
abbrev pub added : Doubts → Excuse → ℕ → ℕ → Doubts
added d Open unsound holes = record d { unsound = capped (d.unsound + unsound); holes = capped (d.holes + holes) }
added d Factory unsound holes = record d { factory = capped (capped (d.factory + unsound) + holes) }
added d Rewritten unsound holes = record d { rewritten = capped (capped (d.rewritten + unsound) + holes) }

-- whether some of the first keys are tied
abbrev pub ties_in : List Trace → ℕ → Bool
ties_in traces n = list_any (λ i. is_tied_in (get_or traces i Never)) (range_with_len 0 n)

-- whether some of the first keys have their newest page in the block
abbrev pub keeps_in : ℕ → List Trace → ℕ → ℕ → Bool
keeps_in pages traces n block = list_any (λ i. is_in_block pages block (place_in_trace (get_or traces i Never))) (range_with_len 0 n)

-- ---- in the end

-- its parts have the sizes of the geometry
pub record IsDoubtingSized (g : Geometry) (d : Doubting) : Type 0 where
  pub traces : length d.traces.items ≡ key_count g
  pub tables : length d.tables.items ≡ table_pages g * g.data_bytes
  pub unsound : length d.unsound.items ≡ g.blocks
  pub holes : length d.holes.items ≡ g.blocks
  pub kept : length d.kept.items ≡ g.blocks

-- all that was seen of the image, whether it is plain, and which blocks some key has its newest page in
pub record IsSeen (g : Geometry) (image : Image) (d : Doubting) (plain : Bool) : Type 0 where
  pub traces : HasTraces g (marks image) (row_count g) d.traces.items
  pub tables : HasTableBytes g image (row_count g) d.tables.items
  pub unsound : HasUnsound g image (row_count g) d.unsound.items
  pub holes : HasHoles g image (row_count g) d.holes.items
  pub outside_is : d.outside ≡ count_by (λ p. is_record_past g (record_of p)) image
  pub plain_is : plain ≡ is_plain g image
  pub kept_is : (b : ℕ) → b < g.blocks → get_or d.kept.items b false ≡ keeps_below g image (key_count g) b
