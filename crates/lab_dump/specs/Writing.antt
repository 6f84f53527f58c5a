-- The pieces while the sectors are written.
use Rattle.std.specs.Prelude.{◌≡◌, ℕ, ◌<◌, nat_lt, if◌then◌else◌, List, [], length, get_or, Option, Some, None, IfSome}
use Rattle.page_layout.specs.declared.geometry.Geometry.{Geometry}
use Rattle.page_layout.specs.declared.record.Record.{Record}
use Rattle.page_layout.specs.declared.record.Kind.TheVariants as kind
use Rattle.page_layout.specs.declared.record.Key.{Key}
use Rattle.page_layout.specs.declared.record.Key.TheVariants.{Sector, Translation, Table}
use Rattle.page_layout.specs.Page.{Image, page}
use Rattle.page_layout.specs.Sound.{record_of}
use Rattle.page_layout.specs.Key.{key_of}
use Rattle.page_layout.specs.Newest.{latest_below}
use Rattle.page_layout.specs.Array.{marks, zeros}
use Rattle.lab_dump.specs.declared.held.Held.{Held}
use Rattle.lab_dump.specs.declared.held.Held.TheVariants.{Never}
use Rattle.lab_dump.specs.Held.{TellsHeld}
use Rattle.lab_dump.specs.Until.{until}
use Rattle.lab_dump.specs.Damaged.{content_in, place_by, said_marks, said_reads}

-- what sector n is shown as by what the first rows say of it: those of the sound pages, and these of the others, which read so
abbrev pub content_below : Geometry → Image → List (Option Record) → (ℕ → List ℕ) → ℕ → ℕ → List ℕ
content_below g image said reads rows n = content_in g image reads (place_by (latest_below (marks image) (Sector n) rows) (latest_below said (Sector n) rows))

-- a piece for each sector
abbrev pub HasSectorPieces : Geometry → List (List ℕ) → Type 0
HasSectorPieces g pieces = length pieces ≡ g.sectors

-- the page of this data area and this spare area is sound, and holds sector n
pub record IsPageOfSector (n : ℕ) (body spare : List ℕ) : Type 0 where
  pub its : Record
  pub says : record_of (page body spare) ≡ Some its
  pub kind_is : its.kind ≡ kind.Sector
  pub number_is : its.number ≡ n

-- the sector that a page with this record is of, if the die has it
abbrev pub sector_within : Geometry → Key → Option ℕ
sector_within g (Sector n) = if nat_lt n g.sectors then Some n else None
sector_within g (Translation t) = None
sector_within g (Table u) = None

abbrev pub sector_in : Geometry → Record → Option ℕ
sector_in g r = sector_within g (key_of r)

-- whatever the pages were
pub record WritingStands (g : Geometry) (held : List Held) (blank : List ℕ) (pieces : Option (List (List ℕ))) : Type 0 where
  pub size : length held ≡ g.sectors
  pub blank_is : blank ≡ zeros g
  pub sized : IfSome pieces (HasSectorPieces g)

-- each piece is what the first rows say of its sector
abbrev pub ReadBelow : Geometry → Image → List (Option Record) → (ℕ → List ℕ) → ℕ → List (List ℕ) → Type 0
ReadBelow g image said reads rows pieces = (n : ℕ) → n < g.sectors → get_or pieces n [] ≡ content_below g image said reads rows n

-- what the first rows of the image say, beside what pages say that are not sound, which read so
pub record ShowsSectorPieces (g : Geometry) (rows : ℕ) (image : Image) (said : List (Option Record)) (reads : ℕ → List ℕ) (held : List Held) (pieces : Option (List (List ℕ))) : Type 0 where
  pub held_of : (n : ℕ) → n < g.sectors → TellsHeld (get_or held n Never) (latest_below (marks image) (Sector n) rows) (latest_below said (Sector n) rows)
  pub pieces_are : IfSome pieces (ReadBelow g image said reads rows)

-- where no page counts that is not sound
abbrev pub ShowsSound : Geometry → ℕ → Image → List Held → Option (List (List ℕ)) → Type 0
ShowsSound g rows image held pieces = ShowsSectorPieces g rows image [] (λ row. []) held pieces

-- where those count that are newer than each sound page, as of a sequence where one is said
abbrev pub ShowsDamaged : Geometry → ℕ → Option ℕ → Image → List Held → Option (List (List ℕ)) → Type 0
ShowsDamaged g rows last image held pieces = ShowsSectorPieces g rows (until g last image) (said_marks g last image) (said_reads g image) held pieces
