-- What a sector of an image is asked for, and what the answers say.
use Rattle.std.specs.Prelude.{◌≡◌, ◌⊎◌, ℕ, ◌<◌, ◌≤◌, List, Result, Ok, Err, Some, take, drop}
use Rattle.page_layout.specs.declared.geometry.Geometry.{Geometry}
use Rattle.page_layout.specs.declared.record.Record.{Record}
use Rattle.page_layout.specs.declared.record.Kind.TheVariants as kind
use Rattle.page_layout.specs.declared.record.Key.TheVariants as key
use Rattle.page_layout.specs.declared.newest.Latest.{Latest}
use Rattle.page_layout.specs.declared.newest.Latest.TheVariants.{Never, Once, Tied}
use Rattle.page_layout.specs.Page.{Image, Page, page}
use Rattle.page_layout.specs.Sound.{record_of}
use Rattle.page_layout.specs.Newest.{AreTied}
use Rattle.page_layout.specs.Array.{marks, zeros}
use Rattle.image_check.specs.declared.scan.SectorFault.{SectorFault}
use Rattle.image_check.specs.declared.scan.SectorFault.TheVariants.{OutOfRange, SequenceRepeated, Source}

-- the pages of these two rows are of the sector, and share its greatest sequence
abbrev pub SharesSequence : Image → ℕ → ℕ → ℕ → Type 0
SharesSequence image n first second = AreTied (marks image) (key.Sector n) first second

-- the sector is one of the die, and some two of its pages share its greatest sequence
pub record IsAmbiguous (g : Geometry) (image : Image) (n : ℕ) : Type 0 where
  pub in_range : n < g.sectors
  pub first : ℕ
  pub second : ℕ
  pub shares : SharesSequence image n first second

-- the rows that a fault names share the sector's greatest sequence
abbrev pub NamesRows : Image → ℕ → SectorFault → Type 0
NamesRows image n (SequenceRepeated first second) = SharesSequence image n first second
NamesRows image n OutOfRange = Unit {0}
NamesRows image n Source = Unit {0}

-- no two rows that share that sequence are lower than those that a fault names
abbrev pub NamesLowest : Image → ℕ → SectorFault → Type 0
NamesLowest image n (SequenceRepeated first second) = (a b : ℕ) → SharesSequence image n a b → (first ≤ a) × (second ≤ b)
NamesLowest image n OutOfRange = Unit {0}
NamesLowest image n Source = Unit {0}

-- the page is sound and holds the sector, and the bytes are its data area
pub record ShowsSector (n : ℕ) (p : Page) (bytes : List ℕ) : Type 0 where
  pub its : Record
  pub says : record_of p ≡ Some its
  pub kind_is : its.kind ≡ kind.Sector
  pub number_is : its.number ≡ n
  pub body_is : bytes ≡ p.body

-- the bytes are zeros, or the data area of the page that stands in these bytes of a page, which holds the sector
abbrev pub MayShow : Geometry → ℕ → (scratch bytes : List ℕ) → Type 0
MayShow g n scratch bytes = (bytes ≡ zeros g) ⊎ ShowsSector n (page (take g.data_bytes scratch) (drop g.data_bytes scratch)) bytes

-- the bytes are the data area of a sound page that holds the sector
pub record HoldsSector (n : ℕ) (bytes : List ℕ) : Type 0 where
  pub spare : List ℕ
  pub its : Record
  pub says : record_of (page bytes spare) ≡ Some its
  pub kind_is : its.kind ≡ kind.Sector
  pub number_is : its.number ≡ n

-- the bytes are zeros, or those of a page that holds the sector
abbrev pub MayRead : Geometry → ℕ → List ℕ → Type 0
MayRead g n bytes = (bytes ≡ zeros g) ⊎ HoldsSector n bytes

-- the answer is a fault that names two rows
abbrev pub NamesTwoRows : {T : Type 0} → Result T SectorFault → Type 0
NamesTwoRows (Ok found) = ⊥
NamesTwoRows (Err OutOfRange) = ⊥
NamesTwoRows (Err (SequenceRepeated first second)) = Unit {0}
NamesTwoRows (Err Source) = ⊥

-- the rows that it names are among the first n
abbrev pub IsBelow : ℕ → Latest → Type 0
IsBelow n Never = Unit {0}
IsBelow n (Once row t) = row < n
IsBelow n (Tied first second t) = (first < n) × (second < n)
