-- What printing a sector comes to, and the command `sector`.
use Rattle.std.specs.Prelude.{◌≡◌, ◌≢◌, ◌⊎◌, ◌<◌, ◌≤◌, ◌*◌, ℕ, List, [], ◌∷◌, ◌++◌, length, codes, Option, Some, None, Result, Ok, Err}
use Rattle.std.specs.Io.KnownBytes.{Appends, Keeps}
use Rattle.hex.specs.Hex.{encode_lower}
use Rattle.request_stream.specs.Frames.{AppendsPart}
use Rattle.page_layout.specs.declared.geometry.Geometry.{Geometry}
use Rattle.page_layout.specs.Geometry.{row_count, page_bytes}
use Rattle.page_layout.specs.Faults.{HasNumbers, IsFirstFault}
use Rattle.page_layout.specs.Page.{Image}
use Rattle.page_layout.specs.Raw.{raw_image}
use Rattle.page_layout.specs.Array.{sector_of}
use Rattle.image_check.specs.declared.scan.SectorFault.{SectorFault}
use Rattle.image_check.specs.declared.scan.SectorFault.TheVariants as scan
use Rattle.image_check.specs.Sector.{IsAmbiguous, SharesSequence}
use Rattle.program_words.specs.declared.numbers.GeometryNumbers.{GeometryNumbers}
use Rattle.commands.specs.declared.sector.PrintFault.{PrintFault}
use Rattle.commands.specs.declared.sector.PrintFault.TheVariants as print
use Rattle.commands.specs.declared.files.FileFault.TheVariants as file
use Rattle.commands.specs.declared.text.CommandFault.{CommandFault}
use Rattle.commands.specs.declared.text.CommandFault.TheVariants as fault
use Rattle.command_words.specs.declared.words.ImageWords.{ImageWords}
use Rattle.program_words.specs.Numbers.{SpellsGeometry, number_of}
use Rattle.commands.specs.Files.{LoadAnswers}

-- the image has the sector, and no two of its pages share its greatest sequence
pub record IsReadable (g : Geometry) (image : Image) (n : ℕ) : Type 0 where
  pub in_range : n < g.sectors
  pub clear : ¬ IsAmbiguous g image n

-- why it is not so
abbrev pub IsUnreadable : Geometry → Image → ℕ → SectorFault → Type 0
IsUnreadable g image n scan.OutOfRange = g.sectors ≤ n
IsUnreadable g image n (scan.SequenceRepeated first second) = (n < g.sectors) × SharesSequence image n first second
IsUnreadable g image n scan.Source = ⊥

-- the line of a sector: two lower case digits a byte, and a line feed
abbrev pub sector_line : Geometry → Image → ℕ → List ℕ
sector_line g image n = encode_lower (sector_of g image n) ++ (10 ∷ [])

-- what a fault of printing says of the image
abbrev pub IsPrintFault : Geometry → Image → ℕ → PrintFault → Type 0
IsPrintFault g image n (print.Sector fault) = IsUnreadable g image n fault
IsPrintFault g image n print.Write = IsReadable g image n
IsPrintFault g image n print.OutOfMemory = IsReadable g image n

-- nothing was written, or a part of the line where it was the writer that failed, and not all of it
abbrev pub IsSectorUnprinted : List ℕ → PrintFault → Option (List ℕ) → Option (List ℕ) → Type 0
IsSectorUnprinted line print.Write before after = AppendsPart before after line
IsSectorUnprinted line (print.Sector fault) before after = Keeps before after
IsSectorUnprinted line print.OutOfMemory before after = Keeps before after

-- ---- the command

-- how a fault of printing is told
abbrev pub TellsUnprinted : PrintFault → CommandFault → Type 0
TellsUnprinted (print.Sector why) (fault.Sector told) = told ≡ why
TellsUnprinted print.Write (fault.Write path) = path.now ≡ codes "-"
TellsUnprinted print.OutOfMemory fault.OutOfMemory = Unit {0}
TellsUnprinted _ _ = ⊥

-- the words are numbers, those of a geometry
pub record AsksForNumber (words : ImageWords) (g : Geometry) (n : ℕ) : Type 0 where
  pub numbers : GeometryNumbers
  pub geometry : SpellsGeometry words.geometry.now numbers
  pub sector : number_of words.number.now ≡ Some n
  pub valid : HasNumbers numbers.data_bytes numbers.spare_bytes numbers.pages numbers.blocks numbers.sectors g

-- and the file holds an image of it; `gives` tells what a load of a path may answer
pub record HasImage (gives : LoadAnswers) (words : ImageWords) (g : Geometry) (n : ℕ) (bytes : List ℕ) : Type 0 where
  pub asked : AsksForNumber words g n
  pub given : gives words.image.now (Ok bytes)
  pub whole : length bytes ≡ row_count g * page_bytes g

-- What the command came to, with the bytes of standard output before and after. Each fault says that nothing before it in
-- the order failed: the numbers by their words, the geometry, the file, its length, and then the sector's own faults.
abbrev pub DoesSector : LoadAnswers → ImageWords → Option (List ℕ) → Option (List ℕ) → Result (Unit {0}) CommandFault → Type 0
DoesSector gives words before after (Ok done) = (g : Geometry) × (n : ℕ) × (bytes : List ℕ) × HasImage gives words g n bytes
    × IsReadable g (raw_image g bytes) n × Appends before after (sector_line g (raw_image g bytes) n)
DoesSector gives words before after (Err (fault.BadNumber word)) = Keeps before after
    × (((word.now ≡ words.geometry.now) × ((numbers : GeometryNumbers) → ¬ SpellsGeometry words.geometry.now numbers))
    ⊎ ((word.now ≡ words.number.now) × ((numbers : GeometryNumbers) × SpellsGeometry words.geometry.now numbers) × (number_of words.number.now ≡ None)))
DoesSector gives words before after (Err (fault.Geometry broken)) = Keeps before after
    × ((numbers : GeometryNumbers) × (n : ℕ) × SpellsGeometry words.geometry.now numbers × (number_of words.number.now ≡ Some n)
    × IsFirstFault numbers.data_bytes numbers.spare_bytes numbers.pages numbers.blocks numbers.sectors broken)
DoesSector gives words before after (Err (fault.Read path)) = Keeps before after × (path.now ≡ words.image.now)
    × gives words.image.now (Err file.Failed) × ((g : Geometry) × (n : ℕ) × AsksForNumber words g n)
DoesSector gives words before after (Err fault.WrongLength) = Keeps before after
    × ((g : Geometry) × (n : ℕ) × (bytes : List ℕ) × AsksForNumber words g n × gives words.image.now (Ok bytes) × (length bytes ≢ row_count g * page_bytes g))
DoesSector gives words before after (Err (fault.Sector refused)) = Keeps before after
    × ((g : Geometry) × (n : ℕ) × (bytes : List ℕ) × HasImage gives words g n bytes × IsUnreadable g (raw_image g bytes) n refused)
DoesSector gives words before after (Err (fault.Write path)) = (path.now ≡ codes "-")
    × ((g : Geometry) × (n : ℕ) × (bytes : List ℕ) × HasImage gives words g n bytes × IsReadable g (raw_image g bytes) n
    × AppendsPart before after (sector_line g (raw_image g bytes) n))
DoesSector gives words before after (Err fault.OutOfMemory) = Keeps before after
    × (((g : Geometry) × (n : ℕ) × AsksForNumber words g n × gives words.image.now (Err file.OutOfMemory))
    ⊎ ((g : Geometry) × (n : ℕ) × (bytes : List ℕ) × HasImage gives words g n bytes × IsReadable g (raw_image g bytes) n))
DoesSector gives words before after (Err _) = ⊥
