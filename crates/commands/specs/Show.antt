-- What a page shows of itself, and the command `show`.
use Rattle.std.specs.Prelude.{◌≡◌, ◌≢◌, ◌⊎◌, ◌<◌, ◌≤◌, ◌*◌, ◌==◌, if◌then◌else◌, ℕ, Bool, true, false, List, [], ◌∷◌, ◌++◌, length, codes, slice_get, Option, Some, None}
use Rattle.std.specs.Prelude.{Result, Ok, Err}
use Rattle.std.specs.Io.KnownBytes.{Appends, Keeps}
use Rattle.std.specs.Fmt.{decimal}
use Rattle.page_layout.specs.declared.geometry.Geometry.{Geometry}
use Rattle.page_layout.specs.declared.record.Record.{Record}
use Rattle.page_layout.specs.declared.record.Kind.{Kind}
use Rattle.page_layout.specs.declared.record.Kind.TheVariants as kind
use Rattle.page_layout.specs.Geometry.{row_count, page_bytes}
use Rattle.page_layout.specs.Faults.{IsFirstFault}
use Rattle.page_layout.specs.Page.{Page, Image}
use Rattle.page_layout.specs.Raw.{raw_image}
use Rattle.page_layout.specs.declared.look.PageLook.{PageLook}
use Rattle.page_layout.specs.declared.look.PageLook.TheVariants.{Sound, Erased, Unsound}
use Rattle.page_layout.specs.PageLook.{look_of}
use Rattle.page_layout.specs.Sound.{version_of}
use Rattle.request_stream.specs.Frames.{AppendsPart}
use Rattle.program_words.specs.declared.numbers.GeometryNumbers.{GeometryNumbers}
use Rattle.commands.specs.declared.files.FileFault.TheVariants as file
use Rattle.commands.specs.declared.text.CommandFault.{CommandFault}
use Rattle.commands.specs.declared.text.CommandFault.TheVariants as fault
use Rattle.command_words.specs.declared.words.ImageWords.{ImageWords}
use Rattle.program_words.specs.Numbers.{SpellsGeometry, number_of}
use Rattle.commands.specs.Files.{LoadAnswers}
use Rattle.commands.specs.Sector.{AsksForNumber, HasImage}

-- what a page holds, in one word
abbrev pub kind_word : Kind → List ℕ
kind_word kind.Sector = codes "data"
kind_word kind.Trim = codes "trim"
kind_word kind.Translation = codes "translation"
kind_word kind.Table = codes "table"

-- a version that is not the first is told
abbrev pub version_words : Option ℕ → List ℕ
version_words (Some version) = if version == 2 then codes " version 2" else []
version_words None = []

-- the line of a page, by its version where it is sound
abbrev pub look_line : Option ℕ → PageLook → List ℕ
look_line version (Sound r) =
    kind_word r.kind ++ (codes " " ++ (decimal r.number ++ (codes " sequence " ++ (decimal r.sequence ++ (codes " wear " ++ (decimal r.wear ++ (version_words version ++ (10 ∷ []))))))))
look_line version Erased = codes "erased" ++ (10 ∷ [])
look_line version Unsound = codes "unsound" ++ (10 ∷ [])

abbrev pub shown_page_line : Page → List ℕ
shown_page_line p = look_line (version_of p) (look_of p)

-- the row is one of the die, and the line of its page was written
pub record ShowsRowLine (g : Geometry) (image : Image) (row : ℕ) (before after : Option (List ℕ)) : Type 0 where
  pub page : Page
  pub page_is : slice_get image row ≡ Some page
  pub in_range : row < row_count g
  pub line : Appends before after (shown_page_line page)

-- the same, but that the writer failed: a part of the line was written, and not all of it
pub record ShowsPart (g : Geometry) (image : Image) (row : ℕ) (before after : Option (List ℕ)) : Type 0 where
  pub page : Page
  pub page_is : slice_get image row ≡ Some page
  pub in_range : row < row_count g
  pub part : AppendsPart before after (shown_page_line page)

-- why the row's page was not shown
abbrev pub IsUnshown : Geometry → Image → ℕ → Option (List ℕ) → Option (List ℕ) → CommandFault → Type 0
IsUnshown g image row before after fault.RowRange = (row_count g ≤ row) × Keeps before after
IsUnshown g image row before after (fault.Write path) = (path.now ≡ codes "-") × ShowsPart g image row before after
IsUnshown g image row before after _ = ⊥

-- What the command came to, with the bytes of standard output before and after. Each fault says that nothing before it in
-- the order failed: the numbers by their words, the geometry, the file, its length, and then the row.
abbrev pub DoesShow : LoadAnswers → ImageWords → Option (List ℕ) → Option (List ℕ) → Result (Unit {0}) CommandFault → Type 0
DoesShow gives words before after (Ok done) = (g : Geometry) × (row : ℕ) × (bytes : List ℕ) × HasImage gives words g row bytes
    × ShowsRowLine g (raw_image g bytes) row before after
DoesShow gives words before after (Err (fault.BadNumber word)) = Keeps before after
    × (((word.now ≡ words.geometry.now) × ((numbers : GeometryNumbers) → ¬ SpellsGeometry words.geometry.now numbers))
    ⊎ ((word.now ≡ words.number.now) × ((numbers : GeometryNumbers) × SpellsGeometry words.geometry.now numbers) × (number_of words.number.now ≡ None)))
DoesShow gives words before after (Err (fault.Geometry broken)) = Keeps before after
    × ((numbers : GeometryNumbers) × (row : ℕ) × SpellsGeometry words.geometry.now numbers × (number_of words.number.now ≡ Some row)
    × IsFirstFault numbers.data_bytes numbers.spare_bytes numbers.pages numbers.blocks numbers.sectors broken)
DoesShow gives words before after (Err (fault.Read path)) = Keeps before after × (path.now ≡ words.image.now)
    × gives words.image.now (Err file.Failed) × ((g : Geometry) × (row : ℕ) × AsksForNumber words g row)
DoesShow gives words before after (Err fault.WrongLength) = Keeps before after
    × ((g : Geometry) × (row : ℕ) × (bytes : List ℕ) × AsksForNumber words g row × gives words.image.now (Ok bytes) × (length bytes ≢ row_count g * page_bytes g))
DoesShow gives words before after (Err fault.RowRange) = (g : Geometry) × (row : ℕ) × (bytes : List ℕ) × HasImage gives words g row bytes
    × IsUnshown g (raw_image g bytes) row before after fault.RowRange
DoesShow gives words before after (Err (fault.Write path)) = (g : Geometry) × (row : ℕ) × (bytes : List ℕ) × HasImage gives words g row bytes
    × IsUnshown g (raw_image g bytes) row before after (fault.Write path)
DoesShow gives words before after (Err fault.OutOfMemory) = Keeps before after
    × ((g : Geometry) × (row : ℕ) × AsksForNumber words g row × gives words.image.now (Err file.OutOfMemory))
DoesShow gives words before after (Err _) = ⊥
