-- What the command `format` comes to.
use Rattle.std.specs.Prelude.{◌≡◌, ◌≢◌, ◌⊎◌, ◌*◌, ◌<◌, ◌≤◌, ℕ, List, [], ◌∷◌, ◌++◌, length, codes, Result, Ok, Err}
use Rattle.std.specs.Io.KnownBytes.{Appends, Keeps}
use Rattle.std.specs.Fmt.{decimal}
use Rattle.page_layout.specs.declared.geometry.Geometry.{Geometry}
use Rattle.page_layout.specs.Geometry.{need, row_count, page_bytes}
use Rattle.page_layout.specs.Faults.{HasNumbers, IsFirstFault}
use Rattle.page_layout.specs.Flash.{Flash}
use Rattle.page_layout.specs.Page.{Image}
use Rattle.page_layout.specs.Raw.{raw_image, raw_bytes}
use Rattle.nand_die.specs.declared.fault.DieFault.TheVariants as die
use Rattle.nand_die.specs.Made.{loaded_flash}
use Rattle.mount.specs.declared.format_fault.FormatFault.{FormatFault}
use Rattle.mount.specs.declared.format_fault.FormatFault.TheVariants as refuse
use Rattle.mount.specs.Formatted.{IsFormatted, good_after}
use Rattle.mount.specs.Fresh.{is_used, IsFirstPass}
use Rattle.mount.specs.Log.{failures}
use Rattle.program_words.specs.declared.numbers.GeometryNumbers.{GeometryNumbers}
use Rattle.request_stream.specs.Frames.{AppendsPart}
use Rattle.commands.specs.declared.files.FileFault.TheVariants as file
use Rattle.commands.specs.declared.text.CommandFault.{CommandFault}
use Rattle.commands.specs.declared.text.CommandFault.TheVariants as fault
use Rattle.command_words.specs.declared.words.FileWords.{FileWords}
use Rattle.program_words.specs.Numbers.{SpellsGeometry}
use Rattle.commands.specs.Files.{LoadAnswers, Left, LeavesUntouched, with_store, written_file, unwritten_file}

-- ---- an image in place

-- the die that holds an image, with no bad blocks, formatted, holds this one; no program of it failed
pub record IsFormattedImage (g : Geometry) (before after : List ℕ) (good : ℕ) : Type 0 where
  pub whole : length before ≡ row_count g * page_bytes g
  pub flash : Flash
  pub formatted : IsFormatted g (need g) (loaded_flash g before []) flash good
  pub passed : failures formatted.log ≡ 0
  pub pages : raw_image g after ≡ flash.image
  pub bytes : after ≡ raw_bytes flash.image

-- Why the die that holds an image was not formatted: too few of its blocks are unmarked, or a page is used. It answers each read, and each
-- program passes.
abbrev pub IsFormatRefused : Geometry → Image → FormatFault → Type 0
IsFormatRefused g image (refuse.TooFewGood good asked) = (good ≡ good_after g image []) × (good < need g) × (asked ≡ need g)
IsFormatRefused g image refuse.Bus = ⊥
IsFormatRefused g image refuse.OutOfMemory = Unit {0}
IsFormatRefused g image refuse.WriteFailed = ⊥
IsFormatRefused g image (refuse.NotFresh row) = (need g ≤ good_after g image []) × IsFirstPass (is_used g image) 0 (row_count g) row

-- why an image was not formatted
abbrev pub IsImageUnformatted : Geometry → List ℕ → CommandFault → Type 0
IsImageUnformatted g bytes fault.WrongLength = length bytes ≢ row_count g * page_bytes g
IsImageUnformatted g bytes (fault.Die die.OutOfMemory) = length bytes ≡ row_count g * page_bytes g
IsImageUnformatted g bytes (fault.Format refused) = (length bytes ≡ row_count g * page_bytes g) × IsFormatRefused g (raw_image g bytes) refused
IsImageUnformatted g bytes _ = ⊥

-- ---- the command

-- the word is the numbers of a geometry
pub record IsGeometry (words : FileWords) (g : Geometry) : Type 0 where
  pub numbers : GeometryNumbers
  pub spelled : SpellsGeometry words.geometry.now numbers
  pub valid : HasNumbers numbers.data_bytes numbers.spare_bytes numbers.pages numbers.blocks numbers.sectors g

-- and the file IN holds these bytes; `gives` tells what a load of a path may answer
pub record HasInput (gives : LoadAnswers) (words : FileWords) (g : Geometry) (bytes : List ℕ) : Type 0 where
  pub asked : IsGeometry words g
  pub given : gives words.input.now (Ok bytes)

-- the line
abbrev pub good_line : ℕ → List ℕ
good_line good = codes "good " ++ (decimal good ++ (10 ∷ []))

-- the image of the file IN, formatted
pub record HasFormatted (gives : LoadAnswers) (words : FileWords) (after : List ℕ) (good : ℕ) : Type 0 where
  pub geometry : Geometry
  pub before : List ℕ
  pub input : HasInput gives words geometry before
  pub formatted : IsFormattedImage geometry before after good

-- it could not be stored under OUT, and nothing was printed; or it was stored, and of the line a part was printed, and not all of it
abbrev pub IsFormatUnwritten : FileWords → List ℕ → ℕ → Left → Left → List ℕ → Type 0
IsFormatUnwritten words bytes good before after path =
    ((path ≡ words.output.now) × (after.stores ≡ with_store before.stores (unwritten_file words.output.now bytes)) × Keeps before.out after.out)
    ⊎ ((path ≡ codes "-") × (after.stores ≡ with_store before.stores (written_file words.output.now bytes)) × AppendsPart before.out after.out (good_line good))

-- What the command came to, with the stores and the bytes of standard output before and after. Each fault says that nothing
-- before it in the order failed: the geometry, the file, its length, the die, its format, the store under OUT, and then the line.
abbrev pub DoesFormat : LoadAnswers → FileWords → Left → Left → Result (Unit {0}) CommandFault → Type 0
DoesFormat gives words before after (Ok done) = (bytes : List ℕ) × (good : ℕ) × HasFormatted gives words bytes good
    × (after.stores ≡ with_store before.stores (written_file words.output.now bytes)) × Appends before.out after.out (good_line good)
DoesFormat gives words before after (Err (fault.BadNumber word)) = LeavesUntouched before after
    × (word.now ≡ words.geometry.now) × ((numbers : GeometryNumbers) → ¬ SpellsGeometry words.geometry.now numbers)
DoesFormat gives words before after (Err (fault.Geometry broken)) = LeavesUntouched before after × ((numbers : GeometryNumbers) × SpellsGeometry words.geometry.now numbers
    × IsFirstFault numbers.data_bytes numbers.spare_bytes numbers.pages numbers.blocks numbers.sectors broken)
DoesFormat gives words before after (Err (fault.Read path)) = LeavesUntouched before after × (path.now ≡ words.input.now) × gives words.input.now (Err file.Failed) × ((g : Geometry) × IsGeometry words g)
DoesFormat gives words before after (Err fault.WrongLength) = LeavesUntouched before after
    × ((g : Geometry) × (bytes : List ℕ) × HasInput gives words g bytes × IsImageUnformatted g bytes fault.WrongLength)
DoesFormat gives words before after (Err (fault.Die broken)) = LeavesUntouched before after
    × ((g : Geometry) × (bytes : List ℕ) × HasInput gives words g bytes × IsImageUnformatted g bytes (fault.Die broken))
DoesFormat gives words before after (Err (fault.Format refused)) = LeavesUntouched before after
    × ((g : Geometry) × (bytes : List ℕ) × HasInput gives words g bytes × IsImageUnformatted g bytes (fault.Format refused))
DoesFormat gives words before after (Err (fault.Write path)) = (bytes : List ℕ) × (good : ℕ) × HasFormatted gives words bytes good × IsFormatUnwritten words bytes good before after path.now
DoesFormat gives words before after (Err fault.OutOfMemory) = LeavesUntouched before after
    × (((g : Geometry) × IsGeometry words g × gives words.input.now (Err file.OutOfMemory))
    ⊎ ((bytes : List ℕ) × (good : ℕ) × HasFormatted gives words bytes good))
DoesFormat gives words before after (Err _) = ⊥
