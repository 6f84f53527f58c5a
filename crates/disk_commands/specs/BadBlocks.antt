-- THE BLOCKS THAT A NEW DIE IS TO HAVE BAD.
use Rattle.std.specs.Prelude.{◌≡◌, ◌<◌, ◌*◌, ◌==◌, ℕ, Bool, true, false, List, [], length, Option, Some, None, if◌then◌else◌}
use Rattle.std.specs.List.{list_any}
use Rattle.std.specs.Borrow.{Bor}
use Rattle.page_layout.specs.declared.geometry.Geometry.{Geometry}
use Rattle.page_layout.specs.Geometry.{row_count}
use Rattle.page_layout.specs.Page.{Page}
use Rattle.page_layout.specs.Change.{erased_page}
use Rattle.nand_die.specs.Made.{AreNames, IsFirstMisnamed, with_mark}
use Rattle.file_die.specs.Store.{Held, page_in}
use Rattle.program_words.specs.Numbers.{SpellsNumbers}
use Rattle.disk_commands.specs.declared.words.MakeWords.{MakeWords}
use Rattle.disk_commands.specs.declared.words.MakeWords.TheVariants as make
use Rattle.disk_commands.specs.declared.text.DiskCommandFault.{DiskCommandFault}
use Rattle.disk_commands.specs.declared.text.DiskCommandFault.TheVariants as fault

-- ---- what is asked for

-- whether a die is copied: it has its own bad blocks then
abbrev pub is_copied : MakeWords → Bool
is_copied (make.Size word) = false
is_copied (make.Geometry word) = false
is_copied (make.Dump word from) = true

-- a word names these blocks: numbers with commas between them, each of a block of the die, none twice
pub record NamesBlocks (word : List ℕ) (g : Geometry) (blocks : List ℕ) : Type 0 where
  pub spelled : SpellsNumbers word blocks
  pub named : AreNames g blocks

-- THE BLOCKS THAT ARE ASKED FOR: those of the word `--bad`, none without it
abbrev pub AreBadAsked : (copied : Bool) → Option (Bor (List ℕ)) → Geometry → List ℕ → Type 0
AreBadAsked copied None g blocks = blocks ≡ []
AreBadAsked true (Some word) g blocks = ⊥
AreBadAsked false (Some word) g blocks = NamesBlocks word.now g blocks

-- a word that writes no numbers is told; or the first block that the die has not, or that was named before
abbrev pub NamesNoBlocks : Bor (List ℕ) → Geometry → DiskCommandFault → Type 0
NamesNoBlocks word g (fault.BadNumber told) = (told.now ≡ word.now) × ((blocks : List ℕ) → ¬ SpellsNumbers word.now blocks)
NamesNoBlocks word g (fault.BadBlock block) = (blocks : List ℕ) × SpellsNumbers word.now blocks × IsFirstMisnamed g blocks block
NamesNoBlocks word g fault.OutOfMemory = Unit {0}
NamesNoBlocks word g _ = ⊥

-- why there are none: none are asked of a die that is copied
abbrev pub AreNoneAsked : (copied : Bool) → Option (Bor (List ℕ)) → Geometry → DiskCommandFault → Type 0
AreNoneAsked copied None g told = ⊥
AreNoneAsked true (Some word) g told = told ≡ fault.NoSuchCommand
AreNoneAsked false (Some word) g told = NamesNoBlocks word g told

-- ---- their marks

-- whether a row is the first one of a block of the list
abbrev pub is_first_row : Geometry → List ℕ → ℕ → Bool
is_first_row g blocks row = list_any (λ b. b * g.pages == row) blocks

-- THE MARK OF A BLOCK THAT WAS BAD FROM THE START: its first page is erased but for its first spare byte, which is 00h (ONFI 1.0)
abbrev pub marked_page : Geometry → List ℕ → ℕ → Page
marked_page g blocks row = if is_first_row g blocks row then with_mark (erased_page g) else erased_page g

-- ALL PAGES ARE ERASED, but for the marks of these blocks
pub record HasMarks (g : Geometry) (blocks : List ℕ) (s : Held) : Type 0 where
  pub geometry : s.geometry ≡ g
  pub long : length s.pages ≡ row_count g
  pub pages : (row : ℕ) → row < row_count g → page_in s.pages row ≡ marked_page g blocks row
