-- The words of the command line, as `clap` reads them.
use Rattle.std.specs.Prelude.{◌≡◌, ℕ, Bool, true, false, List, [], ◌∷◌, codes, Option, Some, None, option_map, if◌then◌else◌}
use Rattle.std.specs.Str.{bytes_eq}
use Rattle.std.specs.Borrow.{Bor}
use Rattle.program_words.specs.Numbers.{number_of}
use Rattle.clap.specs.Words.{App, Row, Shape, first_of, count_of}
use Rattle.program_words.specs.Grammar.{command_with_words, flag, option, place, program_of}
use Rattle.program_words.specs.Met.{AsksText, NamesCommand, once}
use Rattle.program_words.specs.Met as met
use Rattle.disk_commands.specs.declared.shapes.Code.{Code}
use Rattle.disk_commands.specs.declared.shapes.Code.TheVariants.{Plain, Hamming}
use Rattle.disk_commands.specs.declared.words.CreateWords.{CreateWords}
use Rattle.disk_commands.specs.declared.words.InfoWords.{InfoWords}
use Rattle.disk_commands.specs.declared.words.MakeWords.{MakeWords}
use Rattle.disk_commands.specs.declared.words.MakeWords.TheVariants as made_of
use Rattle.disk_commands.specs.declared.words.DiskServeWords.{DiskServeWords}
use Rattle.disk_commands.specs.declared.words.DiskWords.{DiskWords}
use Rattle.disk_commands.specs.declared.words.DiskWords.TheVariants as asked

-- ---- what `clap` is told

abbrev pub create : Shape
create = command_with_words (codes "create") (option (codes "size") ∷ option (codes "geometry") ∷ option (codes "from") ∷ option (codes "bad") ∷ option (codes "cache") ∷ option (codes "share") ∷ option (codes "code") ∷ place (codes "DISK") ∷ [])

abbrev pub serve : Shape
serve = command_with_words (codes "serve") (flag (codes "read-only") ∷ option (codes "sync") ∷ option (codes "wait") ∷ place (codes "DISK") ∷ [])

abbrev pub info : Shape
info = command_with_words (codes "info") (flag (codes "json") ∷ place (codes "DISK") ∷ [])

abbrev pub check : Shape
check = command_with_words (codes "check") (flag (codes "json") ∷ place (codes "DISK") ∷ [])

-- the commands that the program has
abbrev pub disk_grammar : App
disk_grammar = program_of (codes "nanddisk") (create ∷ serve ∷ info ∷ check ∷ [])

-- ---- what the words ask for

-- whether a file is to be synced always: it is not without a word
abbrev pub always : Option (List ℕ) → Option Bool
always None = Some false
always (Some word) = if bytes_eq word (codes "erases") then Some false else (if bytes_eq word (codes "always") then Some true else None)

-- the seconds to wait, none without a word
abbrev pub seconds : Option (List ℕ) → Option ℕ
seconds None = Some 0
seconds (Some word) = number_of word

-- the code of the pages, which have none without a word
abbrev pub code : Option (List ℕ) → Option Code
code None = Some Plain
code (Some word) = if bytes_eq word (codes "none") then Some Plain else (if bytes_eq word (codes "hamming") then Some Hamming else None)

-- what a disk is made of: a size alone, or a geometry with a dump or without one
abbrev pub make : Option (Bor (List ℕ)) → Option (Bor (List ℕ)) → Option (Bor (List ℕ)) → Option MakeWords
make (Some size) None None = Some (made_of.Size size)
make None (Some geometry) None = Some (made_of.Geometry geometry)
make None (Some geometry) (Some from) = Some (made_of.Dump geometry from)
make None None from = None
make (Some size) (Some geometry) from = None
make (Some size) None (Some from) = None

-- the entries of the words that say what a disk is made of
pub record HasMake (rows : List Row) (size geometry from : Option (List ℕ)) : Type 0 where
  pub size_is : first_of (codes "size") rows ≡ size
  pub geometry_is : first_of (codes "geometry") rows ≡ geometry
  pub from_is : first_of (codes "from") rows ≡ from

abbrev pub IsMakeAt : List Row → MakeWords → Type 0
IsMakeAt rows (made_of.Size size) = HasMake rows (Some size.now) None None
IsMakeAt rows (made_of.Geometry geometry) = HasMake rows None (Some geometry.now) None
IsMakeAt rows (made_of.Dump geometry from) = HasMake rows None (Some geometry.now) (Some from.now)

-- the entries of the words of `create` are these
pub record IsCreateAt (rows : List Row) (read : CreateWords) : Type 0 where
  pub disk_is : first_of (codes "DISK") rows ≡ Some read.disk.now
  pub make_is : IsMakeAt rows read.make
  pub bad_is : first_of (codes "bad") rows ≡ option_map (λ word. word.now) read.bad
  pub cache_is : first_of (codes "cache") rows ≡ option_map (λ word. word.now) read.cache
  pub share_is : first_of (codes "share") rows ≡ option_map (λ word. word.now) read.share
  pub code_is : code (first_of (codes "code") rows) ≡ Some read.code

-- those of the words of `serve` are these
pub record IsServeAt (rows : List Row) (read : DiskServeWords) : Type 0 where
  pub disk_is : first_of (codes "DISK") rows ≡ Some read.disk.now
  pub read_only_is : once (count_of (codes "read-only") rows) ≡ Some read.read_only
  pub sync_is : always (first_of (codes "sync") rows) ≡ Some read.sync_always
  pub wait_is : seconds (first_of (codes "wait") rows) ≡ Some read.wait

-- those of the words of `info` or `check` are these
pub record IsInfoCommandAt (rows : List Row) (read : InfoWords) : Type 0 where
  pub disk_is : first_of (codes "DISK") rows ≡ Some read.disk.now
  pub json_is : once (count_of (codes "json") rows) ≡ Some read.json

-- the command of this name with these entries asks for that
abbrev pub IsDiskCommandAt : List ℕ → List Row → DiskWords → Type 0
IsDiskCommandAt name rows (asked.Create read) = (name ≡ codes "create") × IsCreateAt rows read
IsDiskCommandAt name rows (asked.Serve read) = (name ≡ codes "serve") × IsServeAt rows read
IsDiskCommandAt name rows (asked.Info read) = (name ≡ codes "info") × IsInfoCommandAt rows read
IsDiskCommandAt name rows (asked.Check read) = (name ≡ codes "check") × IsInfoCommandAt rows read
IsDiskCommandAt name rows (asked.Text text) = ⊥

-- Of the words as `clap` reads them: they name a command, with these words, or they ask for help or for the version.
abbrev pub AsksDiskProgram : List (List ℕ) → DiskWords → Type 0
AsksDiskProgram words (asked.Create read) = NamesCommand IsDiskCommandAt disk_grammar words (asked.Create read)
AsksDiskProgram words (asked.Serve read) = NamesCommand IsDiskCommandAt disk_grammar words (asked.Serve read)
AsksDiskProgram words (asked.Info read) = NamesCommand IsDiskCommandAt disk_grammar words (asked.Info read)
AsksDiskProgram words (asked.Check read) = NamesCommand IsDiskCommandAt disk_grammar words (asked.Check read)
AsksDiskProgram words (asked.Text text) = AsksText disk_grammar words

-- `clap` finds another fault in them, or they name no command with its words
abbrev pub IsNoDiskCommand : List (List ℕ) → Type 0
IsNoDiskCommand words = met.IsNoCommand IsDiskCommandAt disk_grammar words
