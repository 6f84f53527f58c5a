-- The words of the command line, as `clap` reads them.
use Rattle.std.specs.Prelude.{◌≡◌, ◌≤◌, ℕ, List, [], ◌∷◌, length, codes, Some, option_map}
use Rattle.std.specs.Borrow.{Bor}
use Rattle.clap.specs.declared.builder.action.ArgAction.TheVariants.{Append}
use Rattle.clap.specs.Words.{App, Row, Rule, Shape, all_of, first_of, count_of}
use Rattle.program_words.specs.Grammar.{command_with_words, flag, option, place, wanted_word, program_of}
use Rattle.program_words.specs.Met.{AsksText, NamesCommand, stood, texts}
use Rattle.program_words.specs.Met as met
use Rattle.lab_commands.specs.declared.arrange_words.ArrangeWords.{ArrangeWords}
use Rattle.lab_commands.specs.declared.words.ArrayWords.{ArrayWords}
use Rattle.lab_commands.specs.declared.words.CompareWords.{CompareWords}
use Rattle.lab_commands.specs.declared.words.OutWords.{OutWords}
use Rattle.lab_commands.specs.declared.words.GeometryWords.{GeometryWords}
use Rattle.lab_commands.specs.declared.words.HistoryWords.{HistoryWords}
use Rattle.lab_commands.specs.declared.words.MergeWords.{MergeWords}
use Rattle.lab_commands.specs.declared.origin_words.OriginWords.{OriginWords}
use Rattle.lab_commands.specs.declared.words.RepairWords.{RepairWords}
use Rattle.lab_commands.specs.declared.words.Showing.{Showing}
use Rattle.lab_commands.specs.declared.words.SourceWords.{SourceWords}
use Rattle.lab_commands.specs.declared.words.SurveyWords.{SurveyWords}
use Rattle.lab_commands.specs.declared.words.UntilWords.{UntilWords}
use Rattle.lab_commands.specs.declared.words.Asked.{Asked}
use Rattle.lab_commands.specs.declared.words.Asked.TheVariants as asked

-- ---- what `clap` is told

-- the words that all commands have
abbrev pub showing : List Rule
showing = flag (codes "json") ∷ flag (codes "progress") ∷ option (codes "report") ∷ []

abbrev pub geometry : Shape
geometry = command_with_words (codes "geometry") (place (codes "DUMP") ∷ showing)

abbrev pub survey : Shape
survey = command_with_words (codes "survey") (place (codes "GEOM") ∷ place (codes "DUMP") ∷ option (codes "rows") ∷ showing)

abbrev pub array : Shape
array = command_with_words (codes "array") (place (codes "GEOM") ∷ place (codes "DUMP") ∷ place (codes "OUT") ∷ flag (codes "force") ∷ option (codes "map") ∷ option (codes "until") ∷ flag (codes "damaged") ∷ showing)

abbrev pub history : Shape
history = command_with_words (codes "history") (place (codes "GEOM") ∷ place (codes "DUMP") ∷ place (codes "SECTOR") ∷ showing)

abbrev pub compare : Shape
compare = command_with_words (codes "compare") (place (codes "GEOM") ∷ place (codes "CERT") ∷ place (codes "DUMP") ∷ showing)

abbrev pub merge : Shape
merge = command_with_words (codes "merge") (place (codes "GEOM") ∷ place (codes "OUT") ∷ wanted_word Append (codes "DUMP") ∷ flag (codes "force") ∷ showing)

abbrev pub repair : Shape
repair = command_with_words (codes "repair") (place (codes "GEOM") ∷ place (codes "DUMP") ∷ place (codes "OUT") ∷ flag (codes "force") ∷ option (codes "rows") ∷ option (codes "bits") ∷ showing)

abbrev pub correct : Shape
correct = command_with_words (codes "correct") (place (codes "GEOM") ∷ place (codes "DUMP") ∷ place (codes "OUT") ∷ flag (codes "force") ∷ option (codes "map") ∷ showing)

abbrev pub arrange : Shape
arrange = command_with_words (codes "arrange") (place (codes "GEOM") ∷ place (codes "DUMP") ∷ place (codes "OUT") ∷ flag (codes "force") ∷ option (codes "from") ∷ showing)

abbrev pub verify : Shape
verify = command_with_words (codes "verify") (place (codes "REPORT") ∷ flag (codes "json") ∷ flag (codes "progress") ∷ [])

abbrev pub origin : Shape
origin = command_with_words (codes "origin") (place (codes "GEOM") ∷ place (codes "OUT") ∷ place (codes "DUMP") ∷ wanted_word Append (codes "READING") ∷ flag (codes "force") ∷ option (codes "until") ∷ showing)

-- the commands that the program has
abbrev pub lab_grammar : App
lab_grammar = program_of (codes "nandlab") (geometry ∷ survey ∷ array ∷ history ∷ compare ∷ merge ∷ repair ∷ correct ∷ arrange ∷ origin ∷ verify ∷ [])

-- ---- what the words ask for

-- how a command tells what it does is so
pub record IsShowingAt (rows : List Row) (read : Showing) : Type 0 where
  pub json_is : stood (count_of (codes "json") rows) ≡ read.json
  pub progress_is : stood (count_of (codes "progress") rows) ≡ read.progress

-- the entry of the words of `geometry` is this
pub record IsGeometryCommandAt (rows : List Row) (read : GeometryWords) : Type 0 where
  pub dump_is : first_of (codes "DUMP") rows ≡ Some read.dump.now
  pub showing : IsShowingAt rows read.showing

-- the entries of the words that commands on one dump have are these
pub record IsSourceAt (rows : List Row) (read : SourceWords) : Type 0 where
  pub geometry_is : first_of (codes "GEOM") rows ≡ Some read.geometry.now
  pub dump_is : first_of (codes "DUMP") rows ≡ Some read.dump.now
  pub showing : IsShowingAt rows read.showing

-- those of the words that commands have which make a file of a dump
pub record IsOutAt (rows : List Row) (read : OutWords) : Type 0 where
  pub source : IsSourceAt rows (record { geometry = read.geometry; dump = read.dump; showing = read.showing })
  pub out_is : first_of (codes "OUT") rows ≡ Some read.out.now
  pub forced : stood (count_of (codes "force") rows) ≡ read.force

-- the entries of the words of `correct`, which `array` has too, are these
pub record IsArrayAt (rows : List Row) (read : ArrayWords) : Type 0 where
  pub file : IsOutAt rows (record { geometry = read.geometry; dump = read.dump; out = read.out; force = read.force; showing = read.showing })
  pub map_is : first_of (codes "map") rows ≡ option_map (λ word. word.now) read.map

-- those of the words of `array` are these
pub record IsUntilAt (rows : List Row) (read : UntilWords) : Type 0 where
  pub array : IsArrayAt rows read.array
  pub until_is : first_of (codes "until") rows ≡ option_map (λ word. word.now) read.until
  pub damaged_is : stood (count_of (codes "damaged") rows) ≡ read.damaged

-- those of the words of `history` are these
pub record IsHistoryAt (rows : List Row) (read : HistoryWords) : Type 0 where
  pub source : IsSourceAt rows (record { geometry = read.geometry; dump = read.dump; showing = read.showing })
  pub sector_is : first_of (codes "SECTOR") rows ≡ Some read.sector.now

-- those of the words of `survey` are these
pub record IsSurveyAt (rows : List Row) (read : SurveyWords) : Type 0 where
  pub source : IsSourceAt rows (record { geometry = read.geometry; dump = read.dump; showing = read.showing })
  pub rows_are : first_of (codes "rows") rows ≡ option_map (λ word. word.now) read.rows

-- those of the words of `compare` are these
pub record IsCompareAt (rows : List Row) (read : CompareWords) : Type 0 where
  pub source : IsSourceAt rows (record { geometry = read.geometry; dump = read.dump; showing = read.showing })
  pub certificate_is : first_of (codes "CERT") rows ≡ Some read.certificate.now

-- the dumps of the words of `merge` are these, two or more
pub record AreDumpsAt (rows : List Row) (dumps : List (Bor (List ℕ))) : Type 0 where
  pub dumps_are : all_of (codes "DUMP") rows ≡ Some (texts dumps)
  pub enough : 2 ≤ length dumps

-- those of the words of `merge` are these
pub record IsMergeAt (rows : List Row) (read : MergeWords) : Type 0 where
  pub geometry_is : first_of (codes "GEOM") rows ≡ Some read.geometry.now
  pub out_is : first_of (codes "OUT") rows ≡ Some read.out.now
  pub dumps : AreDumpsAt rows read.dumps.items
  pub forced : stood (count_of (codes "force") rows) ≡ read.force
  pub showing : IsShowingAt rows read.showing

-- those of the words of `repair` are these
pub record IsRepairAt (rows : List Row) (read : RepairWords) : Type 0 where
  pub file : IsOutAt rows (record { geometry = read.geometry; dump = read.dump; out = read.out; force = read.force; showing = read.showing })
  pub rows_are : first_of (codes "rows") rows ≡ option_map (λ word. word.now) read.rows
  pub bits_are : first_of (codes "bits") rows ≡ option_map (λ word. word.now) read.bits

-- those of the words of `arrange` are these
pub record IsArrangeAt (rows : List Row) (read : ArrangeWords) : Type 0 where
  pub file : IsOutAt rows (record { geometry = read.geometry; dump = read.dump; out = read.out; force = read.force; showing = read.showing })
  pub from_is : first_of (codes "from") rows ≡ option_map (λ word. word.now) read.from

-- those of the words of `origin` are these
pub record IsOriginAt (rows : List Row) (read : OriginWords) : Type 0 where
  pub source : IsSourceAt rows (record { geometry = read.geometry; dump = read.dump; showing = read.showing })
  pub out_is : first_of (codes "OUT") rows ≡ Some read.out.now
  pub readings_are : all_of (codes "READING") rows ≡ Some (texts read.readings.items)
  pub forced : stood (count_of (codes "force") rows) ≡ read.force
  pub until_is : first_of (codes "until") rows ≡ option_map (λ word. word.now) read.until

-- the command of this name with these entries asks for that
abbrev pub IsLabCommandAt : List ℕ → List Row → Asked → Type 0
IsLabCommandAt name rows (asked.Geometry read) = (name ≡ codes "geometry") × IsGeometryCommandAt rows read
IsLabCommandAt name rows (asked.Array read) = (name ≡ codes "array") × IsUntilAt rows read
IsLabCommandAt name rows (asked.History read) = (name ≡ codes "history") × IsHistoryAt rows read
IsLabCommandAt name rows (asked.Survey read) = (name ≡ codes "survey") × IsSurveyAt rows read
IsLabCommandAt name rows (asked.Compare read) = (name ≡ codes "compare") × IsCompareAt rows read
IsLabCommandAt name rows (asked.Merge read) = (name ≡ codes "merge") × IsMergeAt rows read
IsLabCommandAt name rows (asked.Repair read) = (name ≡ codes "repair") × IsRepairAt rows read
IsLabCommandAt name rows (asked.Correct read) = (name ≡ codes "correct") × IsArrayAt rows read
IsLabCommandAt name rows (asked.Arrange read) = (name ≡ codes "arrange") × IsArrangeAt rows read
IsLabCommandAt name rows (asked.Origin read) = (name ≡ codes "origin") × IsOriginAt rows read
IsLabCommandAt name rows (asked.Text text) = ⊥

-- Of the words as `clap` reads them: they name a command, with these words, or they ask for help or for the version.
abbrev pub AsksLabProgram : List (List ℕ) → Asked → Type 0
AsksLabProgram words (asked.Geometry read) = NamesCommand IsLabCommandAt lab_grammar words (asked.Geometry read)
AsksLabProgram words (asked.Array read) = NamesCommand IsLabCommandAt lab_grammar words (asked.Array read)
AsksLabProgram words (asked.History read) = NamesCommand IsLabCommandAt lab_grammar words (asked.History read)
AsksLabProgram words (asked.Survey read) = NamesCommand IsLabCommandAt lab_grammar words (asked.Survey read)
AsksLabProgram words (asked.Compare read) = NamesCommand IsLabCommandAt lab_grammar words (asked.Compare read)
AsksLabProgram words (asked.Merge read) = NamesCommand IsLabCommandAt lab_grammar words (asked.Merge read)
AsksLabProgram words (asked.Repair read) = NamesCommand IsLabCommandAt lab_grammar words (asked.Repair read)
AsksLabProgram words (asked.Correct read) = NamesCommand IsLabCommandAt lab_grammar words (asked.Correct read)
AsksLabProgram words (asked.Arrange read) = NamesCommand IsLabCommandAt lab_grammar words (asked.Arrange read)
AsksLabProgram words (asked.Origin read) = NamesCommand IsLabCommandAt lab_grammar words (asked.Origin read)
AsksLabProgram words (asked.Text text) = AsksText lab_grammar words

-- `clap` finds another fault in them, or they name no command with its words
abbrev pub IsNoLabCommand : List (List ℕ) → Type 0
IsNoLabCommand words = met.IsNoCommand IsLabCommandAt lab_grammar words
