-- What the words ask for that is of this crate, as `clap` reads them.
use Rattle.std.specs.Prelude.{◌≡◌, ◌≢◌, ◌⊎◌, ◌++◌, ℕ, List, [], codes, Some, None, unwrap_or}
use Rattle.std.specs.Option.{option_to_list}
use Rattle.clap.specs.Words.{Row, all_of, count_of, first_of}
use Rattle.program_words.specs.Met.{AsksText, IsUnmet, NamesCommand, stood, texts}
use Rattle.lab_commands.specs.Words.{lab_grammar}
use Rattle.lab_custody.specs.declared.words.Custody.{Custody}
use Rattle.lab_custody.specs.declared.words.Custody.TheVariants as custody
use Rattle.lab_custody.specs.declared.words.ReportedWords.{ReportedWords}
use Rattle.lab_custody.specs.declared.words.VerifyWords.{VerifyWords}

-- the entries of the words of `verify` are these
pub record IsVerifyAt (rows : List Row) (read : VerifyWords) : Type 0 where
  pub report_is : first_of (codes "REPORT") rows ≡ Some read.report.now
  pub json_is : stood (count_of (codes "json") rows) ≡ read.json
  pub progress_is : stood (count_of (codes "progress") rows) ≡ read.progress

-- the files that a command reads: a certificate, if there is one, its dumps, and the readings of these, if there are some
abbrev pub read_of : List Row → List (List ℕ)
read_of rows = (option_to_list (first_of (codes "CERT") rows) ++ unwrap_or (all_of (codes "DUMP") rows) []) ++ unwrap_or (all_of (codes "READING") rows) []

-- and those that it writes: what it makes of them, and a map, if there are such
abbrev pub written_paths : List Row → List (List ℕ)
written_paths rows = option_to_list (first_of (codes "OUT") rows) ++ option_to_list (first_of (codes "map") rows)

-- the entries of the words of another command name a report, and these are its files
pub record IsReportedAt (rows : List Row) (read : ReportedWords) : Type 0 where
  pub file_is : first_of (codes "report") rows ≡ Some read.file.now
  pub read_is : texts read.read.items ≡ read_of rows
  pub wrote_is : texts read.wrote.items ≡ written_paths rows

-- with these words `verify` asks for that
abbrev pub IsVerifyOr : List Row → Custody → Type 0
IsVerifyOr rows (custody.Verify read) = IsVerifyAt rows read
IsVerifyOr rows (custody.Reported read) = ⊥
IsVerifyOr rows custody.Plain = first_of (codes "REPORT") rows ≡ None

-- and a command of this name that
abbrev pub IsCustodyAt : List ℕ → List Row → Custody → Type 0
IsCustodyAt name rows (custody.Verify read) = (name ≡ codes "verify") × IsVerifyAt rows read
IsCustodyAt name rows (custody.Reported read) = (name ≢ codes "verify") × IsReportedAt rows read
IsCustodyAt name rows custody.Plain = ((name ≡ codes "verify") × (first_of (codes "REPORT") rows ≡ None)) ⊎ ((name ≢ codes "verify") × (first_of (codes "report") rows ≡ None))

-- the words name a command that asks for that; or they name none, or ask for help or for the version, and for nothing of this crate
abbrev pub IsCustody : List (List ℕ) → Custody → Type 0
IsCustody words found = NamesCommand IsCustodyAt lab_grammar words found ⊎ ((found ≡ custody.Plain) × (IsUnmet lab_grammar words ⊎ AsksText lab_grammar words))
