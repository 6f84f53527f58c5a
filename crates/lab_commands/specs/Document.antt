-- A document of lines. As plain text: each line and a line feed. As JSON: one array, whose first element names the program and the command, and
-- whose others are the lines, each on a line of its own.
use Rattle.std.specs.Prelude.{◌≡◌, ℕ, zero, suc, Bool, true, List, [], ◌∷◌, ◌++◌, codes, Option, Some, None, Result, Ok, Err}
use Rattle.std.specs.Io.KnownBytes.{Appends}
use Rattle.serde_json.specs.Written.{compact_text}
use Rattle.request_stream.specs.Frames.{AppendsPart}
use Rattle.lab_commands.specs.declared.lines.Line.{Line}
use Rattle.lab_commands.specs.declared.document.ReportForm.{ReportForm}
use Rattle.lab_commands.specs.declared.document.ReportForm.TheVariants.{Text, Json}
use Rattle.lab_commands.specs.declared.document.Report.{Report}
use Rattle.lab_commands.specs.declared.document.Report.TheVariants as report
use Rattle.lab_commands.specs.declared.output.OutputFault.{OutputFault}
use Rattle.lab_commands.specs.Lines.{line_words}
use Rattle.lab_commands.specs.Values.{head_data, line_data}

-- a line in this form, of a document that has begun
unfoldable pub line_text : ReportForm → Line → List ℕ
line_text Text line = line_words line ++ (10 ∷ [])
line_text Json line = codes ",\n" ++ compact_text (line_data line)

-- the name of the command that a document is of
abbrev pub report_words : Report → List ℕ
report_words report.Geometry = codes "geometry"
report_words report.Survey = codes "survey"
report_words report.Array = codes "array"
report_words report.History = codes "history"
report_words report.Compare = codes "compare"
report_words report.Merge = codes "merge"
report_words report.Repair = codes "repair"
report_words report.Correct = codes "correct"
report_words report.Arrange = codes "arrange"
report_words report.Origin = codes "origin"

-- what a document of this command begins with
unfoldable pub head_text : ReportForm → List ℕ → List ℕ
head_text Text command = []
head_text Json command = codes "[" ++ compact_text (head_data command)

-- and what it ends with
abbrev pub tail_text : ReportForm → List ℕ
tail_text Text = []
tail_text Json = codes "\n]\n"

-- a line, if there is one
abbrev pub if_text : ReportForm → Option Line → List ℕ
if_text form None = []
if_text form (Some line) = line_text form line

-- the lines of the numbers below this one, in order
unfoldable pub text_below : ReportForm → (ℕ → Option Line) → ℕ → List ℕ
text_below form f zero = []
text_below form f (suc n) = text_below form f n ++ if_text form (f n)

-- Why it was not: a write failed, and a part of it was printed and never all.
abbrev pub StopsPrinting : OutputFault → (broke : Bool) → Option (List ℕ) → Option (List ℕ) → List ℕ → Type 0
StopsPrinting fault broke before after due = (broke ≡ true) × AppendsPart before after due

-- What was due was printed; or it was not, for that reason. It takes no memory.
abbrev pub Prints : {T : Type 0} → (broke : Bool) → Option (List ℕ) → Option (List ℕ) → List ℕ → Result T OutputFault → Type 0
Prints broke before after due (Ok done) = Appends before after due
Prints broke before after due (Err fault) = StopsPrinting fault broke before after due
