-- What a run tells in its report.
use Rattle.std.specs.Prelude.{map}
use Rattle.lab_report.specs.declared.json_text.Run.{Run}
use Rattle.lab_report.specs.Note.{Told, noted_of}

abbrev pub told_of : Run → Told
told_of run = record {
  program = run.program.now;
  version = run.version.now;
  words = map (λ word. word.now) run.words.now;
  read = map noted_of run.read.now;
  wrote = map noted_of run.wrote.now;
}
