-- What a report says, without the memory that it is held in.
use Rattle.std.specs.Prelude.{ℕ, List, map, string_bytes}
use Rattle.lab_report.specs.declared.content.Content.{Content}
use Rattle.lab_report.specs.declared.note.FileNote.{FileNote}
use Rattle.lab_report.specs.declared.note.Noted.{Noted}
use Rattle.lab_report.specs.declared.note.RunReport.{RunReport}

-- a file: its name, how many bytes it has, and their SHA-256
pub record Note : Type 0 where
  pub name : List ℕ
  pub bytes : ℕ
  pub sha256 : List ℕ

-- one of this name and this content
abbrev pub named_as : List ℕ → Content → Note
named_as name content = record { name = name; bytes = content.length; sha256 = content.sha256 }

abbrev pub note_of : FileNote → Note
note_of file = named_as (string_bytes file.name) file.content

abbrev pub noted_of : Noted → Note
noted_of file = named_as file.name.now file.content

-- a run: the program and its version, its words, the files that it read and those that it wrote
pub record Told : Type 0 where
  pub program : List ℕ
  pub version : List ℕ
  pub words : List (List ℕ)
  pub read : List Note
  pub wrote : List Note

abbrev pub told_by_report : RunReport → Told
told_by_report r = record {
  program = string_bytes r.program;
  version = string_bytes r.version;
  words = map string_bytes r.words.items;
  read = map note_of r.read.items;
  wrote = map note_of r.wrote.items;
}
