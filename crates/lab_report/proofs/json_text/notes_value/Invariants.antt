use Rattle.std.proofs.Common.{◌≡◌, map, take}
use Rattle.serde_json.specs.View.{view}
use Rattle.lab_report.specs.Note.{noted_of}
use Rattle.lab_report.specs.Written.{note_data}
use Rattle.lab_report.proofs.json_text.notes_value.Given as goal

abbrev pub invariant-loop-note : goal.invariant-loop-note
invariant-loop-note l = map view l.values.items ≡ map note_data (map noted_of (take l.note-index l.notes))
