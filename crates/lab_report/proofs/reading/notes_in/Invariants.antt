use Rattle.std.proofs.Common.{◌≡◌, map, take, Some}
use Rattle.serde_json.specs.View.{items_view}
use Rattle.lab_report.specs.Note.{note_of}
use Rattle.lab_report.specs.Reading.{all_in, note_in}
use Rattle.lab_report.proofs.reading.notes_in.Given as goal

abbrev pub invariant-loop-value : goal.invariant-loop-value
invariant-loop-value l = all_in note_in (items_view (take l.value-index l.values)) ≡ Some (map note_of l.notes.items)
