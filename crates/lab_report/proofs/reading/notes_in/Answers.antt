use Rattle.std.proofs.Common.{◌≡◌, [], ◌∷◌, ◌++◌, Some, Err, map, ap, sym, ◌∙◌}
use Rattle.std.proofs.lemmas.List.{map-append}
use Rattle.lab_report.specs.Note.{note_of}
use Rattle.lab_report.specs.Reading.{note_in}
use Rattle.lab_report.proofs.ReadingLemmas.{fault_came, one_more_value, one_value_none}
use Rattle.lab_report.proofs.reading.notes_in.Goals as goal

pub returns-in_err-note-clause-none : goal.returns-in_err-note-clause-none
returns-in_err-note-clause-none c = λ is.
    one_value_none note_in c.args.values.now c.loop-value.value-index c.value-item.result c.loop-value-test.true c.value-item.is (c.in_err-note.ensures.none (ap Err (fault_came _ _ _ c.from_residual.ensures.1 is)))

pub loop-value-preserved : goal.loop-value-preserved
loop-value-preserved c =
    let said = map note_of c.loop-value.notes.items in
    let grown : c.push.new.self.items ≡ c.loop-value.notes.items ++ c.in_ok-note.note ∷ [] = c.in-Ok.ensures.items in
    one_more_value note_in c.args.values.now c.loop-value.value-index c.value-item.result said (note_of c.in_ok-note.note) c.loop-value-test.true c.value-item.is c.loop-value.invariant c.in_ok-note.ensures.ok
    ∙ ap Some (sym (ap (map note_of) grown ∙ map-append (note_of) c.loop-value.notes.items (c.in_ok-note.note ∷ [])))
